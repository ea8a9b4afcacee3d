use Rattle.std.proofs.Common.{◌≤◌, length, ap, ◌∙◌, arith}
use Rattle.selector.proofs.Built.{chosen_marks}
use Rattle.selector.proofs.choosing.Chooser.+choose.Goals as goal

pub returns-clause-marks : goal.returns-clause-marks
returns-clause-marks t c =
    let some : 1 ≤ length c.in-Some.others.now = grind arith in
    chosen_marks c.args.self.now.contract _ _ c.args.n c.in-Some.function.now c.in-Some.others.now c.args.functions.now _ _ _ _ _ _ _ _ _ _ some
    c.in-Some.ensures.cases.0
    (c.put_function-2.ensures.contract ∙ c.open.ensures.contract)
    (c.put.ensures.contract ∙ c.put_function-2.ensures.contract ∙ c.open.ensures.contract)
    c.in_ok-open.ensures.code c.in_ok-put_function-2.ensures.code c.in_ok-put.ensures.code
    (ap (λ v. v.items) c.open.ensures.marks) c.in_ok-put_function-2.ensures.marks (ap (λ v. v.items) c.put.ensures.marks)
    c.in_ok-choose.ensures.marks (ap (λ v. v.items) c.put-2.ensures.marks)
