use Rattle.std.proofs.Common.{sym, subst, length, ◌≡◌, ◌∙◌}
use Rattle.source_meaning.specs.Runnable.{CanRun}
use Rattle.lowering_cases.proofs.lowered.runnable.Goals as goal

pub returns : goal.returns
returns c =
    let contract = c.in_ok-contract.contract in
    let function = c.in-Some.function.now in
    let ctor : length contract.params ≡ c.args.ctor = sym c.len.ensures ∙ c.if-len-ctor.true in
    let args : length function.params ≡ c.args.args = sym c.len-then-len-ctor.ensures ∙ c.if-len-args.true in
    subst (λ n. CanRun contract n c.args.place c.args.args) ctor
    (subst (λ n. CanRun contract (length contract.params) c.args.place n) args
    (c.in_ok-contract.ensures.room c.args.place function (sym c.in-Some.ensures.value)))
