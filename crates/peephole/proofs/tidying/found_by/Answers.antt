use Rattle.std.proofs.Common.{◌-◌, length, refl, ap, rules}
use Rattle.peephole.proofs.Ends.{too_short, not_there, replaces}
use Rattle.peephole.proofs.tidying.found_by.Goals as goal
use Rattle.peephole.proofs.tidying.found_by.Goals.{else-last-via-then-last+else-is_none, else-last-via-else-last}

pub returns-then-code-WIDTH-clause-none : goal.returns-then-code-WIDTH-clause-none
returns-then-code-WIDTH-clause-none g c = λ _. too_short _ _ _ _ _ (g.met.R.Rewrite.law c.args.rule.now) (search rules)

pub returns-in_err-replacement-clause-none : goal.returns-in_err-replacement-clause-none
returns-in_err-replacement-clause-none g c = λ _.
    not_there _ _ _ _ _ (length c.args.code.now - c.WIDTH-2.result) (g.met.R.Rewrite.law c.args.rule.now) (search rules) (ap (λ n. length c.args.code.now - n) c.WIDTH-2.ensures) (c.in_err-replacement.ensures.none refl)

pub returns-clause-found : goal.returns-clause-found
returns-clause-found g c =
    replaces _ _ _ _ _ _ (length c.args.code.now - c.WIDTH-2.result) (g.met.R.Rewrite.law c.args.rule.now) (search rules) (ap (λ n. length c.args.code.now - n) c.WIDTH-2.ensures) c.in_ok-replacement.ensures.found (λ e.
    elim c.else-last.branch [ else-last-via-then-last+else-is_none w ↦ search rules | else-last-via-else-last w ↦ w.if-last.false ])
