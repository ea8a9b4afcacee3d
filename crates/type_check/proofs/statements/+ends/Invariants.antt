use Rattle.std.proofs.Common.{◌≡◌, false, map, drop}
use Rattle.type_check.specs.Ends.{last_of, may_end}
use Rattle.type_check.proofs.statements.+ends.Given as goal

abbrev pub invariant-ends_rightly-loop-s : goal.invariant-ends_rightly-loop-s
invariant-ends_rightly-loop-s l = last_of l.ends (map may_end (drop l.s-index l.body))
    ≡ last_of false (map may_end l.body)
