use Rattle.std.proofs.Common.{◌≡◌, drop}
use Rattle.cash_base.specs.Number.{truth_of}
use Rattle.cash_base.proofs.number.truth.Given as goal

-- what is left is true exactly where the whole is
abbrev pub invariant-loop-i : goal.invariant-loop-i
invariant-loop-i l = truth_of (drop l.i l.e) ≡ truth_of l.e
