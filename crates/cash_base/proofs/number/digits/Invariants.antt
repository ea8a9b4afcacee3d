use Rattle.std.proofs.Common.{◌≡◌, ◌-◌, ◌++◌}
use Rattle.arrayvec.specs.ArrayVec.{array_vec_len}
use Rattle.cash_base.specs.Number
use Rattle.cash_base.proofs.number.digits.Given as goal

-- what is left gives the digits after those so far
abbrev pub invariant-loop : goal.invariant-loop
invariant-loop l = (l.digits.items ++ Number.digits (8 - l.counter) l.left ≡ Number.digits 8 l.n) × (array_vec_len l.digits ≡ l.counter)
