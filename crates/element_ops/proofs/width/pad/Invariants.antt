use Rattle.std.proofs.Common.{◌≡◌, ◌-◌, ◌++◌, length, replicate}
use Rattle.element_ops.proofs.width.pad.Given as goal

-- the digits and the zeros so far
abbrev pub invariant-loop : goal.invariant-loop
invariant-loop l = (l.digits.items ≡ l.fn.digits.items ++ replicate (l.counter - length l.fn.digits.items) 0) × (length l.digits.items ≡ l.counter)
