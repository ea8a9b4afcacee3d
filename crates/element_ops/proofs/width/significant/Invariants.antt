use Rattle.std.proofs.Common.{◌≡◌, ◌≤◌, length}
use Rattle.element_ops.specs.Width.{trimmed}
use Rattle.element_ops.proofs.width.significant.Given as goal

-- what is left is trimmed to what the whole is
abbrev pub invariant-rest : goal.invariant-rest
invariant-rest l = (trimmed l.rest ≡ trimmed l.digits) × (length l.rest ≤ length l.digits)

abbrev pub decreases-rest : goal.decreases-rest
decreases-rest l = length l.rest
