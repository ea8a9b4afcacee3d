use Rattle.std.proofs.Common.{◌≡◌, length}
use Rattle.slot_code.specs.Shape.{has_span}
use Rattle.stack_steps.specs.Lower.{statements_of}
use Rattle.stack_steps.proofs.low.is_marked.Given as goal

-- what is left has the statement just where the whole has it
abbrev pub invariant-rest : goal.invariant-rest
invariant-rest l = has_span l.span (statements_of l.rest) ≡ has_span l.span (statements_of l.marks)

abbrev pub decreases-rest : goal.decreases-rest
decreases-rest l = length l.rest
