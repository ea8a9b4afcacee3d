use Rattle.std.proofs.Common.{◌≡◌, drop}
use Rattle.tx_context.specs.Verdict.{answer_in}
use Rattle.tx_context.proofs.signature.answer_of.Given as goal

-- what is left says what all say
abbrev pub invariant-loop-row : goal.invariant-loop-row
invariant-loop-row l =
    answer_in l.kind l.sig l.key l.message (drop l.row-index l.rows) ≡ answer_in l.kind l.sig l.key l.message l.rows
