use Rattle.slot_expressions.specs.Pieces.{LeftAll, LeftChunks}
use Rattle.slot_expressions.proofs.expressions.+expression.Given as goal

-- what is left, from here on, makes the whole
abbrev pub invariant-all-loop-part : goal.invariant-all-loop-part
invariant-all-loop-part l = LeftAll l.initial.code l.code l.checking l.parts l.part-index

abbrev pub invariant-chunks-loop-part : goal.invariant-chunks-loop-part
invariant-chunks-loop-part l = LeftChunks l.initial.code l.code l.checking l.span l.parts l.part-index
