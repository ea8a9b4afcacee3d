use Rattle.slot_lowering.specs.Statements.{LeftEnds}
use Rattle.slot_lowering.proofs.statements.end_names.Given as goal

-- what is left, from here on, makes the whole
abbrev pub invariant-loop-s : goal.invariant-loop-s
invariant-loop-s l = LeftEnds l.initial.code l.code l.body l.checking l.s-index
