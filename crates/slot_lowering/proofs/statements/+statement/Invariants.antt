use Rattle.slot_lowering.specs.Statements.{LeftBody}
use Rattle.slot_lowering.proofs.statements.+statement.Given as goal

-- what is left, from here on, makes the whole
abbrev pub invariant-all-loop-at : goal.invariant-all-loop-at
invariant-all-loop-at l = LeftBody l.ends_path l.initial.code l.code l.body l.at
