use Rattle.branch_layout.proofs.Drops.{KeepsSoFar}
use Rattle.branch_layout.proofs.moves.keep_only.Given as goal

abbrev pub invariant-loop-slot : goal.invariant-loop-slot
invariant-loop-slot l = KeepsSoFar l.keep l.layout l.kept.slots.items l.kept.moves.items l.slot-index
