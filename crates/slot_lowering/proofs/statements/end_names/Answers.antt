use Rattle.slot_lowering.proofs.Ends.{left_ends_more}
use Rattle.slot_lowering.proofs.statements.end_names.Goals as goal

pub loop-s-preserved : goal.loop-s-preserved
loop-s-preserved c = left_ends_more _ _ _ _ _ _ _ c.loop-s.invariant c.loop-s-test.true c.s-item.is c.in_ok-end_names_of.ensures
