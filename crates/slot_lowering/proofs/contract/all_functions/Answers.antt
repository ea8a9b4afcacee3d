use Rattle.slot_lowering.proofs.Functions.{left_done}
use Rattle.slot_lowering.proofs.contract.all_functions.Goals as goal

pub returns : goal.returns
returns c = left_done c.as_slice-f-items.ensures c.loop-f.invariant c.loop-f-test.false
