use Rattle.slot_lowering.proofs.Placed.{placed_define}
use Rattle.slot_lowering.proofs.statements.on_define.Goals as goal

pub returns : goal.returns
returns c = placed_define c.requires.kind c.in_ok-element.ensures c.in_ok-define.ensures
