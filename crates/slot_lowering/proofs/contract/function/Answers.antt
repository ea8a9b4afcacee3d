use Rattle.std.proofs.Common.{refl}
use Rattle.slot_lowering.proofs.Functions.{is_made}
use Rattle.slot_lowering.proofs.contract.function.Goals as goal

pub returns : goal.returns
returns c = is_made c.requires c.new-body.ensures c.as_slice.ensures c.in_ok-all.ensures c.len-2.ensures c.len.ensures refl
