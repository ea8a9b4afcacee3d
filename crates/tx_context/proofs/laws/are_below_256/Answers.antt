use Rattle.tx_context.proofs.Bytes.{are_bytes_of}
use Rattle.tx_context.proofs.laws.are_below_256.Goals as goal

pub returns : goal.returns
returns c = are_bytes_of c.args.bytes.now c.type_inv.bytes
