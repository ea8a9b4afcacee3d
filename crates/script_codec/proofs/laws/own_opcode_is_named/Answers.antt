use Rattle.script_codec.proofs.Round.{own_meaning}
use Rattle.script_codec.proofs.Table.{own_named}
use Rattle.script_codec.proofs.laws.own_opcode_is_named.Goals as goal

pub returns : goal.returns
returns c = λ e opcode is. (own_named e opcode is, own_meaning e opcode is)
