use Rattle.script_codec.proofs.Table.{opcode_back, name_back, name_unbroken}
use Rattle.script_codec.proofs.laws.one_opcode_a_name.Goals as goal

pub returns : goal.returns
returns c = record { opcode = opcode_back; name = name_back; unbroken = name_unbroken }
