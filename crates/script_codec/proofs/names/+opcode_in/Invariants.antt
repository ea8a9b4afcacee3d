use Rattle.std.proofs.Common.{length}
use Rattle.script_codec.proofs.names.+opcode_in.Given as goal

abbrev pub decreases-opcode_in : goal.decreases-opcode_in
decreases-opcode_in l = length l.rows.now
