use Rattle.script_codec.proofs.Round.{instr_meaning, instr_minimal, instr_size}
use Rattle.script_codec.proofs.laws.meaning_of_spelled.Goals as goal

pub returns : goal.returns
returns c = λ instr is. (instr_meaning instr is, instr_minimal instr is, instr_size instr is)
