use Rattle.script_codec.proofs.Round.{code_minimal}
use Rattle.script_codec.proofs.laws.encoded_is_minimal.Goals as goal

pub returns : goal.returns
returns c = code_minimal
