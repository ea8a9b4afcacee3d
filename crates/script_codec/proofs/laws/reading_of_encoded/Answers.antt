use Rattle.script_codec.proofs.Round.{code_again}
use Rattle.script_codec.proofs.laws.reading_of_encoded.Goals as goal

pub returns : goal.returns
returns c = code_again
