use Rattle.script_codec.proofs.Round.{code_read}
use Rattle.script_codec.proofs.laws.reading_after_encoded.Goals as goal

pub returns : goal.returns
returns c = code_read
