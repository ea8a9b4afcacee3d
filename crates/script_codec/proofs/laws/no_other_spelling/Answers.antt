use Rattle.script_codec.proofs.Only.{only_spelling}
use Rattle.script_codec.proofs.laws.no_other_spelling.Goals as goal

pub returns : goal.returns
returns c = only_spelling
