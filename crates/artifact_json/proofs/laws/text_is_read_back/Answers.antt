use Rattle.artifact_json.proofs.WholeLaw.{program_read}
use Rattle.artifact_json.proofs.laws.text_is_read_back.Goals as goal

pub returns : goal.returns
returns c = program_read
