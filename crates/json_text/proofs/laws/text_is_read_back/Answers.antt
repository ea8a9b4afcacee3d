use Rattle.json_text.proofs.Plain.{text_read}
use Rattle.json_text.proofs.laws.text_is_read_back.Goals as goal

pub returns : goal.returns
returns c = text_read
