use Rattle.asm_text.proofs.Again.{text_read}
use Rattle.asm_text.proofs.laws.text_is_read_back.Goals as goal

pub returns : goal.returns
returns c = text_read
