use Rattle.spend_debug.proofs.ReadElements.{elements_read}
use Rattle.spend_debug.proofs.spend_lines.read_elements_are_few.Goals as goal

pub returns : goal.returns
returns c = elements_read
