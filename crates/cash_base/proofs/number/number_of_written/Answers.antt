use Rattle.cash_base.proofs.Laws.{number_of-minimal_bytes}
use Rattle.cash_base.proofs.number.number_of_written.Goals as goal

pub returns : goal.returns
returns c = number_of-minimal_bytes
