use Rattle.cash_base.proofs.Laws.{minimal_bytes-number_of}
use Rattle.cash_base.proofs.number.written_of_number.Goals as goal

pub returns : goal.returns
returns c = minimal_bytes-number_of
