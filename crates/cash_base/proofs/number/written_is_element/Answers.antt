use Rattle.cash_base.proofs.Widths.{minimal_bytes-IsElement}
use Rattle.cash_base.proofs.number.written_is_element.Goals as goal

pub returns : goal.returns
returns c = minimal_bytes-IsElement
