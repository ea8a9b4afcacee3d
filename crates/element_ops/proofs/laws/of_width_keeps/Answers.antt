use Rattle.element_ops.proofs.Widths.{of_width-HasWidth}
use Rattle.element_ops.proofs.laws.of_width_keeps.Goals as goal

pub returns : goal.returns
returns c = of_width-HasWidth
