use Rattle.element_ops.proofs.Obeying.{obeys3}
use Rattle.element_ops.proofs.laws.operations_on_three_obey.Goals as goal

pub returns : goal.returns
returns c = obeys3
