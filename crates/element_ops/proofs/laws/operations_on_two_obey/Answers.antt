use Rattle.element_ops.proofs.Obeying.{obeys2}
use Rattle.element_ops.proofs.laws.operations_on_two_obey.Goals as goal

pub returns : goal.returns
returns c = obeys2
