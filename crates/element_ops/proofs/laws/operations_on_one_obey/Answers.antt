use Rattle.element_ops.proofs.Obeying.{obeys1}
use Rattle.element_ops.proofs.laws.operations_on_one_obey.Goals as goal

pub returns : goal.returns
returns c = obeys1
