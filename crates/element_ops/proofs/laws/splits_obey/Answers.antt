use Rattle.element_ops.proofs.Obeying.{split_obeys}
use Rattle.element_ops.proofs.laws.splits_obey.Goals as goal

pub returns : goal.returns
returns c = split_obeys
