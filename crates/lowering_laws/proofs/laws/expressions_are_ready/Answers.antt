use Rattle.lowering_laws.proofs.Readied.{expressions_are_ready}
use Rattle.lowering_laws.proofs.laws.expressions_are_ready.Goals as goal

pub returns : goal.returns
returns c = expressions_are_ready
