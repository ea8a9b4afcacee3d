use Rattle.lowering_laws.proofs.Whole.{contracts_are_lowered}
use Rattle.lowering_laws.proofs.laws.contracts_are_lowered.Goals as goal

pub returns : goal.returns
returns c = contracts_are_lowered
