use Rattle.type_soundness.proofs.Plain.{contracts_stay_plain}
use Rattle.type_soundness.proofs.laws.contracts_stay_plain.Goals as goal

pub returns : goal.returns
returns c = contracts_stay_plain
