use Rattle.spend_laws.proofs.Accepted.{accepted_exactly}
use Rattle.spend_laws.proofs.laws.accepted_by_one_true_element.Goals as goal

pub returns : goal.returns
returns c = accepted_exactly
