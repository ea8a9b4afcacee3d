use Rattle.spend_debug.proofs.Placed.{told_failure}
use Rattle.spend_debug.proofs.spends.told_as_a_failure.Goals as goal

pub returns : goal.returns
returns c = told_failure
