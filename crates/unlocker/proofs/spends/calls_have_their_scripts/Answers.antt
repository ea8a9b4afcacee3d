use Rattle.unlocker.proofs.Spent.{scripts_of_call}
use Rattle.unlocker.proofs.spends.calls_have_their_scripts.Goals as goal

pub returns : goal.returns
returns c = scripts_of_call
