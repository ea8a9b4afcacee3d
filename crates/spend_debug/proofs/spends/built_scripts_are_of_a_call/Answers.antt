use Rattle.spend_debug.proofs.Built.{of_call}
use Rattle.spend_debug.proofs.spends.built_scripts_are_of_a_call.Goals as goal

pub returns : goal.returns
returns c = of_call
