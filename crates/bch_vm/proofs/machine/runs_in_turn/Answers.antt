use Rattle.bch_vm.proofs.Runs.{run_append, executed_append}
use Rattle.bch_vm.proofs.machine.runs_in_turn.Goals as goal

pub returns-clause-states : goal.returns-clause-states
returns-clause-states c = run_append

pub returns-clause-executed : goal.returns-clause-executed
returns-clause-executed c = executed_append
