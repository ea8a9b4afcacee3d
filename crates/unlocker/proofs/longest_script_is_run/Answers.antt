use Rattle.unlocker.proofs.Limits.{longer_refused, other_run}
use Rattle.unlocker.proofs.longest_script_is_run.Goals as goal

pub returns-clause-longer : goal.returns-clause-longer
returns-clause-longer c = longer_refused

pub returns-clause-other : goal.returns-clause-other
returns-clause-other c = other_run
