use Rattle.run_laws.proofs.Nesting.{changes_nothing}
use Rattle.run_laws.proofs.Unexecuted.{executes_nothing}
use Rattle.run_laws.proofs.conditions.nested_code_unexecuted.Goals as goal

pub returns : goal.returns
returns c = record { changes = changes_nothing; executes = executes_nothing }
