use Rattle.std.proofs.Common.{rules}
use Rattle.workload.proofs.Tries.{spend_cause_of}
use Rattle.workload.proofs.trying.try_generated.Goals as goal

pub returns-clause-stopped : goal.returns-clause-stopped
returns-clause-stopped c = spend_cause_of c.args.generated.now _ _ _ _ c.in-Err.stop
    (search rules) (search rules) c.in_ok-compiled.ensures.built c.in-Err.ensures.stopped
