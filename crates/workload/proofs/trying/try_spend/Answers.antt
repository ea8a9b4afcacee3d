use Rattle.workload.proofs.Tries.{tried_alike}
use Rattle.workload.proofs.trying.try_spend.Goals as goal

pub returns-clause-alike : goal.returns-clause-alike
returns-clause-alike c = tried_alike c.args.compiled.now.contract c.args.compiled.now.program c.args.bytes.now _ _ _ _ _ _
    (c.byte_of-by_machine.ensures.zero, c.byte_of-by_machine.ensures.three) (c.byte_of-by_source.ensures.zero, c.byte_of-by_source.ensures.three)
    c.in_ok-judged.ensures.decided c.in_ok-run.ensures.shown
