use Rattle.workload.proofs.Tries.{verdicts_more}
use Rattle.workload.proofs.trying.+add_contracts.Goals as goal

pub returns-clause-added : goal.returns-clause-added
returns-clause-added t c = verdicts_more c.args.count c.args.from _ _ _ _ _ _ c.if-count-eq0.false c.in_ok-add_contract.ensures.added c.in_ok-add_contracts.ensures.added
