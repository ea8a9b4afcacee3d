use Rattle.cash_compile.proofs.Runnable.{can_run}
use Rattle.cash_compile.proofs.laws.accepted_contracts_run.Goals as goal

pub returns : goal.returns
returns c = can_run c.contracts_have_room.ensures c.trees_hold.ensures.small
