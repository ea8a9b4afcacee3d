use Rattle.cash_compile.proofs.Small.{never_refused}
use Rattle.cash_compile.proofs.laws.small_contracts_fit.Goals as goal

pub returns : goal.returns
returns c = never_refused c.one_contract.ensures c.one_way.ensures.never_both
