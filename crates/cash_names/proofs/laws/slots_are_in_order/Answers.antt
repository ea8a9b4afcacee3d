use Rattle.cash_names.proofs.Numbered.{in_order}
use Rattle.cash_names.proofs.Used.{slots_defined}
use Rattle.cash_names.proofs.laws.slots_are_in_order.Goals as goal

pub returns-clause-order : goal.returns-clause-order
returns-clause-order c = in_order

pub returns-clause-defined : goal.returns-clause-defined
returns-clause-defined c = slots_defined
