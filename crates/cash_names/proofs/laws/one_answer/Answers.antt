use Rattle.cash_names.proofs.Whole.{one_named, one_or_fault, fault_alone}
use Rattle.cash_names.proofs.laws.one_answer.Goals as goal

pub returns-clause-one : goal.returns-clause-one
returns-clause-one c = one_named

pub returns-clause-either : goal.returns-clause-either
returns-clause-either c = one_or_fault

pub returns-clause-apart : goal.returns-clause-apart
returns-clause-apart c = fault_alone
