use Rattle.type_check.proofs.Whole.{typed_from, kept_from, fault_from}
use Rattle.type_check.proofs.contract.check.Goals as goal

pub returns-clause-typed : goal.returns-clause-typed
returns-clause-typed c = typed_from c.args.tree.now c.check_contract.result c.check_contract.ensures

pub returns-clause-kept : goal.returns-clause-kept
returns-clause-kept c = kept_from c.args.tree.now c.check_contract.result c.check_contract.ensures

pub returns-clause-first : goal.returns-clause-first
returns-clause-first c = fault_from c.args.tree.now c.check_contract.result c.check_contract.ensures
