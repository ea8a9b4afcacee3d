use Rattle.type_check.proofs.Laws.{are_alike, alike}
use Rattle.type_check.proofs.contract.types_keep.Goals as goal

pub returns-clause-contracts : goal.returns-clause-contracts
returns-clause-contracts c = are_alike

pub returns-clause-expressions : goal.returns-clause-expressions
returns-clause-expressions c = alike
