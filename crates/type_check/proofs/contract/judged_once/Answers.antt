use Rattle.type_check.proofs.Whole.{judged}
use Rattle.type_check.proofs.contract.judged_once.Goals as goal

pub returns : goal.returns
returns c = judged
