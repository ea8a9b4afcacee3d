use Rattle.slot_lowering.proofs.Ends.{ends_define, ends_pair}
use Rattle.slot_lowering.proofs.statements.end_names_of.Goals as goal

pub returns-in_ok-end-in-Define : goal.returns-in_ok-end-in-Define
returns-in_ok-end-in-Define c = ends_define c.in-Define.is c.in_ok-end-in-Define.ensures

pub returns-in_ok-end-in-Pair-2 : goal.returns-in_ok-end-in-Pair-2
returns-in_ok-end-in-Pair-2 c = ends_pair c.in-Pair.is c.in_ok-end-in-Pair.ensures c.in_ok-end-in-Pair-2.ensures
