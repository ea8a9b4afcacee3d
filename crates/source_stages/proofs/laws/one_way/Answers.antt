use Rattle.source_stages.proofs.Ways.{Laws, decided_is, never_both_are, one_fault_is}
use Rattle.source_stages.proofs.laws.one_way.Goals as goal

pub returns : goal.returns
returns c =
    let laws : Laws = record { tree = c.one_tree.ensures.one; spelled = c.one_tree.ensures.either; named = c.one_answer.ensures.one; either = c.one_answer.ensures.either; apart = c.one_answer.ensures.apart; judged = c.judged_once.ensures } in
    record { either = decided_is laws; never_both = never_both_are laws; one_fault = one_fault_is laws }
