use Rattle.source_stages.proofs.Ways.{Laws, one_contract_is}
use Rattle.source_stages.proofs.laws.one_contract.Goals as goal

pub returns : goal.returns
returns c =
    let laws : Laws = record { tree = c.one_tree.ensures.one; spelled = c.one_tree.ensures.either; named = c.one_answer.ensures.one; either = c.one_answer.ensures.either; apart = c.one_answer.ensures.apart; judged = c.judged_once.ensures } in
    one_contract_is laws
