use Rattle.typed_sources.proofs.Whole.{Laws, contract_fits}
use Rattle.typed_sources.proofs.laws.accepted_contracts_fit.Goals as goal

pub returns : goal.returns
returns c =
    let accepted = c.accepted_contracts.ensures in
    let laws : Laws = record {
      counted = accepted.counted;
      inside = accepted.inside;
      texts = accepted.texts;
      small = c.trees_hold.ensures.small;
      plain = c.spelled_trees_are_plain.ensures;
      plain_stays = c.contracts_stay_plain.ensures;
      stays = c.types_keep.ensures.contracts;
      lowered = c.contracts_are_lowered.ensures;
    } in
    contract_fits laws
