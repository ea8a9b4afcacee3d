use Rattle.plain_trees.proofs.Trees.{source_plain}
use Rattle.plain_trees.proofs.laws.accepted_runs_find_numbers.Goals as goal

pub returns : goal.returns
returns c source tokens tree named typed bytes spelled names types =
    c.types_are_sound.ensures.runs source tree named typed names types
    (c.contracts_stay_plain.ensures source tree named typed names types (source_plain source tokens tree bytes spelled))
