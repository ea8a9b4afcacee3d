use Rattle.counting_laws.proofs.Counting.{counts}
use Rattle.counting_laws.proofs.laws.code_counts.Goals as goal

pub returns : goal.returns
returns c =
    counts (record { nothing = c.reading_in_turn.ensures.end; code = c.reading_after_encoded.ensures; meaning = c.meaning_of_spelled.ensures })
