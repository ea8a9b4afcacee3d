use Rattle.spend_laws.proofs.Heights.{stays_below}
use Rattle.spend_laws.proofs.laws.runs_stay_below.Goals as goal

pub returns : goal.returns
returns c =
    stays_below (record { nothing = c.reading_in_turn.ensures.end; code = c.reading_after_encoded.ensures; meaning = c.meaning_of_spelled.ensures })
