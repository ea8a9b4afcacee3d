use Rattle.spend_laws.proofs.Roomy.{code_in_room}
use Rattle.spend_laws.proofs.laws.spend_stays_in_room.Goals as goal

pub returns : goal.returns
returns c =
    code_in_room (record { nothing = c.reading_in_turn.ensures.end; code = c.reading_after_encoded.ensures; meaning = c.meaning_of_spelled.ensures })
