use Rattle.peephole.proofs.Whole.{whole}
use Rattle.peephole.proofs.tidy.Goals as goal

pub returns-clause-tidied : goal.returns-clause-tidied
returns-clause-tidied c =
    whole (record { nothing = c.reading_in_turn.ensures.end; code = c.reading_after_encoded.ensures; meaning = c.meaning_of_spelled.ensures })
    _ _ c.in_ok-code.ensures c.requires.unseparated
