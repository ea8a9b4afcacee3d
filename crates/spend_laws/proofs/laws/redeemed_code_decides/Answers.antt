use Rattle.spend_laws.proofs.Decided.{code_decides}
use Rattle.spend_laws.proofs.laws.redeemed_code_decides.Goals as goal

pub returns : goal.returns
returns c =
    code_decides (record { nothing = c.reading_in_turn.ensures.end; code = c.reading_after_encoded.ensures; meaning = c.meaning_of_spelled.ensures })
