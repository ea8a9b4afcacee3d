use Rattle.spend_laws.proofs.laws.spend_is_decided.Goals as goal

pub returns : goal.returns
returns c =
    λ elements code context verdicts is small.
    c.redeemed_code_decides.ensures elements code context verdicts is (c.spend_stays_in_room.ensures elements code context verdicts is small)
