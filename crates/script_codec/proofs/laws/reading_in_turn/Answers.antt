use Rattle.script_codec.proofs.Seams.{reading_nil, reading_cons}
use Rattle.script_codec.proofs.laws.reading_in_turn.Goals as goal

pub returns : goal.returns
returns c = record { end = reading_nil; front = reading_cons }
