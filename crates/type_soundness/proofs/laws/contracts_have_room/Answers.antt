use Rattle.type_soundness.proofs.Rooms.{contracts_have_room}
use Rattle.type_soundness.proofs.laws.contracts_have_room.Goals as goal

pub returns : goal.returns
returns c = contracts_have_room
