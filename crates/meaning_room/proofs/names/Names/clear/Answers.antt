use Rattle.std.proofs.Common.{map}
use Rattle.meaning_room.proofs.Places.{none_known}
use Rattle.meaning_room.proofs.names.Names.clear.Goals as goal

pub returns : goal.returns
returns c = none_known 160 (map (λ e. e.items) c.self.inside.elements.items)
