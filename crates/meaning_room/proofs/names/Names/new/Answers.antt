use Rattle.std.proofs.Common.{map}
use Rattle.meaning_room.proofs.Places.{none_known}
use Rattle.meaning_room.proofs.names.Names.new.Goals as goal

pub returns : goal.returns
returns c = none_known 160 (map (λ e. e.items) c.loop.elements.items)
