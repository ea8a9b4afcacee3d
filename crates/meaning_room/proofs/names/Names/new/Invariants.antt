use Rattle.std.proofs.Common.{◌≡◌, length}
use Rattle.meaning_room.proofs.names.Names.new.Given as goal

abbrev pub invariant-loop : goal.invariant-loop
invariant-loop l = length l.elements.items ≡ l.counter
