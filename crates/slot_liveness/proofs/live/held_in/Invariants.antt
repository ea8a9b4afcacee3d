use Rattle.std.proofs.Common.{◌≡◌, ◌++◌, drop}
use Rattle.std.specs.Prelude.{filter}
use Rattle.slot_liveness.specs.Live.{only_other}
use Rattle.slot_liveness.proofs.live.held_in.Given as goal

abbrev pub invariant-loop-slot : goal.invariant-loop-slot
invariant-loop-slot l = l.all ++ filter (only_other l.own l.other) (drop l.slot-index l.slots) ≡ l.held ++ filter (only_other l.own l.other) l.slots
