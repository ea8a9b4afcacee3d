use Rattle.std.proofs.Common.{◌≡◌, ◌++◌, drop}
use Rattle.std.specs.Prelude.{filter}
use Rattle.slot_liveness.specs.Live.{later}
use Rattle.slot_liveness.proofs.live.live_among.Given as goal

abbrev pub invariant-loop-slot : goal.invariant-loop-slot
invariant-loop-slot l = l.live ++ filter (later l.rest l.after) (drop l.slot-index l.slots) ≡ filter (later l.rest l.after) l.slots
