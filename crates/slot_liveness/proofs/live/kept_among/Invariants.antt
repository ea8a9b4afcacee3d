use Rattle.std.proofs.Common.{◌≡◌, ◌++◌, drop}
use Rattle.std.specs.Prelude.{filter}
use Rattle.slot_liveness.specs.Live.{later, hold, kept}
use Rattle.slot_liveness.proofs.live.kept_among.Given as goal

abbrev pub invariant-loop-slot : goal.invariant-loop-slot
invariant-loop-slot l = l.left ++ filter (kept (later l.rest l.after) (hold l.body l.held)) (drop l.slot-index l.slots) ≡ filter (kept (later l.rest l.after) (hold l.body l.held)) l.slots
