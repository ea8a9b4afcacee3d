use Rattle.std.proofs.Common.{◌≡◌}
use Rattle.slot_code.specs.Shape.{first_slots}
use Rattle.stack_schedule.proofs.whole.first_slots.Given as goal

abbrev pub invariant-loop-i : goal.invariant-loop-i
invariant-loop-i l = l.slots ≡ first_slots l.i
