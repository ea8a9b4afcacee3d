use Rattle.std.proofs.Common.{◌≡◌}
use Rattle.slot_code.specs.Shape.{first_slots}
use Rattle.cash_compile.proofs.functions.first_slots.Given as goal

abbrev pub invariant-loop-i : goal.invariant-loop-i
invariant-loop-i l = l.slots.items ≡ first_slots l.i
