use Rattle.std.proofs.Common.{◌≡◌, drop}
use Rattle.branch_layout.specs.Slots.{are_distinct}
use Rattle.branch_layout.proofs.layout.are_distinct.Given as goal

abbrev pub invariant-loop-i : goal.invariant-loop-i
invariant-loop-i l = are_distinct (drop l.i l.slots) ≡ are_distinct l.slots
