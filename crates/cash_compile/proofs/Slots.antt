-- The slots of parameters are distinct.
use Rattle.std.proofs.Common.{◌≡◌, ℕ, true}
use Rattle.slot_code.specs.Shape.{first_slots}
use Rattle.branch_layout.specs.Slots.{are_distinct}
use Rattle.stack_schedule.proofs.Joins.{once_distinct}
use Rattle.stack_schedule.proofs.Beginning.{first_once}

pub first_distinct : (count : ℕ) → are_distinct (first_slots count) ≡ true
first_distinct count = once_distinct (first_slots count) (first_once count)
