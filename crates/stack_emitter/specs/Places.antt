-- Where the values stand.
use Rattle.std.specs.Prelude.{List}
use Rattle.cash_base.specs.declared.place.Slot.{Slot}
use Rattle.slot_code.specs.Shape.{Operand}

-- the operands, the last one first, of each the element where it is known; and below them the slots, from the top
pub record Spot : Type 0 where
  pub operands : List Operand
  pub slots : List Slot

abbrev pub spot : List Operand → List Slot → Spot
spot operands slots = record { operands = operands; slots = slots }
