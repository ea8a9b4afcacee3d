-- How often a slot stands in a list.
use Rattle.std.specs.Prelude.{ℕ, ◌+◌, ◌≡◌, ◌≤◌, ◌==◌, Bool, if◌then◌else◌, List, [], ◌∷◌, Option}
use Rattle.std.specs.List.{position}
use Rattle.cash_base.specs.declared.place.Slot.{Slot}
use Rattle.slot_code.specs.Shape.{has}

abbrev pub is_slot : Slot → Slot → Bool
is_slot slot other = other.0 == slot.0

abbrev pub count_of : Slot → List Slot → ℕ
count_of slot [] = 0
count_of slot (other ∷ others) = (if is_slot slot other then 1 else 0) + count_of slot others

abbrev pub IsOnce : List Slot → Type 0
IsOnce slots = (slot : Slot) → count_of slot slots ≤ 1

-- the first place of a slot
abbrev pub place_of : Slot → List Slot → Option ℕ
place_of slot slots = position (is_slot slot) slots

-- the list with one less of the slot
abbrev pub less : Slot → List Slot → List Slot
less slot [] = []
less slot (other ∷ others) = if is_slot slot other then others else other ∷ less slot others

-- the layout has the names in scope that are kept, in any order
abbrev pub IsTight : (Slot → Bool) → List Slot → List Slot → Type 0
IsTight keeps scope layout = (slot : Slot) → count_of slot layout ≡ (if keeps slot then count_of slot scope else 0)
