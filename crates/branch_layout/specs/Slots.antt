-- Slots in layouts. A layout is a list of slots from the top of the stack.
use Rattle.std.specs.Prelude.{ℕ, ◌+◌, ◌==◌, Bool, true, not, ◌&&◌, if◌then◌else◌, List, [], ◌∷◌, length, filter, Option}
use Rattle.std.specs.List.{list_any, list_all, position}
use Rattle.cash_base.specs.declared.place.Slot.{Slot}

abbrev pub is_slot : Slot → Slot → Bool
is_slot slot other = other.0 == slot.0

-- the slot stands among them
abbrev pub has : List Slot → Slot → Bool
has slots slot = list_any (is_slot slot) slots

-- none stands twice
abbrev pub are_distinct : List Slot → Bool
are_distinct [] = true
are_distinct (slot ∷ slots) = not (has slots slot) && are_distinct slots

-- each of the first stands among the others
abbrev pub all_stand_in : List Slot → List Slot → Bool
all_stand_in slots others = list_all (has others) slots

-- the slots that are kept, in the order that they have in the layout
abbrev pub kept_of : List Slot → List Slot → List Slot
kept_of keep layout = filter (has keep) layout

-- how many aren't kept
abbrev pub spare_of : List Slot → List Slot → ℕ
spare_of keep layout = length (filter (λ slot. not (has keep slot)) layout)

-- how often a slot stands in a list
abbrev pub count_of : Slot → List Slot → ℕ
count_of slot [] = 0
count_of slot (other ∷ others) = (if other.0 == slot.0 then 1 else 0) + count_of slot others

-- the first place of a slot
abbrev pub place_of : Slot → List Slot → Option ℕ
place_of slot slots = position (is_slot slot) slots
