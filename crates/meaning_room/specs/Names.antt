-- How the room holds the elements of names.
use Rattle.std.specs.Prelude.{ℕ, Bool, false, if◌then◌else◌, List, [], slice_index_or, Some, None}
use Rattle.cash_base.specs.declared.place.Slot.{Slot}
use Rattle.meaning_room.specs.Meaning.{Env}

-- for each slot in order whether its name has an element, and the element, which counts only there
abbrev pub Held : Type 0
Held = List Bool × List (List ℕ)

unfoldable pub has_element : List Bool → Slot → Bool
has_element known slot = slice_index_or known slot.0 false

unfoldable pub env_of : Held → Env
env_of held slot = if has_element held.0 slot then Some (slice_index_or held.1 slot.0 []) else None
