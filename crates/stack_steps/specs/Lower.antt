-- What it is for emitted code to do what slot code does, as far as the live slots go.
use Rattle.std.specs.Prelude.{◌≡◌, ◌≢◌, ◌≤◌, List, true, IsSome, Some, length, map, Result, Ok, Err}
use Rattle.cash_base.specs.declared.place.Slot.{Slot}
use Rattle.cash_base.specs.declared.place.Span.{Span}
use Rattle.script_codec.specs.declared.spans.Mark.{Mark}
use Rattle.source_meaning.specs.declared.outcome.Failure.{Failure}
use Rattle.source_meaning.specs.Meaning.{Env}
use Rattle.slot_code.specs.declared.slots.SlotInstr.{SlotInstr}
use Rattle.slot_code.specs.declared.slots.SlotKind.TheVariants.{If}
use Rattle.slot_code.specs.Meaning.{State, state}
use Rattle.slot_code.specs.Shape.{Place, Shape, most_slots}
use Rattle.slot_liveness.specs.Live.{Slots, kept, live}
use Rattle.slot_liveness.specs.Counts.{IsOnce, IsTight}
use Rattle.tx_context.specs.World.{World}
use Rattle.stack_emitter.specs.Correct.{Deed, Emits}
use Rattle.stack_steps.specs.declared.low.Low.{Low}

abbrev pub IsNoChoice : SlotInstr → Type 0
IsNoChoice instr = (yes_block no_block : List SlotInstr) → instr.kind ≢ If yes_block no_block

-- the same value for each live slot; nothing is said of the others
abbrev pub AgreeOn : Slots → Env → Env → Type 0
AgreeOn live a b = (slot : Slot) → live slot ≡ true → a slot ≡ b slot

-- both failed alike, or both ended with the same operands and the same live values
abbrev pub SameEnd : Slots → Result State Failure → Result State Failure → Type 0
SameEnd live (Ok s) (Ok t) = (s.operands ≡ t.operands) × AgreeOn live s.env t.env
SameEnd live (Ok s) (Err f) = ⊥
SameEnd live (Err e) (Ok t) = ⊥
SameEnd live (Err e) (Err f) = e ≡ f

-- deeds that can't be told apart by the live values
pub record Same (before after : Slots) (f g : Deed) : Type 0 where
  pub ends : (world : World) (s : State) (env : Env) → AgreeOn before s.env env
      → SameEnd after (f world s) (g world (state s.operands env))

-- the added rows do exactly some deed, and it is the same as the given one for the live slots
pub record Lowers (old new : Low) (deed : Deed) (before after : Slots) : Type 0 where
  pub did : Deed
  pub emits : Emits old.emitter new.emitter did
  pub same : Same before after deed did

abbrev pub statements_of : List Mark → List Span
statements_of marks = map (λ (m : Mark). m.statement) marks

-- the place in the slot code
abbrev pub place_of : Low → Place
place_of low = record {
  operands = low.emitter.place.operands;
  slots = low.scope;
  outer = low.outer;
  seen = statements_of low.marks.items;
}

-- the slot code is well formed here, and the layout has the names in scope that are kept
pub record Ready (shape : Shape) (before hold : Slots) (old : Low) : Type 0 where
  pub well : IsSome (shape (place_of old))
  pub tight : IsTight (kept before hold) old.scope old.emitter.place.slots
  pub once : IsOnce old.scope
  pub few : length old.scope ≤ most_slots

-- the added rows do what the deed does, and the layout again has the names in scope that are kept
pub record Does (deed : Deed) (shape : Shape) (before after hold : Slots) (old new : Low) : Type 0 where
  pub place : shape (place_of old) ≡ Some (place_of new)
  pub lowers : Lowers old new deed (live old.scope before) (live new.scope after)
  pub tight : IsTight (kept after hold) new.scope new.emitter.place.slots
  pub once : IsOnce new.scope
  pub few : length new.scope ≤ most_slots
