-- What an instruction adds, beside what it does: rows of its statement, their weight, and counts of keys where these are asked for.
use Rattle.cash_base.specs.declared.place.Slot.{Slot}
use Rattle.std.specs.Prelude.{◌≡◌, ℕ, ◌+◌, ◌≤◌, Bool, true, false, not, ◌&&◌, if◌then◌else◌, List, [], ◌∷◌, ◌++◌, length, Some}
use Rattle.cash_base.specs.declared.place.Span.{Span}
use Rattle.script_codec.specs.declared.spans.Mark.{Mark}
use Rattle.script_codec.specs.declared.spans.Spanned.{Spanned}
use Rattle.script_codec.specs.Reading.{push}
use Rattle.script_codec.specs.declared.instr.Instr.{Instr}
use Rattle.script_codec.specs.Counting.{number_pushed, key_count}
use Rattle.bch_vm.specs.Law.{are_keys_known, asks_for_keys}
use Rattle.slot_code.specs.declared.slots.SlotInstr.{SlotInstr}
use Rattle.slot_code.specs.declared.slots.SlotKind.TheOpen.{SlotKind-F, SlotInstr-F}
use Rattle.slot_code.specs.declared.slots.SlotKind.TheFolds.{fold-SlotInstr}
use Rattle.slot_code.specs.Meaning.{act_of}
use Rattle.slot_code.specs.Shape.{Operand, shapes_of, has_span}
use Rattle.slot_code.specs.Weight.{Weigh, weighs_of}
use Rattle.slot_liveness.specs.Counts.{less}
use Rattle.slot_liveness.specs.Live.{Slots, kept}
use Rattle.row_runs.specs.Rows.{instructions, is_control}
use Rattle.stack_emitter.specs.declared.emit.Emitter.{Emitter}
use Rattle.stack_emitter.specs.Codes.{is_span, bytes_of, row_ops}
use Rattle.stack_steps.specs.declared.low.Low.{Low}
use Rattle.stack_steps.specs.Lower.{statements_of, Does}

-- rows at these two places, and no IF, NOTIF, ELSE or ENDIF among them
abbrev pub are_told : Span → Span → List Spanned → Bool
are_told doing checking [] = true
are_told doing checking (row ∷ rows) =
    ((is_span doing row.doing && is_span checking row.checking) && not (is_control row.instr)) && are_told doing checking rows

-- such rows were added
pub record Tells (doing checking : Span) (old new : Emitter) : Type 0 where
  pub rows : List Spanned
  pub grown : new.code.items ≡ old.code.items ++ rows
  pub told : are_told doing checking rows ≡ true

-- the layout after an instruction, by what is read later and what is held
abbrev pub Lays : Type 0
Lays = Slots → Slots → List Slot → List Slot

-- whether an instruction serves an operation, and what becomes of the layout
pub record Placing : Type 0 where
  pub serves : Bool
  pub lays : Lays

-- the layout stays
abbrev pub stays : Bool → Placing
stays serves = record { serves = serves; lays = λ later hold slots. slots }

-- A name's last read takes its value away. A new value stands on top where it is kept, and an assigned one where it is read later;
-- else what stood stays as it was.
abbrev pub kind_places : SlotKind-F Placing Placing → Placing
kind_places (SlotKind-F.Get slot) =
    record { serves = true; lays = λ later hold slots. if kept later hold slot then slots else less slot slots }
kind_places SlotKind-F.Time = stays false
kind_places SlotKind-F.Age = stays false
kind_places (SlotKind-F.Define slot) =
    record { serves = false; lays = λ later hold slots. if kept later hold slot then slot ∷ slots else slots }
kind_places (SlotKind-F.DefinePair left right) = record {
  serves = false;
  lays = λ later hold slots.
      if kept later hold right then right ∷ (if kept later hold left then left ∷ slots else slots)
      else (if kept later hold left then left ∷ slots else slots);
}
kind_places (SlotKind-F.Assign slot) =
    record { serves = false; lays = λ later hold slots. if later slot then slot ∷ less slot slots else slots }
kind_places (SlotKind-F.End slot) = record { serves = false; lays = λ later hold slots. less slot slots }
kind_places _ = stays true

abbrev pub instr_places : SlotInstr-F Placing Placing → Placing
instr_places instr = instr.kind

unfoldable pub places_of : SlotInstr → Placing
places_of = fold-SlotInstr Placing Placing kind_places instr_places

-- the place of the operation that the rows serve, or else that of the statement
abbrev pub doing_of : SlotInstr → Span
doing_of instr = if (places_of instr).serves then instr.doing else instr.checking

-- the last row pushes this element
pub record Pushed (e : List ℕ) (rows : List Spanned) : Type 0 where
  pub before : List Spanned
  pub pusher : Spanned
  pub rows_are : rows ≡ before ++ pusher ∷ []
  pub pushes : pusher.instr ≡ push e

-- where the element on top is known the last row pushed it
abbrev pub TopPushed : List Operand → List Spanned → Type 0
TopPushed (Some e ∷ operands) rows = Pushed e rows
TopPushed _ rows = Unit {0}

-- so far each check of several signatures stands directly behind the push of a number of keys from 0 to 20
pub record KeysKnown (now : Emitter) : Type 0 where
  pub known : are_keys_known false (instructions now.code.items) ≡ true
  pub top : TopPushed now.place.operands now.code.items

-- the counted opcodes of code, the keys of checks of several signatures among them, where so many keys were pushed before
unfoldable pub counted : ℕ → List Instr → ℕ
counted keys [] = 0
counted keys (instr ∷ code) =
    (row_ops instr + (if asks_for_keys instr then keys else 0)) + counted (key_count (number_pushed instr)) code

abbrev pub counted_of : List Spanned → ℕ
counted_of rows = counted 0 (instructions rows)

-- At most so many bytes and counted opcodes more. Each name in scope has one of each in store, until a slot stands for it.
pub record Pays (weigh : Weigh) (old new : Low) : Type 0 where
  pub names : (weigh (length old.scope)).names ≡ length new.scope
  pub bytes_fit : bytes_of new.emitter.code.items + length new.emitter.place.slots + length old.scope
      ≤ bytes_of old.emitter.code.items + length old.emitter.place.slots + length new.scope + (weigh (length old.scope)).bytes
  pub ops_fit : counted_of new.emitter.code.items + length new.emitter.place.slots + length old.scope
      ≤ counted_of old.emitter.code.items + length old.emitter.place.slots + length new.scope + (weigh (length old.scope)).ops

-- a mark where a statement begins: the number of rows so far, and the height with no operands
abbrev pub marks_after : Span → Low → List Mark
marks_after span low =
    if has_span span (statements_of low.marks.items) then low.marks.items
    else low.marks.items ++ record {
      at = length low.emitter.code.items;
      height = length low.emitter.place.slots;
      statement = span;
    } ∷ []

-- What an instruction that is no choice adds: the rows do what it does, as far as the live slots go; they have its places, weigh at
-- most what it weighs, and keep the counts of keys. Where its statement begins with it there is one more mark.
pub record Steps (instr : SlotInstr) (before after hold : Slots) (old new : Low) : Type 0 where
  pub does : Does (λ world. act_of world instr) (shapes_of instr).inner before after hold old new
  pub tells : Tells (doing_of instr) instr.checking old.emitter new.emitter
  pub lays : new.emitter.place.slots ≡ (places_of instr).lays after hold old.emitter.place.slots
  pub keys : KeysKnown old.emitter → KeysKnown new.emitter
  pub pays : KeysKnown old.emitter → Pays (weighs_of instr).inner old new
  pub marks : new.marks.items ≡ marks_after instr.checking old
