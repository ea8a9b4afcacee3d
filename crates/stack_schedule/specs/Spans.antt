-- The places of rows.
use Rattle.std.specs.Prelude.{IsTrue, Bool, ◌&&◌, List}
use Rattle.std.specs.List.{list_all}
use Rattle.cash_base.specs.declared.place.Span.{Span}
use Rattle.script_codec.specs.declared.spans.Spanned.{Spanned}
use Rattle.slot_code.specs.declared.slots.SlotFunction.{SlotFunction}
use Rattle.slot_code.specs.Spans.{slot_spans}
use Rattle.stack_emitter.specs.declared.emit.Emitter.{Emitter}

-- this holds of both places of each row
abbrev pub have_places : (Span → Bool) → List Spanned → Bool
have_places holds rows = list_all (λ (row : Spanned). holds row.doing && holds row.checking) rows

-- the places of the rows are among those of the slot code: what holds of all of these holds of each of them
abbrev pub KeepsSpans : SlotFunction → List Spanned → Type 0
KeepsSpans f rows = (holds : Span → Bool) → IsTrue (list_all holds (slot_spans f)) → IsTrue (have_places holds rows)

-- the places of added rows are among these
abbrev pub KeepsPlaces : List Span → Emitter → Emitter → Type 0
KeepsPlaces spans old new = (holds : Span → Bool) → IsTrue (list_all holds spans)
    → IsTrue (have_places holds old.code.items) → IsTrue (have_places holds new.code.items)
