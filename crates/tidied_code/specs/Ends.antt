-- How the run of a contract's code ends, beside the run of its source, by the places of its rows.
use Rattle.std.specs.Prelude.{◌≡◌, ℕ, ◌+◌, ◌⊎◌, Bool, true, false, List, [], ◌∷◌, Some, Result, Ok, Err}
use Rattle.cash_base.specs.declared.fault.Cause.{Cause}
use Rattle.cash_base.specs.declared.fault.Cause.TheVariants.{CheckFailed}
use Rattle.cash_base.specs.declared.fault.MachineCause.TheVariants.{Shared, EndFalse}
use Rattle.cash_base.specs.declared.place.Span.{Span}
use Rattle.cash_base.specs.Number.{truth_of}
use Rattle.source_meaning.specs.declared.outcome.SourceOutcome.{SourceOutcome}
use Rattle.source_meaning.specs.declared.outcome.SourceOutcome.TheVariants.{Met, Failed}
use Rattle.script_codec.specs.declared.spans.Spanned.{Spanned}
use Rattle.bch_vm.specs.Script.{State, Failure}
use Rattle.span_map.specs.declared.SpanRow.{SpanRow}
use Rattle.span_map.specs.Places.{place_of}

-- the places of an instruction
abbrev pub places : Spanned → SpanRow
places row = record { doing = row.doing; checking = row.checking }

-- the run ended with no condition open, and left one element, of this truth
abbrev pub LeavesOne : Bool → State → Type 0
LeavesOne truth end = (e : List ℕ) × (end.board.stack ≡ e ∷ []) × (truth_of e ≡ truth) × (end.board.conditions ≡ [])

-- it failed with the cause at a row that has the place
abbrev pub FailsAt : List SpanRow → ℕ → Span → Cause → Result State Failure → Type 0
FailsAt rows before span cause end =
    (at : ℕ) × (end ≡ Err (record { at = before + at; cause = Shared cause })) × (place_of rows at (Shared cause) ≡ Some span)

-- A check was false, and its value is all that is left. The last executed instruction is one of the rows, and no push before
-- them; it has the place.
abbrev pub EndsFalseAt : List SpanRow → ℕ → Span → Cause → Result State Failure → Type 0
EndsFalseAt rows before span cause end =
    (s : State) × (end ≡ Ok s) × LeavesOne false s × (cause ≡ CheckFailed)
    × ((at : ℕ) × (s.progress.last ≡ before + at) × (place_of rows at EndFalse ≡ Some span))

-- Where the source's run is met the machine's ends with one true element. Where it fails the machine's fails with the same
-- cause at the same place, or the value of the failed check is left.
abbrev pub EndsAs : List SpanRow → ℕ → SourceOutcome → Result State Failure → Type 0
EndsAs rows before Met end = (s : State) × (end ≡ Ok s) × LeavesOne true s
EndsAs rows before (Failed span cause) end = FailsAt rows before span cause end ⊎ EndsFalseAt rows before span cause end
