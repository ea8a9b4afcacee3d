-- The instructions that a spend executes, in order.
use Rattle.std.specs.Prelude.{ℕ, zero, suc, ◌-◌, nat_lt, if◌then◌else◌, List, [], ◌∷◌, length, map, Option, Some, None, option_map, slice_get, Result, Ok}
use Rattle.cash_base.specs.declared.place.Span.{Span}
use Rattle.cash_base.specs.Failing.{◌>>=◌}
use Rattle.script_codec.specs.Reading.{Piece, Whole, CutOff, reading}
use Rattle.bch_vm.specs.declared.outcome.Which.{Which}
use Rattle.bch_vm.specs.declared.outcome.Which.TheVariants.{Redeem}
use Rattle.bch_vm.specs.declared.outcome.MachineOutcome.{MachineOutcome}
use Rattle.bch_vm.specs.Law.{locking_script}
use Rattle.bch_vm.specs.Course.{Course, Row, executed_rows}
use Rattle.bch_vm.specs.Spend.{spend_course}
use Rattle.bch_vm.specs.Status.{script_of}
use Rattle.span_map.specs.declared.SpanRow.{SpanRow}
use Rattle.spend_json.specs.Given.{SpendParts}
use Rattle.artifact_json.specs.Artifact.{Artifact}
use Rattle.unlocker.specs.Spends.{Built, built_spend, context_of}
use Rattle.spend_debug.specs.declared.spends.SpendStop.{SpendStop}
use Rattle.spend_debug.specs.SpendDebug.{or_stop}
use Rattle.spend_debug.specs.Telling.{Told}
use Rattle.spend_trace.specs.declared.tracing.TraceRow.{TraceRow}
use Rattle.spend_trace.specs.Judged.{told_by}

-- ---- an instruction

abbrev pub piece_opcode : Piece → ℕ
piece_opcode (Whole raw) = raw.opcode
piece_opcode CutOff = 0

-- the opcode of the instruction of this index, and 0 where there is none of it
abbrev pub opcode_in : List Piece → ℕ → ℕ
opcode_in [] at = 0
opcode_in (piece ∷ more) zero = piece_opcode piece
opcode_in (piece ∷ more) (suc at) = opcode_in more at

abbrev pub opcode_at : List ℕ → ℕ → ℕ
opcode_at script at = opcode_in (reading script) at

-- the doing place of the row of an instruction of the redeem script, after so many pushes of the constructor, where rows are known
abbrev pub doing_place : Option (List SpanRow) → ℕ → Which → ℕ → Option Span
doing_place (Some rows) before Redeem at =
    if nat_lt at before then None else option_map (λ row. row.doing) (slice_get rows (at - before))
doing_place rows before script at = None

-- the bytes of a script of the spend
abbrev pub bytes_of : Built → Which → List ℕ
bytes_of scripts which = script_of which scripts.unlocking (locking_script scripts.redeem) scripts.redeem

-- an instruction of a script, by its index, with the height of the stack after it
abbrev pub row_with : Artifact → Built → Which → ℕ → ℕ → TraceRow
row_with program scripts which at height = record {
  script = which;
  at = at;
  opcode = opcode_at (bytes_of scripts which) at;
  place = doing_place program.spans (length program.ctor) which at;
  height = height;
}

abbrev pub row_of : Artifact → Built → Row → TraceRow
row_of program scripts row = row_with program scripts row.script row.at (length row.stack)

-- ---- all of them

-- those that a course executes
abbrev pub rows_in : Artifact → Built → Course MachineOutcome → List TraceRow
rows_in program scripts course = map (row_of program scripts) (executed_rows course)

-- those of the spend by these scripts
abbrev pub rows_by : Artifact → SpendParts → Built → List TraceRow
rows_by program spend scripts = rows_in program scripts (spend_course (context_of spend scripts) spend.verdicts)

pub record Trace : Type 0 where
  pub rows : List TraceRow
  pub report : Told

abbrev pub trace_with : List TraceRow → Told → Trace
trace_with rows report = record { rows = rows; report = report }

abbrev pub traced : Artifact → SpendParts → Built → Trace
traced program spend scripts = trace_with (rows_by program spend scripts) (told_by program spend scripts)

-- the rows of a spend with its report, or why its scripts aren't built
abbrev pub trace_of : Artifact → SpendParts → Result Trace SpendStop
trace_of program spend = do
  scripts ← or_stop (built_spend program spend)
  Ok (traced program spend scripts)
