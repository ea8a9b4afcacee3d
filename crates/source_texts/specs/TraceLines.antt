-- The lines of a trace.
use Rattle.std.specs.Prelude.{ℕ, nat_lt, nat_le, ◌&&◌, Bool, if◌then◌else◌, List, [], ◌∷◌, ◌++◌, codes, Option, Some, None}
use Rattle.std.specs.Fmt.{decimal}
use Rattle.cash_base.specs.declared.place.Span.{Span}
use Rattle.script_codec.specs.Names.{name_of}
use Rattle.span_map.specs.Lines.{line_col}
use Rattle.spend_debug.specs.Telling.{script_name, at_place, lines_with, verdict_line, told_place}
use Rattle.spend_trace.specs.Traced.{Trace}
use Rattle.spend_trace.specs.declared.tracing.TraceRow.{TraceRow}

-- ---- a row

-- a push of bytes of the script has no name of its own
abbrev pub is_push : ℕ → Bool
is_push opcode = nat_lt 0 opcode && nat_le opcode 0x4e

-- every opcode that can be executed has a name
abbrev pub named_opcode : Option (List ℕ) → List ℕ
named_opcode (Some name) = codes "OP_" ++ name
named_opcode None = codes "-"

abbrev pub opcode_told : ℕ → List ℕ
opcode_told opcode = if is_push opcode then codes "PUSH" else named_opcode (name_of opcode)

-- LINE:COL, or `-` where no place is known
abbrev pub place_told : List ℕ → Option Span → List ℕ
place_told source (Some span) = at_place (line_col source span.from)
place_told source None = codes "-"

-- `SCRIPT INDEX NAME PLACE HEIGHT`
abbrev pub row_line : List ℕ → TraceRow → List ℕ
row_line source row =
    script_name row.script ++ codes " " ++ decimal row.at ++ codes " " ++ opcode_told row.opcode ++ codes " "
    ++ place_told source row.place ++ codes " " ++ decimal row.height ++ codes "\n"

abbrev pub row_lines : List ℕ → List TraceRow → List ℕ
row_lines source [] = []
row_lines source (row ∷ rows) = row_line source row ++ row_lines source rows

-- ---- all of it

-- the three scripts, a line for each instruction that was executed, and the verdict
abbrev pub trace_lines : List ℕ → Trace → List ℕ
trace_lines source trace =
    lines_with trace.report.redeem trace.report.unlocking trace.report.locking
    (row_lines source trace.rows ++ verdict_line trace.report.outcome (told_place source trace.report.place))
