use Rattle.std.proofs.Common.{◌≡◌, ◌++◌, drop}
use Rattle.source_texts.specs.TraceLines.{row_lines}
use Rattle.source_texts.proofs.trace_text.rows_text.Given as goal

-- what is left stands after the lines so far
abbrev pub invariant-row : goal.invariant-row
invariant-row l = l.text.items ++ row_lines l.source (drop l.row-index l.rows) ≡ row_lines l.source l.rows
