use Rattle.std.proofs.Common.{◌≡◌, ◌+◌, ◌≤◌, take}
use Rattle.span_map.specs.Lines.{column_after}
use Rattle.span_map.proofs.column_after.Given as goal

-- the column after the bytes so far
abbrev pub invariant-loop-byte : goal.invariant-loop-byte
invariant-loop-byte l = (l.column ≡ column_after (take l.byte-index l.text)) × (l.column ≤ l.byte-index + 1)
