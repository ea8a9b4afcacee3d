use Rattle.std.proofs.Common.{◌≡◌, map, take}
use Rattle.serde_json.specs.View.{view}
use Rattle.artifact_json.specs.Text.{row_value}
use Rattle.artifact_json.proofs.writing.each_row.Given as goal

-- the values so far are those of the front
abbrev pub invariant-loop-row : goal.invariant-loop-row
invariant-loop-row l = map view l.values.items ≡ map row_value (take l.row-index l.rows)
