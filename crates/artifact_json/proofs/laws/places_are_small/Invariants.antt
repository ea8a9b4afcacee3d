use Rattle.std.proofs.Common.{drop}
use Rattle.std.specs.List.{AllByRecursion}
use Rattle.artifact_json.specs.Text.{IsSmallRow}
use Rattle.artifact_json.proofs.laws.places_are_small.Given as goal

-- what holds of those left holds of all
abbrev pub invariant-loop-row : goal.invariant-loop-row
invariant-loop-row l = AllByRecursion IsSmallRow (drop l.row-index l.rows) → AllByRecursion IsSmallRow l.rows
