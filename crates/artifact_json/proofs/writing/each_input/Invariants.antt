use Rattle.std.proofs.Common.{◌≡◌, map, take}
use Rattle.serde_json.specs.View.{view}
use Rattle.artifact_json.specs.Text.{input_value}
use Rattle.artifact_json.proofs.writing.each_input.Given as goal

-- the values so far are those of the front
abbrev pub invariant-loop-input : goal.invariant-loop-input
invariant-loop-input l = map view l.values.items ≡ map input_value (take l.input-index l.inputs)
