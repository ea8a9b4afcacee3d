use Rattle.std.proofs.Common.{◌≡◌, map, take}
use Rattle.serde_json.specs.View.{view}
use Rattle.artifact_json.specs.Text.{call_value}
use Rattle.artifact_json.proofs.writing.each_call.Given as goal

-- the values so far are those of the front
abbrev pub invariant-loop-call : goal.invariant-loop-call
invariant-loop-call l = map view l.values.items ≡ map call_value (take l.call-index l.calls)
