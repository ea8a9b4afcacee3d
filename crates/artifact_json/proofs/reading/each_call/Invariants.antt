use Rattle.std.proofs.Common.{◌≡◌, drop}
use Rattle.serde_json.specs.View.{items_view}
use Rattle.json_fields.specs.Fields.{each}
use Rattle.json_fields.proofs.Items.{with_front}
use Rattle.artifact_json.specs.Reading.{call_of}
use Rattle.artifact_json.proofs.reading.each_call.Given as goal

abbrev pub invariant-loop-item : goal.invariant-loop-item
invariant-loop-item l = with_front l.calls.items (each call_of (items_view (drop l.item-index l.items))) ≡ each call_of (items_view l.items)
