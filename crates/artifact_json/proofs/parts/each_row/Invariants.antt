use Rattle.std.proofs.Common.{◌≡◌, drop}
use Rattle.serde_json.specs.View.{items_view}
use Rattle.json_fields.specs.Fields.{each}
use Rattle.json_fields.proofs.Items.{with_front}
use Rattle.artifact_json.specs.Reading.{row_of}
use Rattle.artifact_json.proofs.parts.each_row.Given as goal

abbrev pub invariant-loop-item : goal.invariant-loop-item
invariant-loop-item l = with_front l.rows.items (each (row_of l.size) (items_view (drop l.item-index l.items))) ≡ each (row_of l.size) (items_view l.items)
