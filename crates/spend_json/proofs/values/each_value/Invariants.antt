use Rattle.std.proofs.Common.{◌≡◌, drop, map}
use Rattle.serde_json.specs.View.{items_view}
use Rattle.json_fields.specs.Fields.{each}
use Rattle.json_fields.proofs.Items.{with_front}
use Rattle.spend_json.specs.Values.{value_of}
use Rattle.spend_json.specs.Given.{value_parts}
use Rattle.spend_json.proofs.values.each_value.Given as goal

abbrev pub invariant-loop-item : goal.invariant-loop-item
invariant-loop-item l = with_front (map value_parts l.values.items) (each (value_of l.field) (items_view (drop l.item-index l.items))) ≡ each (value_of l.field) (items_view l.items)
