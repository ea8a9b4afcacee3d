use Rattle.std.proofs.Common.{◌≡◌, drop}
use Rattle.serde_json.specs.View.{items_view}
use Rattle.json_fields.specs.Fields.{all_of}
use Rattle.spend_json.specs.Values.{is_value}
use Rattle.spend_json.proofs.values.are_values.Given as goal

abbrev pub invariant-loop-item : goal.invariant-loop-item
invariant-loop-item l = all_of is_value (items_view (drop l.item-index l.items)) ≡ all_of is_value (items_view l.items)
