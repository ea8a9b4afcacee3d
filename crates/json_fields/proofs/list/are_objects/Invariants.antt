use Rattle.std.proofs.Common.{◌≡◌, drop}
use Rattle.serde_json.specs.View.{items_view}
use Rattle.json_fields.specs.Fields.{all_of, is_object}
use Rattle.json_fields.proofs.list.are_objects.Given as goal

abbrev pub invariant-loop-item : goal.invariant-loop-item
invariant-loop-item l = all_of is_object (items_view (drop l.item-index l.items)) ≡ all_of is_object (items_view l.items)
