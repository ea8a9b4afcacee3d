use Rattle.std.proofs.Common.{◌≡◌, drop}
use Rattle.serde_json.specs.View.{items_view}
use Rattle.json_fields.specs.Fields.{all_of}
use Rattle.spend_json.specs.Values.{has_hex}
use Rattle.spend_json.proofs.values.all_have_hex.Given as goal

abbrev pub invariant-loop-item : goal.invariant-loop-item
invariant-loop-item l = all_of has_hex (items_view (drop l.item-index l.items)) ≡ all_of has_hex (items_view l.items)
