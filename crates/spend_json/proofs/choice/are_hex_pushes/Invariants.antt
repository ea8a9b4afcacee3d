use Rattle.std.proofs.Common.{◌≡◌, drop}
use Rattle.serde_json.specs.View.{items_view}
use Rattle.json_fields.specs.Fields.{all_of}
use Rattle.spend_json.specs.Choices.{is_hex_push}
use Rattle.spend_json.proofs.choice.are_hex_pushes.Given as goal

abbrev pub invariant-loop-item : goal.invariant-loop-item
invariant-loop-item l = all_of is_hex_push (items_view (drop l.item-index l.items)) ≡ all_of is_hex_push (items_view l.items)
