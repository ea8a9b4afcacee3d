use Rattle.std.proofs.Common.{◌≡◌, drop, map}
use Rattle.serde_json.specs.View.{items_view}
use Rattle.json_fields.specs.Fields.{each}
use Rattle.json_fields.proofs.Items.{with_front}
use Rattle.spend_json.specs.Choices.{push_of}
use Rattle.spend_json.proofs.choice.each_push.Given as goal

abbrev pub invariant-loop-item : goal.invariant-loop-item
invariant-loop-item l = with_front (map (λ e. e.items) l.pushes.items) (each push_of (items_view (drop l.item-index l.items))) ≡ each push_of (items_view l.items)
