use Rattle.std.proofs.Common.{◌≡◌, ◌+◌, length, map}
use Rattle.spend_json.specs.Given.{value_parts}
use Rattle.unlocker.specs.Spends.{each_element}
use Rattle.unlocker.proofs.Spent.{after}
use Rattle.unlocker.proofs.spends.each_element.Given as goal

-- the elements so far and those of the values that are left are those of all
abbrev pub invariant-rest : goal.invariant-rest
invariant-rest l = record {
  whole : after (map (λ e. e.items) l.elements.items) (each_element l.left (map value_parts l.rest))
      ≡ each_element l.params (map value_parts l.values);
  same : length l.rest ≡ length l.left;
  count : length l.elements.items + length l.left ≡ length l.params;
}

abbrev pub decreases-rest : goal.decreases-rest
decreases-rest l = length l.rest
