use Rattle.std.proofs.Common.{◌≡◌, ◌++◌, length, map, true}
use Rattle.script_codec.specs.Reading.{push}
use Rattle.script_codec.specs.Spelling.{are_instructions}
use Rattle.unlocker.proofs.pushes_in_order.Given as goal

-- the pushes so far and those of the elements that are left make the whole, and those so far have a spelling
abbrev pub invariant-rest : goal.invariant-rest
invariant-rest l = record {
  whole : l.code.items ++ map push (map (λ e. e.items) l.rest) ≡ map push (map (λ e. e.items) l.elements);
  spelled : are_instructions l.code.items ≡ true;
}

abbrev pub decreases-rest : goal.decreases-rest
decreases-rest l = length l.rest
