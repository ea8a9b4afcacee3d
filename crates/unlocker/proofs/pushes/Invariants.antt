use Rattle.std.proofs.Common.{◌≡◌, ◌+◌, ◌*◌, ◌≤◌, ◌++◌, length, map, reverse, true}
use Rattle.script_codec.specs.Reading.{push}
use Rattle.script_codec.specs.Spelling.{are_instructions, spellings}
use Rattle.unlocker.proofs.pushes.Given as goal

-- the pushes so far and those of the elements that are left make the whole, and those so far have a spelling of the size
abbrev pub invariant-rest : goal.invariant-rest
invariant-rest l = record {
  whole : l.code.items ++ map push (reverse (map (λ e. e.items) l.rest))
      ≡ map push (reverse (map (λ e. e.items) l.elements));
  spelled : are_instructions l.code.items ≡ true;
  size : length (spellings l.code.items) + 523 * length l.rest ≤ 523 * length l.elements;
}

abbrev pub decreases-rest : goal.decreases-rest
decreases-rest l = length l.rest
