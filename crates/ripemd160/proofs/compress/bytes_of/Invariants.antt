use Rattle.std.proofs.Common.{◌≡◌, ◌++◌, ◌*◌, length, take, drop}
use Rattle.std.specs.Int.{w32, to_le_bytes}
use Rattle.std.specs.List.{flat_map}
use Rattle.ripemd160.proofs.compress.bytes_of.Given as goal

-- the bytes so far and those of the words that are left make the whole
abbrev pub invariant-loop-i : goal.invariant-loop-i
invariant-loop-i l =
    (length l.bytes ≡ 20)
    × (take (4 * l.i) l.bytes ++ flat_map (to_le_bytes w32) (drop l.i l.words) ≡ flat_map (to_le_bytes w32) l.words)
