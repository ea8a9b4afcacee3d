use Rattle.std.proofs.Common.{◌≡◌, ◌++◌, length, map, take, drop}
use Rattle.std.specs.Int.{w32, from_le_bytes}
use Rattle.ripemd160.proofs.compress.words_of.Given as goal

-- the words so far and those of the bytes that are left make the whole
abbrev pub invariant-loop-i : goal.invariant-loop-i
invariant-loop-i l =
    (length l.words ≡ 16)
    × (take l.i l.words ++ map (from_le_bytes w32) (drop l.i l.quads) ≡ map (from_le_bytes w32) l.quads)
