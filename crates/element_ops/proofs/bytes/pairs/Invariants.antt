use Rattle.std.proofs.Common.{◌≡◌, ◌++◌, length, drop}
use Rattle.element_ops.specs.Operation.{pairwise}
use Rattle.element_ops.specs.Reads.{bit_of}
use Rattle.element_ops.proofs.bytes.pairs.Given as goal

-- what is left gives the bytes after those so far
abbrev pub invariant-loop-i : goal.invariant-loop-i
invariant-loop-i l =
    (l.element.items ++ pairwise (bit_of l.bits) (drop l.i l.a) (drop l.i l.b) ≡ pairwise (bit_of l.bits) l.a l.b) × (length l.element.items ≡ l.i)
