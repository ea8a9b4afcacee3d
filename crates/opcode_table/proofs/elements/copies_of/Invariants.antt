use Rattle.std.proofs.Common.{◌≡◌, ◌++◌, length, map, drop}
use Rattle.opcode_table.proofs.elements.copies_of.Given as goal

-- what is left stands after the copies so far
abbrev pub invariant-elements : goal.invariant-elements
invariant-elements l =
    (length l.copies.items ≡ l.e-index)
    × (map (λ e. e.items) l.copies.items ++ map (λ e. e.items) (drop l.e-index l.elements) ≡ map (λ e. e.items) l.elements)
