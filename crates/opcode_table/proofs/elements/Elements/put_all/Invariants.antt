use Rattle.std.proofs.Common.{◌≡◌, ◌+◌, length, map, drop}
use Rattle.opcode_table.specs.Stack.{put_on}
use Rattle.opcode_table.proofs.elements.Elements.put_all.Given as goal

-- what is left, put from here on, makes the whole
abbrev pub invariant-numbers : goal.invariant-numbers
invariant-numbers l =
    (put_on l.self (map (λ e. e.items) l.operands) (drop l.number-index l.numbers)
    ≡ put_on l.initial.self (map (λ e. e.items) l.operands) l.numbers)
    × (length l.self + length (drop l.number-index l.numbers) ≡ length l.initial.self + length l.numbers)
