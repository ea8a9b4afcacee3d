-- A slice of elements as a stack.
use Rattle.std.specs.Prelude.{ℕ, List, map, reverse}
use Rattle.arrayvec.specs.ArrayVec.{ArrayVec}
use Rattle.opcode_table.specs.Stack.{Stack}

-- the bytes of each, where the last is the top
abbrev pub turned : List (ArrayVec ℕ) → Stack
turned elements = reverse (map (λ e. e.items) elements)
