-- Parts of the code.
use Rattle.std.specs.Prelude.{List, ℕ, ℤ, Bool, true, false, bit_and, bit_or, bit_xor, ◌&&◌, int_le, int_lt, Err}
use Rattle.cash_base.specs.declared.fault.Cause.TheVariants.{NotANumber}
use Rattle.cash_base.specs.Failing.{◌>>=◌}
use Rattle.element_ops.specs.declared.op.Op1.{Op1}
use Rattle.element_ops.specs.declared.op.Op2.{Op2}
use Rattle.element_ops.specs.declared.op.Op3.{Op3}
use Rattle.element_ops.specs.declared.op.Op3.TheVariants.{Within}
use Rattle.element_ops.specs.declared.bytes.Bits.{Bits}
use Rattle.element_ops.specs.declared.bytes.Bits.TheVariants as bits
use Rattle.cash_base.specs.Operand.{operand_number}
use Rattle.element_ops.specs.Operation.{Outcome, Row1, Row1.of_number, table1, Row2, Row2.of_numbers, table2, padded}

-- both operands are read as numbers
abbrev pub is_of_numbers : Row2 → Bool
is_of_numbers (of_numbers causes f) = true
is_of_numbers _ = false

abbrev pub reads_numbers : Op2 → Bool
reads_numbers op = is_of_numbers (table2 op)

-- what a row gives for two numbers, where it reads its operands so
abbrev pub numbers_result : Row2 → ℤ → ℤ → Outcome
numbers_result (of_numbers causes f) x y = f x y
numbers_result _ x y = Err NotANumber

-- the bits of two bytes
abbrev pub bit_of : Bits → ℕ → ℕ → ℕ
bit_of bits.And = bit_and
bit_of bits.Or = bit_or
bit_of bits.Xor = bit_xor

-- the form of so many bytes as the second operand says
abbrev pub padded_to : List ℕ → List ℕ → Outcome
padded_to a b = do
  n ← operand_number b
  padded a n

-- the operand is read as a number
abbrev pub is_of_number : Row1 → Bool
is_of_number (of_number causes f) = true
is_of_number _ = false

abbrev pub reads_number : Op1 → Bool
reads_number op = is_of_number (table1 op)

-- what a row gives for a number, where it reads its operand so
abbrev pub number_result : Row1 → ℤ → Outcome
number_result (of_number causes f) x = f x
number_result _ x = Err NotANumber

-- whether the first number is within the others
abbrev pub within : Op3 → ℤ → ℤ → ℤ → Bool
within Within x low high = int_le low x && int_lt x high
