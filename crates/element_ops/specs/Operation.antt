-- The operations that a contract's source and the machine share, as the Bitcoin Cash specification has them. Elements
-- stand here as their bytes. Arithmetic is on whole numbers without bound, and the range is tested after it.
use Rattle.std.specs.Prelude.{ℕ, ◌+◌, ◌==◌, Bool, not, ◌&&◌, ◌||◌, nat_le, if◌then◌else◌, List, [], ◌∷◌, ◌++◌, length, take, drop, reverse, bit_and, bit_or, bit_xor, ℤ, pos, negsuc, ◌+ℤ◌, ◌-ℤ◌, ◌*ℤ◌, neg_ℤ, unsigned_abs, int_lt, int_le, int_div, int_rem, Result, Ok, Err}
use Rattle.std.specs.Int.{int_min, int_max}
use Rattle.std.specs.Ordering.{int_eq}
use Rattle.std.specs.Str.{bytes_eq}
use Rattle.cash_base.specs.declared.fault.Cause.{Cause}
use Rattle.cash_base.specs.Operand.{operand_number}
use Rattle.cash_base.specs.declared.fault.Cause.TheVariants.{NumberRange, DivideByZero, SplitRange, PadSize, Oversize, LengthDiffers}
use Rattle.cash_base.specs.Failing.{◌>>=◌}
use Rattle.cash_base.specs.Number.{minimal_bytes}
use Rattle.element_ops.specs.Width.{shortest, of_width}
use Rattle.ripemd160.specs.Ripemd160.{ripemd160}
use Rattle.sha1.specs.Sha1.{sha1}
use Rattle.sha2.specs.Sha256.{sha256}
use Rattle.element_ops.specs.declared.op.Op1.{Op1}
use Rattle.element_ops.specs.declared.op.Op1.TheVariants.{Negate, Abs, Not, NonZero, AddOne, SubOne, Size, Reverse, ToNumber, Ripemd160, Sha1, Sha256, Hash160, Hash256}
use Rattle.element_ops.specs.declared.op.Op2.{Op2}
use Rattle.element_ops.specs.declared.op.Op2.TheVariants.{Add, Sub, Mul, Div, Mod, Min, Max, Less, Greater, LessEqual, GreaterEqual, NumEqual, NumNotEqual, BoolAnd, BoolOr, Equal, And, Or, Xor, Cat, Pad}
use Rattle.element_ops.specs.declared.op.Op3.{Op3}
use Rattle.element_ops.specs.declared.op.Op3.TheVariants.{Within}
use Rattle.element_ops.specs.Operand.{number_element, truth_element}

-- what an operation gives
abbrev pub Outcome : Type 0
Outcome = Result (List ℕ) Cause

-- ---- what the rows compute

-- Whether it isn't zero.
abbrev pub is_set : ℤ → Bool
is_set n = not (int_eq n (pos 0))

-- a quotient or a remainder, which zero has none of
abbrev pub divided : (ℤ → ℤ → ℤ) → ℤ → ℤ → Outcome
divided f x y = if is_set y then number_element (f x y) else Err DivideByZero

-- byte by byte, up to the end of the shorter
abbrev pub pairwise : (ℕ → ℕ → ℕ) → List ℕ → List ℕ → List ℕ
pairwise f (x ∷ xs) (y ∷ ys) = f x y ∷ pairwise f xs ys
pairwise f _ _ = []

abbrev pub bytewise : (ℕ → ℕ → ℕ) → List ℕ → List ℕ → Outcome
bytewise f a b = if length a == length b then Ok (pairwise f a b) else Err LengthDiffers

-- both in order, where the element isn't too long
abbrev pub joined : List ℕ → List ℕ → Outcome
joined a b = if nat_le (length a + length b) 520 then Ok (a ++ b) else Err Oversize

-- the shortest form, where it is a number's
abbrev pub shortened : List ℕ → Outcome
shortened a = if nat_le (length (shortest a)) 8 then Ok (shortest a) else Err NumberRange

-- the form of n bytes, where the shortest has at most so many and an element can have so many
abbrev pub padded : List ℕ → ℤ → Outcome
padded a (pos n) = if nat_le n 520 && nat_le (length (shortest a)) n then Ok (of_width n a) else Err PadSize
padded a (negsuc n) = Err PadSize

-- the first n bytes and the rest, where there are so many
abbrev pub cut : List ℕ → ℤ → Result (List ℕ × List ℕ) Cause
cut a (pos n) = if nat_le n (length a) then Ok (take n a, drop n a) else Err SplitRange
cut a (negsuc n) = Err SplitRange

-- ---- the table: one row an operation

-- how the operand is read, the causes that the row can give but for NotANumber, and what it gives
pub data Row1 : Type 0 where
  of_number : List Cause → (ℤ → Outcome) → Row1
  of_bytes : List Cause → (List ℕ → Outcome) → Row1

abbrev pub table1 : Op1 → Row1
table1 Negate = of_number [] (λ x. number_element (neg_ℤ x))
table1 Abs = of_number [] (λ x. number_element (pos (unsigned_abs x)))
table1 Not = of_number [] (λ x. truth_element (not (is_set x)))
table1 NonZero = of_number [] (λ x. truth_element (is_set x))
table1 AddOne = of_number (NumberRange ∷ []) (λ x. number_element (x +ℤ pos 1))
table1 SubOne = of_number (NumberRange ∷ []) (λ x. number_element (x -ℤ pos 1))
table1 Size = of_bytes [] (λ a. Ok (minimal_bytes (pos (length a))))
table1 Reverse = of_bytes [] (λ a. Ok (reverse a))
table1 ToNumber = of_bytes (NumberRange ∷ []) shortened
table1 Ripemd160 = of_bytes [] (λ a. Ok (ripemd160 a))
table1 Sha1 = of_bytes [] (λ a. Ok (sha1 a))
table1 Sha256 = of_bytes [] (λ a. Ok (sha256 a))
table1 Hash160 = of_bytes [] (λ a. Ok (ripemd160 (sha256 a)))
table1 Hash256 = of_bytes [] (λ a. Ok (sha256 (sha256 a)))

-- both operands are read as numbers, or neither, or the second alone
pub data Row2 : Type 0 where
  of_numbers : List Cause → (ℤ → ℤ → Outcome) → Row2
  of_elements : List Cause → (List ℕ → List ℕ → Outcome) → Row2
  of_sized : List Cause → (List ℕ → ℤ → Outcome) → Row2

abbrev pub table2 : Op2 → Row2
table2 Add = of_numbers (NumberRange ∷ []) (λ x y. number_element (x +ℤ y))
table2 Sub = of_numbers (NumberRange ∷ []) (λ x y. number_element (x -ℤ y))
table2 Mul = of_numbers (NumberRange ∷ []) (λ x y. number_element (x *ℤ y))
table2 Div = of_numbers (DivideByZero ∷ []) (divided int_div)
table2 Mod = of_numbers (DivideByZero ∷ []) (divided int_rem)
table2 Min = of_numbers [] (λ x y. number_element (int_min x y))
table2 Max = of_numbers [] (λ x y. number_element (int_max x y))
table2 Less = of_numbers [] (λ x y. truth_element (int_lt x y))
table2 Greater = of_numbers [] (λ x y. truth_element (int_lt y x))
table2 LessEqual = of_numbers [] (λ x y. truth_element (int_le x y))
table2 GreaterEqual = of_numbers [] (λ x y. truth_element (int_le y x))
table2 NumEqual = of_numbers [] (λ x y. truth_element (int_eq x y))
table2 NumNotEqual = of_numbers [] (λ x y. truth_element (not (int_eq x y)))
table2 BoolAnd = of_numbers [] (λ x y. truth_element (is_set x && is_set y))
table2 BoolOr = of_numbers [] (λ x y. truth_element (is_set x || is_set y))
table2 Equal = of_elements [] (λ a b. truth_element (bytes_eq a b))
table2 And = of_elements (LengthDiffers ∷ []) (bytewise bit_and)
table2 Or = of_elements (LengthDiffers ∷ []) (bytewise bit_or)
table2 Xor = of_elements (LengthDiffers ∷ []) (bytewise bit_xor)
table2 Cat = of_elements (Oversize ∷ []) joined
table2 Pad = of_sized (PadSize ∷ []) padded

-- all three operands are read as numbers
pub data Row3 : Type 0 where
  of_three : List Cause → (ℤ → ℤ → ℤ → Outcome) → Row3

abbrev pub table3 : Op3 → Row3
table3 Within = of_three [] (λ x low high. truth_element (int_le low x && int_lt x high))

-- ---- what an operation gives

-- Operands that are numbers are read in order, before anything else.
abbrev pub row_result1 : Row1 → List ℕ → Outcome
row_result1 (of_number causes f) a = do
  x ← operand_number a
  f x
row_result1 (of_bytes causes f) a = f a

abbrev pub row_result2 : Row2 → List ℕ → List ℕ → Outcome
row_result2 (of_numbers causes f) a b = do
  x ← operand_number a
  y ← operand_number b
  f x y
row_result2 (of_elements causes f) a b = f a b
row_result2 (of_sized causes f) a b = do
  n ← operand_number b
  f a n

abbrev pub row_result3 : Row3 → List ℕ → List ℕ → List ℕ → Outcome
row_result3 (of_three causes f) a b c = do
  x ← operand_number a
  y ← operand_number b
  z ← operand_number c
  f x y z

abbrev pub result1 : Op1 → List ℕ → Outcome
result1 op a = row_result1 (table1 op) a

abbrev pub result2 : Op2 → List ℕ → List ℕ → Outcome
result2 op a b = row_result2 (table2 op) a b

abbrev pub result3 : Op3 → List ℕ → List ℕ → List ℕ → Outcome
result3 op a b c = row_result3 (table3 op) a b c

-- A split gives two elements.
abbrev pub split_parts : List ℕ → List ℕ → Result (List ℕ × List ℕ) Cause
split_parts a b = do
  n ← operand_number b
  cut a n
