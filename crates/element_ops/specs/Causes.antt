-- Which causes an operation can give, and of what kind its results are.
use Rattle.std.specs.Prelude.{◌≡◌, ◌⊎◌, ℕ, true, false, List, [], ◌∷◌, ◌++◌, ℤ, Some, IfOk, IfErr, Contains}
use Rattle.cash_base.specs.declared.fault.Cause.{Cause}
use Rattle.cash_base.specs.declared.fault.Cause.TheVariants.{NotANumber, SplitRange}
use Rattle.cash_base.specs.Element.{IsElement}
use Rattle.cash_base.specs.Number.{number_of}
use Rattle.element_ops.specs.declared.op.Op1.{Op1}
use Rattle.element_ops.specs.declared.op.Op1.TheVariants.{Negate, Abs, Not, NonZero, AddOne, SubOne, Size, Reverse, ToNumber, Ripemd160, Sha1, Sha256, Hash160, Hash256}
use Rattle.element_ops.specs.declared.op.Op2.{Op2}
use Rattle.element_ops.specs.declared.op.Op2.TheVariants.{Add, Sub, Mul, Div, Mod, Min, Max, Less, Greater, LessEqual, GreaterEqual, NumEqual, NumNotEqual, BoolAnd, BoolOr, Equal, And, Or, Xor, Cat, Pad}
use Rattle.element_ops.specs.declared.op.Op3.{Op3}
use Rattle.element_ops.specs.declared.op.Op3.TheVariants.{Within}
use Rattle.cash_base.specs.Operand.{truth_bytes}
use Rattle.element_ops.specs.Operation.{Outcome, Row1, Row1.of_number, Row1.of_bytes, table1, Row2, Row2.of_numbers, Row2.of_elements, Row2.of_sized, table2, Row3, Row3.of_three, table3, result1, result2, result3, split_parts}

-- ---- causes

-- A row that reads a number can give NotANumber beside its own causes.
abbrev pub row_causes1 : Row1 → List Cause
row_causes1 (of_number causes f) = NotANumber ∷ causes
row_causes1 (of_bytes causes f) = causes

abbrev pub row_causes2 : Row2 → List Cause
row_causes2 (of_numbers causes f) = NotANumber ∷ causes
row_causes2 (of_elements causes f) = causes
row_causes2 (of_sized causes f) = NotANumber ∷ causes

abbrev pub row_causes3 : Row3 → List Cause
row_causes3 (of_three causes f) = NotANumber ∷ causes

abbrev pub causes1 : Op1 → List Cause
causes1 op = row_causes1 (table1 op)

abbrev pub causes2 : Op2 → List Cause
causes2 op = row_causes2 (table2 op)

abbrev pub causes3 : Op3 → List Cause
causes3 op = row_causes3 (table3 op)

abbrev pub split_causes : List Cause
split_causes = NotANumber ∷ SplitRange ∷ []

-- ---- kinds of results

pub data Kind : Type 0 where
  number : Kind
  truth : Kind
  bytes : Kind

abbrev pub kind1 : Op1 → Kind
kind1 Negate = Kind.number
kind1 Abs = Kind.number
kind1 Not = Kind.truth
kind1 NonZero = Kind.truth
kind1 AddOne = Kind.number
kind1 SubOne = Kind.number
kind1 Size = Kind.number
kind1 Reverse = Kind.bytes
kind1 ToNumber = Kind.number
kind1 Ripemd160 = Kind.bytes
kind1 Sha1 = Kind.bytes
kind1 Sha256 = Kind.bytes
kind1 Hash160 = Kind.bytes
kind1 Hash256 = Kind.bytes

abbrev pub kind2 : Op2 → Kind
kind2 Add = Kind.number
kind2 Sub = Kind.number
kind2 Mul = Kind.number
kind2 Div = Kind.number
kind2 Mod = Kind.number
kind2 Min = Kind.number
kind2 Max = Kind.number
kind2 Less = Kind.truth
kind2 Greater = Kind.truth
kind2 LessEqual = Kind.truth
kind2 GreaterEqual = Kind.truth
kind2 NumEqual = Kind.truth
kind2 NumNotEqual = Kind.truth
kind2 BoolAnd = Kind.truth
kind2 BoolOr = Kind.truth
kind2 Equal = Kind.truth
kind2 And = Kind.bytes
kind2 Or = Kind.bytes
kind2 Xor = Kind.bytes
kind2 Cat = Kind.bytes
kind2 Pad = Kind.bytes

abbrev pub kind3 : Op3 → Kind
kind3 Within = Kind.truth

-- An element of this kind: a number is minimal, and a truth value is 01 or empty.
abbrev pub IsOfKind : Kind → List ℕ → Type 0
IsOfKind Kind.number e = (n : ℤ) × (number_of e ≡ Some n)
IsOfKind Kind.truth e = (e ≡ truth_bytes true) ⊎ (e ≡ truth_bytes false)
IsOfKind Kind.bytes e = Unit {0}

-- ---- the laws

-- a result is an element of this kind, and a failure has one of these causes
pub record Obeys (causes : List Cause) (kind : Kind) (outcome : Outcome) : Type 0 where
  pub element : IfOk outcome IsElement
  pub kind_is : IfOk outcome (IsOfKind kind)
  pub cause : IfErr outcome (Contains causes)

abbrev pub Obeys1 : Op1 → List ℕ → Type 0
Obeys1 op a = IsElement a → Obeys (causes1 op) (kind1 op) (result1 op a)

abbrev pub Obeys2 : Op2 → List ℕ → List ℕ → Type 0
Obeys2 op a b = IsElement a → IsElement b → Obeys (causes2 op) (kind2 op) (result2 op a b)

abbrev pub Obeys3 : Op3 → List ℕ → List ℕ → List ℕ → Type 0
Obeys3 op a b c = IsElement a → IsElement b → IsElement c → Obeys (causes3 op) (kind3 op) (result3 op a b c)

-- Both parts of a split are elements, which together are the whole.
pub record ObeysSplit (a b : List ℕ) : Type 0 where
  pub parts : IfOk (split_parts a b) (λ p. IsElement p.0 × IsElement p.1 × (p.0 ++ p.1 ≡ a))
  pub cause : IfErr (split_parts a b) (Contains split_causes)
