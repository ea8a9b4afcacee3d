-- Which operations can't fail by an operand that is no number.
use Rattle.std.proofs.Common.{◌≡◌, ℕ, ℤ, Bool, true, false, cond, List, length, leb, eqb, ◌+◌, ◌&&◌, pos, negsuc, neg_ℤ, ◌+ℤ◌, ◌-ℤ◌, ◌*ℤ◌, Some, Result, Ok, Err, refl, sym, subst}
use Rattle.std.specs.Prelude.{unsigned_abs, int_div, int_rem}
use Rattle.std.specs.Int.{int_min, int_max}
use Rattle.cash_base.specs.declared.fault.Cause.{Cause}
use Rattle.cash_base.specs.declared.fault.Cause.TheVariants.{NotANumber, NumberRange, DivideByZero, SplitRange, PadSize, Oversize, LengthDiffers}
use Rattle.cash_base.specs.Failing.{◌>>=◌}
use Rattle.cash_base.specs.Number.{number_of, minimal_bytes}
use Rattle.cash_base.specs.Operand.{operand_number, number_or_cause}
use Rattle.element_ops.specs.declared.op.Op1.{Op1}
use Rattle.element_ops.specs.declared.op.Op1.TheVariants as one
use Rattle.element_ops.specs.declared.op.Op2.{Op2}
use Rattle.element_ops.specs.declared.op.Op2.TheVariants as two
use Rattle.element_ops.specs.declared.op.Op3.{Op3}
use Rattle.element_ops.specs.declared.op.Op3.TheVariants as three
use Rattle.element_ops.specs.Operand.{number_element, is_in_range}
use Rattle.element_ops.specs.Width.{shortest}
use Rattle.element_ops.specs.Operation.{Outcome, is_set, divided, bytewise, joined, shortened, padded, cut, result1, result2, result3, split_parts}

-- an operand that is no number
abbrev pub is_no_number : Cause → Bool
is_no_number NotANumber = true
is_no_number _ = false

-- no failure says so
abbrev pub Calm : {A : Type 0} → Result A Cause → Type 0
Calm (Ok x) = Unit {0}
Calm (Err cause) = is_no_number cause ≡ false

abbrev pub IsNumber : List ℕ → Type 0
IsNumber e = (n : ℤ) × (number_of e ≡ Some n)

-- ---- tests and operands

pub tested : {A : Type 0} (test : Bool) (x : A) (cause : Cause) → is_no_number cause ≡ false → Calm (cond test (Ok x) (Err cause))
tested true x cause calm = tt
tested false x cause calm = calm

tested_more : {A : Type 0} (test : Bool) (r : Result A Cause) (cause : Cause) → Calm r → is_no_number cause ≡ false → Calm (cond test r (Err cause))
tested_more true r cause more calm = more
tested_more false r cause more calm = calm

pub read : {A : Type 0} (e : List ℕ) (f : ℤ → Result A Cause) → IsNumber e → ((n : ℤ) → Calm (f n)) → Calm (operand_number e >>= f)
read e f number calm = subst (λ o. Calm (number_or_cause o >>= f)) (sym number.1) (calm number.0)

-- ---- results

pub number_calm : (n : ℤ) → Calm (number_element n)
number_calm n = tested (is_in_range n) (minimal_bytes n) NumberRange refl

divided_calm : (f : ℤ → ℤ → ℤ) (x y : ℤ) → Calm (divided f x y)
divided_calm f x y = tested_more (is_set y) (number_element (f x y)) DivideByZero (number_calm (f x y)) refl

bytewise_calm : (f : ℕ → ℕ → ℕ) (a b : List ℕ) → Calm (bytewise f a b)
bytewise_calm f a b = tested (eqb (length a) (length b)) _ LengthDiffers refl

pub joined_calm : (a b : List ℕ) → Calm (joined a b)
joined_calm a b = tested (leb (length a + length b) 520) _ Oversize refl

pub shortened_calm : (a : List ℕ) → Calm (shortened a)
shortened_calm a = tested (leb (length (shortest a)) 8) _ NumberRange refl

padded_calm : (a : List ℕ) (n : ℤ) → Calm (padded a n)
padded_calm a (pos n) = tested (leb n 520 && leb (length (shortest a)) n) _ PadSize refl
padded_calm a (negsuc n) = refl

cut_calm : (a : List ℕ) (n : ℤ) → Calm (cut a n)
cut_calm a (pos n) = tested (leb n (length a)) _ SplitRange refl
cut_calm a (negsuc n) = refl

-- ---- operations on numbers

read_both : (a b : List ℕ) (f : ℤ → ℤ → Outcome) → IsNumber a → IsNumber b → ((x y : ℤ) → Calm (f x y)) → Calm (operand_number a >>= λ x. operand_number b >>= f x)
read_both a b f first second calm = read a _ first (λ x. read b (f x) second (calm x))

pub calm1 : (op : Op1) (a : List ℕ) → IsNumber a → Calm (result1 op a)
calm1 one.Negate a number = read a _ number (λ x. number_calm (neg_ℤ x))
calm1 one.Abs a number = read a _ number (λ x. number_calm (pos (unsigned_abs x)))
calm1 one.Not a number = read a _ number (λ x. tt)
calm1 one.NonZero a number = read a _ number (λ x. tt)
calm1 one.AddOne a number = read a _ number (λ x. number_calm (x +ℤ pos 1))
calm1 one.SubOne a number = read a _ number (λ x. number_calm (x -ℤ pos 1))
calm1 one.Size a number = tt
calm1 one.Reverse a number = tt
calm1 one.ToNumber a number = shortened_calm a
calm1 one.Ripemd160 a number = tt
calm1 one.Sha1 a number = tt
calm1 one.Sha256 a number = tt
calm1 one.Hash160 a number = tt
calm1 one.Hash256 a number = tt

pub calm2 : (op : Op2) (a b : List ℕ) → IsNumber a → IsNumber b → Calm (result2 op a b)
calm2 two.Add a b first second = read_both a b _ first second (λ x y. number_calm (x +ℤ y))
calm2 two.Sub a b first second = read_both a b _ first second (λ x y. number_calm (x -ℤ y))
calm2 two.Mul a b first second = read_both a b _ first second (λ x y. number_calm (x *ℤ y))
calm2 two.Div a b first second = read_both a b _ first second (λ x y. divided_calm int_div x y)
calm2 two.Mod a b first second = read_both a b _ first second (λ x y. divided_calm int_rem x y)
calm2 two.Min a b first second = read_both a b _ first second (λ x y. number_calm (int_min x y))
calm2 two.Max a b first second = read_both a b _ first second (λ x y. number_calm (int_max x y))
calm2 two.Less a b first second = read_both a b _ first second (λ x y. tt)
calm2 two.Greater a b first second = read_both a b _ first second (λ x y. tt)
calm2 two.LessEqual a b first second = read_both a b _ first second (λ x y. tt)
calm2 two.GreaterEqual a b first second = read_both a b _ first second (λ x y. tt)
calm2 two.NumEqual a b first second = read_both a b _ first second (λ x y. tt)
calm2 two.NumNotEqual a b first second = read_both a b _ first second (λ x y. tt)
calm2 two.BoolAnd a b first second = read_both a b _ first second (λ x y. tt)
calm2 two.BoolOr a b first second = read_both a b _ first second (λ x y. tt)
calm2 two.Equal a b first second = tt
calm2 two.And a b first second = bytewise_calm _ a b
calm2 two.Or a b first second = bytewise_calm _ a b
calm2 two.Xor a b first second = bytewise_calm _ a b
calm2 two.Cat a b first second = joined_calm a b
calm2 two.Pad a b first second = read b _ second (λ n. padded_calm a n)

pub calm3 : (op : Op3) (a b c : List ℕ) → IsNumber a → IsNumber b → IsNumber c → Calm (result3 op a b c)
calm3 three.Within a b c first second third = read a _ first (λ x. read_both b c _ second third (λ y z. tt))

-- ---- those that read no number, or the second operand alone

pub and_calm : (a b : List ℕ) → Calm (result2 two.And a b)
and_calm a b = bytewise_calm _ a b

pub or_calm : (a b : List ℕ) → Calm (result2 two.Or a b)
or_calm a b = bytewise_calm _ a b

pub xor_calm : (a b : List ℕ) → Calm (result2 two.Xor a b)
xor_calm a b = bytewise_calm _ a b

pub pad_calm : (a b : List ℕ) → IsNumber b → Calm (result2 two.Pad a b)
pad_calm a b second = read b _ second (λ n. padded_calm a n)

pub split_calm : (a b : List ℕ) → IsNumber b → Calm (split_parts a b)
split_calm a b second = read b (cut a) second (λ n. cut_calm a n)
