-- Numbers, truth values and their elements.
use Rattle.std.proofs.Common.{◌≡◌, ℕ, zero, suc, ◌/◌, ◌%◌, ◌^◌, ◌<◌, ◌≤◌, inl, inr, Bool, true, false, cond, List, [], ◌∷◌, refl, sym, subst, arith, lit<, ℤ, pos, negsuc, neg_ℤ, Option, Some, None, Ok, Err}
use Rattle.std.specs.Prelude.{unsigned_abs, int_div, int_rem, Contains}
use Rattle.std.specs.Int.{int_min, int_max}
use Rattle.std.proofs.lemmas.Bool.{lt-ltb, ltb-true}
use Rattle.cash_base.specs.declared.fault.Cause.{Cause}
use Rattle.cash_base.specs.Operand.{operand_number, number_or_cause}
use Rattle.cash_base.specs.declared.fault.Cause.TheVariants.{NotANumber, NumberRange, DivideByZero}
use Rattle.cash_base.specs.Failing.{◌>>=◌}
use Rattle.cash_base.specs.Element.{IsElement}
use Rattle.cash_base.specs.Number.{number_of, minimal_bytes}
use Rattle.cash_base.proofs.Laws.{number_of-minimal_bytes, minimal_bytes-number_of}
use Rattle.cash_base.proofs.Widths.{minimal_bytes-IsElement}
use Rattle.element_ops.specs.Operand.{is_in_range, number_element, truth_element}
use Rattle.element_ops.specs.Operation.{Outcome, is_set, divided}
use Rattle.element_ops.specs.Causes.{Kind, Kind.number, Kind.truth, Obeys}

-- ---- causes

pub first_cause : (cause : Cause) (causes : List Cause) → Contains (cause ∷ causes) cause
first_cause cause causes = (0, omega arith, refl)

later_cause : (cause first : Cause) (causes : List Cause) → Contains causes cause → Contains (first ∷ causes) cause
later_cause cause first causes h = (suc h.0, (let within = h.1 in omega (arith, within)), h.2)

-- one cause more
pub more_causes : (cause : Cause) (causes : List Cause) (kind : Kind) (outcome : Outcome) → Obeys causes kind outcome → Obeys (cause ∷ causes) kind outcome
more_causes cause causes kind (Ok e) h = record { element = h.element; kind_is = h.kind_is; cause = tt }
more_causes cause causes kind (Err c) h = record { element = tt; kind_is = tt; cause = later_cause c cause causes h.cause }

-- the only cause
pub fails-Obeys : (cause : Cause) (causes : List Cause) (kind : Kind) → Obeys (cause ∷ causes) kind (Err cause)
fails-Obeys cause causes kind = record { element = tt; kind_is = tt; cause = first_cause cause causes }

-- ---- results

pub truth-Obeys : (value : Bool) → Obeys [] truth (truth_element value)
truth-Obeys true = record { element = record { size = omega arith; bytes = (lit< tt, tt) }; kind_is = inl refl; cause = tt }
truth-Obeys false = record { element = record { size = omega arith; bytes = tt }; kind_is = inr refl; cause = tt }

IsInRange : ℤ → Type 0
IsInRange n = unsigned_abs n < 2 ^ 63

-- a number that an element can stand for
pub written-Obeys : (n : ℤ) → unsigned_abs n < 2 ^ 63 → Obeys [] number (Ok (minimal_bytes n))
written-Obeys n within = record { element = minimal_bytes-IsElement n; kind_is = (n, number_of-minimal_bytes n within); cause = tt }

pub within-Obeys : (n : ℤ) → unsigned_abs n < 2 ^ 63 → Obeys [] number (number_element n)
within-Obeys n within = subst (λ t. Obeys [] number (cond t (Ok (minimal_bytes n)) (Err NumberRange))) (sym (lt-ltb (unsigned_abs n) (2 ^ 63) within)) (written-Obeys n within)

-- any number
pub number-Obeys : (n : ℤ) → Obeys (NumberRange ∷ []) number (number_element n)
number-Obeys n = by_size (is_in_range n) refl
  where
    by_size : (t : Bool) → is_in_range n ≡ t → Obeys (NumberRange ∷ []) number (cond t (Ok (minimal_bytes n)) (Err NumberRange))
    by_size true is = more_causes NumberRange [] number (Ok (minimal_bytes n)) (written-Obeys n (ltb-true (unsigned_abs n) (2 ^ 63) is))
    by_size false is = fails-Obeys NumberRange [] number

-- ---- operands

-- the rest of an operation after an operand that is read as a number
pub reads-Obeys : (a : List ℕ) (causes : List Cause) (kind : Kind) (f : ℤ → Outcome) → IsElement a → Contains causes NotANumber → ((x : ℤ) → unsigned_abs x < 2 ^ 63 → Obeys causes kind (f x)) → Obeys causes kind (operand_number a >>= f)
reads-Obeys a causes kind f element listed obeys = by_number (number_of a) refl
  where
    by_number : (o : Option ℤ) → number_of a ≡ o → Obeys causes kind (number_or_cause o >>= f)
    by_number None is = record { element = tt; kind_is = tt; cause = listed }
    by_number (Some x) is = obeys x (minimal_bytes-number_of a x element.bytes is).1

-- ---- bounds

pub unsigned_abs-neg : (n : ℤ) → unsigned_abs (neg_ℤ n) ≡ unsigned_abs n
unsigned_abs-neg (pos zero) = refl
unsigned_abs-neg (pos (suc n)) = refl
unsigned_abs-neg (negsuc n) = refl

quotient_below : (a b : ℕ) → a / b ≤ a
quotient_below a zero = omega arith
quotient_below a (suc b) = omega arith

pub unsigned_abs-int_div : (x y : ℤ) → unsigned_abs (int_div x y) ≤ unsigned_abs x
unsigned_abs-int_div (pos a) (pos b) = quotient_below a b
unsigned_abs-int_div (pos a) (negsuc b) = rw (unsigned_abs-neg (pos (a / suc b))) (quotient_below a (suc b))
unsigned_abs-int_div (negsuc a) (pos b) = rw (unsigned_abs-neg (pos (suc a / b))) (quotient_below (suc a) b)
unsigned_abs-int_div (negsuc a) (negsuc b) = quotient_below (suc a) (suc b)

remainder_below : (a b : ℕ) → a % b ≤ a
remainder_below a zero = omega arith
remainder_below a (suc b) = omega arith

pub unsigned_abs-int_rem : (x y : ℤ) → unsigned_abs (int_rem x y) ≤ unsigned_abs x
unsigned_abs-int_rem (pos a) y = remainder_below a (unsigned_abs y)
unsigned_abs-int_rem (negsuc a) y = rw (unsigned_abs-neg (pos (suc a % unsigned_abs y))) (remainder_below (suc a) (unsigned_abs y))

one_of : (t : Bool) (x y : ℤ) → unsigned_abs x < 2 ^ 63 → unsigned_abs y < 2 ^ 63 → unsigned_abs (cond t x y) < 2 ^ 63
one_of true x y within_x within_y = within_x
one_of false x y within_x within_y = within_y

pub least-Obeys : (x y : ℤ) → unsigned_abs x < 2 ^ 63 → unsigned_abs y < 2 ^ 63 → Obeys [] number (number_element (int_min x y))
least-Obeys x y within_x within_y = within-Obeys (int_min x y) (one_of _ y x within_y within_x)

pub greatest-Obeys : (x y : ℤ) → unsigned_abs x < 2 ^ 63 → unsigned_abs y < 2 ^ 63 → Obeys [] number (number_element (int_max x y))
greatest-Obeys x y within_x within_y = within-Obeys (int_max x y) (one_of _ x y within_x within_y)

pub divided-Obeys : (f : ℤ → ℤ → ℤ) (x y : ℤ) → unsigned_abs (f x y) < 2 ^ 63 → Obeys (DivideByZero ∷ []) number (divided f x y)
divided-Obeys f x y within = by_divisor (is_set y)
  where
    by_divisor : (t : Bool) → Obeys (DivideByZero ∷ []) number (cond t (number_element (f x y)) (Err DivideByZero))
    by_divisor true = more_causes DivideByZero [] number (number_element (f x y)) (within-Obeys (f x y) within)
    by_divisor false = fails-Obeys DivideByZero [] number
