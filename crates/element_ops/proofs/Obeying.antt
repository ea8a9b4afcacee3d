-- Each operation obeys its causes and its kind.
use Rattle.std.proofs.Common.{◌≡◌, ℕ, zero, suc, ◌+◌, ◌^◌, ◌<◌, ◌≤◌, Bool, true, false, ◌&&◌, leb, eqb, cond, List, [], ◌∷◌, ◌++◌, length, take, drop, reverse, refl, ap, arith, ℤ, pos, negsuc, neg_ℤ, ◌+ℤ◌, ◌-ℤ◌, ◌*ℤ◌, Option, Some, None, Result, Ok, Err, length-append, bit_and, bit_or, bit_xor}
use Rattle.std.specs.Prelude.{unsigned_abs, int_div, int_rem, Contains, IfOk, IfErr}
use Rattle.std.proofs.lemmas.List.{take-append-drop, length-reverse}
use Rattle.std.proofs.lemmas.Bool.{and_parts, leb-true}
use mathlib.Core.List.{reverse_aux}
use Rattle.std.proofs.lemmas.Nat.{and_le_l, or_of_8, xor_of_8}
use Rattle.cash_base.specs.declared.fault.Cause.{Cause}
use Rattle.cash_base.specs.declared.fault.Cause.TheVariants.{NotANumber, NumberRange, DivideByZero, SplitRange, PadSize, Oversize, LengthDiffers}
use Rattle.cash_base.specs.Failing.{◌>>=◌}
use Rattle.cash_base.specs.Element.{IsElement}
use Rattle.cash_base.specs.Number.{number_of, IsBytes}
use Rattle.element_ops.specs.Width.{shortest, of_width}
use Rattle.cash_base.proofs.Reading.{number_read}
use Rattle.element_ops.proofs.Widths.{shortest-IsShortestOf, of_width-HasWidth}
use Rattle.element_ops.specs.declared.op.Op1.{Op1}
use Rattle.element_ops.specs.declared.op.Op1.TheVariants as one
use Rattle.element_ops.specs.declared.op.Op2.{Op2}
use Rattle.element_ops.specs.declared.op.Op2.TheVariants as two
use Rattle.element_ops.specs.declared.op.Op3.{Op3}
use Rattle.element_ops.specs.declared.op.Op3.TheVariants as three
use Rattle.cash_base.specs.Operand.{operand_number, number_or_cause}
use Rattle.element_ops.specs.Operation.{Outcome, pairwise, bytewise, joined, shortened, padded, cut}
use Rattle.element_ops.specs.Causes.{Kind, Kind.number, Kind.truth, Kind.bytes, Obeys, Obeys1, Obeys2, Obeys3, ObeysSplit, split_causes}
use Rattle.element_ops.proofs.Values.{first_cause, more_causes, fails-Obeys, truth-Obeys, written-Obeys, within-Obeys, number-Obeys, reads-Obeys, unsigned_abs-neg, unsigned_abs-int_div, unsigned_abs-int_rem, least-Obeys, greatest-Obeys, divided-Obeys}
use Rattle.element_ops.proofs.Digests.{IsBytes-append, ripemd160-IsElement, sha1-IsElement, sha256-IsElement}

-- ---- bytes

bytes-Obeys : (e : List ℕ) → IsElement e → Obeys [] bytes (Ok e)
bytes-Obeys e element = record { element = element; kind_is = tt; cause = tt }

IsBytes-reverse_aux : (xs after : List ℕ) → IsBytes xs → IsBytes after → IsBytes (reverse_aux xs after)
IsBytes-reverse_aux [] after h k = k
IsBytes-reverse_aux (x ∷ xs) after h k = IsBytes-reverse_aux xs (x ∷ after) h.1 (h.0, k)

IsBytes-reverse : (xs : List ℕ) → IsBytes xs → IsBytes (reverse xs)
IsBytes-reverse xs h = IsBytes-reverse_aux xs [] h tt

IsBytes-pairwise : (f : ℕ → ℕ → ℕ) → ((x y : ℕ) → x < 256 → y < 256 → f x y < 256) → (a b : List ℕ) → IsBytes a → IsBytes b → IsBytes (pairwise f a b)
IsBytes-pairwise f keeps [] b ha hb = tt
IsBytes-pairwise f keeps (x ∷ a) [] ha hb = tt
IsBytes-pairwise f keeps (x ∷ a) (y ∷ b) ha hb = (keeps x y ha.0 hb.0, IsBytes-pairwise f keeps a b ha.1 hb.1)

length-pairwise : (f : ℕ → ℕ → ℕ) (a b : List ℕ) → length (pairwise f a b) ≤ length a
length-pairwise f [] b = omega arith
length-pairwise f (x ∷ a) [] = omega arith
length-pairwise f (x ∷ a) (y ∷ b) = let ih = length-pairwise f a b in omega (arith, ih)

bytewise-Obeys : (f : ℕ → ℕ → ℕ) → ((x y : ℕ) → x < 256 → y < 256 → f x y < 256) → (a b : List ℕ) → IsElement a → IsElement b → Obeys (LengthDiffers ∷ []) bytes (bytewise f a b)
bytewise-Obeys f keeps a b ha hb = by_length (eqb (length a) (length b))
  where
    by_length : (t : Bool) → Obeys (LengthDiffers ∷ []) bytes (cond t (Ok (pairwise f a b)) (Err LengthDiffers))
    by_length true =
        let short = length-pairwise f a b in
        let size = ha.size in
        more_causes LengthDiffers [] bytes _ (bytes-Obeys (pairwise f a b) (record { size = omega (arith, short, size); bytes = IsBytes-pairwise f keeps a b ha.bytes hb.bytes }))
    by_length false = fails-Obeys LengthDiffers [] bytes

and_below : (x y : ℕ) → x < 256 → y < 256 → bit_and x y < 256
and_below x y h k = let less = and_le_l x y in omega (arith, less, h)

joined-Obeys : (a b : List ℕ) → IsElement a → IsElement b → Obeys (Oversize ∷ []) bytes (joined a b)
joined-Obeys a b ha hb = by_length (leb (length a + length b) 520) refl
  where
    by_length : (t : Bool) → leb (length a + length b) 520 ≡ t → Obeys (Oversize ∷ []) bytes (cond t (Ok (a ++ b)) (Err Oversize))
    by_length true is =
        let fits = leb-true (length a + length b) 520 is in
        more_causes Oversize [] bytes _ (bytes-Obeys (a ++ b) (record { size = omega (arith, fits, length-append a b); bytes = IsBytes-append a b ha.bytes hb.bytes }))
    by_length false is = fails-Obeys Oversize [] bytes

shortened-Obeys : (a : List ℕ) → IsElement a → Obeys (NumberRange ∷ []) number (shortened a)
shortened-Obeys a ha = by_length (leb (length (shortest a)) 8) refl
  where
    by_length : (t : Bool) → leb (length (shortest a)) 8 ≡ t → Obeys (NumberRange ∷ []) number (cond t (Ok (shortest a)) (Err NumberRange))
    by_length true is =
        let s = shortest-IsShortestOf a ha.bytes in
        let short = leb-true (length (shortest a)) 8 is in
        record { element = record { size = omega (arith, short); bytes = s.bytes }; kind_is = (_, number_read (shortest a) short s.minimal); cause = tt }
    by_length false is = fails-Obeys NumberRange [] number

padded-Obeys : (a : List ℕ) (n : ℤ) → IsElement a → Obeys (PadSize ∷ []) bytes (padded a n)
padded-Obeys a (negsuc n) ha = fails-Obeys PadSize [] bytes
padded-Obeys a (pos n) ha = by_width (leb n 520 && leb (length (shortest a)) n) refl
  where
    by_width : (t : Bool) → (leb n 520 && leb (length (shortest a)) n) ≡ t → Obeys (PadSize ∷ []) bytes (cond t (Ok (of_width n a)) (Err PadSize))
    by_width true is =
        let parts = and_parts (leb n 520) (leb (length (shortest a)) n) is in
        let within = leb-true n 520 parts.0 in
        let w = of_width-HasWidth n a ha.bytes (leb-true (length (shortest a)) n parts.1) in
        let count = w.count in
        more_causes PadSize [] bytes _ (bytes-Obeys (of_width n a) (record { size = omega (arith, within, count); bytes = w.bytes }))
    by_width false is = fails-Obeys PadSize [] bytes

-- ---- one operand

on_one : (a : List ℕ) (causes : List Cause) (kind : Kind) (f : ℤ → Outcome) → IsElement a → ((x : ℤ) → unsigned_abs x < 2 ^ 63 → Obeys causes kind (f x)) → Obeys (NotANumber ∷ causes) kind (operand_number a >>= f)
on_one a causes kind f ha obeys = reads-Obeys a (NotANumber ∷ causes) kind f ha (first_cause NotANumber causes) (λ x within. more_causes NotANumber causes kind (f x) (obeys x within))

size_within : (a : List ℕ) → IsElement a → length a < 2 ^ 63
size_within a ha = let size = ha.size in omega (arith, size)

pub obeys1 : (op : Op1) (a : List ℕ) → Obeys1 op a
obeys1 one.Negate a ha = on_one a [] number _ ha (λ x within. within-Obeys (neg_ℤ x) (rw (unsigned_abs-neg x) within))
obeys1 one.Abs a ha = on_one a [] number _ ha (λ x within. within-Obeys (pos (unsigned_abs x)) within)
obeys1 one.Not a ha = on_one a [] truth _ ha (λ x within. truth-Obeys _)
obeys1 one.NonZero a ha = on_one a [] truth _ ha (λ x within. truth-Obeys _)
obeys1 one.AddOne a ha = on_one a (NumberRange ∷ []) number _ ha (λ x within. number-Obeys (x +ℤ pos 1))
obeys1 one.SubOne a ha = on_one a (NumberRange ∷ []) number _ ha (λ x within. number-Obeys (x -ℤ pos 1))
obeys1 one.Size a ha = written-Obeys (pos (length a)) (size_within a ha)
obeys1 one.Reverse a ha = bytes-Obeys (reverse a) (record { size = (let size = ha.size in omega (arith, size, length-reverse a)); bytes = IsBytes-reverse a ha.bytes })
obeys1 one.ToNumber a ha = shortened-Obeys a ha
obeys1 one.Ripemd160 a ha = bytes-Obeys _ (ripemd160-IsElement a)
obeys1 one.Sha1 a ha = bytes-Obeys _ (sha1-IsElement a)
obeys1 one.Sha256 a ha = bytes-Obeys _ (sha256-IsElement a)
obeys1 one.Hash160 a ha = bytes-Obeys _ (ripemd160-IsElement _)
obeys1 one.Hash256 a ha = bytes-Obeys _ (sha256-IsElement _)

-- ---- two operands

on_two : (a b : List ℕ) (causes : List Cause) (kind : Kind) (f : ℤ → ℤ → Outcome) → IsElement a → IsElement b → ((x y : ℤ) → unsigned_abs x < 2 ^ 63 → unsigned_abs y < 2 ^ 63 → Obeys causes kind (f x y)) → Obeys (NotANumber ∷ causes) kind (operand_number a >>= λ x. operand_number b >>= f x)
on_two a b causes kind f ha hb obeys = reads-Obeys a (NotANumber ∷ causes) kind _ ha (first_cause NotANumber causes) (λ x within_x. on_one b causes kind (f x) hb (λ y within_y. obeys x y within_x within_y))

pub obeys2 : (op : Op2) (a b : List ℕ) → Obeys2 op a b
obeys2 two.Add a b ha hb = on_two a b (NumberRange ∷ []) number _ ha hb (λ x y within_x within_y. number-Obeys (x +ℤ y))
obeys2 two.Sub a b ha hb = on_two a b (NumberRange ∷ []) number _ ha hb (λ x y within_x within_y. number-Obeys (x -ℤ y))
obeys2 two.Mul a b ha hb = on_two a b (NumberRange ∷ []) number _ ha hb (λ x y within_x within_y. number-Obeys (x *ℤ y))
obeys2 two.Div a b ha hb = on_two a b (DivideByZero ∷ []) number _ ha hb (λ x y within_x within_y. divided-Obeys int_div x y (let below = unsigned_abs-int_div x y in omega (arith, below, within_x)))
obeys2 two.Mod a b ha hb = on_two a b (DivideByZero ∷ []) number _ ha hb (λ x y within_x within_y. divided-Obeys int_rem x y (let below = unsigned_abs-int_rem x y in omega (arith, below, within_x)))
obeys2 two.Min a b ha hb = on_two a b [] number _ ha hb (λ x y within_x within_y. least-Obeys x y within_x within_y)
obeys2 two.Max a b ha hb = on_two a b [] number _ ha hb (λ x y within_x within_y. greatest-Obeys x y within_x within_y)
obeys2 two.Less a b ha hb = on_two a b [] truth _ ha hb (λ x y within_x within_y. truth-Obeys _)
obeys2 two.Greater a b ha hb = on_two a b [] truth _ ha hb (λ x y within_x within_y. truth-Obeys _)
obeys2 two.LessEqual a b ha hb = on_two a b [] truth _ ha hb (λ x y within_x within_y. truth-Obeys _)
obeys2 two.GreaterEqual a b ha hb = on_two a b [] truth _ ha hb (λ x y within_x within_y. truth-Obeys _)
obeys2 two.NumEqual a b ha hb = on_two a b [] truth _ ha hb (λ x y within_x within_y. truth-Obeys _)
obeys2 two.NumNotEqual a b ha hb = on_two a b [] truth _ ha hb (λ x y within_x within_y. truth-Obeys _)
obeys2 two.BoolAnd a b ha hb = on_two a b [] truth _ ha hb (λ x y within_x within_y. truth-Obeys _)
obeys2 two.BoolOr a b ha hb = on_two a b [] truth _ ha hb (λ x y within_x within_y. truth-Obeys _)
obeys2 two.Equal a b ha hb = truth-Obeys _
obeys2 two.And a b ha hb = bytewise-Obeys bit_and and_below a b ha hb
obeys2 two.Or a b ha hb = bytewise-Obeys bit_or or_of_8 a b ha hb
obeys2 two.Xor a b ha hb = bytewise-Obeys bit_xor xor_of_8 a b ha hb
obeys2 two.Cat a b ha hb = joined-Obeys a b ha hb
obeys2 two.Pad a b ha hb = on_one b (PadSize ∷ []) bytes _ hb (λ n within. padded-Obeys a n ha)

-- ---- three operands, and a split

pub obeys3 : (op : Op3) (a b c : List ℕ) → Obeys3 op a b c
obeys3 three.Within a b c ha hb hc = reads-Obeys a (NotANumber ∷ []) truth _ ha (first_cause NotANumber []) (λ x within_x. on_two b c [] truth _ hb hc (λ y z within_y within_z. truth-Obeys _))

IsBytes-take : (n : ℕ) (xs : List ℕ) → IsBytes xs → IsBytes (take n xs)
IsBytes-take zero xs h = tt
IsBytes-take (suc n) [] h = tt
IsBytes-take (suc n) (x ∷ xs) h = (h.0, IsBytes-take n xs h.1)

IsBytes-drop : (n : ℕ) (xs : List ℕ) → IsBytes xs → IsBytes (drop n xs)
IsBytes-drop zero xs h = h
IsBytes-drop (suc n) [] h = tt
IsBytes-drop (suc n) (x ∷ xs) h = IsBytes-drop n xs h.1

abbrev Parts : List ℕ → Result (List ℕ × List ℕ) Cause → Type 0
Parts a outcome = IfOk outcome (λ p. IsElement p.0 × IsElement p.1 × (p.0 ++ p.1 ≡ a)) × IfErr outcome (Contains split_causes)

cut_parts : (a : List ℕ) (n : ℤ) → IsElement a → Parts a (cut a n)
cut_parts a (negsuc n) ha = (tt, later)
  where
    later : Contains split_causes SplitRange
    later = (1, omega arith, refl)
cut_parts a (pos n) ha = by_place (leb n (length a))
  where
    by_place : (t : Bool) → Parts a (cond t (Ok (take n a, drop n a)) (Err SplitRange))
    by_place true =
        let size = ha.size in
        let whole = ap length (take-append-drop n a) in
        let both = length-append (take n a) (drop n a) in (
          (record { size = omega (arith, size, whole, both); bytes = IsBytes-take n a ha.bytes }, record { size = omega (arith, size, whole, both); bytes = IsBytes-drop n a ha.bytes }, take-append-drop n a),
          tt,
        )
    by_place false = (tt, (1, omega arith, refl))

pub split_obeys : (a b : List ℕ) → IsElement a → ObeysSplit a b
split_obeys a b ha = let both = by_number (number_of b) in record { parts = both.0; cause = both.1 }
  where
    by_number : (o : Option ℤ) → Parts a (number_or_cause o >>= cut a)
    by_number None = (tt, first_cause NotANumber (SplitRange ∷ []))
    by_number (Some n) = cut_parts a n ha
