-- No operation fails as a check: its failure is told at the operation.
use Rattle.std.proofs.Common.{◌≡◌, ℕ, ◌+◌, Bool, true, false, cond, List, [], ◌∷◌, length, Option, Some, None, Result, Ok, Err, refl}
use Rattle.std.specs.Prelude.{ℤ, pos, negsuc, ◌==◌, ◌&&◌, ◌||◌, not, nat_le, nat_lt, slice_get, reverse, ◌+ℤ◌, ◌-ℤ◌, ◌*ℤ◌, neg_ℤ, unsigned_abs, int_lt, int_le, int_div, int_rem}
use Rattle.std.specs.Int.{int_min, int_max}
use Rattle.std.specs.Ordering.{int_eq}
use Rattle.std.specs.List.{list_any}
use Rattle.cash_base.specs.declared.fault.Cause.{Cause}
use Rattle.cash_base.specs.declared.fault.Cause.TheVariants.{CheckFailed, Oversize}
use Rattle.cash_base.specs.declared.fault.MachineCause.TheVariants.{Shared}
use Rattle.cash_base.specs.declared.look.Look0.{Look0}
use Rattle.cash_base.specs.declared.look.Look0.TheVariants.{Version, Locktime, InputCount, OutputCount, ActiveIndex, ActiveBytecode}
use Rattle.cash_base.specs.declared.look.LookAt.{LookAt}
use Rattle.cash_base.specs.declared.look.LookAt.TheVariants.{UtxoValue, UtxoBytecode, OutpointHash, OutpointIndex, InputBytecode, InputSequence, OutputValue, OutputBytecode}
use Rattle.cash_base.specs.declared.element.TheConstants.{MAX_ELEMENT_LEN}
use Rattle.cash_base.specs.declared.place.Span.{Span}
use Rattle.cash_base.specs.Failing.{◌>>=◌}
use Rattle.cash_base.specs.Number.{number_of}
use Rattle.cash_base.specs.Operand.{number_or_cause, operand_number}
use Rattle.cash_base.specs.Source.{place_in}
use Rattle.element_ops.specs.declared.op.Op1.{Op1}
use Rattle.element_ops.specs.declared.op.Op1.TheVariants.{Negate, Abs, Not, NonZero, AddOne, SubOne, Size, Reverse, ToNumber, Ripemd160, Sha1, Sha256, Hash160, Hash256}
use Rattle.element_ops.specs.declared.op.Op2.{Op2}
use Rattle.element_ops.specs.declared.op.Op2.TheVariants.{Add, Sub, Mul, Div, Mod, Min, Max, Less, Greater, LessEqual, GreaterEqual, NumEqual, NumNotEqual, BoolAnd, BoolOr, Equal, And, Or, Xor, Cat, Pad}
use Rattle.element_ops.specs.declared.op.Op3.{Op3}
use Rattle.element_ops.specs.declared.op.Op3.TheVariants.{Within}
use Rattle.element_ops.specs.Operand.{is_in_range, number_element, truth_element}
use Rattle.element_ops.specs.Operation.{Outcome, result1, result2, result3, split_parts, cut, is_set, divided, padded}
use Rattle.element_ops.specs.Width.{shortest}
use Rattle.tx_context.specs.Transaction.{Transaction}
use Rattle.tx_context.specs.Table.{Row}
use Rattle.tx_context.specs.Lookup.{sized, context_value, item_or_cause, item_at, value_at, indexed_value}
use Rattle.tx_context.specs.Verdict.{answer_in, asked_message, single_verdict, one_outcome, failed_check, multi_verdict, are_met, many_outcome, step_outcome}
use Rattle.tx_context.specs.declared.verdict.Kind.{Kind}
use Rattle.tx_context.specs.declared.verdict.Kind.TheVariants.{Multi}
use Rattle.tx_context.specs.declared.verdict.Answer.{Answer}
use Rattle.tx_context.specs.declared.verdict.Answer.TheVariants.{Good, Malformed}
use Rattle.form_tables.specs.Forms.{verdict_result}

abbrev pub IsOther : Cause → Type 0
IsOther CheckFailed = ⊥
IsOther cause = Unit {0}

abbrev pub IsQuiet : {A : Type 0} → Result A Cause → Type 0
IsQuiet (Ok a) = Unit {0}
IsQuiet (Err cause) = IsOther cause

pub told_at : (d c : Span) (cause : Cause) → IsOther cause → place_in d c (Shared cause) ≡ d
told_at d c CheckFailed quiet = absurd quiet
told_at d c cause quiet = refl

then_quiet : {A B : Type 0} (r : Result A Cause) (f : A → Result B Cause) → IsQuiet r → ((a : A) → IsQuiet (f a)) → IsQuiet (r >>= f)
then_quiet (Ok a) f q k = k a
then_quiet (Err cause) f q k = q

if_quiet : {A : Type 0} (b : Bool) (r s : Result A Cause) → IsQuiet r → IsQuiet s → IsQuiet (cond b r s)
if_quiet true r s q k = q
if_quiet false r s q k = k

or_cause_quiet : (o : Option ℤ) → IsQuiet (number_or_cause o)
or_cause_quiet None = tt
or_cause_quiet (Some n) = tt

pub number_quiet : (e : List ℕ) → IsQuiet (operand_number e)
number_quiet e = or_cause_quiet (number_of e)

element_quiet : (n : ℤ) → IsQuiet (number_element n)
element_quiet n = if_quiet (is_in_range n) _ _ tt tt

one_number : (a : List ℕ) (f : ℤ → Outcome) → ((n : ℤ) → IsQuiet (f n)) → IsQuiet (operand_number a >>= f)
one_number a f k = then_quiet (operand_number a) f (number_quiet a) k

two_numbers : (a b : List ℕ) (f : ℤ → ℤ → Outcome) → ((n m : ℤ) → IsQuiet (f n m)) → IsQuiet (operand_number a >>= λ x. operand_number b >>= λ y. f x y)
two_numbers a b f k = one_number a (λ x. operand_number b >>= f x) (λ n. one_number b (f n) (k n))

one_integer : (a : List ℕ) (f : ℤ → ℤ) → IsQuiet (operand_number a >>= λ x. number_element (f x))
one_integer a f = one_number a (λ x. number_element (f x)) (λ x. element_quiet (f x))

one_truth : (a : List ℕ) (f : ℤ → Bool) → IsQuiet (operand_number a >>= λ x. truth_element (f x))
one_truth a f = one_number a (λ x. truth_element (f x)) (λ x. tt)

two_integers : (a b : List ℕ) (f : ℤ → ℤ → ℤ) → IsQuiet (operand_number a >>= λ x. operand_number b >>= λ y. number_element (f x y))
two_integers a b f = two_numbers a b (λ x y. number_element (f x y)) (λ x y. element_quiet (f x y))

two_truths : (a b : List ℕ) (f : ℤ → ℤ → Bool) → IsQuiet (operand_number a >>= λ x. operand_number b >>= λ y. truth_element (f x y))
two_truths a b f = two_numbers a b (λ x y. truth_element (f x y)) (λ x y. tt)

divided_quiet : (f : ℤ → ℤ → ℤ) (x y : ℤ) → IsQuiet (divided f x y)
divided_quiet f x y = if_quiet (is_set y) _ _ (element_quiet (f x y)) tt

padded_quiet : (a : List ℕ) (n : ℤ) → IsQuiet (padded a n)
padded_quiet a (pos n) = if_quiet (nat_le n 520 && nat_le (length (shortest a)) n) _ _ tt tt
padded_quiet a (negsuc n) = tt

pub quiet1 : (op : Op1) (a : List ℕ) → IsQuiet (result1 op a)
quiet1 Negate a = one_integer a neg_ℤ
quiet1 Abs a = one_integer a (λ x. pos (unsigned_abs x))
quiet1 Not a = one_truth a (λ x. not (is_set x))
quiet1 NonZero a = one_truth a is_set
quiet1 AddOne a = one_integer a (λ x. x +ℤ pos 1)
quiet1 SubOne a = one_integer a (λ x. x -ℤ pos 1)
quiet1 Size a = tt
quiet1 Reverse a = tt
quiet1 ToNumber a = if_quiet (nat_le (length (shortest a)) 8) _ _ tt tt
quiet1 Ripemd160 a = tt
quiet1 Sha1 a = tt
quiet1 Sha256 a = tt
quiet1 Hash160 a = tt
quiet1 Hash256 a = tt

pub quiet2 : (op : Op2) (a b : List ℕ) → IsQuiet (result2 op a b)
quiet2 Add a b = two_integers a b (λ x y. x +ℤ y)
quiet2 Sub a b = two_integers a b (λ x y. x -ℤ y)
quiet2 Mul a b = two_integers a b (λ x y. x *ℤ y)
quiet2 Div a b = two_numbers a b (divided int_div) (divided_quiet int_div)
quiet2 Mod a b = two_numbers a b (divided int_rem) (divided_quiet int_rem)
quiet2 Min a b = two_integers a b int_min
quiet2 Max a b = two_integers a b int_max
quiet2 Less a b = two_truths a b int_lt
quiet2 Greater a b = two_truths a b (λ x y. int_lt y x)
quiet2 LessEqual a b = two_truths a b int_le
quiet2 GreaterEqual a b = two_truths a b (λ x y. int_le y x)
quiet2 NumEqual a b = two_truths a b int_eq
quiet2 NumNotEqual a b = two_truths a b (λ x y. not (int_eq x y))
quiet2 BoolAnd a b = two_truths a b (λ x y. is_set x && is_set y)
quiet2 BoolOr a b = two_truths a b (λ x y. is_set x || is_set y)
quiet2 Equal a b = tt
quiet2 And a b = if_quiet (length a == length b) _ _ tt tt
quiet2 Or a b = if_quiet (length a == length b) _ _ tt tt
quiet2 Xor a b = if_quiet (length a == length b) _ _ tt tt
quiet2 Cat a b = if_quiet (nat_le (length a + length b) 520) _ _ tt tt
quiet2 Pad a b = one_number b (padded a) (λ n. padded_quiet a n)

pub quiet3 : (op : Op3) (a b c : List ℕ) → IsQuiet (result3 op a b c)
quiet3 Within a b c =
    one_number a (λ x. operand_number b >>= λ low. operand_number c >>= λ high. truth_element (int_le low x && int_lt x high)) (λ x. two_truths b c (λ low high. int_le low x && int_lt x high))

cut_quiet : (a : List ℕ) (n : ℤ) → IsQuiet (cut a n)
cut_quiet a (pos n) = if_quiet (nat_le n (length a)) _ _ tt tt
cut_quiet a (negsuc n) = tt

pub split_quiet : (a b : List ℕ) → IsQuiet (split_parts a b)
split_quiet a b = then_quiet (operand_number b) (cut a) (number_quiet b) (cut_quiet a)

-- ---- the transaction

sized_quiet : (e : List ℕ) → IsQuiet (sized e)
sized_quiet e = if_quiet {A = List ℕ} (nat_lt MAX_ELEMENT_LEN (length e)) (Err Oversize) (Ok e) tt tt

pub context_quiet : (t : Transaction (List ℕ)) (what : Look0) (active : List ℕ) → IsQuiet (context_value t what active)
context_quiet t Version active = tt
context_quiet t Locktime active = tt
context_quiet t InputCount active = tt
context_quiet t OutputCount active = tt
context_quiet t ActiveIndex active = tt
context_quiet t ActiveBytecode active = sized_quiet active

item_quiet : {A : Type 0} (n : ℤ) (items : List A) → IsQuiet (item_at n items)
item_quiet {A} (pos n) items = by (slice_get items n)
  where
    by : (o : Option A) → IsQuiet (item_or_cause o)
    by None = tt
    by (Some item) = tt
item_quiet (negsuc n) items = tt

value_quiet : (t : Transaction (List ℕ)) (what : LookAt) (n : ℤ) → IsQuiet (value_at t what n)
value_quiet t UtxoValue n = then_quiet (item_at n t.inputs) _ (item_quiet n t.inputs) (λ i. tt)
value_quiet t UtxoBytecode n = then_quiet (item_at n t.inputs) _ (item_quiet n t.inputs) (λ i. sized_quiet i.locking)
value_quiet t OutpointHash n = then_quiet (item_at n t.inputs) _ (item_quiet n t.inputs) (λ i. tt)
value_quiet t OutpointIndex n = then_quiet (item_at n t.inputs) _ (item_quiet n t.inputs) (λ i. tt)
value_quiet t InputBytecode n = then_quiet (item_at n t.inputs) _ (item_quiet n t.inputs) (λ i. sized_quiet i.unlocking)
value_quiet t InputSequence n = then_quiet (item_at n t.inputs) _ (item_quiet n t.inputs) (λ i. tt)
value_quiet t OutputValue n = then_quiet (item_at n t.outputs) _ (item_quiet n t.outputs) (λ o. tt)
value_quiet t OutputBytecode n = then_quiet (item_at n t.outputs) _ (item_quiet n t.outputs) (λ o. sized_quiet o.locking)

pub indexed_quiet : (t : Transaction (List ℕ)) (what : LookAt) (e : List ℕ) → IsQuiet (indexed_value t what e)
indexed_quiet t what e = then_quiet (operand_number e) (value_at t what) (number_quiet e) (value_quiet t what)

-- ---- signatures

failed_quiet : (b : Bool) → IsQuiet (failed_check b)
failed_quiet true = tt
failed_quiet false = tt

one_quiet : (o : Option Answer) (sig : List ℕ) → IsQuiet (one_outcome o sig)
one_quiet (Some Good) sig = tt
one_quiet (Some Malformed) sig = tt
one_quiet None sig = failed_quiet (nat_lt 0 (length sig))

met_quiet : (rows : List Row) (sigs keys : List (List ℕ)) → IsQuiet (are_met rows sigs keys)
met_quiet rows [] keys = tt
met_quiet rows (sig ∷ sigs) [] = tt
met_quiet rows (sig ∷ sigs) (key ∷ keys) =
    if_quiet {A = Bool} (nat_lt (length (key ∷ keys)) (length (sig ∷ sigs))) (Ok false)
    (step_outcome (answer_in Multi sig key [] rows) (are_met rows sigs keys) (are_met rows (sig ∷ sigs) keys)) tt
    (by (answer_in Multi sig key [] rows) (are_met rows sigs keys) (are_met rows (sig ∷ sigs) keys) (met_quiet rows sigs keys) (met_quiet rows (sig ∷ sigs) keys))
  where
    by : (o : Option Answer) (r s : Result Bool Cause) → IsQuiet r → IsQuiet s → IsQuiet (step_outcome o r s)
    by (Some Good) r s q k = q
    by (Some Malformed) r s q k = tt
    by None r s q k = k

many_quiet : (b : Bool) (sigs : List (List ℕ)) → IsQuiet (many_outcome b sigs)
many_quiet true sigs = tt
many_quiet false sigs = failed_quiet (list_any (λ sig. nat_lt 0 (length sig)) sigs)

pub single_quiet : (rows : List Row) (kind : Kind) (sig key message : List ℕ) → IsQuiet (verdict_result (single_verdict rows kind sig key message))
single_quiet rows kind sig key message =
    then_quiet (single_verdict rows kind sig key message) truth_element (one_quiet (answer_in kind sig key (asked_message kind message) rows) sig) (λ b. tt)

pub multi_quiet : (rows : List Row) (sigs keys : List (List ℕ)) → IsQuiet (verdict_result (multi_verdict rows sigs keys))
multi_quiet rows sigs keys =
    then_quiet (multi_verdict rows sigs keys) truth_element
    (then_quiet (are_met rows (reverse sigs) (reverse keys)) (λ met. many_outcome met sigs) (met_quiet rows (reverse sigs) (reverse keys)) (λ b. many_quiet b sigs)) (λ b. tt)
