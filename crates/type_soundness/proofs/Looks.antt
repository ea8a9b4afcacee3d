-- What a world answers: look-ups, times and verdicts.
use Rattle.std.proofs.Common.{◌≡◌, ℕ, ℤ, Bool, true, false, cond, List, [], ◌∷◌, length, ◌^◌, ◌<◌, pos, negsuc, Option, Some, None, Result, Ok, Err, refl, sym, subst, arith}
use Rattle.std.specs.Prelude.{not, nat_lt, nat_le, slice_get, IfOk, reverse, ◌==◌, ◌&&◌, unsigned_abs}
use Rattle.std.specs.List.{list_any}
use Rattle.std.proofs.lemmas.Bool.{and_parts}
use Rattle.std.proofs.lemmas.Bool.Decides.{nat_tests}
use Rattle.cash_base.specs.declared.fault.Cause.{Cause}
use Rattle.cash_base.specs.declared.fault.Cause.TheVariants.{Oversize, CheckFailed, Age}
use Rattle.cash_base.specs.declared.element.TheConstants.{MAX_ELEMENT_LEN}
use Rattle.cash_base.specs.declared.look.Look0.{Look0}
use Rattle.cash_base.specs.declared.look.Look0.TheVariants.{Version, Locktime, InputCount, OutputCount, ActiveIndex, ActiveBytecode}
use Rattle.cash_base.specs.declared.look.LookAt.{LookAt}
use Rattle.cash_base.specs.declared.look.LookAt.TheVariants.{UtxoValue, UtxoBytecode, OutpointHash, OutpointIndex, InputBytecode, InputSequence, OutputValue, OutputBytecode}
use Rattle.cash_base.specs.Element.{IsElement}
use Rattle.cash_base.specs.Failing.{◌>>=◌, ◌>>◌, refused_if}
use Rattle.cash_base.specs.Number.{IsBytes}
use Rattle.cash_base.specs.Operand.{operand_number, number_or_cause}
use Rattle.cash_base.proofs.Widths.{minimal_bytes-IsElement}
use Rattle.tx_context.specs.Transaction.{InputParts, Transaction}
use Rattle.tx_context.specs.Table.{Row}
use Rattle.tx_context.specs.Limits.{IsContext, is_typed_input, is_great_value}
use Rattle.tx_context.specs.Lookup.{number_bytes, sized, context_value, item_or_cause, item_at, indexed_value, time_outcome, age_outcome, is_no_lock, has_bit, is_age_missed}
use Rattle.tx_context.specs.Verdict.{answer_in, failed_check, one_outcome, single_verdict, step_outcome, are_met, many_outcome, multi_verdict}
use Rattle.tx_context.specs.declared.verdict.Kind.{Kind}
use Rattle.tx_context.specs.declared.verdict.Kind.TheVariants.{Multi}
use Rattle.tx_context.specs.declared.verdict.Answer.{Answer}
use Rattle.tx_context.specs.declared.verdict.Answer.TheVariants.{Good as GoodAnswer, Malformed}
use Rattle.tx_context.proofs.Within.{facts_of}
use Rattle.tx_context.proofs.Amounts.{all_at_number, input_amount, output_amount}
use Rattle.tx_context.proofs.Elements.{whole, indexed}
use Rattle.cash_tree.specs.declared.Ty.TheVariants as ty
use Rattle.cash_tree.specs.declared.Ty.TheOpen.{Ty-F}
use Rattle.cash_tree.specs.declared.Ty.TheViews.{out-Ty}
use Rattle.type_tables.specs.Tables.{look0_type, looked_at}
use Rattle.form_tables.specs.Forms.{verdict_result}
use Rattle.source_meaning.specs.Meaning.{checked_multi}
use Rattle.type_soundness.proofs.Calm.{is_no_number, Calm, IsNumber, read}
use Rattle.type_soundness.proofs.Holds.{Holds, Fine, written, loosely, truth_fine}
use Rattle.type_soundness.proofs.Types.{out_int, loose_bytes, loose_bytes_n}

-- ---- parts that may fail

fine_bind : {A B : Type 0} (P : B → Type 0) (r : Result A Cause) (f : A → Result B Cause) → Calm r → ((x : A) → r ≡ Ok x → Fine P (f x)) → Fine P (r >>= f)
fine_bind P (Ok x) f calm more = more x refl
fine_bind P (Err cause) f calm more = calm

pub fine_read : {B : Type 0} (P : B → Type 0) (e : List ℕ) (f : ℤ → Result B Cause) → IsNumber e → ((n : ℤ) → Fine P (f n)) → Fine P (operand_number e >>= f)
fine_read P e f is more = subst (λ o. Fine P (number_or_cause o >>= f)) (sym is.1) (more is.0)

calm_bind : {A B : Type 0} (r : Result A Cause) (f : A → Result B Cause) → Calm r → ((x : A) → Calm (f x)) → Calm (r >>= f)
calm_bind (Ok x) f calm more = more x
calm_bind (Err cause) f calm more = calm

both_fine : (o : Result (List ℕ) Cause) → Calm o → IfOk o IsElement → Fine IsElement o
both_fine (Ok e) calm h = h
both_fine (Err cause) calm h = calm

-- ---- look-ups

an_int : (e : List ℕ) → Holds Ty-F.Int e → Holds (out-Ty ty.Int) e
an_int e h = subst (λ layer. Holds layer e) (sym out_int) h

amount : (n : ℕ) → n < 2 ^ 63 → Holds (out-Ty ty.Int) (number_bytes n)
amount n within = an_int (number_bytes n) (written (pos n) within)

size_calm : (t : Bool) (bytes : List ℕ) → Calm (cond t (Err Oversize) (Ok bytes))
size_calm true bytes = refl
size_calm false bytes = tt

sized_calm : (bytes : List ℕ) → Calm (sized bytes)
sized_calm bytes = size_calm (nat_lt MAX_ELEMENT_LEN (length bytes)) bytes

pub context_fine : (t : Transaction (List ℕ)) → IsContext t → (what : Look0) (active : List ℕ) → IsBytes active
    → Fine (Holds (out-Ty (look0_type what))) (context_value t what active)
unfolding look0_type
context_fine t h Version active all = let small = (facts_of _ t h).version in amount t.version (omega (arith, small))
context_fine t h Locktime active all = let small = h.locktime in amount t.locktime (omega (arith, small))
context_fine t h InputCount active all = let small = (facts_of _ t h).input_count in amount (length t.inputs) (omega (arith, small))
context_fine t h OutputCount active all = let small = (facts_of _ t h).output_count in amount (length t.outputs) (omega (arith, small))
context_fine t h ActiveIndex active all =
    let small = (facts_of _ t h).input_count in
    let within = (facts_of _ t h).active in
    amount t.active (omega (arith, small, within))
context_fine t h ActiveBytecode active all =
    loosely (out-Ty ty.Bytes) (sized active) loose_bytes (both_fine (sized active) (sized_calm active) (whole minimal_bytes-IsElement t h ActiveBytecode active all))

found_calm : {A : Type 0} (o : Option A) → Calm (item_or_cause o)
found_calm None = refl
found_calm (Some x) = tt

item_calm : {A : Type 0} (n : ℤ) (items : List A) → Calm (item_at n items)
item_calm (pos n) items = found_calm (slice_get items n)
item_calm (negsuc n) items = refl

-- the index and the sequence number of an input have 32 bits
record Short (i : InputParts (List ℕ)) : Type 0 where
  index : i.index < 2 ^ 32
  sequence : i.sequence < 2 ^ 32

short_input : (t : Transaction (List ℕ)) (n : ℤ) (i : InputParts (List ℕ)) → IsContext t → item_at n t.inputs ≡ Ok i → Short i
short_input t n i h e =
    let typed = and_parts _ _ (all_at_number (is_typed_input (λ bytes. bytes ∷ [])) t.inputs n i h.inputs e) in
    let numbers : ((length i.hash == 32) ≡ true) × ((nat_lt i.index (2 ^ 32) && nat_lt i.sequence (2 ^ 32)) ≡ true) = and_parts _ _ typed.0 in
    let both : (nat_lt i.index (2 ^ 32) ≡ true) × (nat_lt i.sequence (2 ^ 32) ≡ true) = and_parts _ _ numbers.1 in
    record { index = grind (arith, nat_tests, both.0); sequence = grind (arith, nat_tests, both.1) }

small_amount : (n : ℕ) → is_great_value n ≡ false → n < 2 ^ 63
small_amount n h = grind (arith, nat_tests, h)

indexed_calm : (t : Transaction (List ℕ)) (what : LookAt) (index : List ℕ) → IsNumber index → Calm (indexed_value t what index)
indexed_calm t UtxoValue index is = read index _ is (λ n. calm_bind (item_at n t.inputs) _ (item_calm n t.inputs) (λ i. tt))
indexed_calm t UtxoBytecode index is = read index _ is (λ n. calm_bind (item_at n t.inputs) _ (item_calm n t.inputs) (λ i. sized_calm i.locking))
indexed_calm t OutpointHash index is = read index _ is (λ n. calm_bind (item_at n t.inputs) _ (item_calm n t.inputs) (λ i. tt))
indexed_calm t OutpointIndex index is = read index _ is (λ n. calm_bind (item_at n t.inputs) _ (item_calm n t.inputs) (λ i. tt))
indexed_calm t InputBytecode index is = read index _ is (λ n. calm_bind (item_at n t.inputs) _ (item_calm n t.inputs) (λ i. sized_calm i.unlocking))
indexed_calm t InputSequence index is = read index _ is (λ n. calm_bind (item_at n t.inputs) _ (item_calm n t.inputs) (λ i. tt))
indexed_calm t OutputValue index is = read index _ is (λ n. calm_bind (item_at n t.outputs) _ (item_calm n t.outputs) (λ o. tt))
indexed_calm t OutputBytecode index is = read index _ is (λ n. calm_bind (item_at n t.outputs) _ (item_calm n t.outputs) (λ o. sized_calm o.locking))

element_fine : (t : Transaction (List ℕ)) → IsContext t → (what : LookAt) (index : List ℕ) → IsNumber index → Fine IsElement (indexed_value t what index)
element_fine t h what index is = both_fine (indexed_value t what index) (indexed_calm t what index is) (indexed minimal_bytes-IsElement t h what index)

pub indexed_fine : (t : Transaction (List ℕ)) → IsContext t → (what : LookAt) (index : List ℕ) → IsNumber index
    → Fine (Holds (out-Ty (looked_at what))) (indexed_value t what index)
indexed_fine t h UtxoValue index is =
    fine_read _ index _ is (λ n. fine_bind _ (item_at n t.inputs) _ (item_calm n t.inputs) (λ i e. amount i.value (small_amount i.value (input_amount t n i h e))))
indexed_fine t h UtxoBytecode index is = loosely (out-Ty ty.Bytes) _ loose_bytes (element_fine t h UtxoBytecode index is)
indexed_fine t h OutpointHash index is = loosely (out-Ty (ty.BytesN 32)) _ (loose_bytes_n 32) (element_fine t h OutpointHash index is)
indexed_fine t h OutpointIndex index is =
    fine_read _ index _ is (λ n. fine_bind _ (item_at n t.inputs) _ (item_calm n t.inputs) (λ i e. let small = (short_input t n i h e).index in amount i.index (omega (arith, small))))
indexed_fine t h InputBytecode index is = loosely (out-Ty ty.Bytes) _ loose_bytes (element_fine t h InputBytecode index is)
indexed_fine t h InputSequence index is =
    fine_read _ index _ is (λ n. fine_bind _ (item_at n t.inputs) _ (item_calm n t.inputs) (λ i e. let small = (short_input t n i h e).sequence in amount i.sequence (omega (arith, small))))
indexed_fine t h OutputValue index is =
    fine_read _ index _ is (λ n. fine_bind _ (item_at n t.outputs) _ (item_calm n t.outputs) (λ o e. amount o.value (small_amount o.value (output_amount t n o h e))))
indexed_fine t h OutputBytecode index is = loosely (out-Ty ty.Bytes) _ loose_bytes (element_fine t h OutputBytecode index is)

-- ---- times

refused_calm : (t : Bool) (cause : Cause) → is_no_number cause ≡ false → Calm (refused_if t cause)
refused_calm true cause calm = calm
refused_calm false cause calm = tt

then_calm : {A B : Type 0} (r : Result A Cause) (next : Result B Cause) → Calm r → Calm next → Calm (r >> next)
then_calm (Ok x) next calm more = more
then_calm (Err cause) next calm more = calm

pub time_calm : (t : Transaction (List ℕ)) (e : List ℕ) → IsNumber e → Calm (time_outcome t e)
time_calm t e is = read e _ is (λ n. refused_calm _ _ refl)

pub age_calm : (t : Transaction (List ℕ)) (e : List ℕ) → IsNumber e → Calm (age_outcome t e)
age_calm t e is = read e _ is (λ n.
    let age = not (has_bit 31 (unsigned_abs n)) && is_age_missed t (unsigned_abs n) in
    then_calm (refused_if (is_no_lock e n) Age) (refused_if age Age) (refused_calm (is_no_lock e n) Age refl) (refused_calm age Age refl))

-- ---- verdicts

failed_calm : (t : Bool) → Calm (failed_check t)
failed_calm true = refl
failed_calm false = tt

one_calm : (o : Option Answer) (sig : List ℕ) → Calm (one_outcome o sig)
one_calm (Some GoodAnswer) sig = tt
one_calm (Some Malformed) sig = refl
one_calm None sig = failed_calm (nat_lt 0 (length sig))

pub single_calm : (rows : List Row) (kind : Kind) (sig key message : List ℕ) → Calm (single_verdict rows kind sig key message)
single_calm rows kind sig key message = one_calm _ sig

step_calm : (o : Option Answer) (good none : Result Bool Cause) → Calm good → Calm none → Calm (step_outcome o good none)
step_calm (Some GoodAnswer) good none g n = g
step_calm (Some Malformed) good none g n = refl
step_calm None good none g n = n

unless : {A : Type 0} (t : Bool) (x : A) (r : Result A Cause) → Calm r → Calm (cond t (Ok x) r)
unless true x r calm = tt
unless false x r calm = calm

met_calm : (rows : List Row) (sigs keys : List (List ℕ)) → Calm (are_met rows sigs keys)
met_calm rows [] keys = tt
met_calm rows (sig ∷ sigs) [] = tt
met_calm rows (sig ∷ sigs) (key ∷ keys) =
    unless (nat_lt (length (key ∷ keys)) (length (sig ∷ sigs))) false _
    (step_calm (answer_in Multi sig key [] rows) _ _ (met_calm rows sigs keys) (met_calm rows (sig ∷ sigs) keys))

many_calm : (met : Bool) (sigs : List (List ℕ)) → Calm (many_outcome met sigs)
many_calm true sigs = tt
many_calm false sigs = failed_calm (list_any (λ sig. nat_lt 0 (length sig)) sigs)

allowed_calm : (t : Bool) (r : Result Bool Cause) → Calm r → Calm (cond t r (Err CheckFailed))
allowed_calm true r calm = calm
allowed_calm false r calm = refl

pub multi_calm : (rows : List Row) (sigs keys : List (List ℕ)) → Calm (checked_multi rows sigs keys)
multi_calm rows sigs keys =
    allowed_calm (nat_le (length keys) 20 && nat_le (length sigs) (length keys)) (multi_verdict rows sigs keys)
    (calm_bind (are_met rows (reverse sigs) (reverse keys)) (λ met. many_outcome met sigs) (met_calm rows (reverse sigs) (reverse keys)) (λ met. many_calm met sigs))

pub verdict_fine : (r : Result Bool Cause) → Calm r → Fine (Holds Ty-F.Bool) (verdict_result r)
verdict_fine (Ok b) calm = truth_fine b
verdict_fine (Err cause) calm = calm
