-- How many opcodes may still be counted matters to a check of several signatures alone.
use Rattle.std.proofs.Common.{◌≡◌, ℕ, zero, suc, ◌+◌, ◌-◌, ◌≤◌, length, not, slice_get, ◌⊎◌, inl, inr, Bool, true, false, ◌&&◌, ◌||◌, eqb, leb, ltb, cond, List, [], ◌∷◌, ℤ, pos, negsuc, Option, Some, None, Result, Ok, Err, refl, sym, ap, ◌∙◌, subst, arith}
use Rattle.std.specs.Prelude.{reverse}
use Rattle.std.proofs.lemmas.Bool.{le-ltb, and_parts, false≢true}
use Rattle.std.proofs.lemmas.Bool.Decides.{nat_tests}
use Rattle.cash_base.specs.declared.fault.Cause.{Cause}
use Rattle.cash_base.specs.declared.fault.MachineCause.{MachineCause}
use Rattle.cash_base.specs.declared.fault.MachineCause.TheVariants.{KeyCount, OpLimit}
use Rattle.cash_base.specs.Failing.{◌>>=◌, ◌>>◌, refused_if}
use Rattle.cash_base.specs.Operand.{operand_number, number_or_cause, truth_bytes}
use Rattle.tx_context.specs.Verdict.{multi_verdict}
use Rattle.tx_context.specs.Transaction.{Transaction}
use Rattle.tx_context.specs.Table as verdict
use Rattle.script_codec.specs.declared.instr.Instr.{Instr}
use Rattle.script_codec.specs.declared.instr.Instr.TheVariants.{Push, Do}
use Rattle.script_codec.specs.Counting.{takes_keys, key_count}
use Rattle.opcode_table.specs.declared.rows.Deed.{Deed}
use Rattle.opcode_table.specs.declared.rows.Deed.TheVariants.{Stays, Refuses, Puts, One, Two, Three, Measures, Splits, CopiesTrue, Counts, Copies, Moves, Verifies, Asks, AsksAt, Waits, Ages, Checks, ChecksData, ChecksMany}
use Rattle.opcode_table.specs.declared.rows.Row.{Row}
use Rattle.opcode_table.specs.declared.rows.Row.TheVariants.{Never, Opens, Flips, Closes, Lays, Fetches, Separates, Does, DoesAndVerifies}
use Rattle.opcode_table.specs.Stack.{Stack, shared, taken}
use Rattle.opcode_table.specs.Asking.{Asked}
use Rattle.opcode_table.specs.Deeds.{verified, number_within, number_taken, sigs_taken, number_or_none, keys_on, checked_many, done, done_and_verified}
use Rattle.opcode_table.specs.Table.{rows, bad, row_or_bad, row_of}
use Rattle.bch_vm.specs.Law.{is_key_count}
use Rattle.bch_vm.specs.Setting.{Setting, around, asked_at}
use Rattle.bch_vm.specs.Board.{Board, board, on_stack, executed_where, is_live, row_after, board_after, keys_counted}

-- one result is that the limit is passed, or the other result
abbrev pub IsLimited : {A : Type 0} → Result A MachineCause → Result A MachineCause → Type 0
IsLimited r free = (r ≡ Err OpLimit) ⊎ (r ≡ free)

then_limited : {A B : Type 0} (r free : Result A MachineCause) (f : A → Result B MachineCause) → IsLimited r free → IsLimited (r >>= f) (free >>= f)
then_limited r free f (inl is) = inl (ap (λ r. r >>= f) is)
then_limited r free f (inr is) = inr (ap (λ r. r >>= f) is)

-- ---- the number of keys

abbrev pub IsFew : ℕ → Result (ℕ × Stack) MachineCause → Type 0
IsFew most (Ok taken) = taken.0 ≤ most
IsFew most (Err cause) = Unit {0}

few_by : (most n : ℕ) (rest : Stack) (t : Bool) → leb n most ≡ t → IsFew most ((cond t (Ok n) (Err KeyCount)) >>= λ number. Ok (number, rest))
few_by most n rest true is = grind (arith, nat_tests, is)
few_by most n rest false is = tt

few_within : (most : ℕ) (rest : Stack) (r : Result ℤ MachineCause) → IsFew most (r >>= λ n. number_within most n >>= λ number. Ok (number, rest))
few_within most rest (Err cause) = tt
few_within most rest (Ok (pos n)) = few_by most n rest (leb n most) refl
few_within most rest (Ok (negsuc n)) = tt

pub few_taken : (most : ℕ) (stack : Stack) → IsFew most (number_taken most stack)
few_taken most [] = tt
few_taken most (e ∷ rest) = few_within most rest (shared (operand_number e))

-- a number of keys on top is read
pub key_on_top : (n : Option ℤ) (rest : Stack) → is_key_count n ≡ true
    → number_or_none (shared (number_or_cause n) >>= λ k. number_within 20 k >>= λ number. Ok (number, rest)) ≡ key_count n
key_on_top None rest is = absurd (false≢true is)
key_on_top (Some (negsuc n)) rest is = absurd (false≢true is)
key_on_top (Some (pos n)) rest is =
    ap (λ (t : Bool). number_or_none (cond t (Ok n) (Err KeyCount) >>= λ number. Ok (number, rest))) is ∙ sym (ap (λ (t : Bool). cond t n 0) is)

-- ---- a check of several signatures

abbrev pub keys_by : ℕ → Result (ℕ × Stack) MachineCause → Result (Stack × Stack) MachineCause
keys_by left number = number >>= λ n. refused_if (ltb left n.0) OpLimit >> taken n.0 n.1

keys_limited : (left : ℕ) (number : Result (ℕ × Stack) MachineCause) → IsFew 20 number → IsLimited (keys_by left number) (keys_by 20 number)
keys_limited left (Err cause) few = inr refl
keys_limited left (Ok n) few = by_test (ltb left n.0)
  where
    by_test : (t : Bool) → IsLimited (refused_if t OpLimit >> taken n.0 n.1) (keys_by 20 (Ok n))
    by_test true = inl refl
    by_test false = inr (ap (λ t. refused_if t OpLimit >> taken n.0 n.1) (sym (le-ltb 20 n.0 few)))

keys_same : (left : ℕ) (number : Result (ℕ × Stack) MachineCause) → IsFew 20 number → number_or_none number ≤ left → keys_by left number ≡ keys_by 20 number
keys_same left (Err cause) few fit = refl
keys_same left (Ok n) few fit =
    ap (λ t. refused_if t OpLimit >> taken n.0 n.1) (le-ltb left n.0 fit ∙ sym (le-ltb 20 n.0 few))

-- ---- deeds, with what may be asked given by its parts

abbrev asking : Transaction (List ℕ) → List verdict.Row → List ℕ → ℕ → Asked
asking context verdicts active left = record { context = context; verdicts = verdicts; active = active; left = left }

-- it is a check of several signatures, or it doesn't ask how many may be counted
deed_kind : (context : Transaction (List ℕ)) (verdicts : List verdict.Row) (active : List ℕ) (left : ℕ) (deed : Deed) (stack : Stack)
    → (deed ≡ ChecksMany) ⊎ (done (asking context verdicts active left) deed stack ≡ done (asking context verdicts active 20) deed stack)
deed_kind context verdicts active left Stays stack = inr refl
deed_kind context verdicts active left (Refuses cause) stack = inr refl
deed_kind context verdicts active left (Puts count put numbers) stack = inr refl
deed_kind context verdicts active left (One op) stack = inr refl
deed_kind context verdicts active left (Two op) stack = inr refl
deed_kind context verdicts active left (Three op) stack = inr refl
deed_kind context verdicts active left Measures stack = inr refl
deed_kind context verdicts active left Splits stack = inr refl
deed_kind context verdicts active left CopiesTrue stack = inr refl
deed_kind context verdicts active left Counts stack = inr refl
deed_kind context verdicts active left Copies stack = inr refl
deed_kind context verdicts active left Moves stack = inr refl
deed_kind context verdicts active left Verifies stack = inr refl
deed_kind context verdicts active left (Asks what) stack = inr refl
deed_kind context verdicts active left (AsksAt what) stack = inr refl
deed_kind context verdicts active left Waits stack = inr refl
deed_kind context verdicts active left Ages stack = inr refl
deed_kind context verdicts active left Checks stack = inr refl
deed_kind context verdicts active left ChecksData stack = inr refl
deed_kind context verdicts active left ChecksMany stack = inl refl

deed_limited : (context : Transaction (List ℕ)) (verdicts : List verdict.Row) (active : List ℕ) (left : ℕ) (deed : Deed) (stack : Stack)
    → IsLimited (done (asking context verdicts active left) deed stack) (done (asking context verdicts active 20) deed stack)
deed_limited context verdicts active left deed stack = by_kind (deed_kind context verdicts active left deed stack)
  where
    many : IsLimited (done (asking context verdicts active left) ChecksMany stack) (done (asking context verdicts active 20) ChecksMany stack)
    many = then_limited (keys_by left (number_taken 20 stack)) (keys_by 20 (number_taken 20 stack)) _ (keys_limited left (number_taken 20 stack) (few_taken 20 stack))

    by_kind : (deed ≡ ChecksMany) ⊎ (done (asking context verdicts active left) deed stack ≡ done (asking context verdicts active 20) deed stack)
        → IsLimited (done (asking context verdicts active left) deed stack) (done (asking context verdicts active 20) deed stack)
    by_kind (inl is) = subst (λ (d : Deed). IsLimited (done (asking context verdicts active left) d stack) (done (asking context verdicts active 20) d stack)) (sym is) many
    by_kind (inr same) = inr same

many_same : (context : Transaction (List ℕ)) (verdicts : List verdict.Row) (active : List ℕ) (left : ℕ) (stack : Stack) → keys_on stack ≤ left
    → done (asking context verdicts active left) ChecksMany stack ≡ done (asking context verdicts active 20) ChecksMany stack
many_same context verdicts active left stack fit =
    ap (λ (r : Result (Stack × Stack) MachineCause). r >>= judged_keys) (keys_same left (number_taken 20 stack) (few_taken 20 stack) fit)
  where
    judged_keys : Stack × Stack → Result Stack MachineCause
    judged_keys keys = sigs_taken (length keys.0) keys.1 >>= λ sigs.
        shared (multi_verdict verdicts (reverse sigs.0) (reverse keys.0)) >>= λ truth. Ok (truth_bytes truth ∷ sigs.1)

abbrev pub is_many : Deed → Bool
is_many ChecksMany = true
is_many _ = false

deed_same : (context : Transaction (List ℕ)) (verdicts : List verdict.Row) (active : List ℕ) (left : ℕ) (deed : Deed) (stack : Stack)
    → (is_many deed ≡ true → keys_on stack ≤ left)
    → done (asking context verdicts active left) deed stack ≡ done (asking context verdicts active 20) deed stack
deed_same context verdicts active left deed stack fit = by_kind (deed_kind context verdicts active left deed stack)
  where
    by_kind : (deed ≡ ChecksMany) ⊎ (done (asking context verdicts active left) deed stack ≡ done (asking context verdicts active 20) deed stack)
        → done (asking context verdicts active left) deed stack ≡ done (asking context verdicts active 20) deed stack
    by_kind (inl is) =
        subst (λ (d : Deed). done (asking context verdicts active left) d stack ≡ done (asking context verdicts active 20) d stack) (sym is)
        (many_same context verdicts active left stack (fit (ap is_many is)))
    by_kind (inr same) = same

-- ---- instructions

executed_limited : (setting : Setting) (next left : ℕ) (deed : Deed) (b : Board) (live : Bool)
    → IsLimited (executed_where live (on_stack (done (asked_at (around setting next left) b.separator) deed)) b)
    (executed_where live (on_stack (done (asked_at (around setting next 20) b.separator) deed)) b)
executed_limited setting next left deed b true =
    then_limited _ _ _ (deed_limited setting.context setting.verdicts (setting.active b.separator) left deed b.stack)
executed_limited setting next left deed b false = inr refl

verified_limited : (setting : Setting) (next left : ℕ) (deed : Deed) (b : Board) (live : Bool)
    → IsLimited (executed_where live (on_stack (done_and_verified (asked_at (around setting next left) b.separator) deed)) b)
    (executed_where live (on_stack (done_and_verified (asked_at (around setting next 20) b.separator) deed)) b)
verified_limited setting next left deed b true =
    then_limited _ _ _ (then_limited _ _ _ (deed_limited setting.context setting.verdicts (setting.active b.separator) left deed b.stack))
verified_limited setting next left deed b false = inr refl

row_limited : (setting : Setting) (next left : ℕ) (row : Row) (b : Board)
    → IsLimited (row_after (around setting next left) row b) (row_after (around setting next 20) row b)
row_limited setting next left (Never cause) b = inr refl
row_limited setting next left (Opens sense) b = inr refl
row_limited setting next left Flips b = inr refl
row_limited setting next left Closes b = inr refl
row_limited setting next left Lays b = inr refl
row_limited setting next left Fetches b = inr refl
row_limited setting next left Separates b = inr refl
row_limited setting next left (Does deed) b = executed_limited setting next left deed b (is_live b.conditions)
row_limited setting next left (DoesAndVerifies deed) b = verified_limited setting next left deed b (is_live b.conditions)

pub instr_limited : (setting : Setting) (next left : ℕ) (instr : Instr) (b : Board)
    → IsLimited (board_after (around setting next left) instr b) (board_after (around setting next 20) instr b)
instr_limited setting next left (Push e) b = inr refl
instr_limited setting next left (Do opcode) b = row_limited setting next left (row_of opcode.0) b

-- ---- where the keys may be counted

abbrev pub has_keys : Row → Bool
has_keys (Does deed) = is_many deed
has_keys (DoesAndVerifies deed) = is_many deed
has_keys _ = false

executed_same : (setting : Setting) (next left : ℕ) (deed : Deed) (b : Board) (live : Bool) → (is_many deed ≡ true → live ≡ true → keys_on b.stack ≤ left)
    → executed_where live (on_stack (done (asked_at (around setting next left) b.separator) deed)) b
    ≡ executed_where live (on_stack (done (asked_at (around setting next 20) b.separator) deed)) b
executed_same setting next left deed b true fit =
    ap (λ (r : Result Stack MachineCause). r >>= λ stack. Ok (board stack b.alternate b.conditions b.separator))
    (deed_same setting.context setting.verdicts (setting.active b.separator) left deed b.stack (λ many. fit many refl))
executed_same setting next left deed b false fit = refl

verified_same : (setting : Setting) (next left : ℕ) (deed : Deed) (b : Board) (live : Bool) → (is_many deed ≡ true → live ≡ true → keys_on b.stack ≤ left)
    → executed_where live (on_stack (done_and_verified (asked_at (around setting next left) b.separator) deed)) b
    ≡ executed_where live (on_stack (done_and_verified (asked_at (around setting next 20) b.separator) deed)) b
verified_same setting next left deed b true fit =
    ap (λ (r : Result Stack MachineCause). (r >>= λ next. verified next) >>= λ stack. Ok (board stack b.alternate b.conditions b.separator))
    (deed_same setting.context setting.verdicts (setting.active b.separator) left deed b.stack (λ many. fit many refl))
verified_same setting next left deed b false fit = refl

row_same : (setting : Setting) (next left : ℕ) (row : Row) (b : Board) → (has_keys row ≡ true → is_live b.conditions ≡ true → keys_on b.stack ≤ left)
    → row_after (around setting next left) row b ≡ row_after (around setting next 20) row b
row_same setting next left (Never cause) b fit = refl
row_same setting next left (Opens sense) b fit = refl
row_same setting next left Flips b fit = refl
row_same setting next left Closes b fit = refl
row_same setting next left Lays b fit = refl
row_same setting next left Fetches b fit = refl
row_same setting next left Separates b fit = refl
row_same setting next left (Does deed) b fit = executed_same setting next left deed b (is_live b.conditions) fit
row_same setting next left (DoesAndVerifies deed) b fit = verified_same setting next left deed b (is_live b.conditions) fit

-- ---- which opcodes have keys

-- a test of each row with its opcode
abbrev all_from : (ℕ → Row → Bool) → ℕ → List Row → Bool
all_from holds opcode [] = true
all_from holds opcode (row ∷ table) = holds opcode row && all_from holds (opcode + 1) table

from_at : (holds : ℕ → Row → Bool) (first : ℕ) (table : List Row) (at opcode : ℕ) → first + at ≡ opcode → all_from holds first table ≡ true → holds opcode bad ≡ true
    → holds opcode (row_or_bad (slice_get table at)) ≡ true
from_at holds first [] at opcode is all otherwise = otherwise
from_at holds first (row ∷ table) zero opcode is all otherwise =
    let same : first ≡ opcode = omega (arith, is) in
    subst (λ (n : ℕ). holds n row ≡ true) same (and_parts _ _ all).0
from_at holds first (row ∷ table) (suc at) opcode is all otherwise =
    from_at holds (first + 1) table at opcode (omega (arith, is)) (and_parts _ _ all).1 otherwise

-- its row has keys only where the opcode takes keys
abbrev agrees : ℕ → Row → Bool
agrees opcode row = takes_keys opcode || not (has_keys row)

all_agree : all_from agrees 0x61 rows ≡ true
unfolding rows
all_agree = refl

bad_agrees : (opcode : ℕ) → agrees opcode bad ≡ true
bad_agrees opcode = by_test (takes_keys opcode)
  where
    by_test : (t : Bool) → (t || true) ≡ true
    by_test true = refl
    by_test false = refl

opcode_agrees : (opcode : ℕ) → agrees opcode (row_of opcode) ≡ true
opcode_agrees opcode = by_test (ltb opcode 0x61) refl
  where
    by_test : (t : Bool) → ltb opcode 0x61 ≡ t → agrees opcode (cond t bad (row_or_bad (slice_get rows (opcode - 0x61)))) ≡ true
    by_test true is = bad_agrees opcode
    by_test false is = from_at agrees 0x61 rows (opcode - 0x61) opcode (grind (arith, nat_tests, is)) all_agree (bad_agrees opcode)

keys_take : (takes has : Bool) → (takes || not has) ≡ true → has ≡ true → takes ≡ true
keys_take true has agree is = refl
keys_take false true agree is = agree
keys_take false false agree is = is

counted_keys : (live takes : Bool) (keys left : ℕ) → live ≡ true → takes ≡ true → cond (live && takes) keys 0 ≤ left → keys ≤ left
counted_keys true true keys left l t fit = fit
counted_keys false takes keys left l t fit = absurd (false≢true l)
counted_keys true false keys left l t fit = absurd (false≢true t)

-- an instruction whose keys may be counted does what it does where 20 may be
pub instr_same : (setting : Setting) (next left : ℕ) (instr : Instr) (b : Board) → keys_counted instr b ≤ left
    → board_after (around setting next left) instr b ≡ board_after (around setting next 20) instr b
instr_same setting next left (Push e) b fit = refl
instr_same setting next left (Do opcode) b fit =
    row_same setting next left (row_of opcode.0) b
    (λ has live. counted_keys (is_live b.conditions) (takes_keys opcode.0) (keys_on b.stack) left live (keys_take _ _ (opcode_agrees opcode.0) has) fit)
