-- An instruction adds at most one element, and an opcode that is counted at most two more. Where so many keys may come as a check
-- may have, its own failures are none of the limits.
use Rattle.std.proofs.Common.{◌≡◌, ℕ, zero, suc, ◌+◌, ◌-◌, ◌*◌, ◌≤◌, Bool, true, false, not, ◌&&◌, leb, ltb, cond, List, [], ◌∷◌, ◌++◌, length, take, drop, pos, negsuc, ℤ, slice_get, Option, Some, None, Result, Ok, Err, refl, sym, ap, ◌∙◌, subst, arith}
use Rattle.std.specs.Prelude.{reverse, slice_index_or}
use Rattle.std.specs.List.{list_all}
use Rattle.std.proofs.lemmas.Bool.{and_parts, le-ltb, false≢true}
use Rattle.std.proofs.lemmas.Bool.Decides.{nat_tests}
use Rattle.std.proofs.lemmas.List.{length-append, take-append-drop, length-drop}
use Rattle.cash_base.specs.declared.fault.Cause.{Cause}
use Rattle.cash_base.specs.declared.fault.Cause.TheVariants.{CheckFailed}
use Rattle.cash_base.specs.declared.fault.MachineCause.{MachineCause}
use Rattle.cash_base.specs.declared.fault.MachineCause.TheVariants.{Shared, CheckBits, KeyCount, OpLimit, BadOpcode}
use Rattle.cash_base.specs.Failing.{◌>>=◌, ◌>>◌, refused_if}
use Rattle.cash_base.specs.Number.{truth_of}
use Rattle.cash_base.specs.Operand.{operand_number, truth_bytes}
use Rattle.element_ops.specs.Operation.{result1, result2, result3, split_parts}
use Rattle.element_ops.specs.declared.op.Op1.TheVariants.{Size}
use Rattle.tx_context.specs.declared.verdict.Kind.TheVariants.{Single, DataSig}
use Rattle.tx_context.specs.Lookup.{context_value, indexed_value, time_outcome, age_outcome}
use Rattle.tx_context.specs.Verdict.{single_verdict, multi_verdict}
use Rattle.script_codec.specs.declared.instr.Instr.{Instr}
use Rattle.script_codec.specs.declared.instr.Instr.TheVariants.{Push, Do}
use Rattle.script_codec.specs.Counting.{weight}
use Rattle.opcode_table.specs.declared.rows.Deed.{Deed}
use Rattle.opcode_table.specs.declared.rows.Deed.TheVariants.{Stays, Refuses, Puts, One, Two, Three, Measures, Splits, CopiesTrue, Counts, Copies, Moves, Verifies, Asks, AsksAt, Waits, Ages, Checks, ChecksData, ChecksMany}
use Rattle.opcode_table.specs.declared.rows.Row.{Row}
use Rattle.opcode_table.specs.declared.rows.Row.TheVariants.{Never, Opens, Flips, Closes, Lays, Fetches, Separates, Does, DoesAndVerifies}
use Rattle.opcode_table.specs.Stack.{Stack, Action, shared, on_one, on_two, on_three, taken, with_top, put_on, puts}
use Rattle.opcode_table.specs.Asking.{Asked}
use Rattle.opcode_table.specs.Deeds.{gives, judged, verified, lock_met, index_taken, element_or_underflow, copied, moved, at_index, picked, rolled, empty_taken, number_within, number_taken, sigs_taken, checked_many, done, done_and_verified}
use Rattle.opcode_table.specs.Table.{rows, bad, row_or_bad, row_of, is_modest, is_modest_row}
use Rattle.bch_vm.specs.Setting.{Setting, around, asked_at}
use Rattle.bch_vm.specs.Board.{Board, board, height, is_live, opened_where, flipped, closed, on_conditions, laid_from, fetched_from, on_stack, executed_where, row_after, pushed_where, board_after}
use Rattle.bch_vm.specs.Law.{is_limit}
use Rattle.spend_laws.proofs.Limited.{IsFew, few_taken, keys_by}

-- ---- results of so many elements at most

abbrev pub IsLow : ℕ → Result Stack MachineCause → Type 0
IsLow most (Ok stack) = length stack ≤ most
IsLow most (Err cause) = is_limit cause ≡ false

-- an outcome with elements on top of it
low_shared : {A : Type 0} (most : ℕ) (r : Result A Cause) (f : A → Result Stack MachineCause) → ((x : A) → IsLow most (f x)) → IsLow most (shared r >>= f)
low_shared most (Ok x) f low = low x
low_shared most (Err cause) f low = refl

low_more : (few most : ℕ) (r : Result Stack MachineCause) → few ≤ most → IsLow few r → IsLow most r
low_more few most (Ok stack) more low = omega (arith, more, low)
low_more few most (Err cause) more low = low

-- ---- the shapes

low_put : (few taken : ℕ) (rest : Stack) (r : Result Stack MachineCause) → IsLow few r → IsLow (few + length rest) (r >>= λ es. Ok (es ++ rest))
low_put few taken rest (Ok es) low = omega (arith, low, length-append es rest)
low_put few taken rest (Err cause) low = low

low_one : (put : List ℕ → Result Stack MachineCause) (stack : Stack) → ((a : List ℕ) → IsLow 3 (put a)) → IsLow (length stack + 3) (on_one put stack)
low_one put [] low = refl
low_one put (a ∷ rest) low = low_more (3 + length rest) (length (a ∷ rest) + 3) (put a >>= λ es. Ok (es ++ rest)) (omega arith) (low_put 3 1 rest (put a) (low a))

low_two : (put : List ℕ → List ℕ → Result Stack MachineCause) (stack : Stack) → ((a b : List ℕ) → IsLow 3 (put a b)) → IsLow (length stack + 3) (on_two put stack)
low_two put [] low = refl
low_two put (b ∷ []) low = refl
low_two put (b ∷ a ∷ rest) low = low_more (3 + length rest) (length (b ∷ a ∷ rest) + 3) (put a b >>= λ es. Ok (es ++ rest)) (omega arith) (low_put 3 2 rest (put a b) (low a b))

low_three : (put : List ℕ → List ℕ → List ℕ → Result Stack MachineCause) (stack : Stack) → ((a b c : List ℕ) → IsLow 3 (put a b c)) → IsLow (length stack + 3) (on_three put stack)
low_three put [] low = refl
low_three put (c ∷ []) low = refl
low_three put (c ∷ b ∷ []) low = refl
low_three put (c ∷ b ∷ a ∷ rest) low = low_more (3 + length rest) (length (c ∷ b ∷ a ∷ rest) + 3) (put a b c >>= λ es. Ok (es ++ rest)) (omega arith) (low_put 3 3 rest (put a b c) (low a b c))

low_gives : (most : ℕ) (kept : Stack) (r : Result (List ℕ) Cause) → length kept + 1 ≤ most → IsLow most (gives kept r)
low_gives most kept r room = low_shared most r (λ e. Ok (e ∷ kept)) (λ e. omega (arith, room))

-- ---- elements that are taken and put

-- so many are gone, or no limit was the cause
abbrev IsTaken : ℕ → Stack → Result (Stack × Stack) MachineCause → Type 0
IsTaken count stack (Ok parts) = length parts.1 + count ≡ length stack
IsTaken count stack (Err cause) = is_limit cause ≡ false

taken_step : (count : ℕ) (e : List ℕ) (stack : Stack) (r : Result (Stack × Stack) MachineCause) → IsTaken count stack r
    → IsTaken (suc count) (e ∷ stack) (r >>= λ parts. Ok (with_top e parts))
taken_step count e stack (Ok parts) is = omega (arith, is)
taken_step count e stack (Err cause) is = is

is_taken : (count : ℕ) (stack : Stack) → IsTaken count stack (taken count stack)
is_taken zero stack = omega arith
is_taken (suc count) [] = refl
is_taken (suc count) (e ∷ stack) = taken_step count e stack (taken count stack) (is_taken count stack)

length-put_on : (rest es : Stack) (numbers : List ℕ) → length (put_on rest es numbers) ≡ length rest + length numbers
length-put_on rest es [] = omega arith
length-put_on rest es (number ∷ numbers) = let more = length-put_on (slice_index_or es number [] ∷ rest) es numbers in omega (arith, more)

low_puts : (count : ℕ) (numbers : List ℕ) (stack : Stack) → length numbers ≤ count + 3 → IsLow (length stack + 3) (puts count numbers stack)
low_puts count numbers stack few = by_parts (taken count stack) (is_taken count stack)
  where
    by_parts : (r : Result (Stack × Stack) MachineCause) → IsTaken count stack r → IsLow (length stack + 3) (r >>= λ parts. Ok (put_on parts.1 (reverse parts.0) numbers))
    by_parts (Ok parts) is = let put = length-put_on parts.1 (reverse parts.0) numbers in omega (arith, is, few, put)
    by_parts (Err cause) is = is

-- ---- elements at an index

abbrev IsIndexed : Stack → Result (ℤ × Stack) MachineCause → Type 0
IsIndexed stack (Ok indexed) = length indexed.1 ≤ length stack
IsIndexed stack (Err cause) = is_limit cause ≡ false

is_indexed : (stack : Stack) → IsIndexed stack (index_taken stack)
is_indexed [] = refl
is_indexed (index ∷ []) = refl
is_indexed (index ∷ below ∷ rest) = by_number (operand_number index)
  where
    by_number : (r : Result ℤ Cause) → IsIndexed (index ∷ below ∷ rest) (shared r >>= λ n. Ok (n, below ∷ rest))
    by_number (Err cause) = refl
    by_number (Ok n) = omega arith

low_copied : (n : ℕ) (stack : Stack) → IsLow (length stack + 3) (copied n stack)
low_copied n stack = by_element (slice_get stack n)
  where
    by_element : (e : Option (List ℕ)) → IsLow (length stack + 3) (element_or_underflow e >>= λ e. Ok (e ∷ stack))
    by_element None = refl
    by_element (Some e) = omega arith

without_one : (n : ℕ) (stack : Stack) → length (take n stack ++ drop (n + 1) stack) ≤ length stack
without_one n stack =
    let both = length-append (take n stack) (drop (n + 1) stack) in
    let whole = length-append (take n stack) (drop n stack) in
    let same = ap (λ (l : Stack). length l) (take-append-drop n stack) in
    let rest = length-drop n stack in
    let less = length-drop (n + 1) stack in
    omega (arith, both, whole, same, rest, less)

low_moved : (n : ℕ) (stack : Stack) → IsLow (length stack + 3) (moved n stack)
low_moved n stack = by_element (slice_get stack n)
  where
    by_element : (e : Option (List ℕ)) → IsLow (length stack + 3) (element_or_underflow e >>= λ e. Ok (e ∷ take n stack ++ drop (n + 1) stack))
    by_element None = refl
    by_element (Some e) = let fewer = without_one n stack in omega (arith, fewer)

low_at : (action : ℕ → Action) (n : ℤ) (stack : Stack) → ((k : ℕ) → IsLow (length stack + 3) (action k stack)) → IsLow (length stack + 3) (at_index action n stack)
low_at action (pos n) stack low = low n
low_at action (negsuc n) stack low = refl

low_indexed : (action : ℕ → Action) (stack : Stack) → ((k : ℕ) (s : Stack) → IsLow (length s + 3) (action k s))
    → IsLow (length stack + 3) (index_taken stack >>= λ indexed. at_index action indexed.0 indexed.1)
low_indexed action stack low = by_index (index_taken stack) (is_indexed stack)
  where
    by_index : (r : Result (ℤ × Stack) MachineCause) → IsIndexed stack r → IsLow (length stack + 3) (r >>= λ indexed. at_index action indexed.0 indexed.1)
    by_index (Ok indexed) is =
        low_more (length indexed.1 + 3) (length stack + 3) (at_index action indexed.0 indexed.1) (omega (arith, is))
        (low_at action indexed.0 indexed.1 (λ k. low k indexed.1))
    by_index (Err cause) is = is

-- ---- a check of several signatures, where 20 keys may come

abbrev IsCounted : Stack → Result (ℕ × Stack) MachineCause → Type 0
IsCounted stack (Ok number) = length number.1 + 1 ≡ length stack
IsCounted stack (Err cause) = is_limit cause ≡ false

counted_by : (most n : ℕ) (e : List ℕ) (rest : Stack) (t : Bool) → IsCounted (e ∷ rest) (cond t (Ok n) (Err KeyCount) >>= λ number. Ok (number, rest))
counted_by most n e rest true = omega arith
counted_by most n e rest false = refl

counted_number : (most : ℕ) (e : List ℕ) (rest : Stack) (r : Result ℤ Cause)
    → IsCounted (e ∷ rest) (shared r >>= λ n. number_within most n >>= λ number. Ok (number, rest))
counted_number most e rest (Err cause) = refl
counted_number most e rest (Ok (pos n)) = counted_by most n e rest (leb n most)
counted_number most e rest (Ok (negsuc n)) = refl

is_counted : (most : ℕ) (stack : Stack) → IsCounted stack (number_taken most stack)
is_counted most [] = refl
is_counted most (e ∷ rest) = counted_number most e rest (operand_number e)

-- what is left is lower, or no limit was the cause
abbrev IsLower : Stack → Result (Stack × Stack) MachineCause → Type 0
IsLower stack (Ok parts) = length parts.1 + 1 ≤ length stack
IsLower stack (Err cause) = is_limit cause ≡ false

lower_taken : (count : ℕ) (stack rest : Stack) (r : Result (Stack × Stack) MachineCause) → length rest + 1 ≡ length stack → IsTaken count rest r → IsLower stack r
lower_taken count stack rest (Ok parts) less is = omega (arith, less, is)
lower_taken count stack rest (Err cause) less is = is

lower_keys : (stack : Stack) (r : Result (ℕ × Stack) MachineCause) → IsFew 20 r → IsCounted stack r → IsLower stack (keys_by 20 r)
lower_keys stack (Err cause) few is = is
lower_keys stack (Ok n) few is =
    subst (λ (t : Bool). IsLower stack (refused_if t OpLimit >> taken n.0 n.1)) (sym (le-ltb 20 n.0 few))
    (lower_taken n.0 stack n.1 (taken n.0 n.1) is (is_taken n.0 n.1))

low_empty : (stack : Stack) → IsLow (length stack) (empty_taken stack)
low_empty [] = refl
low_empty (e ∷ rest) = by_test (ltb 0 (length e))
  where
    by_test : (t : Bool) → IsLow (length (e ∷ rest)) (refused_if t CheckBits >> Ok rest)
    by_test true = refl
    by_test false = omega arith

abbrev IsNotHigher : Stack → Result (Stack × Stack) MachineCause → Type 0
IsNotHigher stack (Ok parts) = length parts.1 ≤ length stack
IsNotHigher stack (Err cause) = is_limit cause ≡ false

not_higher : (stack : Stack) (parts : Stack × Stack) (r : Result Stack MachineCause) → length parts.1 ≤ length stack → IsLow (length parts.1) r
    → IsNotHigher stack (r >>= λ rest. Ok (parts.0, rest))
not_higher stack parts (Ok rest) less low = omega (arith, less, low)
not_higher stack parts (Err cause) less low = low

sigs_after : (count : ℕ) (stack rest : Stack) (r : Result (Stack × Stack) MachineCause) → length rest + 1 ≡ length stack → IsTaken count rest r
    → IsNotHigher stack (r >>= λ parts. empty_taken parts.1 >>= λ rest. Ok (parts.0, rest))
sigs_after count stack rest (Err cause) less is = is
sigs_after count stack rest (Ok parts) less is = not_higher stack parts (empty_taken parts.1) (omega (arith, less, is)) (low_empty parts.1)

sigs_not_higher : (most : ℕ) (stack : Stack) → IsNotHigher stack (sigs_taken most stack)
sigs_not_higher most stack = by_number (number_taken most stack) (is_counted most stack)
  where
    by_number : (r : Result (ℕ × Stack) MachineCause) → IsCounted stack r
        → IsNotHigher stack (r >>= λ number. taken number.0 number.1 >>= λ parts. empty_taken parts.1 >>= λ rest. Ok (parts.0, rest))
    by_number (Err cause) is = is
    by_number (Ok number) is = sigs_after number.0 stack number.1 (taken number.0 number.1) is (is_taken number.0 number.1)

low_verdict : (asked : Asked) (stack : Stack) (keys : Stack) (r : Result (Stack × Stack) MachineCause) → IsNotHigher stack r
    → IsLow (length stack + 3) (r >>= λ sigs. shared (multi_verdict asked.verdicts (reverse sigs.0) (reverse keys)) >>= λ truth. Ok (truth_bytes truth ∷ sigs.1))
low_verdict asked stack keys (Err cause) is = is
low_verdict asked stack keys (Ok sigs) is =
    low_shared (length stack + 3) (multi_verdict asked.verdicts (reverse sigs.0) (reverse keys)) (λ truth. Ok (truth_bytes truth ∷ sigs.1)) (λ truth. omega (arith, is))

low_many : (asked : Asked) (stack : Stack) → asked.left ≡ 20 → IsLow (length stack + 3) (checked_many asked stack)
low_many asked stack most =
    subst (λ (left : ℕ). IsLow (length stack + 3) (keys_by left (number_taken 20 stack) >>= judged_keys)) (sym most)
    (by_keys (keys_by 20 (number_taken 20 stack)) (lower_keys stack (number_taken 20 stack) (few_taken 20 stack) (is_counted 20 stack)))
  where
    judged_keys : Stack × Stack → Result Stack MachineCause
    judged_keys keys = sigs_taken (length keys.0) keys.1 >>= λ sigs.
        shared (multi_verdict asked.verdicts (reverse sigs.0) (reverse keys.0)) >>= λ truth. Ok (truth_bytes truth ∷ sigs.1)

    by_keys : (r : Result (Stack × Stack) MachineCause) → IsLower stack r → IsLow (length stack + 3) (r >>= judged_keys)
    by_keys (Err cause) is = is
    by_keys (Ok keys) is =
        low_more (length keys.1 + 3) (length stack + 3) (judged_keys keys) (omega (arith, is))
        (low_verdict asked keys.1 keys.0 (sigs_taken (length keys.0) keys.1) (sigs_not_higher (length keys.0) keys.1))

-- ---- deeds

low_test : (t : Bool) (cause : MachineCause) (es : Stack) → is_limit cause ≡ false → length es ≤ 3 → IsLow 3 (refused_if t cause >> Ok es)
low_test true cause es none few = none
low_test false cause es none few = few

low_copies : (t : Bool) (a : List ℕ) → length (cond t (a ∷ a ∷ []) (a ∷ [])) ≤ 3
low_copies true a = omega arith
low_copies false a = omega arith

low_verified : (stack : Stack) → IsLow (length stack + 3) (verified stack)
low_verified stack = low_one _ stack (λ a. low_test (not (truth_of a)) (Shared CheckFailed) [] refl (omega arith))

low_lock : (outcome : List ℕ → Result (Unit {0}) Cause) (stack : Stack) → IsLow (length stack + 3) (lock_met outcome stack)
low_lock outcome stack = low_one _ stack (λ a. by_outcome a (outcome a))
  where
    by_outcome : (a : List ℕ) (r : Result (Unit {0}) Cause) → IsLow 3 (shared r >> Ok (a ∷ []))
    by_outcome a (Ok u) = omega arith
    by_outcome a (Err cause) = refl

low_judged : (r : Result Bool Cause) → IsLow 3 (judged r)
low_judged r = low_shared 3 r (λ truth. Ok (truth_bytes truth ∷ [])) (λ truth. omega arith)

low_split : (r : Result (List ℕ × List ℕ) Cause) → IsLow 3 (shared r >>= λ parts. Ok (parts.1 ∷ parts.0 ∷ []))
low_split r = low_shared 3 r (λ parts. Ok (parts.1 ∷ parts.0 ∷ [])) (λ parts. omega arith)

length_first : (most : ℕ) (l : List ℕ) → length (take most l) ≤ most
length_first most l =
    let whole = length-append (take most l) (drop most l) in
    let same = ap (λ (l : List ℕ). length l) (take-append-drop most l) in
    let rest = length-drop most l in
    omega (arith, whole, same, rest)

not-true : (t : Bool) → not t ≡ true → t ≡ false
not-true true is = absurd (false≢true is)
not-true false is = refl

-- its cause of failure, if it always fails, is none of the limits
abbrev is_fair : Deed → Bool
is_fair (Refuses cause) = not (is_limit cause)
is_fair _ = true

low_deed : (asked : Asked) (deed : Deed) (stack : Stack) → asked.left ≡ 20 → is_modest deed ≡ true → is_fair deed ≡ true → IsLow (length stack + 3) (done asked deed stack)
low_deed asked Stays stack most modest fair = omega arith
low_deed asked (Refuses cause) stack most modest fair = not-true (is_limit cause) fair
low_deed asked (Puts count put numbers) stack most modest fair =
    let parts = and_parts (leb count 6) (leb put 6 && leb put (count + 3)) modest in
    let more = and_parts (leb put 6) (leb put (count + 3)) parts.1 in
    let few : put ≤ count + 3 = grind (arith, nat_tests, more) in
    let first = length_first put numbers in
    low_puts count (take put numbers) stack (omega (arith, few, first))
low_deed asked (One op) stack most modest fair = low_one _ stack (λ a. low_gives 3 [] (result1 op a) (omega arith))
low_deed asked (Two op) stack most modest fair = low_two _ stack (λ a b. low_gives 3 [] (result2 op a b) (omega arith))
low_deed asked (Three op) stack most modest fair = low_three _ stack (λ a b c. low_gives 3 [] (result3 op a b c) (omega arith))
low_deed asked Measures stack most modest fair = low_one (λ a. gives (a ∷ []) (result1 Size a)) stack (λ a. low_gives 3 (a ∷ []) (result1 Size a) (omega arith))
low_deed asked Splits stack most modest fair = low_two (λ a n. shared (split_parts a n) >>= λ parts. Ok (parts.1 ∷ parts.0 ∷ [])) stack (λ a n. low_split (split_parts a n))
low_deed asked CopiesTrue stack most modest fair = low_one (λ a. Ok (cond (truth_of a) (a ∷ a ∷ []) (a ∷ []))) stack (λ a. low_copies (truth_of a) a)
low_deed asked Counts stack most modest fair = omega arith
low_deed asked Copies stack most modest fair = low_indexed copied stack low_copied
low_deed asked Moves stack most modest fair = low_indexed moved stack low_moved
low_deed asked Verifies stack most modest fair = low_verified stack
low_deed asked (Asks what) stack most modest fair = low_gives (length stack + 3) stack (context_value asked.context what asked.active) (omega arith)
low_deed asked (AsksAt what) stack most modest fair = low_one _ stack (λ index. low_gives 3 [] (indexed_value asked.context what index) (omega arith))
low_deed asked Waits stack most modest fair = low_lock (time_outcome asked.context) stack
low_deed asked Ages stack most modest fair = low_lock (age_outcome asked.context) stack
low_deed asked Checks stack most modest fair = low_two _ stack (λ sig key. low_judged (single_verdict asked.verdicts Single sig key []))
low_deed asked ChecksData stack most modest fair = low_three _ stack (λ sig message key. low_judged (single_verdict asked.verdicts DataSig sig key message))
low_deed asked ChecksMany stack most modest fair = low_many asked stack most

-- VERIFY adds nothing
not_added : (stack : Stack) → IsLow (length stack) (verified stack)
not_added [] = refl
not_added (a ∷ rest) = by_test (not (truth_of a))
  where
    by_test : (t : Bool) → IsLow (length (a ∷ rest)) ((refused_if t (Shared CheckFailed) >> Ok []) >>= λ es. Ok (es ++ rest))
    by_test true = refl
    by_test false = omega arith

low_then_verified : (most : ℕ) (r : Result Stack MachineCause) → IsLow most r → IsLow most (r >>= λ next. verified next)
low_then_verified most (Ok stack) low = low_more (length stack) most (verified stack) low (not_added stack)
low_then_verified most (Err cause) low = low

-- ---- instructions

abbrev pub IsModestOn : ℕ → Board → Result Board MachineCause → Type 0
IsModestOn more b (Ok next) = height next ≤ height b + more
IsModestOn more b (Err cause) = is_limit cause ≡ false

modest_more : (few more : ℕ) (b : Board) (r : Result Board MachineCause) → few ≤ more → IsModestOn few b r → IsModestOn more b r
modest_more few more b (Ok next) room modest = omega (arith, room, modest)
modest_more few more b (Err cause) room modest = modest

modest_stack : (b : Board) (r : Result Stack MachineCause) → IsLow (length b.stack + 3) r → IsModestOn 3 b (r >>= λ stack. Ok (board stack b.alternate b.conditions b.separator))
modest_stack b (Ok stack) low = omega (arith, low)
modest_stack b (Err cause) low = low

modest_opened : (sense live : Bool) (stack alternate : Stack) (conditions : List Bool) (separator : ℕ)
    → IsModestOn 3 (board stack alternate conditions separator) (opened_where live sense (board stack alternate conditions separator))
modest_opened sense false stack alternate conditions separator = omega arith
modest_opened sense true [] alternate conditions separator = refl
modest_opened sense true (a ∷ rest) alternate conditions separator = omega arith

modest_flipped : (stack alternate : Stack) (conditions : List Bool) (separator : ℕ)
    → IsModestOn 3 (board stack alternate conditions separator) (on_conditions flipped (board stack alternate conditions separator))
modest_flipped stack alternate [] separator = refl
modest_flipped stack alternate (c ∷ conditions) separator = omega arith

modest_closed : (stack alternate : Stack) (conditions : List Bool) (separator : ℕ)
    → IsModestOn 3 (board stack alternate conditions separator) (on_conditions closed (board stack alternate conditions separator))
modest_closed stack alternate [] separator = refl
modest_closed stack alternate (c ∷ conditions) separator = omega arith

modest_laid : (live : Bool) (stack alternate : Stack) (conditions : List Bool) (separator : ℕ)
    → IsModestOn 3 (board stack alternate conditions separator) (executed_where live (laid_from stack) (board stack alternate conditions separator))
modest_laid false stack alternate conditions separator = omega arith
modest_laid true [] alternate conditions separator = refl
modest_laid true (e ∷ rest) alternate conditions separator = omega arith

modest_fetched : (live : Bool) (stack alternate : Stack) (conditions : List Bool) (separator : ℕ)
    → IsModestOn 3 (board stack alternate conditions separator) (executed_where live (fetched_from alternate) (board stack alternate conditions separator))
modest_fetched false stack alternate conditions separator = omega arith
modest_fetched true stack [] conditions separator = refl
modest_fetched true stack (e ∷ rest) conditions separator = omega arith

modest_where : (live : Bool) (b : Board) (r : Board → Result Board MachineCause) → IsModestOn 3 b (r b) → IsModestOn 3 b (executed_where live r b)
modest_where true b r modest = modest
modest_where false b r modest = omega arith

abbrev is_fair_row : Row → Bool
is_fair_row (Never cause) = not (is_limit cause)
is_fair_row (Does deed) = is_fair deed
is_fair_row (DoesAndVerifies deed) = is_fair deed
is_fair_row _ = true

modest_row : (setting : Setting) (next : ℕ) (row : Row) (b : Board) → is_modest_row row ≡ true → is_fair_row row ≡ true → IsModestOn 3 b (row_after (around setting next 20) row b)
modest_row setting next (Never cause) b modest fair = not-true (is_limit cause) fair
modest_row setting next (Opens sense) b modest fair = modest_opened sense (is_live b.conditions) b.stack b.alternate b.conditions b.separator
modest_row setting next Flips b modest fair = modest_flipped b.stack b.alternate b.conditions b.separator
modest_row setting next Closes b modest fair = modest_closed b.stack b.alternate b.conditions b.separator
modest_row setting next Lays b modest fair = modest_laid (is_live b.conditions) b.stack b.alternate b.conditions b.separator
modest_row setting next Fetches b modest fair = modest_fetched (is_live b.conditions) b.stack b.alternate b.conditions b.separator
modest_row setting next Separates b modest fair = modest_where (is_live b.conditions) b (λ b. Ok (board b.stack b.alternate b.conditions next)) (omega arith)
modest_row setting next (Does deed) b modest fair =
    let asked = asked_at (around setting next 20) b.separator in
    modest_where (is_live b.conditions) b (on_stack (done asked deed)) (modest_stack b (done asked deed b.stack) (low_deed asked deed b.stack refl modest fair))
modest_row setting next (DoesAndVerifies deed) b modest fair =
    let asked = asked_at (around setting next 20) b.separator in
    modest_where (is_live b.conditions) b (on_stack (done_and_verified asked deed)) (modest_stack b (done_and_verified asked deed b.stack)
    (low_then_verified (length b.stack + 3) (done asked deed b.stack) (low_deed asked deed b.stack refl modest fair)))

-- ---- the table

at_row : (holds : Row → Bool) (table : List Row) (at : ℕ) → holds bad ≡ true → list_all holds table ≡ true
    → holds (row_or_bad (slice_get table at)) ≡ true
at_row holds [] at otherwise all = otherwise
at_row holds (row ∷ table) zero otherwise all = (and_parts _ _ all).0
at_row holds (row ∷ table) (suc at) otherwise all = at_row holds table at otherwise (and_parts _ _ all).1

is_sound : Row → Bool
is_sound row = is_modest_row row && is_fair_row row

all_sound : list_all is_sound rows ≡ true
unfolding rows is_sound
all_sound = refl

bad_sound : is_sound bad ≡ true
unfolding is_sound
bad_sound = refl

row_modest : (setting : Setting) (next : ℕ) (row : Row) (b : Board) → is_sound row ≡ true → IsModestOn 3 b (row_after (around setting next 20) row b)
unfolding is_sound
row_modest setting next row b sound = let parts = and_parts _ _ sound in modest_row setting next row b parts.0 parts.1

opcode_modest : (setting : Setting) (next opcode : ℕ) (b : Board) → IsModestOn (1 + 2 * weight opcode) b (row_after (around setting next 20) (row_of opcode) b)
opcode_modest setting next opcode b = by_tests (ltb opcode 0x61) (ltb 0x60 opcode) (grind (arith, nat_tests))
  where
    refused : (live : Bool) → IsModestOn 1 b (executed_where live (λ b. Err BadOpcode) b)
    refused true = refl
    refused false = omega arith

    by_tests : (low counted : Bool) → (low ≡ false → counted ≡ true)
        → IsModestOn (1 + 2 * cond counted 1 0) b (row_after (around setting next 20) (cond low bad (row_or_bad (slice_get rows (opcode - 0x61)))) b)
    by_tests true counted is =
        modest_more 1 (1 + 2 * cond counted 1 0) b (executed_where (is_live b.conditions) (λ b. Err BadOpcode) b) (omega arith) (refused (is_live b.conditions))
    by_tests false true is = row_modest setting next _ b (at_row is_sound rows (opcode - 0x61) bad_sound all_sound)
    by_tests false false is = absurd (false≢true (is refl))

pushed_modest : (live : Bool) (e : List ℕ) (b : Board) → IsModestOn 1 b (Ok (pushed_where live e b))
pushed_modest true e b = omega arith
pushed_modest false e b = omega arith

-- how many elements it adds at most
abbrev pub rise : Instr → ℕ
rise (Push e) = 1
rise (Do opcode) = 1 + 2 * weight opcode.0

pub instr_modest : (setting : Setting) (next : ℕ) (instr : Instr) (b : Board) → IsModestOn (rise instr) b (board_after (around setting next 20) instr b)
instr_modest setting next (Push e) b = pushed_modest (is_live b.conditions) e.items b
instr_modest setting next (Do opcode) b = opcode_modest setting next opcode.0 b
