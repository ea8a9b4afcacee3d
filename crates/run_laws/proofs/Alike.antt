-- Elements under the stack change nothing of what an instruction does to what lies on them, but for DEPTH.
use Rattle.std.proofs.Common.{◌≡◌, ℕ, zero, suc, ◌+◌, ◌<◌, Bool, true, false, not, nat_lt, List, [], ◌∷◌, ◌++◌, length, take, drop, ℤ, pos, negsuc, Option, Some, None, Result, Ok, Err, refl, sym, ap, ◌∙◌, subst, arith, append_assoc}
use Rattle.std.specs.Prelude.{slice_get, reverse, if◌then◌else◌}
use Rattle.std.proofs.lemmas.Bool.{false≢true, and_parts}
use Rattle.std.proofs.lemmas.List.{take-append-le, drop-append-le}
use Rattle.std.proofs.lemmas.Option.{slice_get_within}
use Rattle.cash_base.specs.declared.fault.Cause.{Cause}
use Rattle.cash_base.specs.declared.fault.MachineCause.{MachineCause}
use Rattle.cash_base.specs.declared.fault.MachineCause.TheVariants.{CheckBits, OpLimit}
use Rattle.cash_base.specs.Failing.{◌>>=◌, ◌>>◌, refused_if}
use Rattle.cash_base.specs.Number.{truth_of}
use Rattle.cash_base.specs.Operand.{operand_number, truth_bytes}
use Rattle.element_ops.specs.Operation.{result1}
use Rattle.element_ops.specs.declared.op.Op1.TheVariants.{Size}
use Rattle.tx_context.specs.Lookup.{context_value}
use Rattle.tx_context.specs.Verdict.{multi_verdict}
use Rattle.tx_context.specs.World.{World}
use Rattle.script_codec.specs.declared.instr.Instr.{Instr}
use Rattle.script_codec.specs.declared.instr.Instr.TheVariants.{Push, Do}
use Rattle.script_codec.specs.Spelling.{spelling}
use Rattle.opcode_table.specs.declared.rows.Deed.{Deed}
use Rattle.opcode_table.specs.declared.rows.Deed.TheVariants.{Stays, Refuses, Puts, One, Two, Three, Measures, Splits, CopiesTrue, Counts, Copies, Moves, Verifies, Asks, AsksAt, Waits, Ages, Checks, ChecksData, ChecksMany}
use Rattle.opcode_table.specs.declared.rows.Row.{Row}
use Rattle.opcode_table.specs.declared.rows.Row.TheVariants.{Never, Opens, Flips, Closes, Lays, Fetches, Separates, Does, DoesAndVerifies}
use Rattle.opcode_table.specs.Asking.{Asked}
use Rattle.opcode_table.specs.Stack.{Stack, Action, shared, on_one, on_two, on_three, with_top, taken, put_on, puts}
use Rattle.opcode_table.specs.Deeds.{gives, verified, index_taken, element_or_underflow, copied, moved, at_index, number_within, number_taken, empty_taken, keys_taken, sigs_taken, checked_many, done, done_and_verified}
use Rattle.opcode_table.specs.Table.{row_of}
use Rattle.bch_vm.specs.Setting.{Setting, setting_in, Around, around, asked_at}
use Rattle.bch_vm.specs.Board.{Board, board, Move, is_live, opened_where, flipped, closed, laid_from, fetched_from, separated, on_stack, executed_where, row_after, pushed_where, board_after}
use Rattle.bch_vm.specs.Script.{State, state, state_of, Progress, progress_after, beginning, passed, run, balanced, run_end, Failure}
use Rattle.run_laws.specs.Underneath.{deed_counts, row_counts, counts_elements, is_without_depth, over, is_shared, GoesAlike}

-- ---- alike: the same result, changed so, and a shared cause is the same

abbrev pub Alike : {A : Type 0} → (A → A) → Result A MachineCause → Result A MachineCause → Type 0
Alike change (Ok x) r = r ≡ Ok (change x)
Alike change (Err cause) r = is_shared cause ≡ true → r ≡ Err cause

alike_same : {A : Type 0} (r : Result A MachineCause) → Alike (λ x. x) r r
alike_same (Ok x) = refl
alike_same (Err cause) = λ s. refl

alike_then : {A B : Type 0} (change : A → A) (change′ : B → B) (r r′ : Result A MachineCause)
    (f f′ : A → Result B MachineCause) → Alike change r r′ → ((x : A) → Alike change′ (f x) (f′ (change x)))
    → Alike change′ (r >>= f) (r′ >>= f′)
alike_then change change′ (Ok x) r′ f f′ h goes = subst (λ z. Alike change′ (f x) (z >>= f′)) (sym h) (goes x)
alike_then change change′ (Err cause) r′ f f′ h goes = λ s. ap (λ z. z >>= f′) (h s)

-- after what is the same
alike_after : {A B : Type 0} (change : B → B) (r : Result A MachineCause) (next next′ : Result B MachineCause)
    → Alike change next next′ → Alike change (r >> next) (r >> next′)
alike_after change (Ok x) next next′ h = h
alike_after change (Err cause) next next′ h = λ s. refl

-- ---- actions on the stack

abbrev pub lifted : Stack → Stack → Stack
lifted under stack = stack ++ under

abbrev IsAlike : Action → Type 0
IsAlike action = (stack under : Stack) → Alike (lifted under) (action stack) (action (stack ++ under))

abbrev raised : {A : Type 0} → Stack → A × Stack → A × Stack
raised under parts = (parts.0, parts.1 ++ under)

put_alike : (r : Result Stack MachineCause) (rest under : Stack)
    → Alike (lifted under) (r >>= λ es. Ok (es ++ rest)) (r >>= λ es. Ok (es ++ (rest ++ under)))
put_alike (Ok es) rest under = ap Ok (sym (append_assoc es rest under))
put_alike (Err cause) rest under = λ s. refl

on_one_alike : (put : List ℕ → Result Stack MachineCause) → IsAlike (on_one put)
on_one_alike put [] under = λ s. absurd (false≢true s)
on_one_alike put (a ∷ rest) under = put_alike (put a) rest under

on_two_alike : (put : List ℕ → List ℕ → Result Stack MachineCause) → IsAlike (on_two put)
on_two_alike put [] under = λ s. absurd (false≢true s)
on_two_alike put (b ∷ []) under = λ s. absurd (false≢true s)
on_two_alike put (b ∷ a ∷ rest) under = put_alike (put a b) rest under

on_three_alike : (put : List ℕ → List ℕ → List ℕ → Result Stack MachineCause) → IsAlike (on_three put)
on_three_alike put [] under = λ s. absurd (false≢true s)
on_three_alike put (c ∷ []) under = λ s. absurd (false≢true s)
on_three_alike put (c ∷ b ∷ []) under = λ s. absurd (false≢true s)
on_three_alike put (c ∷ b ∷ a ∷ rest) under = put_alike (put a b c) rest under

taken_alike : (n : ℕ) (stack under : Stack)
    → Alike {A = Stack × Stack} (raised under) (taken n stack) (taken n (stack ++ under))
taken_alike zero stack under = refl
taken_alike (suc n) [] under = λ s. absurd (false≢true s)
taken_alike (suc n) (e ∷ stack) under =
    alike_then {A = Stack × Stack} {B = Stack × Stack} (raised under) (raised under) (taken n stack) (taken n (stack ++ under))
    (λ parts. Ok (with_top e parts)) (λ parts. Ok (with_top e parts)) (taken_alike n stack under) (λ parts. refl)

put_on_under : (rest under es : Stack) (numbers : List ℕ) → put_on (rest ++ under) es numbers ≡ put_on rest es numbers ++ under
put_on_under rest under es [] = refl
put_on_under rest under es (number ∷ numbers) = put_on_under (_ ∷ rest) under es numbers

puts_alike : (count : ℕ) (numbers : List ℕ) → IsAlike (puts count numbers)
puts_alike count numbers stack under =
    alike_then {A = Stack × Stack} {B = Stack} (raised under) (lifted under) (taken count stack) (taken count (stack ++ under))
    (λ parts. Ok (put_on parts.1 (reverse parts.0) numbers)) (λ parts. Ok (put_on parts.1 (reverse parts.0) numbers))
    (taken_alike count stack under) (λ parts. ap Ok (put_on_under parts.1 under (reverse parts.0) numbers))

-- ---- elements at an index

index_alike : (stack under : Stack) → Alike {A = ℤ × Stack} (raised under) (index_taken stack) (index_taken (stack ++ under))
index_alike [] under = λ s. absurd (false≢true s)
index_alike (index ∷ []) under = λ s. absurd (false≢true s)
index_alike (index ∷ below ∷ rest) under =
    alike_then {A = ℤ} {B = ℤ × Stack} (λ n. n) (raised under) (shared (operand_number index)) (shared (operand_number index))
    (λ n. Ok (n, below ∷ rest)) (λ n. Ok (n, below ∷ (rest ++ under))) (alike_same (shared (operand_number index)))
    (λ n. refl)

element_alike : (stack : Stack) (n : ℕ) (under : Stack)
    → Alike (λ e. e) (element_or_underflow (slice_get stack n)) (element_or_underflow (slice_get (stack ++ under) n))
element_alike [] n under = λ s. absurd (false≢true s)
element_alike (e ∷ stack) zero under = refl
element_alike (e ∷ stack) (suc n) under = element_alike stack n under

copied_alike : (n : ℕ) → IsAlike (copied n)
copied_alike n stack under =
    alike_then {A = List ℕ} {B = Stack} (λ e. e) (lifted under) (element_or_underflow (slice_get stack n))
    (element_or_underflow (slice_get (stack ++ under) n)) (λ e. Ok (e ∷ stack)) (λ e. Ok (e ∷ (stack ++ under)))
    (element_alike stack n under) (λ e. refl)

found : (stack : Stack) (n : ℕ) (under : Stack) (e : List ℕ) → slice_get stack n ≡ Some e
    → slice_get (stack ++ under) n ≡ slice_get stack n
found [] n under e h = absurd cc
found (x ∷ stack) zero under e h = refl
found (x ∷ stack) (suc n) under e h = found stack n under e h

without_under : (n : ℕ) (stack under : Stack) → n < length stack
    → (take n (stack ++ under) ++ drop (n + 1) (stack ++ under)) ≡ (take n stack ++ drop (n + 1) stack) ++ under
without_under n stack under within =
    let above = take-append-le n stack under (omega (arith, within)) in
    let below = drop-append-le (n + 1) stack under (omega (arith, within)) in
    ap (λ l. l ++ drop (n + 1) (stack ++ under)) above
    ∙ ap (λ l. take n stack ++ l) below
    ∙ sym (append_assoc (take n stack) (drop (n + 1) stack) under)

moved_alike : (n : ℕ) → IsAlike (moved n)
moved_alike n stack under = by_element (slice_get stack n) refl
  where
    by_element : (o : Option (List ℕ)) → slice_get stack n ≡ o
        → Alike (lifted under) (element_or_underflow o >>= λ e. Ok (e ∷ take n stack ++ drop (n + 1) stack))
        (moved n (stack ++ under))
    by_element None h = λ s. absurd (false≢true s)
    by_element (Some e) h =
        ap (λ o. element_or_underflow o >>= λ e. Ok (e ∷ take n (stack ++ under) ++ drop (n + 1) (stack ++ under)))
        (found stack n under e h ∙ h)
        ∙ ap (λ l. Ok (e ∷ l)) (without_under n stack under (slice_get_within stack n e h))

at_index_alike : (action : ℕ → Action) → ((n : ℕ) → IsAlike (action n)) → (n : ℤ) → IsAlike (at_index action n)
at_index_alike action alike (pos n) stack under = alike n stack under
at_index_alike action alike (negsuc n) stack under = λ s. absurd (false≢true s)

indexed_alike : (action : ℕ → Action) → ((n : ℕ) → IsAlike (action n)) → (stack under : Stack)
    → Alike (lifted under) (index_taken stack >>= λ indexed. at_index action indexed.0 indexed.1)
    (index_taken (stack ++ under) >>= λ indexed. at_index action indexed.0 indexed.1)
indexed_alike action alike stack under =
    alike_then {A = ℤ × Stack} {B = Stack} (raised under) (lifted under) (index_taken stack) (index_taken (stack ++ under))
    (λ indexed. at_index action indexed.0 indexed.1) (λ indexed. at_index action indexed.0 indexed.1)
    (index_alike stack under) (λ indexed. at_index_alike action alike indexed.0 indexed.1 under)

-- ---- what is asked, and signatures

gives_alike : (outcome : Result (List ℕ) Cause) → IsAlike (λ stack. gives stack outcome)
gives_alike (Ok e) stack under = refl
gives_alike (Err cause) stack under = λ s. refl

number_alike : (most : ℕ) (stack under : Stack)
    → Alike {A = ℕ × Stack} (raised under) (number_taken most stack) (number_taken most (stack ++ under))
number_alike most [] under = λ s. absurd (false≢true s)
number_alike most (e ∷ rest) under =
    alike_then {A = ℤ} {B = ℕ × Stack} (λ n. n) (raised under) (shared (operand_number e)) (shared (operand_number e))
    (λ n. number_within most n >>= λ number. Ok (number, rest))
    (λ n. number_within most n >>= λ number. Ok (number, rest ++ under)) (alike_same (shared (operand_number e)))
    (λ n. alike_then {A = ℕ} {B = ℕ × Stack} (λ n. n) (raised under) (number_within most n) (number_within most n)
    (λ number. Ok (number, rest)) (λ number. Ok (number, rest ++ under)) (alike_same (number_within most n)) (λ number. refl))

empty_alike : IsAlike empty_taken
empty_alike [] under = λ s. absurd (false≢true s)
empty_alike (e ∷ rest) under =
    alike_after (lifted under) (refused_if (nat_lt 0 (length e)) CheckBits) (Ok rest) (Ok (rest ++ under)) refl

keys_alike : (left : ℕ) (stack under : Stack)
    → Alike {A = Stack × Stack} (raised under) (keys_taken left stack) (keys_taken left (stack ++ under))
keys_alike left stack under =
    alike_then {A = ℕ × Stack} {B = Stack × Stack} (raised under) (raised under) (number_taken 20 stack)
    (number_taken 20 (stack ++ under))
    (λ number. refused_if (nat_lt left number.0) OpLimit >> taken number.0 number.1)
    (λ number. refused_if (nat_lt left number.0) OpLimit >> taken number.0 number.1) (number_alike 20 stack under)
    (λ number. alike_after {B = Stack × Stack} (raised under) (refused_if (nat_lt left number.0) OpLimit)
    (taken number.0 number.1) (taken number.0 (number.1 ++ under)) (taken_alike number.0 number.1 under))

sigs_alike : (most : ℕ) (stack under : Stack)
    → Alike {A = Stack × Stack} (raised under) (sigs_taken most stack) (sigs_taken most (stack ++ under))
sigs_alike most stack under =
    alike_then {A = ℕ × Stack} {B = Stack × Stack} (raised under) (raised under) (number_taken most stack)
    (number_taken most (stack ++ under)) sigs sigs (number_alike most stack under)
    (λ number. alike_then {A = Stack × Stack} {B = Stack × Stack} (raised under) (raised under) (taken number.0 number.1)
    (taken number.0 (number.1 ++ under)) dummy dummy (taken_alike number.0 number.1 under)
    (λ parts. alike_then {A = Stack} {B = Stack × Stack} (lifted under) (raised under) (empty_taken parts.1)
    (empty_taken (parts.1 ++ under)) (λ rest. Ok (parts.0, rest)) (λ rest. Ok (parts.0, rest)) (empty_alike parts.1 under)
    (λ rest. refl)))
  where
    dummy : Stack × Stack → Result (Stack × Stack) MachineCause
    dummy parts = empty_taken parts.1 >>= λ rest. Ok (parts.0, rest)

    sigs : ℕ × Stack → Result (Stack × Stack) MachineCause
    sigs number = ◌>>=◌ {A = Stack × Stack} (taken number.0 number.1) dummy

many_alike : (asked : Asked) → IsAlike (checked_many asked)
many_alike asked stack under =
    alike_then {A = Stack × Stack} {B = Stack} (raised under) (lifted under) (keys_taken asked.left stack)
    (keys_taken asked.left (stack ++ under)) sigs sigs (keys_alike asked.left stack under)
    (λ keys. alike_then {A = Stack × Stack} {B = Stack} (raised under) (lifted under) (sigs_taken (length keys.0) keys.1)
    (sigs_taken (length keys.0) (keys.1 ++ under)) (told keys.0) (told keys.0) (sigs_alike (length keys.0) keys.1 under)
    (λ sigs. told_alike (multi_verdict asked.verdicts (reverse sigs.0) (reverse keys.0)) sigs.1))
  where
    told : Stack → Stack × Stack → Result Stack MachineCause
    told keys sigs =
        shared (multi_verdict asked.verdicts (reverse sigs.0) (reverse keys)) >>= λ truth. Ok (truth_bytes truth ∷ sigs.1)

    sigs : Stack × Stack → Result Stack MachineCause
    sigs keys = ◌>>=◌ {A = Stack × Stack} (sigs_taken (length keys.0) keys.1) (told keys.0)

    told_alike : (outcome : Result Bool Cause) (rest : Stack)
        → Alike (lifted under) (shared outcome >>= λ truth. Ok (truth_bytes truth ∷ rest))
        (shared outcome >>= λ truth. Ok (truth_bytes truth ∷ (rest ++ under)))
    told_alike (Ok truth) rest = refl
    told_alike (Err cause) rest = λ s. refl

-- ---- deeds

done_alike : (asked : Asked) (deed : Deed) → deed_counts deed ≡ false → IsAlike (done asked deed)
done_alike asked Stays h stack under = refl
done_alike asked (Refuses cause) h stack under = λ s. refl
done_alike asked (Puts count put numbers) h stack under = puts_alike count (take put numbers) stack under
done_alike asked (One op) h stack under = on_one_alike _ stack under
done_alike asked (Two op) h stack under = on_two_alike _ stack under
done_alike asked (Three op) h stack under = on_three_alike _ stack under
done_alike asked Measures h stack under = on_one_alike (λ a. gives (a ∷ []) (result1 Size a)) stack under
done_alike asked Splits h stack under = on_two_alike _ stack under
done_alike asked CopiesTrue h stack under =
    on_one_alike (λ a. Ok (if truth_of a then a ∷ a ∷ [] else a ∷ [])) stack under
done_alike asked Counts h stack under = absurd (false≢true (sym h))
done_alike asked Copies h stack under = indexed_alike copied copied_alike stack under
done_alike asked Moves h stack under = indexed_alike moved moved_alike stack under
done_alike asked Verifies h stack under = on_one_alike _ stack under
done_alike asked (Asks what) h stack under = gives_alike (context_value asked.context what asked.active) stack under
done_alike asked (AsksAt what) h stack under = on_one_alike _ stack under
done_alike asked Waits h stack under = on_one_alike _ stack under
done_alike asked Ages h stack under = on_one_alike _ stack under
done_alike asked Checks h stack under = on_two_alike _ stack under
done_alike asked ChecksData h stack under = on_three_alike _ stack under
done_alike asked ChecksMany h stack under = many_alike asked stack under

verified_alike : IsAlike verified
verified_alike stack under = on_one_alike _ stack under

both_alike : (asked : Asked) (deed : Deed) → deed_counts deed ≡ false → IsAlike (done_and_verified asked deed)
both_alike asked deed h stack under =
    alike_then (lifted under) (lifted under) (done asked deed stack) (done asked deed (stack ++ under)) verified verified
    (done_alike asked deed h stack under) (λ next. verified_alike next under)

-- ---- moves on the board

abbrev pub over_board : Stack → Board → Board
over_board under b = board (b.stack ++ under) b.alternate b.conditions b.separator

executed_alike : (live : Bool) (move move′ : Move) (b : Board) (under : Stack)
    → Alike (over_board under) (move b) (move′ (over_board under b))
    → Alike (over_board under) (executed_where live move b) (executed_where live move′ (over_board under b))
executed_alike true move move′ b under h = h
executed_alike false move move′ b under h = refl

opened_alike : (live sense : Bool) (stack alternate : Stack) (conditions : List Bool) (separator : ℕ) (under : Stack)
    → Alike (over_board under) (opened_where live sense (board stack alternate conditions separator))
    (opened_where live sense (board (stack ++ under) alternate conditions separator))
opened_alike false sense stack alternate conditions separator under = refl
opened_alike true sense [] alternate conditions separator under = λ s. absurd (false≢true s)
opened_alike true sense (a ∷ rest) alternate conditions separator under = refl

conditions_alike : (r : Result (List Bool) MachineCause) (b : Board) (under : Stack)
    → Alike (over_board under) (r >>= λ conditions. Ok (board b.stack b.alternate conditions b.separator))
    (r >>= λ conditions. Ok (board (b.stack ++ under) b.alternate conditions b.separator))
conditions_alike (Ok conditions) b under = refl
conditions_alike (Err cause) b under = λ s. refl

laid_alike : (stack : Stack) (b : Board) (under : Stack)
    → Alike (over_board under) (laid_from stack b) (laid_from (stack ++ under) (over_board under b))
laid_alike [] b under = λ s. absurd (false≢true s)
laid_alike (e ∷ rest) b under = refl

fetched_alike : (alternate : Stack) (b : Board) (under : Stack)
    → Alike (over_board under) (fetched_from alternate b) (fetched_from alternate (over_board under b))
fetched_alike [] b under = λ s. refl
fetched_alike (e ∷ rest) b under = refl

stack_alike : (action : Action) (b : Board) (under : Stack) → IsAlike action
    → Alike (over_board under) (on_stack action b) (on_stack action (over_board under b))
stack_alike action b under alike =
    alike_then (lifted under) (over_board under) (action b.stack) (action (b.stack ++ under))
    (λ stack. Ok (board stack b.alternate b.conditions b.separator))
    (λ stack. Ok (board stack b.alternate b.conditions b.separator)) (alike b.stack under) (λ stack. refl)

row_alike : (a : Around) (row : Row) (b : Board) (under : Stack) → row_counts row ≡ false
    → Alike (over_board under) (row_after a row b) (row_after a row (over_board under b))
row_alike a (Never cause) b under h = λ s. refl
row_alike a (Opens sense) b under h =
    opened_alike (is_live b.conditions) sense b.stack b.alternate b.conditions b.separator under
row_alike a Flips b under h = conditions_alike (flipped b.conditions) b under
row_alike a Closes b under h = conditions_alike (closed b.conditions) b under
row_alike a Lays b under h =
    executed_alike (is_live b.conditions) (laid_from b.stack) (laid_from (b.stack ++ under)) b under
    (laid_alike b.stack b under)
row_alike a Fetches b under h =
    executed_alike (is_live b.conditions) (fetched_from b.alternate) (fetched_from b.alternate) b under
    (fetched_alike b.alternate b under)
row_alike a Separates b under h =
    executed_alike (is_live b.conditions) (separated a.next) (separated a.next) b under refl
row_alike a (Does deed) b under h =
    let action = done (asked_at a b.separator) deed in
    executed_alike (is_live b.conditions) (on_stack action) (on_stack action) b under
    (stack_alike action b under (done_alike (asked_at a b.separator) deed h))
row_alike a (DoesAndVerifies deed) b under h =
    let action = done_and_verified (asked_at a b.separator) deed in
    executed_alike (is_live b.conditions) (on_stack action) (on_stack action) b under
    (stack_alike action b under (both_alike (asked_at a b.separator) deed h))

pushed_alike : (live : Bool) (e : List ℕ) (b : Board) (under : Stack)
    → pushed_where live e (over_board under b) ≡ over_board under (pushed_where live e b)
pushed_alike true e b under = refl
pushed_alike false e b under = refl

instr_alike : (a : Around) (instr : Instr) (b : Board) (under : Stack) → counts_elements instr ≡ false
    → Alike (over_board under) (board_after a instr b) (board_after a instr (over_board under b))
instr_alike a (Push e) b under h = ap Ok (pushed_alike (is_live b.conditions) e.items b under)
instr_alike a (Do opcode) b under h = row_alike a (row_of opcode.0) b under h

-- ---- runs

step_alike : (setting : Setting) (code : List Instr) (at : ℕ) (p : Progress) (under : Stack)
    (r r′ : Result Board MachineCause) → Alike (over_board under) r r′
    → ((s : State) → GoesAlike under (run setting code s) (run setting code (over under s)))
    → GoesAlike under (passed at p r >>= run setting code) (passed at p r′ >>= run setting code)
step_alike setting code at p under (Ok b) r′ h more =
    subst (λ z. GoesAlike under (run setting code (state_of b p)) (passed at p z >>= run setting code)) (sym h)
    (more (state_of b p))
step_alike setting code at p under (Err cause) r′ h more = λ s. ap (λ z. passed at p z >>= run setting code) (h s)

not_false : (t : Bool) → not t ≡ true → t ≡ false
not_false true h = sym h
not_false false h = refl

pub run_alike : (setting : Setting) (code : List Instr) → is_without_depth code ≡ true → (s : State) (under : Stack)
    → GoesAlike under (run setting code s) (run setting code (over under s))
run_alike setting [] h s under = refl
run_alike setting (instr ∷ code) h s under =
    let parts = and_parts _ _ h in
    let a = around setting (s.progress.place + length (spelling instr)) 20 in
    let b = s.board in
    step_alike setting code s.progress.at (progress_after instr b.conditions s.progress) under (board_after a instr b)
    (board_after a instr (over_board under b)) (instr_alike a instr b under (not_false (counts_elements instr) parts.0))
    (λ t. run_alike setting code parts.1 t under)

-- and no condition is open at the end
end_alike : (r r′ : Result State Failure) (under : Stack) → GoesAlike under r r′
    → GoesAlike under (r >>= λ s. balanced s.board.conditions s) (r′ >>= λ s. balanced s.board.conditions s)
end_alike (Ok t) r′ under h =
    subst (λ z. GoesAlike under (balanced t.board.conditions t) (z >>= λ s. balanced s.board.conditions s)) (sym h)
    (by_conditions t.board.conditions)
  where
    by_conditions : (conditions : List Bool) → GoesAlike under (balanced conditions t) (balanced conditions (over under t))
    by_conditions [] = refl
    by_conditions (c ∷ conditions) = λ s. absurd (false≢true s)
end_alike (Err failure) r′ under h = λ s. ap (λ z. z >>= λ s. balanced s.board.conditions s) (h s)

pub run_end_alike : (world : World) (code : List Instr) → is_without_depth code ≡ true → (stack under : Stack)
    → GoesAlike under (run_end world code stack) (run_end world code (stack ++ under))
run_end_alike world code h stack under =
    let setting = setting_in world code in
    let s = state stack beginning in
    end_alike (run setting code s) (run setting code (over under s)) under (run_alike setting code h s under)
