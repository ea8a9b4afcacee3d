-- The machine refuses more than 1,000 elements, so on the way through a spend there are never more.
use Rattle.std.proofs.Common.{◌≡◌, ℕ, ◌+◌, ◌-◌, ◌≤◌, Bool, true, false, cond, List, [], ◌∷◌, length, Result, Ok, Err, IfOk, refl, arith}
use Rattle.std.specs.Prelude.{nat_lt, not, ◌&&◌}
use Rattle.std.proofs.lemmas.Bool.Decides.{nat_tests}
use Rattle.cash_base.specs.declared.fault.MachineCause.{MachineCause}
use Rattle.cash_base.specs.declared.fault.MachineCause.TheVariants.{StackLimit, NotMinimal, OpLimit, PushSize, NotPushOnly, ScriptSize, EndFalse}
use Rattle.cash_base.specs.Number.{truth_of}
use Rattle.cash_base.specs.Failing as failing
use Rattle.cash_base.specs.Failing.{refused_if}
use Rattle.tx_context.specs.Transaction.{Transaction}
use Rattle.tx_context.specs.Table as verdict
use Rattle.script_codec.specs.declared.instr.Instr.{Instr}
use Rattle.script_codec.specs.Reading.{Raw, Piece, Whole, CutOff, instruction, is_minimal, size_of, reading}
use Rattle.script_codec.specs.Counting.{weight}
use Rattle.opcode_table.specs.Stack.{Stack}
use Rattle.bch_vm.specs.declared.outcome.Which.{Which}
use Rattle.bch_vm.specs.declared.outcome.Which.TheVariants.{Unlocking, Locking, Redeem}
use Rattle.bch_vm.specs.declared.outcome.MachineOutcome.{MachineOutcome}
use Rattle.bch_vm.specs.declared.outcome.MachineOutcome.TheVariants.{Refused}
use Rattle.bch_vm.specs.Setting.{Setting, Around, around, setting_of}
use Rattle.bch_vm.specs.Board.{Board, board_after, limited_after, height, is_live, keys_counted}
use Rattle.bch_vm.specs.Script.{State, state, state_of, beginning, balanced, Counted, counted, progress_past, raw_after, piece_after, Failure}
use Rattle.bch_vm.specs.Course.{Course, Passes, Gives, Stops, ◌>>=◌, ◌>>◌}
use Rattle.bch_vm.specs.Spend.{told, step_course, pieces_course, sized, script_course, push_check, stack_left, top_check, clean, is_p2sh, false_cause, after_redeem, redeemed, locked, after_locking, after_unlocking, scripts_course, spent_input, spend_course}
use Rattle.spend_trace.specs.Heights.{HasLowStacks}

-- ---- courses one after the other

bound : {A B : Type 0} (c : Course A) (f : A → Course B) → HasLowStacks c → ((a : A) → HasLowStacks (f a)) → HasLowStacks (c >>= f)
bound (Passes row rest) f low next = (low.0, bound rest f low.1 next)
bound (Gives a) f low next = next a
bound (Stops outcome) f low next = tt

joined : {A B : Type 0} (c : Course A) (d : Course B) → HasLowStacks c → HasLowStacks d → HasLowStacks (c >> d)
joined (Passes row rest) d low next = (low.0, joined rest d low.1 next)
joined (Gives a) d low next = next
joined (Stops outcome) d low next = tt

-- ---- an instruction

abbrev IsLow : Counted → Type 0
IsLow s = length s.state.board.stack ≤ 1000

tested : {A : Type 0} (t : Bool) (cause : MachineCause) (r : Result A MachineCause) (P : A → Type 0) → IfOk r P
    → IfOk (failing.◌>>◌ (refused_if t cause) r) P
tested true cause r P h = tt
tested false cause r P h = h

limited : (b : Board) (t : Bool) → nat_lt 1000 (height b) ≡ t
    → IfOk (failing.◌>>◌ (refused_if t StackLimit) (Ok b)) (λ next. length next.stack ≤ 1000)
limited b true high = tt
limited b false low = grind (arith, nat_tests, low)

stays_low : (place : Around) (instr : Instr) (b : Board) → IfOk (limited_after place instr b) (λ next. length next.stack ≤ 1000)
stays_low place instr b = by_board (board_after place instr b)
  where
    by_board : (r : Result Board MachineCause)
        → IfOk (failing.◌>>=◌ r (λ next. failing.◌>>◌ (refused_if (nat_lt 1000 (height next)) StackLimit) (Ok next))) (λ next. length next.stack ≤ 1000)
    by_board (Ok next) = limited next (nat_lt 1000 (height next)) refl
    by_board (Err cause) = tt

counted_low : (r : Result Board MachineCause) (f : Board → Counted) → IfOk r (λ next. length next.stack ≤ 1000)
    → ((b : Board) → length b.stack ≤ 1000 → IsLow (f b)) → IfOk (failing.◌>>=◌ r (λ next. Ok (f next))) IsLow
counted_low (Ok next) f low more = more next low
counted_low (Err cause) f low more = tt

raw_low : (setting : Setting) (raw : Raw) (s : Counted) → IfOk (raw_after setting raw s) IsLow
raw_low setting raw s =
    let instr = instruction raw in
    let b = s.state.board in
    let p = s.state.progress in
    let count = s.count + weight raw.opcode in
    let place = around setting (p.place + size_of raw) (201 - count) in
    let after : Board → Counted = λ next. counted (state_of next (progress_past (size_of raw) instr b.conditions p)) (count + keys_counted instr b) in
    let last : Result Counted MachineCause = failing.◌>>=◌ (limited_after place instr b) (λ next. Ok (after next)) in
    let spelled : Result Counted MachineCause = failing.◌>>◌ (refused_if (is_live b.conditions && not (is_minimal raw)) NotMinimal) last in
    let few : Result Counted MachineCause = failing.◌>>◌ (refused_if (nat_lt 201 count) OpLimit) spelled in
    tested (nat_lt 520 (length raw.pushed)) PushSize few IsLow
    (tested (nat_lt 201 count) OpLimit spelled IsLow
    (tested (is_live b.conditions && not (is_minimal raw)) NotMinimal last IsLow
    (counted_low (limited_after place instr b) after (stays_low place instr b) (λ next low. low))))

piece_low : (setting : Setting) (piece : Piece) (s : Counted) → IfOk (piece_after setting piece s) IsLow
piece_low setting CutOff s = tt
piece_low setting (Whole raw) s = raw_low setting raw s

-- ---- a script

step_low : (which : Which) (piece : Piece) (s : Counted) (r : Result Counted MachineCause) → IfOk r IsLow → HasLowStacks (step_course which piece s r)
step_low which piece s (Ok next) low = (low, tt)
step_low which piece s (Err cause) low = tt

told_low : {A : Type 0} (which : Which) (r : Result A Failure) → HasLowStacks (told which r)
told_low which (Ok a) = tt
told_low which (Err failure) = tt

pieces_low : (setting : Setting) (which : Which) (pieces : List Piece) (s : Counted) → HasLowStacks (pieces_course setting which pieces s)
pieces_low setting which [] s = told_low which (balanced s.state.board.conditions s.state)
pieces_low setting which (piece ∷ more) s =
    bound (step_course which piece s (piece_after setting piece s)) (λ next. pieces_course setting which more next)
    (step_low which piece s (piece_after setting piece s) (piece_low setting piece s)) (λ next. pieces_low setting which more next)

sized_low : (which : Which) (t : Bool) → HasLowStacks {A = Unit {0}} (cond t (Stops (Refused which 0 ScriptSize)) (Gives tt))
sized_low which true = tt
sized_low which false = tt

script_low : (context : Transaction (List ℕ)) (verdicts : List verdict.Row) (which : Which) (script : List ℕ) (stack : Stack)
    → HasLowStacks (script_course context verdicts which script stack)
script_low context verdicts which script stack =
    joined (sized which script) (pieces_course (setting_of context verdicts script) which (reading script) (counted (state stack beginning) 0))
    (sized_low which (nat_lt 10000 (length script)))
    (pieces_low (setting_of context verdicts script) which (reading script) (counted (state stack beginning) 0))

-- ---- a spend

check_low : (at : ℕ) (pieces : List Piece) → HasLowStacks (push_check at pieces)
check_low at [] = tt
check_low at (CutOff ∷ more) = tt
check_low at (Whole raw ∷ more) = by_test (nat_lt 0x60 raw.opcode) (check_low (at + 1) more)
  where
    by_test : (t : Bool) → HasLowStacks (push_check (at + 1) more)
        → HasLowStacks (cond t (Stops (Refused Unlocking at NotPushOnly)) (push_check (at + 1) more))
    by_test true low = tt
    by_test false low = low

top_low : (which : Which) (cause : MachineCause) (last : ℕ) (stack : Stack) → HasLowStacks (top_check which cause last stack)
top_low which cause last [] = tt
top_low which cause last (e ∷ rest) = by_test (truth_of e)
  where
    by_test : (t : Bool) → HasLowStacks {A = Unit {0}} (cond t (Gives tt) (Stops (Refused which last cause)))
    by_test true = tt
    by_test false = tt

redeem_low : (end : State) → HasLowStacks (after_redeem end)
redeem_low end =
    joined {B = MachineOutcome} (top_check Redeem EndFalse end.progress.last end.board.stack) (Stops (clean Redeem end.progress.last end.board.stack))
    (top_low Redeem EndFalse end.progress.last end.board.stack) tt

redeemed_low : (context : Transaction (List ℕ)) (verdicts : List verdict.Row) (last : ℕ) (stack : Stack) → HasLowStacks (redeemed context verdicts last stack)
redeemed_low context verdicts last [] = tt
redeemed_low context verdicts last (redeem ∷ rest) =
    bound (script_course context verdicts Redeem redeem rest) after_redeem (script_low context verdicts Redeem redeem rest) redeem_low

locking_low : (context : Transaction (List ℕ)) (verdicts : List verdict.Row) (unlocking locking : List ℕ) (end : State)
    → HasLowStacks (after_locking context verdicts unlocking locking end)
locking_low context verdicts unlocking locking end =
    joined (top_check Locking (false_cause locking) end.progress.last end.board.stack)
    (cond (is_p2sh locking) (redeemed context verdicts end.progress.last (stack_left context verdicts unlocking)) (locked end))
    (top_low Locking (false_cause locking) end.progress.last end.board.stack) (by_test (is_p2sh locking))
  where
    by_test : (t : Bool) → HasLowStacks (cond t (redeemed context verdicts end.progress.last (stack_left context verdicts unlocking)) (locked end))
    by_test true = redeemed_low context verdicts end.progress.last (stack_left context verdicts unlocking)
    by_test false = tt

unlocking_low : (context : Transaction (List ℕ)) (verdicts : List verdict.Row) (unlocking locking : List ℕ) (left : State)
    → HasLowStacks (after_unlocking context verdicts unlocking locking left)
unlocking_low context verdicts unlocking locking left =
    bound (script_course context verdicts Locking locking left.board.stack) (λ end. after_locking context verdicts unlocking locking end)
    (script_low context verdicts Locking locking left.board.stack) (λ end. locking_low context verdicts unlocking locking end)

scripts_low : (context : Transaction (List ℕ)) (verdicts : List verdict.Row) (unlocking locking : List ℕ)
    → HasLowStacks (scripts_course context verdicts unlocking locking)
scripts_low context verdicts unlocking locking =
    joined (push_check 0 (reading unlocking))
    (script_course context verdicts Unlocking unlocking [] >>= λ left. after_unlocking context verdicts unlocking locking left)
    (check_low 0 (reading unlocking))
    (bound (script_course context verdicts Unlocking unlocking []) (λ left. after_unlocking context verdicts unlocking locking left)
    (script_low context verdicts Unlocking unlocking []) (λ left. unlocking_low context verdicts unlocking locking left))

pub spend_low : (context : Transaction (List ℕ)) (verdicts : List verdict.Row) → HasLowStacks (spend_course context verdicts)
spend_low context verdicts = scripts_low context verdicts (spent_input context).unlocking (spent_input context).locking
