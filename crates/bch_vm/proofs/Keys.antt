-- The keys of a check of several signatures that succeeds are no more than may be counted.
use Rattle.std.proofs.Common.{◌≡◌, ℕ, ◌≤◌, Bool, true, false, ◌&&◌, ◌||◌, eqb, ltb, cond, List, Result, Ok, Err, refl, ap, ◌∙◌, subst, arith}
use Rattle.std.proofs.lemmas.Bool.{eqb-true}
use Rattle.std.proofs.lemmas.Bool.Decides.{nat_tests}
use Rattle.cash_base.specs.declared.fault.MachineCause.{MachineCause}
use Rattle.cash_base.specs.declared.fault.MachineCause.TheVariants.{OpLimit}
use Rattle.cash_base.specs.Failing.{◌>>=◌, ◌>>◌, refused_if}
use Rattle.tx_context.specs.Verdict.{multi_verdict}
use Rattle.script_codec.specs.declared.instr.Instr.{Instr}
use Rattle.script_codec.specs.declared.instr.Instr.TheVariants.{Push, Do}
use Rattle.script_codec.specs.Counting.{takes_keys}
use Rattle.opcode_table.specs.declared.rows.Row.{Row}
use Rattle.opcode_table.specs.declared.rows.Row.TheVariants.{Does, DoesAndVerifies}
use Rattle.opcode_table.specs.declared.rows.Deed.TheVariants.{ChecksMany}
use Rattle.opcode_table.specs.Stack.{Stack, Action, taken}
use Rattle.opcode_table.specs.Asking.{Asked}
use Rattle.opcode_table.specs.Deeds.{number_taken, sigs_taken, checked_many, number_or_none, keys_on, done, done_and_verified}
use Rattle.opcode_table.specs.Table.{rows, row_of}
use Rattle.bch_vm.specs.Setting.{Around, asked_at}
use Rattle.bch_vm.specs.Board.{Board, board, on_stack, executed_where, row_after, board_after, keys_counted, is_live}

-- ---- a step of a chain that succeeds has succeeded

came_from : {A B E : Type 0} (r : Result A E) (f : A → Result B E) (y : B) → (r >>= f) ≡ Ok y → (x : A) × (r ≡ Ok x)
came_from (Ok x) f y is = (x, refl)
came_from (Err e) f y is = absurd cc

-- ---- a check on a stack

abbrev keys_by : ℕ → Result (ℕ × Stack) MachineCause → Result (Stack × Stack) MachineCause
keys_by left number = number >>= λ n. refused_if (ltb left n.0) OpLimit >> taken n.0 n.1

many_fit : (left : ℕ) (number : Result (ℕ × Stack) MachineCause) (keys : Stack × Stack) → keys_by left number ≡ Ok keys → number_or_none number ≤ left
many_fit left (Err cause) keys is = omega arith
many_fit left (Ok n) keys is = by_test (ltb left n.0) refl is
  where
    by_test : (t : Bool) → ltb left n.0 ≡ t → (refused_if t OpLimit >> taken n.0 n.1) ≡ Ok keys → n.0 ≤ left
    by_test true over h = absurd cc
    by_test false over h = grind (arith, nat_tests, over)

checked_fit : (asked : Asked) (stack next : Stack) → checked_many asked stack ≡ Ok next → keys_on stack ≤ asked.left
checked_fit asked stack next is =
    let keys = came_from (keys_by asked.left (number_taken 20 stack)) _ next is in
    many_fit asked.left (number_taken 20 stack) keys.0 keys.1

-- ---- an instruction

on_stack_from : (action : Action) (b next : Board) → on_stack action b ≡ Ok next → (stack : Stack) × (action b.stack ≡ Ok stack)
on_stack_from action b next is = came_from (action b.stack) (λ stack. Ok (board stack b.alternate b.conditions b.separator)) next is

row_fit : (a : Around) (b next : Board) (live : Bool) → executed_where live (on_stack (done (asked_at a b.separator) ChecksMany)) b ≡ Ok next
    → cond live (keys_on b.stack) 0 ≤ a.left
row_fit a b next false h = omega arith
row_fit a b next true h =
    let acted = on_stack_from (done (asked_at a b.separator) ChecksMany) b next h in
    checked_fit (asked_at a b.separator) b.stack acted.0 acted.1

verified_fit : (a : Around) (b next : Board) (live : Bool) → executed_where live (on_stack (done_and_verified (asked_at a b.separator) ChecksMany)) b ≡ Ok next
    → cond live (keys_on b.stack) 0 ≤ a.left
verified_fit a b next false h = omega arith
verified_fit a b next true h =
    let acted = on_stack_from (done_and_verified (asked_at a b.separator) ChecksMany) b next h in
    let checked = came_from (done (asked_at a b.separator) ChecksMany b.stack) _ acted.0 acted.1 in
    checked_fit (asked_at a b.separator) b.stack checked.0 checked.1

many_row : row_of 0xae ≡ Does ChecksMany
unfolding rows
many_row = refl

verified_row : row_of 0xaf ≡ DoesAndVerifies ChecksMany
unfolding rows
verified_row = refl

opcode_fit : (a : Around) (opcode : ℕ) (b next : Board) → row_after a (row_of opcode) b ≡ Ok next
    → cond (is_live b.conditions && takes_keys opcode) (keys_on b.stack) 0 ≤ a.left
opcode_fit a opcode b next is = by_tests (is_live b.conditions) (eqb opcode 0xae) (eqb opcode 0xaf) refl refl refl
  where
    by_tests : (live many verified : Bool) → is_live b.conditions ≡ live → eqb opcode 0xae ≡ many → eqb opcode 0xaf ≡ verified
        → cond (live && (many || verified)) (keys_on b.stack) 0 ≤ a.left
    by_tests false many verified l m v = omega arith
    by_tests true true verified l m v =
        let row = ap row_of (eqb-true opcode 0xae m) ∙ many_row in
        let h = subst (λ (r : Row). row_after a r b ≡ Ok next) row is in
        row_fit a b next true (subst (λ (live : Bool). executed_where live (on_stack (done (asked_at a b.separator) ChecksMany)) b ≡ Ok next) l h)
    by_tests true false true l m v =
        let row = ap row_of (eqb-true opcode 0xaf v) ∙ verified_row in
        let h = subst (λ (r : Row). row_after a r b ≡ Ok next) row is in
        verified_fit a b next true (subst (λ (live : Bool). executed_where live (on_stack (done_and_verified (asked_at a b.separator) ChecksMany)) b ≡ Ok next) l h)
    by_tests true false false l m v = omega arith

pub keys_fit : (a : Around) (instr : Instr) (b next : Board) → board_after a instr b ≡ Ok next → keys_counted instr b ≤ a.left
keys_fit a (Push e) b next is = omega arith
keys_fit a (Do opcode) b next is = opcode_fit a opcode.0 b next is
