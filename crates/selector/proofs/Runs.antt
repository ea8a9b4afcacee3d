-- What the instructions that choose do.
use Rattle.std.proofs.Common.{◌≡◌, ℕ, ◌+◌, ◌≤◌, ◌<◌, ◌^◌, Bool, true, false, cond, not, ◌&&◌, List, [], ◌∷◌, ◌++◌, length, take, drop, Option, Some, None, ℤ, pos, Result, Ok, Err, refl, sym, ap, ◌∙◌, suc, add-one, arith, length-append}
use Rattle.std.specs.Prelude.{slice_get}
use Rattle.std.specs.Ordering.{int_eq}
use Rattle.std.proofs.lemmas.Grind.{flat_map-append}
use Rattle.std.proofs.lemmas.Option.{slice_get_past}
use Rattle.cash_base.specs.declared.fault.Cause.{Cause}
use Rattle.cash_base.specs.declared.fault.Cause.TheVariants.{NotANumber, CheckFailed}
use Rattle.cash_base.specs.declared.fault.MachineCause.{MachineCause}
use Rattle.cash_base.specs.declared.fault.MachineCause.TheVariants.{Shared, Underflow}
use Rattle.cash_base.specs.Failing.{◌>>=◌}
use Rattle.cash_base.specs.Number.{number_of, minimal_bytes}
use Rattle.cash_base.specs.Operand.{number_or_cause, operand_number, truth_bytes}
use Rattle.cash_base.proofs.Laws.{number_of-minimal_bytes}
use Rattle.element_ops.specs.declared.op.Op2.TheVariants.{NumEqual}
use Rattle.script_codec.specs.declared.instr.Instr.{Instr}
use Rattle.script_codec.specs.Reading.{push}
use Rattle.script_codec.specs.Spelling.{spelling, spellings}
use Rattle.opcode_table.specs.declared.rows.Deed.{Deed}
use Rattle.opcode_table.specs.declared.rows.Deed.TheVariants.{Puts, Moves, Two}
use Rattle.opcode_table.specs.declared.rows.Row.TheVariants.{Does, DoesAndVerifies}
use Rattle.opcode_table.specs.Asking.{Asked}
use Rattle.opcode_table.specs.Stack.{Stack, shared}
use Rattle.opcode_table.specs.Deeds.{done, done_and_verified, verified, index_taken, element_or_underflow, moved, at_index, rolled}
use Rattle.opcode_table.specs.Table.{rows, row_of}
use Rattle.bch_vm.specs.Setting.{Setting, Around, around, asked_at}
use Rattle.bch_vm.specs.Board.{Board, board, board_after, pushed_where, row_after, executed_where, on_stack, is_live, is_executed, is_effective, is_condition}
use Rattle.bch_vm.specs.Script.{State, state_of, Progress, progress_after, passed, state_after, run, executed_one, executed_in}
use Rattle.run_laws.specs.Nested.{progress_over}
use Rattle.run_laws.specs.Branches.{opcode}
use Rattle.selector.specs.Choice.{DROP, DUP, ROLL, NUMEQUAL, NUMEQUALVERIFY}
use Rattle.selector.specs.Selection.{behind}

-- ---- states and progress

-- the state on this board with this stack
abbrev pub on : Board → Stack → Progress → State
on b stack p = state_of (board stack b.alternate b.conditions b.separator) p

pub progress_by : {at at′ last last′ place place′ : ℕ} → at ≡ at′ → last ≡ last′ → place ≡ place′
    → ◌≡◌ {A = Progress} (record { at = at; last = last; place = place }) (record { at = at′; last = last′; place = place′ })
progress_by {at} {at′} {last} {last′} {place} {place′} a l p =
    ap (λ n. record { at = n; last = last; place = place }) a
    ∙ ap (λ n. record { at = at′; last = n; place = place }) l
    ∙ ap (λ n. record { at = at′; last = last′; place = n }) p

pub spellings_append : (first second : List Instr)
    → length (spellings (first ++ second)) ≡ length (spellings first) + length (spellings second)
spellings_append first second =
    ap length (flat_map-append spelling first second) ∙ length-append (spellings first) (spellings second)

-- behind instructions, and then behind others, of which there is one at least
pub behind_behind : (first second : List Instr) (p : Progress) → 1 ≤ length second
    → behind second (behind first p) ≡ behind (first ++ second) p
behind_behind first second p some =
    let instrs = length-append first second in
    let bytes = spellings_append first second in
    progress_by (omega (arith, instrs)) (omega (arith, instrs, some)) (omega (arith, bytes))

pub behind_over : (first second : List Instr) (p : Progress) → 1 ≤ length second
    → behind second (progress_over first p) ≡ behind (first ++ second) p
behind_over first second p some =
    let instrs = length-append first second in
    let bytes = spellings_append first second in
    progress_by (omega (arith, instrs)) (omega (arith, instrs, some)) (omega (arith, bytes))

pub over_over : (first second : List Instr) (p : Progress)
    → progress_over second (progress_over first p) ≡ progress_over (first ++ second) p
over_over first second p =
    let instrs = length-append first second in
    let bytes = spellings_append first second in
    progress_by (omega (arith, instrs)) refl (omega (arith, bytes))

pub over_nothing : (p : Progress) → progress_over [] p ≡ p
over_nothing p = progress_by (omega arith) refl (omega arith)

-- an instruction that is executed and is no condition
executed_progress : (instr : Instr) (conditions : List Bool) (p : Progress) → is_effective instr conditions ≡ true
    → progress_after instr conditions p ≡ behind (instr ∷ []) p
executed_progress instr conditions p is =
    let bytes = length-append (spelling instr) [] in
    progress_by (omega arith) (ap (λ t. cond t p.at p.last) is ∙ omega arith) (omega (arith, bytes))

-- ---- one instruction

-- an instruction that changes the stack alone is passed
abbrev pub Steps : Setting → Instr → Board → Stack → Stack → Progress → Type 0
Steps setting instr b from to p = state_after setting instr (on b from p) ≡ Ok (on b to (behind (instr ∷ []) p))

one_step : (setting : Setting) (instr : Instr) (b : Board) (from to : Stack) (p : Progress)
    → is_effective instr b.conditions ≡ true
    → board_after (around setting (p.place + length (spelling instr)) 20) instr (board from b.alternate b.conditions b.separator)
    ≡ Ok (board to b.alternate b.conditions b.separator)
    → Steps setting instr b from to p
one_step setting instr b from to p effective goes =
    ap (passed p.at (progress_after instr b.conditions p)) goes
    ∙ ap (λ q. Ok (on b to q)) (executed_progress instr b.conditions p effective)

then_run : (setting : Setting) (instr : Instr) (code : List Instr) (b : Board) (from to : Stack) (p : Progress)
    → Steps setting instr b from to p
    → run setting (instr ∷ code) (on b from p) ≡ run setting code (on b to (behind (instr ∷ []) p))
then_run setting instr code b from to p steps = ap (λ r. r >>= run setting code) steps

pub then_executes : (setting : Setting) (instr : Instr) (code : List Instr) (b : Board) (from to : Stack) (p : Progress)
    → is_executed instr b.conditions ≡ true → Steps setting instr b from to p
    → executed_in setting (instr ∷ code) (Ok (on b from p))
    ≡ record { at = p.at; height = length to } ∷ executed_in setting code (Ok (on b to (behind (instr ∷ []) p)))
then_executes setting instr code b from to p executed steps =
    let after = state_after setting instr (on b from p) in
    ap (λ t. executed_one t p.at after ++ executed_in setting code after) executed
    ∙ ap (λ r. executed_one true p.at r ++ executed_in setting code r) steps

-- an instruction that fails
one_failure : (setting : Setting) (instr : Instr) (code : List Instr) (b : Board) (from : Stack) (p : Progress) (cause : MachineCause)
    → board_after (around setting (p.place + length (spelling instr)) 20) instr (board from b.alternate b.conditions b.separator)
    ≡ Err cause
    → run setting (instr ∷ code) (on b from p) ≡ Err (record { at = p.at; cause = cause })
one_failure setting instr code b from p cause fails =
    ap (λ r. passed p.at (progress_after instr b.conditions p) r >>= run setting code) fails

-- the effect of an opcode that is no condition
effective_by : (conditions : List Bool) (byte : ℕ) → is_condition byte ≡ false → is_live conditions ≡ true
    → (is_live conditions && not (is_condition byte)) ≡ true
effective_by conditions byte plain live =
    ap (λ t. is_live conditions && not t) plain ∙ ap (λ l. l && true) live

-- what an opcode does that does a deed
does_deed : (a : Around) (byte : ℕ) (deed : Deed) (b : Board) (from : Stack) → row_of byte ≡ Does deed
    → is_live b.conditions ≡ true
    → board_after a (opcode byte) (board from b.alternate b.conditions b.separator)
    ≡ on_stack (done (asked_at a b.separator) deed) (board from b.alternate b.conditions b.separator)
does_deed a byte deed b from is live =
    ap (λ row. row_after a row (board from b.alternate b.conditions b.separator)) is
    ∙ ap (λ l. executed_where l (on_stack (done (asked_at a b.separator) deed)) (board from b.alternate b.conditions b.separator)) live

-- ---- pushes, DUP, DROP

pub push_step : (setting : Setting) (e : List ℕ) (b : Board) (stack : Stack) (p : Progress) → is_live b.conditions ≡ true
    → Steps setting (push e) b stack (e ∷ stack) p
push_step setting e b stack p live =
    one_step setting (push e) b stack (e ∷ stack) p live
    (ap (λ l. Ok (pushed_where l e (board stack b.alternate b.conditions b.separator))) live)

pub pushes : (setting : Setting) (e : List ℕ) (code : List Instr) (b : Board) (stack : Stack) (p : Progress)
    → is_live b.conditions ≡ true
    → run setting (push e ∷ code) (on b stack p) ≡ run setting code (on b (e ∷ stack) (behind (push e ∷ []) p))
pushes setting e code b stack p live = then_run setting (push e) code b stack (e ∷ stack) p (push_step setting e b stack p live)

dup_row : row_of 0x76 ≡ Does (Puts 1 2 (0 ∷ 0 ∷ 0 ∷ 0 ∷ 0 ∷ 0 ∷ []))
unfolding rows
dup_row = refl

pub dup_step : (setting : Setting) (b : Board) (e : List ℕ) (rest : Stack) (p : Progress) → is_live b.conditions ≡ true
    → Steps setting DUP b (e ∷ rest) (e ∷ e ∷ rest) p
dup_step setting b e rest p live =
    one_step setting DUP b (e ∷ rest) (e ∷ e ∷ rest) p (effective_by b.conditions 0x76 refl live)
    (does_deed (around setting (p.place + length (spelling DUP)) 20) 0x76 _ b (e ∷ rest) dup_row live)

pub copies : (setting : Setting) (code : List Instr) (b : Board) (e : List ℕ) (rest : Stack) (p : Progress)
    → is_live b.conditions ≡ true
    → run setting (DUP ∷ code) (on b (e ∷ rest) p) ≡ run setting code (on b (e ∷ e ∷ rest) (behind (DUP ∷ []) p))
copies setting code b e rest p live = then_run setting DUP code b (e ∷ rest) (e ∷ e ∷ rest) p (dup_step setting b e rest p live)

pub copies_none : (setting : Setting) (code : List Instr) (b : Board) (p : Progress) → is_live b.conditions ≡ true
    → run setting (DUP ∷ code) (on b [] p) ≡ Err (record { at = p.at; cause = Underflow })
copies_none setting code b p live =
    one_failure setting DUP code b [] p Underflow
    (does_deed (around setting (p.place + length (spelling DUP)) 20) 0x76 _ b [] dup_row live)

drop_row : row_of 0x75 ≡ Does (Puts 1 0 (0 ∷ 0 ∷ 0 ∷ 0 ∷ 0 ∷ 0 ∷ []))
unfolding rows
drop_row = refl

pub drop_step : (setting : Setting) (b : Board) (e : List ℕ) (rest : Stack) (p : Progress) → is_live b.conditions ≡ true
    → Steps setting DROP b (e ∷ rest) rest p
drop_step setting b e rest p live =
    one_step setting DROP b (e ∷ rest) rest p (effective_by b.conditions 0x75 refl live)
    (does_deed (around setting (p.place + length (spelling DROP)) 20) 0x75 _ b (e ∷ rest) drop_row live)

pub drops : (setting : Setting) (code : List Instr) (b : Board) (e : List ℕ) (rest : Stack) (p : Progress)
    → is_live b.conditions ≡ true
    → run setting (DROP ∷ code) (on b (e ∷ rest) p) ≡ run setting code (on b rest (behind (DROP ∷ []) p))
drops setting code b e rest p live = then_run setting DROP code b (e ∷ rest) rest p (drop_step setting b e rest p live)

-- ---- NUMEQUAL and NUMEQUALVERIFY

equal_row : row_of 0x9c ≡ Does (Two NumEqual)
unfolding rows
equal_row = refl

verify_row : row_of 0x9d ≡ DoesAndVerifies (Two NumEqual)
unfolding rows
verify_row = refl

number_read : (n : ℕ) → n < 2 ^ 63 → operand_number (minimal_bytes (pos n)) ≡ Ok (pos n)
number_read n fits = ap number_or_cause (number_of-minimal_bytes (pos n) fits)

-- the comparison of two operands
abbrev compared : Result ℤ Cause → Result ℤ Cause → Stack → Result Stack MachineCause
compared a b rest = shared (a >>= λ x. b >>= λ y. Ok (truth_bytes (int_eq x y))) >>= λ e. Ok (e ∷ rest)

same_stack : (r : Result (List ℕ) Cause) (rest : Stack)
    → ((shared r >>= λ e. Ok (e ∷ [])) >>= λ es. Ok (es ++ rest)) ≡ (shared r >>= λ e. Ok (e ∷ rest))
same_stack (Ok e) rest = refl
same_stack (Err cause) rest = refl

-- what is compared of the selector and a number
equals : (a : Asked) (n : ℕ) (selector : List ℕ) (rest : Stack) (o : Option ℤ) → n < 2 ^ 63 → number_of selector ≡ o
    → done a (Two NumEqual) (minimal_bytes (pos n) ∷ selector ∷ rest)
    ≡ (shared (number_or_cause o) >>= λ x. Ok (truth_bytes (int_eq x (pos n)) ∷ rest))
equals a n selector rest o fits is =
    same_stack (operand_number selector >>= λ x. operand_number (minimal_bytes (pos n)) >>= λ y. Ok (truth_bytes (int_eq x y))) rest
    ∙ ap (λ o. compared (number_or_cause o) (operand_number (minimal_bytes (pos n))) rest) is
    ∙ by_number o
  where
    by_number : (o : Option ℤ) → compared (number_or_cause o) (operand_number (minimal_bytes (pos n))) rest
        ≡ (shared (number_or_cause o) >>= λ x. Ok (truth_bytes (int_eq x (pos n)) ∷ rest))
    by_number None = refl
    by_number (Some x) = ap (λ r. compared (Ok x) r rest) (number_read n fits)

pub compare_step : (setting : Setting) (n : ℕ) (b : Board) (selector : List ℕ) (rest : Stack) (p : Progress) (x : ℤ)
    → is_live b.conditions ≡ true → n < 2 ^ 63 → number_of selector ≡ Some x
    → Steps setting NUMEQUAL b (minimal_bytes (pos n) ∷ selector ∷ rest) (truth_bytes (int_eq x (pos n)) ∷ rest) p
compare_step setting n b selector rest p x live fits is =
    let a = around setting (p.place + length (spelling NUMEQUAL)) 20 in
    one_step setting NUMEQUAL b (minimal_bytes (pos n) ∷ selector ∷ rest) (truth_bytes (int_eq x (pos n)) ∷ rest) p
    (effective_by b.conditions 0x9c refl live)
    (does_deed a 0x9c (Two NumEqual) b _ equal_row live
    ∙ ap (λ r. r >>= λ stack. Ok (board stack b.alternate b.conditions b.separator))
    (equals (asked_at a b.separator) n selector rest (Some x) fits is))

pub compares : (setting : Setting) (n : ℕ) (code : List Instr) (b : Board) (selector : List ℕ) (rest : Stack) (p : Progress) (x : ℤ)
    → is_live b.conditions ≡ true → n < 2 ^ 63 → number_of selector ≡ Some x
    → run setting (NUMEQUAL ∷ code) (on b (minimal_bytes (pos n) ∷ selector ∷ rest) p)
    ≡ run setting code (on b (truth_bytes (int_eq x (pos n)) ∷ rest) (behind (NUMEQUAL ∷ []) p))
compares setting n code b selector rest p x live fits is =
    then_run setting NUMEQUAL code b (minimal_bytes (pos n) ∷ selector ∷ rest) (truth_bytes (int_eq x (pos n)) ∷ rest) p
    (compare_step setting n b selector rest p x live fits is)

pub compares_none : (setting : Setting) (n : ℕ) (code : List Instr) (b : Board) (selector : List ℕ) (rest : Stack) (p : Progress)
    → is_live b.conditions ≡ true → n < 2 ^ 63 → number_of selector ≡ None
    → run setting (NUMEQUAL ∷ code) (on b (minimal_bytes (pos n) ∷ selector ∷ rest) p)
    ≡ Err (record { at = p.at; cause = Shared NotANumber })
compares_none setting n code b selector rest p live fits is =
    let a = around setting (p.place + length (spelling NUMEQUAL)) 20 in
    one_failure setting NUMEQUAL code b (minimal_bytes (pos n) ∷ selector ∷ rest) p (Shared NotANumber)
    (does_deed a 0x9c (Two NumEqual) b _ equal_row live
    ∙ ap (λ r. r >>= λ stack. Ok (board stack b.alternate b.conditions b.separator))
    (equals (asked_at a b.separator) n selector rest None fits is))

-- what an opcode does that does a deed, and then VERIFY
verifies_deed : (a : Around) (byte : ℕ) (deed : Deed) (b : Board) (from : Stack) → row_of byte ≡ DoesAndVerifies deed
    → is_live b.conditions ≡ true
    → board_after a (opcode byte) (board from b.alternate b.conditions b.separator)
    ≡ on_stack (done_and_verified (asked_at a b.separator) deed) (board from b.alternate b.conditions b.separator)
verifies_deed a byte deed b from is live =
    ap (λ row. row_after a row (board from b.alternate b.conditions b.separator)) is
    ∙ ap (λ l. executed_where l (on_stack (done_and_verified (asked_at a b.separator) deed))
    (board from b.alternate b.conditions b.separator)) live

-- where the selector is the last number it is taken
pub take_step : (setting : Setting) (n : ℕ) (b : Board) (selector : List ℕ) (rest : Stack) (p : Progress) (x : ℤ)
    → is_live b.conditions ≡ true → n < 2 ^ 63 → number_of selector ≡ Some x → int_eq x (pos n) ≡ true
    → Steps setting NUMEQUALVERIFY b (minimal_bytes (pos n) ∷ selector ∷ rest) rest p
take_step setting n b selector rest p x live fits is same =
    let a = around setting (p.place + length (spelling NUMEQUALVERIFY)) 20 in
    one_step setting NUMEQUALVERIFY b (minimal_bytes (pos n) ∷ selector ∷ rest) rest p (effective_by b.conditions 0x9d refl live)
    (verifies_deed a 0x9d (Two NumEqual) b _ verify_row live
    ∙ ap (λ r. (r >>= verified) >>= λ stack. Ok (board stack b.alternate b.conditions b.separator))
    (equals (asked_at a b.separator) n selector rest (Some x) fits is)
    ∙ ap (λ t. verified (truth_bytes t ∷ rest) >>= λ stack. Ok (board stack b.alternate b.conditions b.separator)) same)

pub takes : (setting : Setting) (n : ℕ) (code : List Instr) (b : Board) (selector : List ℕ) (rest : Stack) (p : Progress) (x : ℤ)
    → is_live b.conditions ≡ true → n < 2 ^ 63 → number_of selector ≡ Some x → int_eq x (pos n) ≡ true
    → run setting (NUMEQUALVERIFY ∷ code) (on b (minimal_bytes (pos n) ∷ selector ∷ rest) p)
    ≡ run setting code (on b rest (behind (NUMEQUALVERIFY ∷ []) p))
takes setting n code b selector rest p x live fits is same =
    then_run setting NUMEQUALVERIFY code b (minimal_bytes (pos n) ∷ selector ∷ rest) rest p
    (take_step setting n b selector rest p x live fits is same)

pub takes_not : (setting : Setting) (n : ℕ) (code : List Instr) (b : Board) (selector : List ℕ) (rest : Stack) (p : Progress) (x : ℤ)
    → is_live b.conditions ≡ true → n < 2 ^ 63 → number_of selector ≡ Some x → int_eq x (pos n) ≡ false
    → run setting (NUMEQUALVERIFY ∷ code) (on b (minimal_bytes (pos n) ∷ selector ∷ rest) p)
    ≡ Err (record { at = p.at; cause = Shared CheckFailed })
takes_not setting n code b selector rest p x live fits is same =
    let a = around setting (p.place + length (spelling NUMEQUALVERIFY)) 20 in
    one_failure setting NUMEQUALVERIFY code b (minimal_bytes (pos n) ∷ selector ∷ rest) p (Shared CheckFailed)
    (verifies_deed a 0x9d (Two NumEqual) b _ verify_row live
    ∙ ap (λ r. (r >>= verified) >>= λ stack. Ok (board stack b.alternate b.conditions b.separator))
    (equals (asked_at a b.separator) n selector rest (Some x) fits is)
    ∙ ap (λ t. verified (truth_bytes t ∷ rest) >>= λ stack. Ok (board stack b.alternate b.conditions b.separator)) same)

pub takes_none : (setting : Setting) (n : ℕ) (code : List Instr) (b : Board) (selector : List ℕ) (rest : Stack) (p : Progress)
    → is_live b.conditions ≡ true → n < 2 ^ 63 → number_of selector ≡ None
    → run setting (NUMEQUALVERIFY ∷ code) (on b (minimal_bytes (pos n) ∷ selector ∷ rest) p)
    ≡ Err (record { at = p.at; cause = Shared NotANumber })
takes_none setting n code b selector rest p live fits is =
    let a = around setting (p.place + length (spelling NUMEQUALVERIFY)) 20 in
    one_failure setting NUMEQUALVERIFY code b (minimal_bytes (pos n) ∷ selector ∷ rest) p (Shared NotANumber)
    (verifies_deed a 0x9d (Two NumEqual) b _ verify_row live
    ∙ ap (λ r. (r >>= verified) >>= λ stack. Ok (board stack b.alternate b.conditions b.separator))
    (equals (asked_at a b.separator) n selector rest None fits is))

-- ---- ROLL

roll_row : row_of 0x7a ≡ Does Moves
unfolding rows
roll_row = refl

index_on : (index : List ℕ) (stack : Stack) (n : ℤ) → 0 < length stack → number_of index ≡ Some n
    → index_taken (index ∷ stack) ≡ Ok (n, stack)
index_on index [] n some e = absurd (omega (arith, some))
index_on index (below ∷ rest) n some e =
    ap (λ o. shared (number_or_cause o) >>= (λ m. Ok (m, below ∷ rest))) e

nonempty : (above : Stack) (x : List ℕ) (rest : Stack) → 0 < length (above ++ x ∷ rest)
nonempty [] x rest = omega arith
nonempty (y ∷ above) x rest = omega arith

get_past : (above : Stack) (x : List ℕ) (rest : Stack) → slice_get (above ++ x ∷ rest) (length above) ≡ Some x
get_past [] x rest = refl
get_past (y ∷ above) x rest = get_past above x rest

rest_past : (above : Stack) (x : List ℕ) (rest : Stack)
    → take (length above) (above ++ x ∷ rest) ++ drop (suc (length above)) (above ++ x ∷ rest) ≡ above ++ rest
rest_past [] x rest = refl
rest_past (y ∷ above) x rest = ap (λ l. y ∷ l) (rest_past above x rest)

moved_past : (above : Stack) (x : List ℕ) (rest : Stack)
    → moved (length above) (above ++ x ∷ rest) ≡ Ok (x ∷ (above ++ rest))
moved_past above x rest =
    let stack : Stack = above ++ x ∷ rest in
    let n = length above in
    ap (λ o. element_or_underflow o >>= (λ e. Ok (e ∷ take n stack ++ drop (n + 1) stack))) (get_past above x rest)
    ∙ ap (λ m. Ok (x ∷ take n stack ++ drop m stack)) (add-one n)
    ∙ ap (λ l. Ok (x ∷ l)) (rest_past above x rest)

rolled_past : (above : Stack) (x : List ℕ) (rest : Stack) (n : ℕ) → length above ≡ n → n < 2 ^ 63
    → rolled (minimal_bytes (pos n) ∷ (above ++ x ∷ rest)) ≡ Ok (x ∷ (above ++ rest))
rolled_past above x rest n e fits =
    ap (λ r. r >>= (λ indexed. at_index moved indexed.0 indexed.1))
    (index_on (minimal_bytes (pos n)) (above ++ x ∷ rest) (pos n) (nonempty above x rest) (number_of-minimal_bytes (pos n) fits))
    ∙ ap (λ m. moved m (above ++ x ∷ rest)) (sym e)
    ∙ moved_past above x rest

pub roll_step : (setting : Setting) (n : ℕ) (b : Board) (above : Stack) (selector : List ℕ) (rest : Stack) (p : Progress)
    → is_live b.conditions ≡ true → n < 2 ^ 63 → length above ≡ n
    → Steps setting ROLL b (minimal_bytes (pos n) ∷ (above ++ selector ∷ rest)) (selector ∷ (above ++ rest)) p
roll_step setting n b above selector rest p live fits count =
    let a = around setting (p.place + length (spelling ROLL)) 20 in
    one_step setting ROLL b (minimal_bytes (pos n) ∷ (above ++ selector ∷ rest)) (selector ∷ (above ++ rest)) p
    (effective_by b.conditions 0x7a refl live)
    (does_deed a 0x7a Moves b _ roll_row live
    ∙ ap (λ r. r >>= λ stack. Ok (board stack b.alternate b.conditions b.separator))
    (rolled_past above selector rest n count fits))

pub raises : (setting : Setting) (n : ℕ) (code : List Instr) (b : Board) (above : Stack) (selector : List ℕ) (rest : Stack) (p : Progress)
    → is_live b.conditions ≡ true → n < 2 ^ 63 → length above ≡ n
    → run setting (ROLL ∷ code) (on b (minimal_bytes (pos n) ∷ (above ++ selector ∷ rest)) p)
    ≡ run setting code (on b (selector ∷ (above ++ rest)) (behind (ROLL ∷ []) p))
raises setting n code b above selector rest p live fits count =
    then_run setting ROLL code b (minimal_bytes (pos n) ∷ (above ++ selector ∷ rest)) (selector ∷ (above ++ rest)) p
    (roll_step setting n b above selector rest p live fits count)

rolled_none : (stack : Stack) (n : ℕ) → n < 2 ^ 63 → length stack ≤ n → rolled (minimal_bytes (pos n) ∷ stack) ≡ Err Underflow
rolled_none [] n fits few = refl
rolled_none (below ∷ rest) n fits few =
    ap (λ r. r >>= (λ indexed. at_index moved indexed.0 indexed.1))
    (index_on (minimal_bytes (pos n)) (below ∷ rest) (pos n) (omega arith) (number_of-minimal_bytes (pos n) fits))
    ∙ ap (λ o. element_or_underflow o >>= (λ e. Ok (e ∷ take n (below ∷ rest) ++ drop (n + 1) (below ∷ rest))))
    (slice_get_past (below ∷ rest) n few)

-- nothing stands so deep
pub raises_none : (setting : Setting) (n : ℕ) (code : List Instr) (b : Board) (stack : Stack) (p : Progress)
    → is_live b.conditions ≡ true → n < 2 ^ 63 → length stack ≤ n
    → run setting (ROLL ∷ code) (on b (minimal_bytes (pos n) ∷ stack) p) ≡ Err (record { at = p.at; cause = Underflow })
raises_none setting n code b stack p live fits few =
    let a = around setting (p.place + length (spelling ROLL)) 20 in
    one_failure setting ROLL code b (minimal_bytes (pos n) ∷ stack) p Underflow
    (does_deed a 0x7a Moves b _ roll_row live
    ∙ ap (λ r. r >>= λ stack. Ok (board stack b.alternate b.conditions b.separator)) (rolled_none stack n fits few))
