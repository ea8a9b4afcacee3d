-- What each run of code has passed.
use Rattle.std.proofs.Common.{◌≡◌, ℕ, suc, ◌+◌, ◌<◌, Bool, true, false, cond, not, List, [], ◌∷◌, ◌++◌, length, drop, map, Option, Some, None, Result, Ok, Err, refl, sym, ap, ◌∙◌, subst, arith, append_assoc, append-nil}
use Rattle.std.specs.Prelude.{◌==◌, ◌||◌, ◌&&◌, option_and_then}
use Rattle.std.specs.List.{AllByRecursion}
use Rattle.std.proofs.lemmas.Bool.{false≢true, and_parts}
use Rattle.cash_base.specs.declared.place.Slot.{Slot}
use Rattle.cash_base.specs.declared.place.Span.{Span}
use Rattle.tx_context.specs.World.{World}
use Rattle.script_codec.specs.declared.instr.Instr.{Instr}
use Rattle.script_codec.specs.declared.spans.Mark.{Mark}
use Rattle.script_codec.specs.declared.spans.Spanned.{Spanned}
use Rattle.opcode_table.specs.declared.rows.Row.TheVariants.{Opens, Flips}
use Rattle.opcode_table.specs.Table.{row_of, rows}
use Rattle.bch_vm.specs.Board.{is_live, is_executed, outer}
use Rattle.run_laws.specs.Nested.{open_after_row, nesting}
use Rattle.source_meaning.specs.Meaning.{Env}
use Rattle.slot_code.specs.Shape.{has_span}
use Rattle.row_runs.specs.Rows.{instructions, Machine, machine, Next, step, run_rows, Executed, logged, executed, is_control, IsNested}
use Rattle.row_runs.proofs.Turns.{silent, then_log, executed_append, nesting_append}
use Rattle.stack_emitter.specs.Codes.{is_span}
use Rattle.stack_emitter.proofs.Choose.{opens, flips, closes}
use Rattle.stack_steps.specs.Lower.{statements_of}
use Rattle.stack_steps.specs.Steps.{are_told}
use Rattle.schedule_marks.specs.Marks.{uses, before, start_at}
use Rattle.schedule_marks.proofs.Keeps.{rows_keep}
use Rattle.schedule_marks.proofs.Rows.{each_map, same_span, other_span, uses_append, used_more, before_used, before_unused, told_unused, Begins, before_here, uses_here, Midway, midway, live_back}

-- the run came to the first row with this checking span, and executed it
pub record Passed (start : List Slot) (code : List Spanned) (world : World) (env : Env) (c : Span) : Type 0 where
  pub used : uses c code ≡ true
  pub machine_there : Machine
  pub ran : run_rows world (before c code) (start_at start env) ≡ Ok machine_there
  pub lives : is_live machine_there.conditions ≡ true

-- each run that comes to the end of the code, and is live there, has passed the statement
abbrev pub Known : List Slot → List Spanned → Span → Type 0
Known start code c = (world : World) (env : Env) (n : Machine) → run_rows world code (start_at start env) ≡ Ok n → is_live n.conditions ≡ true → Passed start code world env c

-- each executed row has passed the first row of its statement
abbrev pub AllPassed : List Slot → List Spanned → Type 0
AllPassed start code = (world : World) (env : Env)
    → AllByRecursion (λ (e : Executed). Passed start code world env e.row.checking) (executed world 0 code (start_at start env))

pub passed_more : (start : List Slot) (a b : List Spanned) (world : World) (env : Env) (c : Span) → Passed start a world env c → Passed start (a ++ b) world env c
passed_more start a b world env c p = record {
  used = used_more c a b p.used;
  machine_there = p.machine_there;
  ran = ap (λ l. run_rows world l (start_at start env)) (before_used c a b p.used) ∙ p.ran;
  lives = p.lives;
}

pub known_more : (start : List Slot) (a b : List Spanned) (c : Span) → IsNested b → Known start a c → Known start (a ++ b) c
known_more start a b c nested k world env n ran lives =
    let w = midway world a b (start_at start env) n ran in
    passed_more start a b world env c (k world env w.mid w.first (live_back world b w.mid n nested w.second lives))

each_append : {A : Type 0} (P : A → Type 0) (xs ys : List A) → AllByRecursion P xs → AllByRecursion P ys → AllByRecursion P (xs ++ ys)
each_append P [] ys h k = k
each_append P (x ∷ xs) ys h k = (h.0, each_append P xs ys h.1 k)

log_append : (world : World) (P : Executed → Type 0) (a b : List Spanned) (m : Machine) → AllByRecursion P (executed world 0 a m)
    → ((n : Machine) → run_rows world a m ≡ Ok n → AllByRecursion P (executed world (0 + length a) b n)) → AllByRecursion P (executed world 0 (a ++ b) m)
log_append world P a b m h k =
    subst (AllByRecursion P) (sym (executed_append world 0 a b m)) (each_append P (executed world 0 a m) (then_log (run_rows world a m) (executed world (0 + length a) b)) h (by (run_rows world a m) refl))
  where
    by : (r : Next) → run_rows world a m ≡ r → AllByRecursion P (then_log r (executed world (0 + length a) b))
    by (Ok n) e = k n e
    by (Err f) e = tt

told_log : (world : World) (Q : Span → Type 0) (d c : Span) → Q c → (rows : List Spanned) → are_told d c rows ≡ true → (i : ℕ) (m : Machine)
    → AllByRecursion (λ (e : Executed). Q e.row.checking) (executed world i rows m)
told_log world Q d c q [] h i m = tt
told_log world Q d c q (row ∷ rows) h i m =
    let k = and_parts ((is_span d row.doing && is_span c row.checking) && not (is_control row.instr)) (are_told d c rows) h in
    let l = and_parts (is_span d row.doing && is_span c row.checking) (not (is_control row.instr)) k.0 in
    let s = and_parts (is_span d row.doing) (is_span c row.checking) l.0 in
    by (is_executed row.instr m.conditions) (step world row m) (subst Q (sym (same_span c row.checking s.1)) q) (λ n. told_log world Q d c q rows k.1 (i + 1) n)
  where
    by : (t : Bool) (r : Next) → Q row.checking → ((n : Machine) → AllByRecursion (λ (e : Executed). Q e.row.checking) (executed world (i + 1) rows n))
        → AllByRecursion (λ (e : Executed). Q e.row.checking) (logged t (record { at = i; row = row; stack = m.stack }) r (executed world (i + 1) rows))
    by true (Ok n) x y = (x, y n)
    by false (Ok n) x y = y n
    by t (Err e) x y = tt

module _ (start : List Slot) (a b : List Spanned) (d c : Span) (told : are_told d c b ≡ true) (nested : IsNested b) (passed : AllPassed start a) (here : (world : World) (env : Env) (m : Machine) → run_rows world a (start_at start env) ≡ Ok m → is_live m.conditions ≡ true → Passed start (a ++ b) world env c) where
  pub passed_by : AllPassed start (a ++ b)
  passed_by world env =
      log_append world (λ e. Passed start (a ++ b) world env e.row.checking) a b (start_at start env)
      (each_map (λ e. Passed start a world env e.row.checking) (λ e. Passed start (a ++ b) world env e.row.checking) (λ e p. passed_more start a b world env e.row.checking p) (executed world 0 a (start_at start env)) (passed world env))
      (λ m ran. by_live m ran (is_live m.conditions) refl)
    where
      by_live : (m : Machine) → run_rows world a (start_at start env) ≡ Ok m → (l : Bool) → is_live m.conditions ≡ l
          → AllByRecursion (λ (e : Executed). Passed start (a ++ b) world env e.row.checking) (executed world (0 + length a) b m)
      by_live m ran false e =
          subst (AllByRecursion (λ (e : Executed). Passed start (a ++ b) world env e.row.checking)) (sym (silent world b nested (0 + length a) m.stack m.conditions e)) tt
      by_live m ran true e = told_log world (Passed start (a ++ b) world env) d c (here world env m ran e) b told (0 + length a) m

-- rows of a statement that has begun on each path
pub passed_rows : (start : List Slot) (a b : List Spanned) (d c : Span) → are_told d c b ≡ true → IsNested b → AllPassed start a → Known start a c → AllPassed start (a ++ b)
passed_rows start a b d c told nested passed known =
    passed_by start a b d c told nested passed (λ world env m ran lives. passed_more start a b world env c (known world env m ran lives))

-- a statement begins
module _ (start : List Slot) (a b : List Spanned) (d c : Span) (told : are_told d c b ≡ true) (nested : IsNested b) (unused : uses c a ≡ false) (begun : Begins c b) where
  first_is : before c (a ++ b) ≡ a
  first_is = before_unused c a b unused ∙ ap (λ l. a ++ l) (before_here c b begun) ∙ append-nil a

  used_is : uses c (a ++ b) ≡ true
  used_is = uses_append c a b ∙ ap (λ t. uses c a || t) (uses_here c b begun) ∙ or_true (uses c a)
    where
      or_true : (t : Bool) → (t || true) ≡ true
      or_true true = refl
      or_true false = refl

  here_passed : (world : World) (env : Env) (m : Machine) → run_rows world a (start_at start env) ≡ Ok m → is_live m.conditions ≡ true → Passed start (a ++ b) world env c
  here_passed world env m ran lives =
      record { used = used_is; machine_there = m; ran = ap (λ l. run_rows world l (start_at start env)) first_is ∙ ran; lives = lives }

  pub passed_first : AllPassed start a → AllPassed start (a ++ b)
  passed_first passed = passed_by start a b d c told nested passed here_passed

  pub known_first : Known start (a ++ b) c
  known_first world env n ran lives =
      let w = midway world a b (start_at start env) n ran in
      here_passed world env w.mid w.first (live_back world b w.mid n nested w.second lives)

-- one more row
pub passed_row : (start : List Slot) (a : List Spanned) (row : Spanned) → AllPassed start a
    → ((world : World) (env : Env) (m : Machine) → run_rows world a (start_at start env) ≡ Ok m → is_executed row.instr m.conditions ≡ true → Passed start a world env row.checking)
    → AllPassed start (a ++ row ∷ [])
passed_row start a row passed here world env =
    log_append world (λ e. Passed start (a ++ row ∷ []) world env e.row.checking) a (row ∷ []) (start_at start env)
    (each_map (λ e. Passed start a world env e.row.checking) (λ e. Passed start (a ++ row ∷ []) world env e.row.checking) (λ e p. passed_more start a (row ∷ []) world env e.row.checking p) (executed world 0 a (start_at start env)) (passed world env))
    (λ m ran. by m (is_executed row.instr m.conditions) (λ e. passed_more start a (row ∷ []) world env row.checking (here world env m ran e)) (step world row m))
  where
    by : (m : Machine) (t : Bool) → (t ≡ true → Passed start (a ++ row ∷ []) world env row.checking) → (r : Next)
        → AllByRecursion (λ (e : Executed). Passed start (a ++ row ∷ []) world env e.row.checking) (logged t (record { at = 0 + length a; row = row; stack = m.stack }) r (executed world (0 + length a + 1) []))
    by m true f (Ok k) = (f refl, tt)
    by m false f (Ok k) = tt
    by m t f (Err e) = tt

-- ---- an ELSE or ENDIF behind rows that leave one condition open

if_row : row_of 0x63 ≡ Opens true
unfolding rows
if_row = refl

else_row : row_of 0x67 ≡ Flips
unfolding rows
else_row = refl

pub open_yes : (d c : Span) (a : List Spanned) → IsNested a → nesting (instructions (opens d c ∷ a)) 0 ≡ Some 1
open_yes d c a na = ap (λ w. option_and_then (nesting (instructions a)) (open_after_row w 0)) if_row ∙ na 1

pub open_no : (d c : Span) (a b : List Spanned) → IsNested a → IsNested b → nesting (instructions (opens d c ∷ (a ++ flips d c ∷ b))) 0 ≡ Some 1
open_no d c a b na nb =
    ap (λ w. option_and_then (nesting (instructions (a ++ flips d c ∷ b))) (open_after_row w 0)) if_row
    ∙ nesting_append a (flips d c ∷ b) 1 ∙ ap (option_and_then (nesting (instructions (flips d c ∷ b)))) (na 1)
    ∙ ap (λ w. option_and_then (nesting (instructions b)) (open_after_row w 1)) else_row ∙ nb 1

outer_is : (conditions : List Bool) → outer conditions ≡ drop 1 conditions
outer_is [] = refl
outer_is (b ∷ conditions) = refl

pub passed_close : (start : List Slot) (old rows code : List Spanned) (row : Spanned) → ((conditions : List Bool) → is_executed row.instr conditions ≡ is_live (outer conditions))
    → Known start old row.checking → nesting (instructions rows) 0 ≡ Some 1 → code ≡ old ++ rows → AllPassed start code → AllPassed start (code ++ row ∷ [])
passed_close start old rows code row exec known one grown passed =
    passed_row start code row passed (λ world env m ran e.
    let w = midway world old rows (start_at start env) m (ap (λ l. run_rows world l (start_at start env)) (sym grown) ∙ ran) in
    let lives : is_live w.mid.conditions ≡ true = ap is_live (sym (outer_is m.conditions ∙ rows_keep world rows 1 0 w.mid m one w.second)) ∙ sym (exec m.conditions) ∙ e in
    subst (λ l. Passed start l world env row.checking) (sym grown) (passed_more start old rows world env row.checking (known world env w.mid w.first lives)))
