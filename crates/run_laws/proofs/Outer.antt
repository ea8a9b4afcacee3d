-- Nested code goes alike under whichever conditions, where all are true.
use Rattle.std.proofs.Common.{◌≡◌, ℕ, suc, ◌+◌, Bool, true, false, not, ◌&&◌, cond, List, [], ◌∷◌, ◌++◌, length, Option, Some, Result, Ok, Err, refl, sym, ap, ◌∙◌, subst, arith}
use Rattle.std.specs.Prelude.{option_and_then}
use Rattle.std.proofs.lemmas.Bool.{false≢true}
use Rattle.std.proofs.lemmas.Option.{none-some, same_Some}
use Rattle.cash_base.specs.declared.fault.MachineCause.{MachineCause}
use Rattle.cash_base.specs.declared.fault.MachineCause.TheVariants.{Unbalanced, Underflow, AltEmpty}
use Rattle.cash_base.specs.Failing.{◌>>=◌}
use Rattle.cash_base.specs.Number.{truth_of}
use Rattle.script_codec.specs.declared.instr.Instr.{Instr}
use Rattle.script_codec.specs.declared.instr.Instr.TheVariants.{Push, Do}
use Rattle.script_codec.specs.Spelling.{spelling}
use Rattle.opcode_table.specs.declared.rows.Row.{Row}
use Rattle.opcode_table.specs.declared.rows.Row.TheVariants.{Never, Opens, Flips, Closes, Lays, Fetches, Separates, Does, DoesAndVerifies}
use Rattle.opcode_table.specs.Stack.{Stack}
use Rattle.opcode_table.specs.Deeds.{done, done_and_verified}
use Rattle.opcode_table.specs.Table.{row_of}
use Rattle.bch_vm.specs.Setting.{Setting, Around, around, asked_at}
use Rattle.bch_vm.specs.Board.{Board, board, Move, is_live, sensed, opened_where, laid_from, fetched_from, separated, on_stack, executed_where, row_after, pushed_where, board_after, is_condition, is_effective}
use Rattle.bch_vm.specs.Script.{State, state_of, Progress, progress_after, passed, run, Failure}
use Rattle.run_laws.specs.Nested.{open_after_row, open_after, nesting, is_nested}
use Rattle.run_laws.specs.Branches.{under, GoesUnderAny}
use Rattle.run_laws.proofs.Nesting.{closes, progress}

abbrev on : List Bool → Board → Board
on conditions b = board b.stack b.alternate conditions b.separator

-- ---- two results, under two lists of outer conditions

abbrev Claim : Type 1
Claim = Result Board MachineCause → Result Board MachineCause → Type 0

abbrev RunClaim : Type 1
RunClaim = Result State Failure → Result State Failure → Type 0

-- what holds of two failures alike, and of two boards that differ in the outer conditions alone
record Holds (f : ℕ → Option ℕ) (m : ℕ) (first second : List Bool) (P : Claim) : Type 0 where
  failed : (cause : MachineCause) → P (Err cause) (Err cause)
  went : (inner : List Bool) (b : Board) → f (length inner) ≡ Some m
      → P (Ok (on (inner ++ first) b)) (Ok (on (inner ++ second) b))

opened_both : (f : ℕ → Option ℕ) (m : ℕ) (sense : Bool) (inner first second : List Bool)
    (stack alternate : Stack) (separator : ℕ) (P : Claim) → Holds f m first second P
    → (live live′ : Bool) → live ≡ live′ → f (suc (length inner)) ≡ Some m
    → P (opened_where live sense (board stack alternate (inner ++ first) separator))
    (opened_where live′ sense (board stack alternate (inner ++ second) separator))
opened_both f m sense inner first second stack alternate separator P holds true false same h = absurd (false≢true (sym same))
opened_both f m sense inner first second stack alternate separator P holds false true same h = absurd (false≢true same)
opened_both f m sense inner first second stack alternate separator P holds false false same h =
    holds.went (false ∷ inner) (board stack alternate [] separator) h
opened_both f m sense inner first second [] alternate separator P holds true true same h = holds.failed Unbalanced
opened_both f m sense inner first second (a ∷ rest) alternate separator P holds true true same h =
    holds.went (sensed sense (truth_of a) ∷ inner) (board rest alternate [] separator) h

-- a move that acts where it is executed
executed_both : (f : ℕ → Option ℕ) (m : ℕ) (move move′ : Move) (inner first second : List Bool) (b : Board)
    (P : Claim) → Holds f m first second P
    → (live live′ : Bool) → live ≡ live′ → f (length inner) ≡ Some m
    → P (move (on (inner ++ first) b)) (move′ (on (inner ++ second) b))
    → P (executed_where live move (on (inner ++ first) b)) (executed_where live′ move′ (on (inner ++ second) b))
executed_both f m move move′ inner first second b P holds true false same h acts = absurd (false≢true (sym same))
executed_both f m move move′ inner first second b P holds false true same h acts = absurd (false≢true same)
executed_both f m move move′ inner first second b P holds true true same h acts = acts
executed_both f m move move′ inner first second b P holds false false same h acts = holds.went inner b h

stack_both : (f : ℕ → Option ℕ) (m : ℕ) (inner first second : List Bool) (b : Board)
    (P : Claim) → Holds f m first second P → f (length inner) ≡ Some m
    → (r : Result Stack MachineCause)
    → P (r >>= λ stack. Ok (board stack b.alternate (inner ++ first) b.separator))
    (r >>= λ stack. Ok (board stack b.alternate (inner ++ second) b.separator))
stack_both f m inner first second b P holds h (Err cause) = holds.failed cause
stack_both f m inner first second b P holds h (Ok stack) =
    holds.went inner (board stack b.alternate [] b.separator) h

laid_both : (f : ℕ → Option ℕ) (m : ℕ) (inner first second : List Bool) (b : Board)
    (P : Claim) → Holds f m first second P → f (length inner) ≡ Some m
    → (stack : Stack) → P (laid_from stack (on (inner ++ first) b)) (laid_from stack (on (inner ++ second) b))
laid_both f m inner first second b P holds h [] = holds.failed Underflow
laid_both f m inner first second b P holds h (e ∷ rest) =
    holds.went inner (board rest (e ∷ b.alternate) [] b.separator) h

fetched_both : (f : ℕ → Option ℕ) (m : ℕ) (inner first second : List Bool) (b : Board)
    (P : Claim) → Holds f m first second P → f (length inner) ≡ Some m
    → (stack : Stack) → P (fetched_from stack (on (inner ++ first) b)) (fetched_from stack (on (inner ++ second) b))
fetched_both f m inner first second b P holds h [] = holds.failed AltEmpty
fetched_both f m inner first second b P holds h (e ∷ rest) =
    holds.went inner (board (e ∷ b.stack) rest [] b.separator) h

row_both : (f : ℕ → Option ℕ) (m : ℕ) (a : Around) (row : Row) (inner first second : List Bool) (b : Board)
    (P : Claim) → Holds f m first second P
    → is_live (inner ++ first) ≡ is_live (inner ++ second)
    → option_and_then f (open_after_row row (length inner)) ≡ Some m
    → P (row_after a row (on (inner ++ first) b)) (row_after a row (on (inner ++ second) b))
row_both f m a (Never cause) inner first second b P holds same h = holds.failed cause
row_both f m a (Opens sense) inner first second b P holds same h =
    opened_both f m sense inner first second b.stack b.alternate b.separator P holds (is_live (inner ++ first))
    (is_live (inner ++ second)) same h
row_both f m a Flips [] first second b P holds same h = absurd (none-some m h)
row_both f m a Flips (c ∷ inner) first second b P holds same h = holds.went (not c ∷ inner) b h
row_both f m a Closes [] first second b P holds same h = absurd (none-some m h)
row_both f m a Closes (c ∷ inner) first second b P holds same h = holds.went inner b h
row_both f m a Lays inner first second b P holds same h =
    executed_both f m (laid_from b.stack) (laid_from b.stack) inner first second b P holds (is_live (inner ++ first))
    (is_live (inner ++ second)) same h (laid_both f m inner first second b P holds h b.stack)
row_both f m a Fetches inner first second b P holds same h =
    executed_both f m (fetched_from b.alternate) (fetched_from b.alternate) inner first second b P holds
    (is_live (inner ++ first)) (is_live (inner ++ second)) same h (fetched_both f m inner first second b P holds h b.alternate)
row_both f m a Separates inner first second b P holds same h =
    executed_both f m (separated a.next) (separated a.next) inner first second b P holds (is_live (inner ++ first))
    (is_live (inner ++ second)) same h (holds.went inner (board b.stack b.alternate [] a.next) h)
row_both f m a (Does deed) inner first second b P holds same h =
    let action = done (asked_at a b.separator) deed in
    executed_both f m (on_stack action) (on_stack action) inner first second b P holds (is_live (inner ++ first))
    (is_live (inner ++ second)) same h (stack_both f m inner first second b P holds h (action b.stack))
row_both f m a (DoesAndVerifies deed) inner first second b P holds same h =
    let action = done_and_verified (asked_at a b.separator) deed in
    executed_both f m (on_stack action) (on_stack action) inner first second b P holds (is_live (inner ++ first))
    (is_live (inner ++ second)) same h (stack_both f m inner first second b P holds h (action b.stack))

pushed_both : (f : ℕ → Option ℕ) (m : ℕ) (e : List ℕ) (inner first second : List Bool) (b : Board)
    (P : Claim) → Holds f m first second P
    → (live live′ : Bool) → live ≡ live′ → f (length inner) ≡ Some m
    → P (Ok (pushed_where live e (on (inner ++ first) b))) (Ok (pushed_where live′ e (on (inner ++ second) b)))
pushed_both f m e inner first second b P holds true false same h = absurd (false≢true (sym same))
pushed_both f m e inner first second b P holds false true same h = absurd (false≢true same)
pushed_both f m e inner first second b P holds true true same h =
    holds.went inner (board (e ∷ b.stack) b.alternate [] b.separator) h
pushed_both f m e inner first second b P holds false false same h = holds.went inner b h

instr_both : (f : ℕ → Option ℕ) (m : ℕ) (a : Around) (instr : Instr) (inner first second : List Bool) (b : Board)
    (P : Claim) → Holds f m first second P
    → is_live (inner ++ first) ≡ is_live (inner ++ second)
    → option_and_then f (open_after instr (length inner)) ≡ Some m
    → P (board_after a instr (on (inner ++ first) b)) (board_after a instr (on (inner ++ second) b))
instr_both f m a (Push e) inner first second b P holds same h =
    pushed_both f m e.items inner first second b P holds (is_live (inner ++ first)) (is_live (inner ++ second)) same h
instr_both f m a (Do opcode) inner first second b P holds same h =
    row_both f m a (row_of opcode.0) inner first second b P holds same h

-- ---- runs

same_effect : (instr : Instr) (first second : List Bool) → is_live first ≡ is_live second
    → is_effective instr first ≡ is_effective instr second
same_effect (Push e) first second same = same
same_effect (Do opcode) first second same = ap (λ live. live && not (is_condition opcode.0)) same

same_progress : (instr : Instr) (first second : List Bool) (p : Progress) → is_live first ≡ is_live second
    → progress_after instr first p ≡ progress_after instr second p
same_progress instr first second p same =
    ap (λ t. progress (p.at + 1) (cond t p.at p.last) (p.place + length (spelling instr))) (same_effect instr first second same)

-- conditions inside
live_inside : (inner first second : List Bool) → is_live first ≡ is_live second
    → is_live (inner ++ first) ≡ is_live (inner ++ second)
live_inside [] first second same = same
live_inside (c ∷ inner) first second same = ap (λ live. c && live) (live_inside inner first second same)

record Ends (m : ℕ) (first second : List Bool) (Q : RunClaim) : Type 0 where
  failed : (failure : Failure) → Q (Err failure) (Err failure)
  went : (inner : List Bool) (b : Board) (p : Progress) → length inner ≡ m
      → Q (Ok (state_of (on (inner ++ first) b) p)) (Ok (state_of (on (inner ++ second) b) p))

run_both : (setting : Setting) (code : List Instr) (m : ℕ) (inner first second : List Bool) (b : Board) (p : Progress)
    (Q : RunClaim) → Ends m first second Q → is_live first ≡ is_live second
    → nesting code (length inner) ≡ Some m
    → Q (run setting code (state_of (on (inner ++ first) b) p)) (run setting code (state_of (on (inner ++ second) b) p))
run_both setting [] m inner first second b p Q ends same h = ends.went inner b p (same_Some (length inner) m h)
run_both setting (instr ∷ code) m inner first second b p Q ends same h =
    let a = around setting (p.place + length (spelling instr)) 20 in
    let live = live_inside inner first second same in
    let q = progress_after instr (inner ++ first) p in
    let q′ = progress_after instr (inner ++ second) p in
    let P = λ (r r′ : Result Board MachineCause).
    Q (passed p.at q r >>= run setting code) (passed p.at q′ r′ >>= run setting code) in
    instr_both (nesting code) m a instr inner first second b P
    (record {
      failed = λ cause. ends.failed (record { at = p.at; cause = cause });
      went = λ deeper next k.
          subst (λ z. Q (run setting code (state_of (on (deeper ++ first) next) q))
          (run setting code (state_of (on (deeper ++ second) next) z)))
          (same_progress instr (inner ++ first) (inner ++ second) p live)
          (run_both setting code m deeper first second next q Q ends same k);
    }) live h

pub goes_under_any : (setting : Setting) (code : List Instr) → is_nested code ≡ true → GoesUnderAny setting code
goes_under_any setting code nested s conditions live other =
    run_both setting code 0 [] s.board.conditions conditions s.board s.progress
    (λ r r′. r′ ≡ (r >>= λ t. Ok (under conditions t)))
    (record { failed = λ failure. refl; went = none_inside }) (live ∙ sym other) (closes code nested)
  where
    none_inside : (inner : List Bool) (b : Board) (p : Progress) → length inner ≡ 0
        → ◌≡◌ {A = Result State Failure} (Ok (state_of (on (inner ++ conditions) b) p))
        (Ok (under conditions (state_of (on (inner ++ s.board.conditions) b) p)))
    none_inside [] b p h = refl
    none_inside (c ∷ inner) b p h = absurd (omega (arith, h))
