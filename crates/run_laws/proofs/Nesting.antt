-- Nested code: its conditions, and what it does where it isn't executed.
use Rattle.std.proofs.Common.{◌≡◌, ℕ, zero, suc, ◌+◌, Bool, true, false, cond, not, ◌&&◌, List, [], ◌∷◌, length, drop, Option, Some, None, Result, Ok, Err, refl, sym, ap, ◌∙◌, arith}
use Rattle.std.specs.Prelude.{option_and_then}
use Rattle.std.proofs.lemmas.List.{length-append}
use Rattle.std.proofs.lemmas.Option.{none-some, same_Some}
use Rattle.std.proofs.lemmas.Bool.{false≢true}
use Rattle.cash_base.specs.declared.fault.MachineCause.{MachineCause}
use Rattle.cash_base.specs.Failing.{◌>>=◌}
use Rattle.script_codec.specs.declared.instr.Instr.{Instr}
use Rattle.script_codec.specs.declared.instr.Instr.TheVariants.{Push, Do}
use Rattle.script_codec.specs.Spelling.{spelling, spellings}
use Rattle.opcode_table.specs.declared.rows.Row.{Row}
use Rattle.opcode_table.specs.declared.rows.Row.TheVariants.{Never, Opens, Flips, Closes, Lays, Fetches, Separates, Does, DoesAndVerifies}
use Rattle.opcode_table.specs.Stack.{Stack}
use Rattle.opcode_table.specs.Deeds.{done, done_and_verified}
use Rattle.opcode_table.specs.Table.{row_of}
use Rattle.bch_vm.specs.Setting.{Setting, Around, around, asked_at}
use Rattle.bch_vm.specs.Board.{Board, board, Move, is_live, opened_where, flipped, closed, on_conditions, laid_from, fetched_from, separated, on_stack, executed_where, row_after, pushed_where, board_after, is_condition, is_effective}
use Rattle.bch_vm.specs.Script.{State, state_of, Progress, progress_after, passed, run, Failure}
use Rattle.run_laws.specs.Nested.{open_after_row, open_after, nesting, none_open, is_nested, progress_over}
use Rattle.run_laws.specs.Branches.{ChangesNothing, HasConditionsOf}

-- ---- the depth

nothing_open : (o : Option ℕ) → none_open o ≡ true → o ≡ Some 0
nothing_open None h = absurd (false≢true h)
nothing_open (Some zero) h = refl
nothing_open (Some (suc around)) h = absurd (false≢true h)

pub closes : (code : List Instr) → is_nested code ≡ true → nesting code 0 ≡ Some 0
closes code h = nothing_open (nesting code 0) h

-- ---- the conditions outside of the code stay

-- an instruction after which so many are open keeps what was outside of them
abbrev KeepsAt : Option ℕ → ℕ → Board → Result Board MachineCause → Type 0
KeepsAt None n b r = Unit {0}
KeepsAt (Some k) n b (Err cause) = Unit {0}
KeepsAt (Some k) n b (Ok next) = drop k next.conditions ≡ drop n b.conditions

opened_keeps : (sense live : Bool) (n : ℕ) (stack alternate : Stack) (conditions : List Bool) (separator : ℕ)
    → KeepsAt (Some (suc n)) n (board stack alternate conditions separator)
    (opened_where live sense (board stack alternate conditions separator))
opened_keeps sense false n stack alternate conditions separator = refl
opened_keeps sense true n [] alternate conditions separator = tt
opened_keeps sense true n (a ∷ rest) alternate conditions separator = refl

flipped_keeps : (n : ℕ) (stack alternate : Stack) (conditions : List Bool) (separator : ℕ)
    → KeepsAt (Some (suc n)) (suc n) (board stack alternate conditions separator)
    (on_conditions flipped (board stack alternate conditions separator))
flipped_keeps n stack alternate [] separator = tt
flipped_keeps n stack alternate (c ∷ conditions) separator = refl

closed_keeps : (n : ℕ) (stack alternate : Stack) (conditions : List Bool) (separator : ℕ)
    → KeepsAt (Some n) (suc n) (board stack alternate conditions separator)
    (on_conditions closed (board stack alternate conditions separator))
closed_keeps n stack alternate [] separator = tt
closed_keeps n stack alternate (c ∷ conditions) separator = refl

executed_keeps : (live : Bool) (move : Move) (n : ℕ) (b : Board) → KeepsAt (Some n) n b (move b)
    → KeepsAt (Some n) n b (executed_where live move b)
executed_keeps true move n b k = k
executed_keeps false move n b k = refl

laid_keeps : (stack : Stack) (n : ℕ) (b : Board) → KeepsAt (Some n) n b (laid_from stack b)
laid_keeps [] n b = tt
laid_keeps (e ∷ rest) n b = refl

fetched_keeps : (stack : Stack) (n : ℕ) (b : Board) → KeepsAt (Some n) n b (fetched_from stack b)
fetched_keeps [] n b = tt
fetched_keeps (e ∷ rest) n b = refl

stack_keeps : (r : Result Stack MachineCause) (n : ℕ) (b : Board)
    → KeepsAt (Some n) n b (r >>= λ stack. Ok (board stack b.alternate b.conditions b.separator))
stack_keeps (Ok stack) n b = refl
stack_keeps (Err cause) n b = tt

row_keeps : (a : Around) (row : Row) (n : ℕ) (b : Board) → KeepsAt (open_after_row row n) n b (row_after a row b)
row_keeps a (Never cause) n b = tt
row_keeps a (Opens sense) n b = opened_keeps sense (is_live b.conditions) n b.stack b.alternate b.conditions b.separator
row_keeps a Flips zero b = tt
row_keeps a Flips (suc n) b = flipped_keeps n b.stack b.alternate b.conditions b.separator
row_keeps a Closes zero b = tt
row_keeps a Closes (suc n) b = closed_keeps n b.stack b.alternate b.conditions b.separator
row_keeps a Lays n b = executed_keeps (is_live b.conditions) (laid_from b.stack) n b (laid_keeps b.stack n b)
row_keeps a Fetches n b =
    executed_keeps (is_live b.conditions) (fetched_from b.alternate) n b (fetched_keeps b.alternate n b)
row_keeps a Separates n b = executed_keeps (is_live b.conditions) (separated a.next) n b refl
row_keeps a (Does deed) n b =
    let action = done (asked_at a b.separator) deed in
    executed_keeps (is_live b.conditions) (on_stack action) n b (stack_keeps (action b.stack) n b)
row_keeps a (DoesAndVerifies deed) n b =
    let action = done_and_verified (asked_at a b.separator) deed in
    executed_keeps (is_live b.conditions) (on_stack action) n b (stack_keeps (action b.stack) n b)

pushed_keeps : (live : Bool) (e : List ℕ) (n : ℕ) (b : Board) → KeepsAt (Some n) n b (Ok (pushed_where live e b))
pushed_keeps true e n b = refl
pushed_keeps false e n b = refl

instr_keeps : (a : Around) (instr : Instr) (n : ℕ) (b : Board) → KeepsAt (open_after instr n) n b (board_after a instr b)
instr_keeps a (Push e) n b = pushed_keeps (is_live b.conditions) e.items n b
instr_keeps a (Do opcode) n b = row_keeps a (row_of opcode.0) n b

abbrev KeepsState : ℕ → ℕ → List Bool → Result State Failure → Type 0
KeepsState m n conditions (Ok t) = drop m t.board.conditions ≡ drop n conditions
KeepsState m n conditions (Err failure) = Unit {0}

keeps_on : (m k n : ℕ) (between conditions : List Bool) (r : Result State Failure)
    → drop k between ≡ drop n conditions → KeepsState m k between r → KeepsState m n conditions r
keeps_on m k n between conditions (Ok t) kept e = e ∙ kept
keeps_on m k n between conditions (Err failure) kept e = tt

keeps_step : (setting : Setting) (code : List Instr) (at : ℕ) (p : Progress) (b : Board) (n m : ℕ)
    (o : Option ℕ) (r : Result Board MachineCause) → KeepsAt o n b r
    → ((k : ℕ) (t : State) → nesting code k ≡ Some m → KeepsState m k t.board.conditions (run setting code t))
    → option_and_then (nesting code) o ≡ Some m → KeepsState m n b.conditions (passed at p r >>= run setting code)
keeps_step setting code at p b n m None r kept more h = absurd (none-some m h)
keeps_step setting code at p b n m (Some k) (Err cause) kept more h = tt
keeps_step setting code at p b n m (Some k) (Ok next) kept more h =
    keeps_on m k n next.conditions b.conditions (run setting code (state_of next p)) kept (more k (state_of next p) h)

keeps_run : (setting : Setting) (code : List Instr) (n m : ℕ) (s : State) → nesting code n ≡ Some m
    → KeepsState m n s.board.conditions (run setting code s)
keeps_run setting [] n m s h = ap (λ k. drop k s.board.conditions) (sym (same_Some n m h))
keeps_run setting (instr ∷ code) n m s h =
    let size = length (spelling instr) in
    let a = around setting (s.progress.place + size) 20 in
    keeps_step setting code s.progress.at (progress_after instr s.board.conditions s.progress) s.board n m
    (open_after instr n) (board_after a instr s.board) (instr_keeps a instr n s.board)
    (λ k t g. keeps_run setting code k m t g) h

pub keeps_conditions : (setting : Setting) (code : List Instr) (s : State) → is_nested code ≡ true
    → HasConditionsOf s (run setting code s)
keeps_conditions setting code s nested = by_end (run setting code s) (keeps_run setting code 0 0 s (closes code nested))
  where
    by_end : (r : Result State Failure) → KeepsState 0 0 s.board.conditions r → HasConditionsOf s r
    by_end (Ok t) kept = kept
    by_end (Err failure) kept = tt

-- ---- where it isn't executed

-- conditions are false together where some of the outer are
pub dead_inside : (n : ℕ) (conditions : List Bool) → is_live (drop n conditions) ≡ false → is_live conditions ≡ false
dead_inside zero conditions dead = dead
dead_inside (suc n) [] dead = dead
dead_inside (suc n) (true ∷ conditions) dead = dead_inside n conditions dead
dead_inside (suc n) (false ∷ conditions) dead = refl

pub record Still (k n : ℕ) (b : Board) (r : Result Board MachineCause) : Type 0 where
  pub conditions : List Bool
  pub kept : drop k conditions ≡ drop n b.conditions
  pub same : r ≡ Ok (board b.stack b.alternate conditions b.separator)

abbrev pub StillAt : Option ℕ → ℕ → Board → Result Board MachineCause → Type 0
StillAt None n b r = Unit {0}
StillAt (Some k) n b r = Still k n b r

flipped_still : (n : ℕ) (stack alternate : Stack) (conditions : List Bool) (separator : ℕ)
    → is_live (drop (suc n) conditions) ≡ false
    → StillAt (Some (suc n)) (suc n) (board stack alternate conditions separator)
    (on_conditions flipped (board stack alternate conditions separator))
flipped_still n stack alternate [] separator dead = absurd (false≢true (sym dead))
flipped_still n stack alternate (c ∷ conditions) separator dead =
    record { conditions = not c ∷ conditions; kept = refl; same = refl }

closed_still : (n : ℕ) (stack alternate : Stack) (conditions : List Bool) (separator : ℕ)
    → is_live (drop (suc n) conditions) ≡ false
    → StillAt (Some n) (suc n) (board stack alternate conditions separator)
    (on_conditions closed (board stack alternate conditions separator))
closed_still n stack alternate [] separator dead = absurd (false≢true (sym dead))
closed_still n stack alternate (c ∷ conditions) separator dead =
    record { conditions = conditions; kept = refl; same = refl }

executed_still : (move : Move) (n : ℕ) (b : Board) → is_live b.conditions ≡ false
    → StillAt (Some n) n b (executed_where (is_live b.conditions) move b)
executed_still move n b dead =
    record { conditions = b.conditions; kept = refl; same = ap (λ live. executed_where live move b) dead }

row_still : (a : Around) (row : Row) (n : ℕ) (b : Board) → is_live (drop n b.conditions) ≡ false
    → StillAt (open_after_row row n) n b (row_after a row b)
row_still a (Never cause) n b dead = tt
row_still a (Opens sense) n b dead = record {
  conditions = false ∷ b.conditions;
  kept = refl;
  same = ap (λ live. opened_where live sense b) (dead_inside n b.conditions dead);
}
row_still a Flips zero b dead = tt
row_still a Flips (suc n) b dead = flipped_still n b.stack b.alternate b.conditions b.separator dead
row_still a Closes zero b dead = tt
row_still a Closes (suc n) b dead = closed_still n b.stack b.alternate b.conditions b.separator dead
row_still a Lays n b dead = executed_still (laid_from b.stack) n b (dead_inside n b.conditions dead)
row_still a Fetches n b dead = executed_still (fetched_from b.alternate) n b (dead_inside n b.conditions dead)
row_still a Separates n b dead = executed_still (separated a.next) n b (dead_inside n b.conditions dead)
row_still a (Does deed) n b dead =
    executed_still (on_stack (done (asked_at a b.separator) deed)) n b (dead_inside n b.conditions dead)
row_still a (DoesAndVerifies deed) n b dead =
    executed_still (on_stack (done_and_verified (asked_at a b.separator) deed)) n b (dead_inside n b.conditions dead)

pub instr_still : (a : Around) (instr : Instr) (n : ℕ) (b : Board) → is_live (drop n b.conditions) ≡ false
    → StillAt (open_after instr n) n b (board_after a instr b)
instr_still a (Push e) n b dead = record {
  conditions = b.conditions;
  kept = refl;
  same = ap (λ live. Ok (pushed_where live e.items b)) (dead_inside n b.conditions dead);
}
instr_still a (Do opcode) n b dead = row_still a (row_of opcode.0) n b dead

-- ---- progress

abbrev pub progress : ℕ → ℕ → ℕ → Progress
progress at last place = record { at = at; last = last; place = place }

pub progress_by : {at at′ last last′ place place′ : ℕ} → at ≡ at′ → last ≡ last′ → place ≡ place′
    → progress at last place ≡ progress at′ last′ place′
progress_by {at} {at′} {last} {last′} {place} {place′} a l p =
    ap (λ n. progress n last place) a ∙ ap (λ n. progress at′ n place) l ∙ ap (λ n. progress at′ last′ n) p

-- an instruction that isn't effective, and then others of which none is
pub progress_next : (instr : Instr) (conditions : List Bool) (code : List Instr) (p : Progress)
    → is_effective instr conditions ≡ false
    → progress_over code (progress_after instr conditions p) ≡ progress_over (instr ∷ code) p
progress_next instr conditions code p still =
    let bytes = length-append (spelling instr) (spellings code) in
    progress_by (omega arith) (ap (λ t. cond t p.at p.last) still) (omega (arith, bytes))

dead_effect : (instr : Instr) (conditions : List Bool) → is_live conditions ≡ false → is_effective instr conditions ≡ false
dead_effect (Push e) conditions dead = dead
dead_effect (Do opcode) conditions dead = ap (λ live. live && not (is_condition opcode.0)) dead

-- ---- a run

record StillRun (m n : ℕ) (b : Board) (p : Progress) (r : Result State Failure) : Type 0 where
  conditions : List Bool
  kept : drop m conditions ≡ drop n b.conditions
  same : r ≡ Ok (state_of (board b.stack b.alternate conditions b.separator) p)

still_step : (setting : Setting) (code : List Instr) (at : ℕ) (q p : Progress) (b : Board) (n m : ℕ)
    (o : Option ℕ) (r : Result Board MachineCause) → is_live (drop n b.conditions) ≡ false → StillAt o n b r
    → progress_over code q ≡ p
    → ((k : ℕ) (b : Board) → is_live (drop k b.conditions) ≡ false → nesting code k ≡ Some m
    → StillRun m k b (progress_over code q) (run setting code (state_of b q)))
    → option_and_then (nesting code) o ≡ Some m → StillRun m n b p (passed at q r >>= run setting code)
still_step setting code at q p b n m None r dead still past more h = absurd (none-some m h)
still_step setting code at q p b n m (Some k) r dead still past more h =
    let after = board b.stack b.alternate still.conditions b.separator in
    let then = more k after (ap is_live still.kept ∙ dead) h in
    record {
      conditions = then.conditions;
      kept = then.kept ∙ still.kept;
      same = ap (λ x. passed at q x >>= run setting code) still.same
          ∙ then.same
          ∙ ap (λ z. Ok (state_of (board b.stack b.alternate then.conditions b.separator) z)) past;
    }

still_run : (setting : Setting) (code : List Instr) (n m : ℕ) (b : Board) (p : Progress)
    → is_live (drop n b.conditions) ≡ false → nesting code n ≡ Some m
    → StillRun m n b (progress_over code p) (run setting code (state_of b p))
still_run setting [] n m b p dead h = record {
  conditions = b.conditions;
  kept = ap (λ k. drop k b.conditions) (sym (same_Some n m h));
  same = ap (λ q. Ok (state_of b q)) (progress_by (omega arith) refl (omega arith));
}
still_run setting (instr ∷ code) n m b p dead h =
    let a = around setting (p.place + length (spelling instr)) 20 in
    let q = progress_after instr b.conditions p in
    still_step setting code p.at q (progress_over (instr ∷ code) p) b n m (open_after instr n) (board_after a instr b) dead
    (instr_still a instr n b dead)
    (progress_next instr b.conditions code p (dead_effect instr b.conditions (dead_inside n b.conditions dead)))
    (λ k after still g. still_run setting code k m after q still g) h

pub changes_nothing : (setting : Setting) (code : List Instr) → is_nested code ≡ true → ChangesNothing setting code
changes_nothing setting code nested s dead =
    let still = still_run setting code 0 0 s.board s.progress dead (closes code nested) in
    still.same
    ∙ ap (λ c. Ok (state_of (board s.board.stack s.board.alternate c s.board.separator) (progress_over code s.progress)))
    still.kept
