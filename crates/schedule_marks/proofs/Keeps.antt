-- The conditions that are open around rows stay as they were.
use Rattle.std.proofs.Common.{◌≡◌, ℕ, zero, suc, Bool, true, false, not, List, [], ◌∷◌, drop, Option, Some, None, Result, Ok, Err, refl, sym, ap, ◌∙◌}
use Rattle.std.specs.Prelude.{option_and_then}
use Rattle.std.proofs.lemmas.Option.{none-some, same_Some}
use Rattle.cash_base.specs.declared.fault.MachineCause.{MachineCause}
use Rattle.cash_base.specs.Failing.{◌>>=◌}
use Rattle.tx_context.specs.World.{World}
use Rattle.script_codec.specs.declared.instr.Instr.{Instr}
use Rattle.script_codec.specs.declared.instr.Instr.TheVariants.{Push, Do}
use Rattle.script_codec.specs.declared.spans.Spanned.{Spanned}
use Rattle.opcode_table.specs.declared.rows.Row.{Row}
use Rattle.opcode_table.specs.declared.rows.Row.TheVariants.{Never, Opens, Flips, Closes, Lays, Fetches, Separates, Does, DoesAndVerifies}
use Rattle.opcode_table.specs.Stack.{Stack}
use Rattle.opcode_table.specs.Deeds.{done, done_and_verified}
use Rattle.opcode_table.specs.Table.{row_of}
use Rattle.bch_vm.specs.Setting.{Around, around, asked_at}
use Rattle.bch_vm.specs.Board.{Board, board, Move, is_live, opened_where, flipped, closed, on_conditions, laid_from, fetched_from, separated, on_stack, executed_where, row_after, pushed_where, board_after}
use Rattle.run_laws.specs.Nested.{open_after_row, open_after, nesting}
use Rattle.row_runs.specs.Rows.{instructions, Machine, machine, Next, setting_of, placed, board_then, run_rows, IsNested}

-- an instruction after which so many are open keeps what was around them
abbrev KeepsAt : Option ℕ → ℕ → Board → Result Board MachineCause → Type 0
KeepsAt None n b r = Unit {0}
KeepsAt (Some k) n b (Err cause) = Unit {0}
KeepsAt (Some k) n b (Ok next) = drop k next.conditions ≡ drop n b.conditions

opened_keeps : (sense live : Bool) (n : ℕ) (stack alternate : Stack) (conditions : List Bool) (separator : ℕ)
    → KeepsAt (Some (suc n)) n (board stack alternate conditions separator) (opened_where live sense (board stack alternate conditions separator))
opened_keeps sense false n stack alternate conditions separator = refl
opened_keeps sense true n [] alternate conditions separator = tt
opened_keeps sense true n (a ∷ rest) alternate conditions separator = refl

flipped_keeps : (n : ℕ) (stack alternate : Stack) (conditions : List Bool) (separator : ℕ)
    → KeepsAt (Some (suc n)) (suc n) (board stack alternate conditions separator) (on_conditions flipped (board stack alternate conditions separator))
flipped_keeps n stack alternate [] separator = tt
flipped_keeps n stack alternate (c ∷ conditions) separator = refl

closed_keeps : (n : ℕ) (stack alternate : Stack) (conditions : List Bool) (separator : ℕ)
    → KeepsAt (Some n) (suc n) (board stack alternate conditions separator) (on_conditions closed (board stack alternate conditions separator))
closed_keeps n stack alternate [] separator = tt
closed_keeps n stack alternate (c ∷ conditions) separator = refl

executed_keeps : (live : Bool) (move : Move) (n : ℕ) (b : Board) → KeepsAt (Some n) n b (move b) → KeepsAt (Some n) n b (executed_where live move b)
executed_keeps true move n b k = k
executed_keeps false move n b k = refl

laid_keeps : (stack : Stack) (n : ℕ) (b : Board) → KeepsAt (Some n) n b (laid_from stack b)
laid_keeps [] n b = tt
laid_keeps (e ∷ rest) n b = refl

fetched_keeps : (stack : Stack) (n : ℕ) (b : Board) → KeepsAt (Some n) n b (fetched_from stack b)
fetched_keeps [] n b = tt
fetched_keeps (e ∷ rest) n b = refl

stack_keeps : (r : Result Stack MachineCause) (n : ℕ) (b : Board) → KeepsAt (Some n) n b (r >>= λ stack. Ok (board stack b.alternate b.conditions b.separator))
stack_keeps (Ok stack) n b = refl
stack_keeps (Err cause) n b = tt

row_keeps : (a : Around) (row : Row) (n : ℕ) (b : Board) → KeepsAt (open_after_row row n) n b (row_after a row b)
row_keeps a (Never cause) n b = tt
row_keeps a (Opens sense) n b = opened_keeps sense (is_live b.conditions) n b.stack b.alternate b.conditions b.separator
row_keeps a Flips zero b = tt
row_keeps a Flips (suc n) b = flipped_keeps n b.stack b.alternate b.conditions b.separator
row_keeps a Closes zero b = tt
row_keeps a Closes (suc n) b = closed_keeps n b.stack b.alternate b.conditions b.separator
row_keeps a Lays n b = executed_keeps (is_live b.conditions) (laid_from b.stack) n b (laid_keeps b.stack n b)
row_keeps a Fetches n b = executed_keeps (is_live b.conditions) (fetched_from b.alternate) n b (fetched_keeps b.alternate n b)
row_keeps a Separates n b = executed_keeps (is_live b.conditions) (separated a.next) n b refl
row_keeps a (Does deed) n b =
    let action = done (asked_at a b.separator) deed in
    executed_keeps (is_live b.conditions) (on_stack action) n b (stack_keeps (action b.stack) n b)
row_keeps a (DoesAndVerifies deed) n b =
    let action = done_and_verified (asked_at a b.separator) deed in
    executed_keeps (is_live b.conditions) (on_stack action) n b (stack_keeps (action b.stack) n b)

pushed_keeps : (live : Bool) (e : List ℕ) (n : ℕ) (b : Board) → KeepsAt (Some n) n b (Ok (pushed_where live e b))
pushed_keeps true e n b = refl
pushed_keeps false e n b = refl

instr_keeps : (a : Around) (instr : Instr) (n : ℕ) (b : Board) → KeepsAt (open_after instr n) n b (board_after a instr b)
instr_keeps a (Push e) n b = pushed_keeps (is_live b.conditions) e.items n b
instr_keeps a (Do opcode) n b = row_keeps a (row_of opcode.0) n b

abbrev KeepsEnd : ℕ → ℕ → List Bool → Next → Type 0
KeepsEnd m n conditions (Ok t) = drop m t.conditions ≡ drop n conditions
KeepsEnd m n conditions (Err failure) = Unit {0}

keeps_on : (m k n : ℕ) (between conditions : List Bool) (r : Next) → drop k between ≡ drop n conditions → KeepsEnd m k between r → KeepsEnd m n conditions r
keeps_on m k n between conditions (Ok t) kept e = e ∙ kept
keeps_on m k n between conditions (Err failure) kept e = tt

keeps_step : (world : World) (row : Spanned) (rows : List Spanned) (b : Board) (n m : ℕ) (o : Option ℕ) (r : Result Board MachineCause) → KeepsAt o n b r
    → ((k : ℕ) (t : Machine) → nesting (instructions rows) k ≡ Some m → KeepsEnd m k t.conditions (run_rows world rows t))
    → option_and_then (nesting (instructions rows)) o ≡ Some m → KeepsEnd m n b.conditions (placed row r >>= run_rows world rows)
keeps_step world row rows b n m None r kept more h = absurd (none-some m h)
keeps_step world row rows b n m (Some k) (Err cause) kept more h = tt
keeps_step world row rows b n m (Some k) (Ok next) kept more h =
    keeps_on m k n next.conditions b.conditions (run_rows world rows (machine next.stack next.conditions)) kept (more k (machine next.stack next.conditions) h)

keeps_run : (world : World) (rows : List Spanned) (n m : ℕ) (s : Machine) → nesting (instructions rows) n ≡ Some m → KeepsEnd m n s.conditions (run_rows world rows s)
keeps_run world [] n m s h = ap (λ k. drop k s.conditions) (sym (same_Some n m h))
keeps_run world (row ∷ rows) n m s h =
    keeps_step world row rows (board s.stack [] s.conditions 0) n m (open_after row.instr n) (board_then world row.instr s)
    (instr_keeps (around (setting_of world) 0 20) row.instr n (board s.stack [] s.conditions 0)) (λ k t g. keeps_run world rows k m t g) h

-- nested rows leave the open conditions as they were, and rows that open one more leave the others
pub rows_keep : (world : World) (rows : List Spanned) (m n : ℕ) (s t : Machine) → nesting (instructions rows) n ≡ Some m → run_rows world rows s ≡ Ok t
    → drop m t.conditions ≡ drop n s.conditions
rows_keep world rows m n s t h ran = by (run_rows world rows s) ran (keeps_run world rows n m s h)
  where
    by : (r : Next) → r ≡ Ok t → KeepsEnd m n s.conditions r → drop m t.conditions ≡ drop n s.conditions
    by (Ok u) e k = ap (λ x. drop m x.conditions) (same t u e) ∙ k
      where
        same : (t u : Machine) → ◌≡◌ {A = Next} (Ok u) (Ok t) → t ≡ u
        same t u e = cc
    by (Err failure) e k = absurd cc
