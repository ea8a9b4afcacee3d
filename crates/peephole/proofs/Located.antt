-- A run of rows without CODESEPARATOR is the machine's run of their instructions, behind whichever others.
use Rattle.std.proofs.Common.{◌≡◌, ℕ, ◌+◌, Bool, true, false, not, ◌&&◌, cond, IsTrue, List, [], ◌∷◌, ◌++◌, length, Option, Some, None, option_map, Result, Ok, Err, refl, sym, ap, ◌∙◌, subst, arith, append_assoc, append-nil}
use Rattle.std.specs.Prelude.{slice_get}
use Rattle.std.proofs.lemmas.Bool.{and_parts, false≢true}
use Rattle.std.proofs.lemmas.List.{length-append}
use Rattle.cash_base.specs.declared.fault.MachineCause.{MachineCause}
use Rattle.cash_base.specs.declared.fault.MachineCause.TheVariants.{Unbalanced}
use Rattle.cash_base.specs.declared.place.Span.{Span}
use Rattle.cash_base.specs.Failing.{◌>>=◌}
use Rattle.cash_base.specs.Source.{place_in}
use Rattle.tx_context.specs.World.{World}
use Rattle.script_codec.specs.declared.instr.Instr.{Instr}
use Rattle.script_codec.specs.declared.instr.Instr.TheVariants.{Push, Do}
use Rattle.script_codec.specs.declared.spans.Spanned.{Spanned}
use Rattle.script_codec.specs.Spelling.{spelling}
use Rattle.opcode_table.specs.declared.rows.Row.{Row}
use Rattle.opcode_table.specs.declared.rows.Row.TheVariants.{Never, Opens, Flips, Closes, Lays, Fetches, Separates, Does, DoesAndVerifies}
use Rattle.opcode_table.specs.Stack.{Stack, Action}
use Rattle.opcode_table.specs.Deeds.{done, done_and_verified}
use Rattle.opcode_table.specs.Table.{row_of}
use Rattle.bch_vm.specs.Setting.{setting_in, Around, around, asked_at}
use Rattle.bch_vm.specs.Board.{Board, board, is_live, opened_where, flipped, closed, on_conditions, on_stack, executed_where, laid_from, fetched_from, row_after, pushed_where, board_after, is_condition, outer, is_executed, is_effective}
use Rattle.bch_vm.specs.Script.{State, state_of, state, beginning, run, balanced, Progress, progress_after, passed, Failure}
use Rattle.selector.specs.Place.{row_separates, separates, is_unseparated}
use Rattle.row_runs.specs.Rows.{instructions, Fault, setting_of, is_control}
use Rattle.rewrite_rules.specs.Rows.{Next, told, run_rows, underflows, is_underflow}
use Rattle.peephole.specs.Trace.{Event, event, where_executed, events_from, trace, last_statement}
use Rattle.peephole.specs.Tidy.{StandsFor}
use Rattle.peephole.specs.Scripts.{failure, is_short, place_of, EndsAlike, RunsAlike, HasLast, GoesAlike, RunsAnywhere}
use Rattle.peephole.proofs.Traces.{last_append, ends_condition}

-- ---- an instruction

-- no separator is passed
abbrev Kept : Result Board MachineCause → Type 0
Kept (Ok b) = b.separator ≡ 0
Kept (Err cause) = Unit {0}

opened_kept : (live sense : Bool) (stack alternate : Stack) (conditions : List Bool) → Kept (opened_where live sense (board stack alternate conditions 0))
opened_kept false sense stack alternate conditions = refl
opened_kept true sense [] alternate conditions = tt
opened_kept true sense (a ∷ rest) alternate conditions = refl

flipped_kept : (stack alternate : Stack) (conditions : List Bool) → Kept (on_conditions flipped (board stack alternate conditions 0))
flipped_kept stack alternate [] = tt
flipped_kept stack alternate (c ∷ conditions) = refl

closed_kept : (stack alternate : Stack) (conditions : List Bool) → Kept (on_conditions closed (board stack alternate conditions 0))
closed_kept stack alternate [] = tt
closed_kept stack alternate (c ∷ conditions) = refl

stack_kept : (live : Bool) (action : Action) (stack alternate : Stack) (conditions : List Bool)
    → Kept (executed_where live (on_stack action) (board stack alternate conditions 0))
stack_kept false action stack alternate conditions = refl
stack_kept true action stack alternate conditions = by (action stack)
  where
    by : (r : Result Stack MachineCause) → Kept (r >>= λ after. Ok (board after alternate conditions 0))
    by (Ok after) = refl
    by (Err cause) = tt

laid_kept : (live : Bool) (stack alternate : Stack) (conditions : List Bool)
    → Kept (executed_where live (laid_from stack) (board stack alternate conditions 0))
laid_kept false stack alternate conditions = refl
laid_kept true [] alternate conditions = tt
laid_kept true (e ∷ rest) alternate conditions = refl

fetched_kept : (live : Bool) (stack alternate : Stack) (conditions : List Bool)
    → Kept (executed_where live (fetched_from alternate) (board stack alternate conditions 0))
fetched_kept false stack alternate conditions = refl
fetched_kept true stack [] conditions = tt
fetched_kept true stack (e ∷ rest) conditions = refl

pushed_kept : (live : Bool) (e : List ℕ) (stack alternate : Stack) (conditions : List Bool)
    → Kept (Ok (pushed_where live e (board stack alternate conditions 0)))
pushed_kept true e stack alternate conditions = refl
pushed_kept false e stack alternate conditions = refl

row_kept : (a : Around) (row : Row) (stack alternate : Stack) (conditions : List Bool) → not (row_separates row) ≡ true
    → Kept (row_after a row (board stack alternate conditions 0))
row_kept a (Never cause) stack alternate conditions h = tt
row_kept a (Opens sense) stack alternate conditions h = opened_kept (is_live conditions) sense stack alternate conditions
row_kept a Flips stack alternate conditions h = flipped_kept stack alternate conditions
row_kept a Closes stack alternate conditions h = closed_kept stack alternate conditions
row_kept a Lays stack alternate conditions h = laid_kept (is_live conditions) stack alternate conditions
row_kept a Fetches stack alternate conditions h = fetched_kept (is_live conditions) stack alternate conditions
row_kept a Separates stack alternate conditions h = absurd (false≢true h)
row_kept a (Does deed) stack alternate conditions h = stack_kept (is_live conditions) (done (asked_at a 0) deed) stack alternate conditions
row_kept a (DoesAndVerifies deed) stack alternate conditions h =
    stack_kept (is_live conditions) (done_and_verified (asked_at a 0) deed) stack alternate conditions

instr_kept : (a : Around) (instr : Instr) (stack alternate : Stack) (conditions : List Bool) → not (separates instr) ≡ true
    → Kept (board_after a instr (board stack alternate conditions 0))
instr_kept a (Push e) stack alternate conditions h = pushed_kept (is_live conditions) e.items stack alternate conditions
instr_kept a (Do opcode) stack alternate conditions h = row_kept a (row_of opcode.0) stack alternate conditions h

-- where it stands in the bytes is asked by no such instruction
row_alike : (world : World) (code : List Instr) (next : ℕ) (row : Row) (stack alternate : Stack) (conditions : List Bool)
    → not (row_separates row) ≡ true
    → row_after (around (setting_in world code) next 20) row (board stack alternate conditions 0)
    ≡ row_after (around (setting_of world) 0 20) row (board stack alternate conditions 0)
row_alike world code next (Never cause) stack alternate conditions h = refl
row_alike world code next (Opens sense) stack alternate conditions h = refl
row_alike world code next Flips stack alternate conditions h = refl
row_alike world code next Closes stack alternate conditions h = refl
row_alike world code next Lays stack alternate conditions h = refl
row_alike world code next Fetches stack alternate conditions h = refl
row_alike world code next Separates stack alternate conditions h = absurd (false≢true h)
row_alike world code next (Does deed) stack alternate conditions h = refl
row_alike world code next (DoesAndVerifies deed) stack alternate conditions h = refl

instr_alike : (world : World) (code : List Instr) (next : ℕ) (instr : Instr) (stack alternate : Stack) (conditions : List Bool)
    → not (separates instr) ≡ true
    → board_after (around (setting_in world code) next 20) instr (board stack alternate conditions 0)
    ≡ board_after (around (setting_of world) 0 20) instr (board stack alternate conditions 0)
instr_alike world code next (Push e) stack alternate conditions h = refl
instr_alike world code next (Do opcode) stack alternate conditions h = row_alike world code next (row_of opcode.0) stack alternate conditions h

-- ---- where they stand

get_past : (front : List Spanned) (r : Spanned) (rows : List Spanned) → slice_get (front ++ r ∷ rows) (length front) ≡ Some r
get_past [] r rows = refl
get_past (y ∷ front) r rows = get_past front r rows

get_none : (rows : List Spanned) → slice_get rows (length rows) ≡ None
get_none [] = refl
get_none (r ∷ rows) = get_none rows

-- ---- which is the last

effective_is : (instr : Instr) (conditions : List Bool) → is_effective instr conditions ≡ (is_executed instr conditions && not (is_control instr))
effective_is (Push e) conditions = by (is_live conditions)
  where
    by : (live : Bool) → live ≡ (live && true)
    by true = refl
    by false = refl
effective_is (Do opcode) conditions = by (is_condition opcode.0) refl
  where
    nothing : (a b : Bool) → (a && false) ≡ (b && false)
    nothing true true = refl
    nothing true false = refl
    nothing false true = refl
    nothing false false = refl

    by : (c : Bool) → is_condition opcode.0 ≡ c → (is_live conditions && not c) ≡ (is_executed (Do opcode) conditions && not c)
    by true is = nothing (is_live conditions) (is_executed (Do opcode) conditions)
    by false is = ap (λ t. cond t (is_live (outer conditions)) (is_live conditions) && true) (sym (ends_condition opcode.0 is))

last_step : (all : List Spanned) (x : Progress) (before : Option Span) (r : Spanned) (b : Board) (at last i : ℕ)
    → slice_get all i ≡ Some r → at ≡ x.at + i → HasLast all x before last
    → HasLast all x (last_statement before (where_executed (is_executed r.instr b.conditions) (event r b.stack))) (cond (is_effective r.instr b.conditions) at last)
last_step all x before r b at last i here there h =
    subst (λ t. HasLast all x (last_statement before (where_executed (is_executed r.instr b.conditions) (event r b.stack))) (cond t at last))
    (sym (effective_is r.instr b.conditions)) (by (is_executed r.instr b.conditions) (is_control r.instr))
  where
    by : (live control : Bool)
        → HasLast all x (last_statement before (where_executed live (record { checking = r.checking; stack = b.stack; control = control })))
        (cond (live && not control) at last)
    by true true = h
    by true false = (i, there, ap (option_map (λ s. s.checking)) here)
    by false control = h

-- ---- the run

-- the machine's run of all rows, behind others, where a run of the rows goes so
abbrev RunsSo : List Spanned → Progress → Option Span → Next → Result State Failure → Type 0
RunsSo all x statement (Ok b) end =
    (t : State) × (end ≡ Ok t) × (t.board ≡ b) × (t.progress.at ≡ x.at + length all) × (HasLast all x statement t.progress.last)
RunsSo all x statement (Err fault) end =
    (at : ℕ) × (end ≡ Err (failure (x.at + at) fault.cause)) × (place_of all (failure at fault.cause) ≡ Some fault.span)

-- a state without a separator
abbrev at_start : Board → Board
at_start b = board b.stack b.alternate b.conditions 0

board_again : (b : Board) → b.separator ≡ 0 → b ≡ at_start b
board_again b e = ap (λ n. board b.stack b.alternate b.conditions n) e

abbrev k : State → Result State Failure
k s = balanced s.board.conditions s

abbrev seen : Spanned → Board → List Event
seen r b = where_executed (is_executed r.instr b.conditions) (event r b.stack)

abbrev with : List Spanned → Spanned → List Spanned
with front r = front ++ (r ∷ [])

-- the last statement, where a row and then others are run
abbrev told_last : World → Option Span → List Event → List Spanned → Next → Option Span
told_last world before now rows next = last_statement before (events_from next (λ n. now ++ trace world rows n))

abbrev on : World → List Instr → List Spanned → State → Result State Failure
on world whole rows s = run (setting_in world whole) (instructions rows) s

run_so : (world : World) (whole : List Instr) (x : Progress) (front rows : List Spanned) (b : Board) (p : Progress) (before : Option Span)
    → is_unseparated (instructions rows) ≡ true → p.at ≡ x.at + length front → HasLast (front ++ rows) x before p.last
    → RunsSo (front ++ rows) x (last_statement before (trace world rows (at_start b))) (run_rows world rows (at_start b))
    (run (setting_in world whole) (instructions rows) (state_of (at_start b) p))
run_so world whole x front [] b p before u e h = (state_of (at_start b) p, refl, refl, e ∙ ap (λ l. x.at + length l) (sym (append-nil front)), h)
run_so world whole x front (r ∷ rows) b p before u e h =
    let q = and_parts (not (separates r.instr)) (is_unseparated (instructions rows)) u in
    by (board_after (around (setting_of world) 0 20) r.instr (at_start b)) refl q.0
    (instr_kept (around (setting_of world) 0 20) r.instr b.stack b.alternate b.conditions q.0)
    (λ n f i l. run_so world whole x (with front r) rows n f (last_statement before (seen r b)) q.1 i l)
  where
    by : (o : Result Board MachineCause) → board_after (around (setting_of world) 0 20) r.instr (at_start b) ≡ o → not (separates r.instr) ≡ true → Kept o
        → ((n : Board) (f : Progress) → f.at ≡ x.at + length (with front r) → HasLast (with front r ++ rows) x (last_statement before (seen r b)) f.last
        → RunsSo (with front r ++ rows) x (last_statement (last_statement before (seen r b)) (trace world rows (at_start n))) (run_rows world rows (at_start n)) (on world whole rows (state_of (at_start n) f)))
        → RunsSo (front ++ r ∷ rows) x (told_last world before (seen r b) rows (told r (board_after (around (setting_of world) 0 20) r.instr (at_start b))))
        (told r (board_after (around (setting_of world) 0 20) r.instr (at_start b)) >>= run_rows world rows)
        (passed p.at (progress_after r.instr b.conditions p) (board_after (around (setting_in world whole) (p.place + length (spelling r.instr)) 20) r.instr (at_start b)) >>= on world whole rows)
    by (Ok n) is s kept go =
        let alike = instr_alike world whole (p.place + length (spelling r.instr)) r.instr b.stack b.alternate b.conditions s ∙ is in
        let f = progress_after r.instr b.conditions p in
        let at : f.at ≡ x.at + length (with front r) = omega (arith, e, length-append front (r ∷ [])) in
        let joined : (with front r ++ rows) ≡ (front ++ r ∷ rows) = append_assoc front (r ∷ []) rows in
        let last : HasLast (front ++ r ∷ rows) x (last_statement before (seen r b)) f.last = last_step (front ++ r ∷ rows) x before r b p.at p.last (length front) (get_past front r rows) e h in
        subst (λ o. RunsSo (front ++ r ∷ rows) x (told_last world before (seen r b) rows (told r o)) (told r o >>= run_rows world rows)
        (passed p.at f (board_after (around (setting_in world whole) (p.place + length (spelling r.instr)) 20) r.instr (at_start b)) >>= on world whole rows)) (sym is)
        (subst (λ o. RunsSo (front ++ r ∷ rows) x (last_statement before (seen r b ++ trace world rows n)) (run_rows world rows n) (passed p.at f o >>= on world whole rows)) (sym alike)
        (subst (λ l. RunsSo (front ++ r ∷ rows) x l (run_rows world rows n) (on world whole rows (state_of n f))) (sym (last_append (seen r b) (trace world rows n) before))
        (subst (λ l. RunsSo l x (last_statement (last_statement before (seen r b)) (trace world rows n)) (run_rows world rows n) (on world whole rows (state_of n f))) joined
        (subst (λ m. RunsSo (with front r ++ rows) x (last_statement (last_statement before (seen r b)) (trace world rows m)) (run_rows world rows m) (on world whole rows (state_of m f))) (sym (board_again n kept))
        (go n f at (subst (λ l. HasLast l x (last_statement before (seen r b)) f.last) (sym joined) last))))))
    by (Err cause) is s kept go =
        let alike = instr_alike world whole (p.place + length (spelling r.instr)) r.instr b.stack b.alternate b.conditions s ∙ is in
        let f = progress_after r.instr b.conditions p in
        subst (λ o. RunsSo (front ++ r ∷ rows) x (told_last world before (seen r b) rows (told r o)) (told r o >>= run_rows world rows)
        (passed p.at f (board_after (around (setting_in world whole) (p.place + length (spelling r.instr)) 20) r.instr (at_start b)) >>= on world whole rows)) (sym is)
        (subst (λ o. RunsSo (front ++ r ∷ rows) x before (told r (Err cause) >>= run_rows world rows) (passed p.at f o >>= on world whole rows)) (sym alike)
        (length front, ap (λ n. Err (failure n cause)) e, ap (option_map (λ (y : Spanned). place_in y.doing y.checking cause)) (get_past front r rows)))

-- the whole run, from a stack
abbrev last_of : World → List Spanned → Stack → Option Span
last_of world rows stack = last_statement None (trace world rows (board stack [] [] 0))

whole_run : (world : World) (whole : List Instr) (rows : List Spanned) (stack : Stack) (p : Progress) → is_unseparated (instructions rows) ≡ true
    → RunsSo rows p (last_of world rows stack) (run_rows world rows (board stack [] [] 0)) (run (setting_in world whole) (instructions rows) (state stack p))
whole_run world whole rows stack p u = run_so world whole p [] rows (board stack [] [] 0) p None u (omega arith) refl

pub runs_anywhere : (rows : List Spanned) → IsTrue (is_unseparated (instructions rows)) → RunsAnywhere rows
runs_anywhere rows u world whole stack p = by (run_rows world rows (board stack [] [] 0)) (whole_run world whole rows stack p u)
  where
    by : (r : Next) → RunsSo rows p (last_of world rows stack) r (run (setting_in world whole) (instructions rows) (state stack p))
        → GoesAlike rows p (last_of world rows stack) r (run (setting_in world whole) (instructions rows) (state stack p))
    by (Ok b) g = (g.0, g.1, g.2, g.4)
    by (Err fault) g = g

-- ---- the ends of two runs

place_none : (rows : List Spanned) (at : ℕ) (cause : MachineCause) → at ≡ length rows → place_of rows (failure at cause) ≡ None
place_none rows at cause e =
    ap (λ n. place_of rows (failure n cause)) e ∙ ap (option_map (λ (x : Spanned). place_in x.doing x.checking cause)) (get_none rows)

balanced_alike : (before after : List Spanned) (s t : State) → t.board ≡ s.board → s.progress.at ≡ length before → t.progress.at ≡ length after
    → EndsAlike before after (k s) (k t)
balanced_alike before after s t same first second = by s.board.conditions (ap (λ b. b.conditions) same)
  where
    by : (cs : List Bool) → t.board.conditions ≡ cs → EndsAlike before after (balanced cs s) (k t)
    by [] e = (t, ap (λ c. balanced c t) e, same)
    by (c ∷ cs) e =
        (t.progress.at, ap (λ c. balanced c t) e, place_none after t.progress.at Unbalanced second ∙ sym (place_none before s.progress.at Unbalanced first))

both_end : (before after : List Spanned) (x y : Result State Failure) (s t : Option Span) (b : Board) → RunsSo before beginning s (Ok b) x
    → RunsSo after beginning t (Ok b) y → EndsAlike before after (x >>= k) (y >>= k)
both_end before after x y s t b p q =
    let first : p.0.progress.at ≡ length before = omega (arith, p.3) in
    let second : q.0.progress.at ≡ length after = omega (arith, q.3) in
    subst (λ r. EndsAlike before after (r >>= k) (y >>= k)) (sym p.1)
    (subst (λ r. EndsAlike before after (k p.0) (r >>= k)) (sym q.1)
    (balanced_alike before after p.0 q.0 (q.2 ∙ sym p.2) first second))

both_fail : (before after : List Spanned) (x y : Result State Failure) (s t : Option Span) (f : Fault) → RunsSo before beginning s (Err f) x
    → RunsSo after beginning t (Err f) y → EndsAlike before after (x >>= k) (y >>= k)
both_fail before after x y s t f p q =
    let none : 0 + p.0 ≡ p.0 = omega arith in
    let other : 0 + q.0 ≡ q.0 = omega arith in
    subst (λ r. EndsAlike before after (r >>= k) (y >>= k)) (sym p.1)
    (subst (λ n. EndsAlike before after (Err (failure n f.cause)) (y >>= k)) (sym none)
    (q.0, ap (λ r. r >>= k) q.1 ∙ ap (λ n. Err (failure n f.cause)) other, q.2 ∙ sym p.2))

-- the code's own run
abbrev alone : World → List Spanned → Stack → Result State Failure
alone world rows stack = run (setting_in world (instructions rows)) (instructions rows) (state stack beginning)

-- so code that stands for other code is run alike by the machine
pub scripts : (before after : List Spanned) → StandsFor before after → is_unseparated (instructions before) ≡ true
    → is_unseparated (instructions after) ≡ true → RunsAlike before after
scripts before after x first second world stack long =
    by (run_rows world before (board stack [] [] 0)) refl (whole_run world (instructions before) before stack beginning first)
  where
    by : (r : Next) → run_rows world before (board stack [] [] 0) ≡ r → RunsSo before beginning (last_of world before stack) r (alone world before stack)
        → EndsAlike before after (alone world before stack >>= k) (alone world after stack >>= k)
    by (Ok b) is p =
        let same = x.runs world (board stack [] [] 0) (ap underflows is) ∙ is in
        both_end before after (alone world before stack) (alone world after stack) (last_of world before stack) (last_of world after stack) b p
        (subst (λ r. RunsSo after beginning (last_of world after stack) r (alone world after stack)) same (whole_run world (instructions after) after stack beginning second))
    by (Err f) is p =
        let enough : is_underflow f.cause ≡ false = sym (ap (λ r. is_short (r >>= k)) p.1) ∙ long in
        let same = x.runs world (board stack [] [] 0) (ap underflows is ∙ enough) ∙ is in
        both_fail before after (alone world before stack) (alone world after stack) (last_of world before stack) (last_of world after stack) f p
        (subst (λ r. RunsSo after beginning (last_of world after stack) r (alone world after stack)) same (whole_run world (instructions after) after stack beginning second))
