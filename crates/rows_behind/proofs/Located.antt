-- A run of rows is the machine's run of their instructions, behind whichever others.
use Rattle.std.proofs.Common.{◌≡◌, ℕ, zero, suc, ◌+◌, Bool, true, false, cond, not, IsTrue, List, [], ◌∷◌, ◌++◌, length, Option, Some, None, Result, Ok, Err, refl, sym, ap, ◌∙◌, subst, arith, append_assoc, add-one}
use Rattle.std.specs.Prelude.{slice_get, ◌||◌, ◌==◌, ◌&&◌, nat_le}
use Rattle.std.specs.List.{list_all}
use Rattle.std.proofs.lemmas.Bool.{false≢true, and_parts, eqb-true}
use Rattle.std.proofs.lemmas.Option.{none-some, same_Some}
use Rattle.cash_base.specs.declared.fault.MachineCause.{MachineCause}
use Rattle.cash_base.specs.Failing.{◌>>=◌}
use Rattle.cash_base.specs.Source.{place_in}
use Rattle.tx_context.specs.World.{World}
use Rattle.script_codec.specs.declared.instr.Instr.{Instr}
use Rattle.script_codec.specs.declared.instr.Instr.TheVariants.{Push, Do}
use Rattle.script_codec.specs.declared.spans.Spanned.{Spanned}
use Rattle.script_codec.specs.Spelling.{spelling}
use Rattle.opcode_table.specs.declared.rows.Row.{Row}
use Rattle.opcode_table.specs.declared.rows.Row.TheVariants.{Never, Opens, Flips, Closes, Lays, Fetches, Separates, Does, DoesAndVerifies}
use Rattle.opcode_table.specs.Stack.{Stack, Action}
use Rattle.opcode_table.specs.Deeds.{done, done_and_verified}
use Rattle.opcode_table.specs.Table.{row_of}
use Rattle.bch_vm.specs.Setting.{Setting, setting_in, Around, around, asked_at}
use Rattle.bch_vm.specs.Board.{Board, board, Move, is_live, outer, opened_where, flipped, closed, on_conditions, on_stack, executed_where, row_after, pushed_where, board_after, is_condition, ends_block, is_executed, is_effective}
use Rattle.bch_vm.specs.Script.{State, state_of, state, run, Progress, progress_after, passed, Failure}
use Rattle.row_runs.specs.Rows.{instructions, Machine, machine, Fault, Next, setting_of, placed, board_then, step, run_rows, Executed, logged, executed, is_control, last_of}
use Rattle.row_runs.specs.Code.{row_is_simple, is_simple, are_simple}
use Rattle.rows_behind.specs.Behind.{EndsAlikeBehind, RunsBehind}

-- ---- an instruction

-- nothing comes to stand on the alternate stack, and no separator is passed
abbrev Kept : Result Board MachineCause → Type 0
Kept (Ok b) = b ≡ board b.stack [] b.conditions 0
Kept (Err cause) = Unit {0}

opened_kept : (live sense : Bool) (stack : Stack) (conditions : List Bool) → Kept (opened_where live sense (board stack [] conditions 0))
opened_kept false sense stack conditions = refl
opened_kept true sense [] conditions = tt
opened_kept true sense (a ∷ rest) conditions = refl

flipped_kept : (stack : Stack) (conditions : List Bool) → Kept (on_conditions flipped (board stack [] conditions 0))
flipped_kept stack [] = tt
flipped_kept stack (c ∷ conditions) = refl

closed_kept : (stack : Stack) (conditions : List Bool) → Kept (on_conditions closed (board stack [] conditions 0))
closed_kept stack [] = tt
closed_kept stack (c ∷ conditions) = refl

stack_kept : (live : Bool) (action : Action) (stack : Stack) (conditions : List Bool)
    → Kept (executed_where live (on_stack action) (board stack [] conditions 0))
stack_kept false action stack conditions = refl
stack_kept true action stack conditions = by (action stack)
  where
    by : (r : Result Stack MachineCause) → Kept (r >>= λ after. Ok (board after [] conditions 0))
    by (Ok after) = refl
    by (Err cause) = tt

pushed_kept : (live : Bool) (e : List ℕ) (stack : Stack) (conditions : List Bool) → Kept (Ok (pushed_where live e (board stack [] conditions 0)))
pushed_kept true e stack conditions = refl
pushed_kept false e stack conditions = refl

row_kept : (a : Around) (row : Row) (stack : Stack) (conditions : List Bool) → row_is_simple row ≡ true
    → Kept (row_after a row (board stack [] conditions 0))
row_kept a (Never cause) stack conditions h = tt
row_kept a (Opens sense) stack conditions h = opened_kept (is_live conditions) sense stack conditions
row_kept a Flips stack conditions h = flipped_kept stack conditions
row_kept a Closes stack conditions h = closed_kept stack conditions
row_kept a Lays stack conditions h = absurd (false≢true h)
row_kept a Fetches stack conditions h = absurd (false≢true h)
row_kept a Separates stack conditions h = absurd (false≢true h)
row_kept a (Does deed) stack conditions h = stack_kept (is_live conditions) (done (asked_at a 0) deed) stack conditions
row_kept a (DoesAndVerifies deed) stack conditions h = stack_kept (is_live conditions) (done_and_verified (asked_at a 0) deed) stack conditions

instr_kept : (a : Around) (instr : Instr) (stack : Stack) (conditions : List Bool) → is_simple instr ≡ true
    → Kept (board_after a instr (board stack [] conditions 0))
instr_kept a (Push e) stack conditions h = pushed_kept (is_live conditions) e.items stack conditions
instr_kept a (Do opcode) stack conditions h = row_kept a (row_of opcode.0) stack conditions h

-- where it stands in the bytes is asked by no such instruction
row_alike : (world : World) (code : List Instr) (next : ℕ) (row : Row) (stack : Stack) (conditions : List Bool) → row_is_simple row ≡ true
    → row_after (around (setting_in world code) next 20) row (board stack [] conditions 0)
    ≡ row_after (around (setting_of world) 0 20) row (board stack [] conditions 0)
row_alike world code next (Never cause) stack conditions h = refl
row_alike world code next (Opens sense) stack conditions h = refl
row_alike world code next Flips stack conditions h = refl
row_alike world code next Closes stack conditions h = refl
row_alike world code next Lays stack conditions h = absurd (false≢true h)
row_alike world code next Fetches stack conditions h = absurd (false≢true h)
row_alike world code next Separates stack conditions h = absurd (false≢true h)
row_alike world code next (Does deed) stack conditions h = refl
row_alike world code next (DoesAndVerifies deed) stack conditions h = refl

instr_alike : (world : World) (code : List Instr) (next : ℕ) (instr : Instr) (stack : Stack) (conditions : List Bool) → is_simple instr ≡ true
    → board_after (around (setting_in world code) next 20) instr (board stack [] conditions 0) ≡ board_then world instr (machine stack conditions)
instr_alike world code next (Push e) stack conditions h = refl
instr_alike world code next (Do opcode) stack conditions h = row_alike world code next (row_of opcode.0) stack conditions h

-- ---- which is the last

-- behind so many instructions
abbrev index_or : Progress → Option Executed → ℕ
index_or x None = x.last
index_or x (Some e) = x.at + e.at

-- what stands before, behind an instruction
abbrev then_last : Bool → Executed → Option Executed → Option Executed
then_last b e before = cond b (cond (is_control e.row.instr) before (Some e)) before

control_end : (opcode : ℕ) → is_condition opcode ≡ false → ends_block opcode ≡ false
control_end opcode h = by (opcode == 0x67) refl (opcode == 0x68) refl
  where
    by : (a : Bool) → (opcode == 0x67) ≡ a → (b : Bool) → (opcode == 0x68) ≡ b → (a || b) ≡ false
    by true e b f = absurd (false≢true (sym h ∙ ap is_condition (eqb-true opcode 0x67 e)))
    by false e true f = absurd (false≢true (sym h ∙ ap is_condition (eqb-true opcode 0x68 f)))
    by false e false f = refl

index_after : (instr : Instr) (e : Executed) (conditions : List Bool) (at last : ℕ) (x : Progress) (before : Option Executed) → e.row.instr ≡ instr
    → at ≡ x.at + e.at → last ≡ index_or x before
    → cond (is_effective instr conditions) at last ≡ index_or x (then_last (is_executed instr conditions) e before)
index_after (Push w) e conditions at last x before is there h = by (is_live conditions) (ap is_control is)
  where
    by : (live : Bool) → is_control e.row.instr ≡ false → cond live at last ≡ index_or x (then_last live e before)
    by true k = there ∙ ap (λ c. index_or x (cond c before (Some e))) (sym k)
    by false k = h
index_after (Do opcode) e conditions at last x before is there h = by (is_condition opcode.0) refl (ap is_control is)
  where
    controlled : (t live : Bool) → is_control e.row.instr ≡ true → cond (live && false) at last ≡ index_or x (then_last t e before)
    controlled true true k = h ∙ ap (λ c. index_or x (cond c before (Some e))) (sym k)
    controlled true false k = h ∙ ap (λ c. index_or x (cond c before (Some e))) (sym k)
    controlled false true k = h
    controlled false false k = h

    plain : (live : Bool) → is_control e.row.instr ≡ false → cond (live && true) at last ≡ index_or x (then_last live e before)
    plain true k = there ∙ ap (λ c. index_or x (cond c before (Some e))) (sym k)
    plain false k = h

    by : (c : Bool) → is_condition opcode.0 ≡ c → is_control e.row.instr ≡ is_condition opcode.0
        → cond (is_live conditions && not c) at last ≡ index_or x (then_last (is_executed (Do opcode) conditions) e before)
    by true f k = controlled (is_executed (Do opcode) conditions) (is_live conditions) (k ∙ f)
    by false f k =
        plain (is_live conditions) (k ∙ f)
        ∙ ap (λ b. index_or x (then_last (cond b (is_live (outer conditions)) (is_live conditions)) e before)) (sym (control_end opcode.0 f))

-- ---- where they stand

get_past : (front : List Spanned) (r : Spanned) (rows : List Spanned) → slice_get (front ++ r ∷ rows) (length front) ≡ Some r
get_past [] r rows = refl
get_past (y ∷ front) r rows = get_past front r rows

abbrev Stands : List Spanned → Option Executed → Type 0
Stands whole o = (e : Executed) → o ≡ Some e → slice_get whole e.at ≡ Some e.row

-- how the machine ends, from a row on
record Goes (world : World) (whole rows : List Spanned) (at : ℕ) (x : Progress) (before : Option Executed) (m n : Machine) (end : Result State Failure) : Type 0 where
  progress : Progress
  ends : end ≡ Ok (state_of (board n.stack [] n.conditions 0) progress)
  last : progress.last ≡ index_or x (last_of before (executed world at rows m))
  stands : Stands whole (last_of before (executed world at rows m))

record Fails (whole : List Spanned) (x : Progress) (f : Fault) (end : Result State Failure) : Type 0 where
  at : ℕ
  row : Spanned
  found : slice_get whole at ≡ Some row
  place : f.span ≡ place_in row.doing row.checking f.cause
  ends : end ≡ Err (record { at = x.at + at; cause = f.cause })

abbrev Ends : World → List Spanned → List Spanned → ℕ → Progress → Option Executed → Machine → Next → Result State Failure → Type 0
Ends world whole rows at x before m (Ok n) end = Goes world whole rows at x before m n end
Ends world whole rows at x before m (Err f) end = Fails whole x f end

abbrev entry : ℕ → Spanned → Stack → Executed
entry at r stack = record { at = at; row = r; stack = stack }

-- one row more in front
more_goes : (world : World) (whole rows : List Spanned) (r : Spanned) (at : ℕ) (x : Progress) (before : Option Executed) (m next : Machine) (end : Result State Failure)
    → step world r m ≡ Ok next → (out : Next)
    → Ends world whole rows (at + 1) x (then_last (is_executed r.instr m.conditions) (entry at r m.stack) before) next out end
    → Ends world whole (r ∷ rows) at x before m out end
more_goes world whole rows r at x before m next end e (Err f) g = g
more_goes world whole rows r at x before m next end e (Ok n) g = record {
  progress = g.progress;
  ends = g.ends;
  last = g.last ∙ ap (index_or x) (sym log);
  stands = subst (Stands whole) (sym log) g.stands;
}
  where
    by : (b : Bool) → last_of before (cond b (entry at r m.stack ∷ executed world (at + 1) rows next) (executed world (at + 1) rows next))
        ≡ last_of (then_last b (entry at r m.stack) before) (executed world (at + 1) rows next)
    by true = refl
    by false = refl

    log : last_of before (executed world at (r ∷ rows) m)
        ≡ last_of (then_last (is_executed r.instr m.conditions) (entry at r m.stack) before) (executed world (at + 1) rows next)
    log = ap (λ s. last_of before (logged (is_executed r.instr m.conditions) (entry at r m.stack) s (executed world (at + 1) rows))) e
        ∙ by (is_executed r.instr m.conditions)

stands_after : (whole : List Spanned) (b : Bool) (e : Executed) (before : Option Executed) → slice_get whole e.at ≡ Some e.row
    → Stands whole before → Stands whole (then_last b e before)
stands_after whole true e before here h = by (is_control e.row.instr)
  where
    one : Stands whole (Some e)
    one f k = let same : e ≡ f = same_Some e f k in subst (λ (g : Executed). slice_get whole g.at ≡ Some g.row) same here

    by : (c : Bool) → Stands whole (cond c before (Some e))
    by true = h
    by false = one
stands_after whole false e before here h = h

ends_step : (world : World) (code : List Instr) (whole rows : List Spanned) (r : Spanned) (x : Progress) (before : Option Executed) (m : Machine) (p : Progress) (at : ℕ)
    → slice_get whole at ≡ Some r → p.at ≡ x.at + at
    → (o : Result Board MachineCause) → board_then world r.instr m ≡ o → Kept o
    → ((n : Machine) → Ends world whole rows (at + 1) x (then_last (is_executed r.instr m.conditions) (entry at r m.stack) before) n (run_rows world rows n)
    (run (setting_in world code) (instructions rows) (state_of (board n.stack [] n.conditions 0) (progress_after r.instr m.conditions p))))
    → Ends world whole (r ∷ rows) at x before m (placed r o >>= run_rows world rows)
    (passed p.at (progress_after r.instr m.conditions p) o >>= run (setting_in world code) (instructions rows))
ends_step world code whole rows r x before m p at here there (Err cause) e kept ih =
    record { at = at; row = r; found = here; place = refl; ends = ap (λ (n : ℕ). Err (record { at = n; cause = cause })) there }
ends_step world code whole rows r x before m p at here there (Ok b) e kept ih =
    more_goes world whole rows r at x before m (machine b.stack b.conditions) _ (ap (placed r) e) (run_rows world rows (machine b.stack b.conditions))
    (subst (λ (c : Board). Ends world whole rows (at + 1) x (then_last (is_executed r.instr m.conditions) (entry at r m.stack) before) (machine b.stack b.conditions)
    (run_rows world rows (machine b.stack b.conditions)) (run (setting_in world code) (instructions rows) (state_of c (progress_after r.instr m.conditions p))))
    (sym kept) (ih (machine b.stack b.conditions)))

ends : (world : World) (code : List Instr) (x : Progress) (rows front whole : List Spanned) (m : Machine) (p : Progress) (at : ℕ) (before : Option Executed)
    → are_simple rows ≡ true → whole ≡ front ++ rows → at ≡ length front → p.at ≡ x.at + at → p.last ≡ index_or x before → Stands whole before
    → Ends world whole rows at x before m (run_rows world rows m)
    (run (setting_in world code) (instructions rows) (state_of (board m.stack [] m.conditions 0) p))
ends world code x [] front whole m p at before simple is place there last stands =
    record { progress = p; ends = refl; last = last; stands = stands }
ends world code x (r ∷ rows) front whole m p at before simple is place there last stands =
    let parts = and_parts (is_simple r.instr) (are_simple rows) simple in
    let here : slice_get whole at ≡ Some r =
    ap (λ l. slice_get l at) is ∙ ap (slice_get (front ++ r ∷ rows)) place ∙ get_past front r rows in
    let alike = instr_alike world code (p.place + length (spelling r.instr)) r.instr m.stack m.conditions parts.0 in
    let kept = instr_kept (around (setting_of world) 0 20) r.instr m.stack m.conditions parts.0 in
    let e = entry at r m.stack in
    let next = progress_after r.instr m.conditions p in
    let past : at + 1 ≡ length (front ++ r ∷ []) = longer front r at place in
    let further : p.at + 1 ≡ x.at + (at + 1) = omega (arith, there) in
    subst (λ o. Ends world whole (r ∷ rows) at x before m (run_rows world (r ∷ rows) m)
    (passed p.at next o >>= run (setting_in world code) (instructions rows))) (sym alike)
    (ends_step world code whole rows r x before m p at here there (board_then world r.instr m) refl kept
    (λ n. ends world code x rows (front ++ r ∷ []) whole n next (at + 1) (then_last (is_executed r.instr m.conditions) e before) parts.1
    (is ∙ sym (append_assoc front (r ∷ []) rows)) past further
    (index_after r.instr e m.conditions p.at p.last x before refl there last)
    (stands_after whole (is_executed r.instr m.conditions) e before here stands)))
  where
    longer : (front : List Spanned) (r : Spanned) (n : ℕ) → n ≡ length front → n + 1 ≡ length (front ++ r ∷ [])
    longer [] r n h = omega (arith, h)
    longer (y ∷ front) r zero h = absurd (omega (arith, h))
    longer (y ∷ front) r (suc n) h = let k : n ≡ length front = omega (arith, h) in let l = longer front r n k in omega (arith, l)

-- ---- the whole

pub runs_behind : (rows : List Spanned) → IsTrue (are_simple rows) → RunsBehind rows
runs_behind rows simple world whole stack p =
    by (run_rows world rows (machine stack [])) (ends world whole p rows [] rows (machine stack []) p 0 None simple refl refl (omega arith) refl (λ e h. absurd (none-some e h)))
  where
    by : (out : Next) → Ends world rows rows 0 p None (machine stack []) out (run (setting_in world whole) (instructions rows) (state stack p))
        → EndsAlikeBehind rows (executed world 0 rows (machine stack [])) p.at out (run (setting_in world whole) (instructions rows) (state stack p))
    by (Ok n) g = (g.progress, g.ends, record { index = λ e h. g.last ∙ ap (index_or p) h; stands = g.stands })
    by (Err f) g = (g.at, g.row, g.found, g.place, g.ends)
