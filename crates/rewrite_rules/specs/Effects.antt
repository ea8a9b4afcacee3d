-- What plain rows do to the stack where they are executed.
use Rattle.std.proofs.Common.{◌≡◌, true, false, not, List, [], ◌∷◌, Result, Ok, Err, refl, sym, ap, ◌∙◌}
use Rattle.std.specs.List.{list_all}
use Rattle.std.proofs.lemmas.Bool.{and_parts, false≢true}
use Rattle.cash_base.specs.declared.fault.MachineCause.{MachineCause}
use Rattle.cash_base.specs.Failing.{◌>>=◌}
use Rattle.tx_context.specs.World.{World}
use Rattle.script_codec.specs.declared.instr.Instr.{Instr}
use Rattle.script_codec.specs.declared.instr.Instr.TheVariants.{Push, Do}
use Rattle.script_codec.specs.declared.spans.Spanned.{Spanned}
use Rattle.opcode_table.specs.declared.rows.Row.{Row}
use Rattle.opcode_table.specs.declared.rows.Row.TheVariants.{Never, Opens, Flips, Closes, Lays, Fetches, Separates, Does, DoesAndVerifies}
use Rattle.opcode_table.specs.Asking.{Asked}
use Rattle.opcode_table.specs.Stack.{Stack, Action}
use Rattle.opcode_table.specs.Deeds.{done, done_and_verified}
use Rattle.opcode_table.specs.Table.{row_of}
use Rattle.bch_vm.specs.Setting.{around, asked_at}
use Rattle.bch_vm.specs.Board.{Board, board, is_live, on_stack, executed_where, row_after, pushed_where, board_after, is_condition}
use Rattle.row_runs.specs.Rows.{instructions, Fault, setting_of}
use Rattle.rewrite_rules.specs.Rows.{row_is_plain, is_plain, Next, told, step, run_rows}

abbrev pub asked_in : World → Asked
asked_in world = asked_at (around (setting_of world) 0 20) 0

abbrev pub row_act : World → Row → Action
row_act world (Does deed) stack = done (asked_in world) deed stack
row_act world (DoesAndVerifies deed) stack = done_and_verified (asked_in world) deed stack
row_act world _ stack = Ok stack

abbrev pub act : World → Instr → Action
act world (Push e) stack = Ok (e.items ∷ stack)
act world (Do opcode) stack = row_act world (row_of opcode.0) stack

abbrev pub effects : World → List Spanned → Stack → Result Stack Fault
effects world [] stack = Ok stack
effects world (r ∷ rows) stack = told r (act world r.instr stack) >>= effects world rows

-- the board with another stack
abbrev pub on : Board → Stack → Next
on b stack = Ok (board stack b.alternate b.conditions b.separator)

-- ---- where they are executed

told_then : {A B : Type 0} (r : Spanned) (o : Result A MachineCause) (f : A → B) → told r (o >>= λ x. Ok (f x)) ≡ (told r o >>= λ x. Ok (f x))
told_then r (Ok x) f = refl
told_then r (Err cause) f = refl

told_at : {A : Type 0} (r : Spanned) (o p : Result A MachineCause) → o ≡ p → told r o ≡ told r p
told_at r o p e = ap (told r) e

row_live : (world : World) (w : Row) (b : Board) → row_is_plain w ≡ true → is_live b.conditions ≡ true
    → row_after (around (setting_of world) 0 20) w b ≡ (row_act world w b.stack >>= λ s. Ok (board s b.alternate b.conditions b.separator))
row_live world (Never cause) b p live = absurd (false≢true p)
row_live world (Opens sense) b p live = absurd (false≢true p)
row_live world Flips b p live = absurd (false≢true p)
row_live world Closes b p live = absurd (false≢true p)
row_live world Lays b p live = absurd (false≢true p)
row_live world Fetches b p live = absurd (false≢true p)
row_live world Separates b p live = absurd (false≢true p)
row_live world (Does deed) b p live =
    ap (λ l. executed_where l (on_stack (done (asked_in world) deed)) b) live
row_live world (DoesAndVerifies deed) b p live =
    ap (λ l. executed_where l (on_stack (done_and_verified (asked_in world) deed)) b) live

row_dead : (world : World) (w : Row) (b : Board) → row_is_plain w ≡ true → is_live b.conditions ≡ false
    → row_after (around (setting_of world) 0 20) w b ≡ Ok b
row_dead world (Never cause) b p dead = absurd (false≢true p)
row_dead world (Opens sense) b p dead = absurd (false≢true p)
row_dead world Flips b p dead = absurd (false≢true p)
row_dead world Closes b p dead = absurd (false≢true p)
row_dead world Lays b p dead = absurd (false≢true p)
row_dead world Fetches b p dead = absurd (false≢true p)
row_dead world Separates b p dead = absurd (false≢true p)
row_dead world (Does deed) b p dead =
    ap (λ l. executed_where l (on_stack (done (asked_in world) deed)) b) dead
row_dead world (DoesAndVerifies deed) b p dead =
    ap (λ l. executed_where l (on_stack (done_and_verified (asked_in world) deed)) b) dead

pub step_live : (world : World) (r : Spanned) (b : Board) → is_plain r.instr ≡ true → is_live b.conditions ≡ true
    → step world r b ≡ (told r (act world r.instr b.stack) >>= on b)
step_live world r b p live = by r.instr refl p
  where
    by : (instr : Instr) → r.instr ≡ instr → is_plain instr ≡ true → step world r b ≡ (told r (act world r.instr b.stack) >>= on b)
    by (Push e) is p =
        ap (λ i. told r (board_after (around (setting_of world) 0 20) i b)) is
        ∙ ap (λ l. told r (Ok (pushed_where l e.items b))) live
        ∙ ap (λ i. told r (act world i b.stack) >>= on b) (sym is)
    by (Do opcode) is p =
        let q = and_parts (not (is_condition opcode.0)) (row_is_plain (row_of opcode.0)) p in
        ap (λ i. told r (board_after (around (setting_of world) 0 20) i b)) is
        ∙ ap (told r) (row_live world (row_of opcode.0) b q.1 live)
        ∙ told_then r (row_act world (row_of opcode.0) b.stack) (λ s. board s b.alternate b.conditions b.separator)
        ∙ ap (λ i. told r (act world i b.stack) >>= on b) (sym is)

pub step_dead : (world : World) (r : Spanned) (b : Board) → is_plain r.instr ≡ true → is_live b.conditions ≡ false → step world r b ≡ Ok b
step_dead world r b p dead = by r.instr refl p
  where
    by : (instr : Instr) → r.instr ≡ instr → is_plain instr ≡ true → step world r b ≡ Ok b
    by (Push e) is p =
        ap (λ i. told r (board_after (around (setting_of world) 0 20) i b)) is
        ∙ ap (λ l. told r (Ok (pushed_where l e.items b))) dead
    by (Do opcode) is p =
        let q = and_parts (not (is_condition opcode.0)) (row_is_plain (row_of opcode.0)) p in
        ap (λ i. told r (board_after (around (setting_of world) 0 20) i b)) is
        ∙ ap (told r) (row_dead world (row_of opcode.0) b q.1 dead)

effects_then : (world : World) (rows : List Spanned) (b : Board) (o : Result Stack Fault)
    → ((s : Stack) → run_rows world rows (board s b.alternate b.conditions b.separator) ≡ (effects world rows s >>= on b))
    → ((o >>= on b) >>= run_rows world rows) ≡ ((o >>= effects world rows) >>= on b)
effects_then world rows b (Ok s) h = h s
effects_then world rows b (Err f) h = refl

-- plain rows run as their effects do, under whatever conditions that are true
pub live_run : (world : World) (rows : List Spanned) (b : Board) → list_all is_plain (instructions rows) ≡ true → is_live b.conditions ≡ true
    → run_rows world rows b ≡ (effects world rows b.stack >>= on b)
live_run world [] b p live = refl
live_run world (r ∷ rows) b p live =
    let q = and_parts (is_plain r.instr) (list_all is_plain (instructions rows)) p in
    ap (λ n. n >>= run_rows world rows) (step_live world r b q.0 live)
    ∙ effects_then world rows b (told r (act world r.instr b.stack))
    (λ s. live_run world rows (board s b.alternate b.conditions b.separator) q.1 live)

-- and do nothing where one of them is false
pub dead_run : (world : World) (rows : List Spanned) (b : Board) → list_all is_plain (instructions rows) ≡ true → is_live b.conditions ≡ false
    → run_rows world rows b ≡ Ok b
dead_run world [] b p dead = refl
dead_run world (r ∷ rows) b p dead =
    let q = and_parts (is_plain r.instr) (list_all is_plain (instructions rows)) p in
    ap (λ n. n >>= run_rows world rows) (step_dead world r b q.0 dead) ∙ dead_run world rows b q.1 dead
