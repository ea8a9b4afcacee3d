-- The rows before the first of a statement, and runs that come to a row.
use Rattle.std.proofs.Common.{◌≡◌, ℕ, suc, ◌+◌, ◌<◌, ◌≤◌, Bool, true, false, cond, not, List, [], ◌∷◌, ◌++◌, length, map, Option, Some, None, IsSome, Result, Ok, Err, refl, sym, ap, ◌∙◌, subst, arith, append_assoc, append-nil, length-append}
use Rattle.std.specs.Prelude.{◌==◌, ◌||◌, ◌&&◌, option_and_then}
use Rattle.std.specs.List.{AllByRecursion}
use Rattle.std.proofs.lemmas.Bool.{false≢true, and_parts, eqb-true}
use Rattle.cash_base.specs.declared.place.Slot.{Slot}
use Rattle.cash_base.specs.declared.place.Span.{Span}
use Rattle.cash_base.specs.Failing.{◌>>=◌}
use Rattle.cash_base.specs.Number.{truth_of}
use Rattle.tx_context.specs.World.{World}
use Rattle.script_codec.specs.declared.spans.Mark.{Mark}
use Rattle.script_codec.specs.declared.spans.Spanned.{Spanned}
use Rattle.opcode_table.specs.declared.rows.Row.TheVariants.{Opens}
use Rattle.opcode_table.specs.Stack.{Stack}
use Rattle.opcode_table.specs.Table.{row_of, rows}
use Rattle.bch_vm.specs.Setting.{around}
use Rattle.bch_vm.specs.Board.{board, is_live, opened_where, row_after}
use Rattle.run_laws.specs.Nested.{nesting}
use Rattle.source_meaning.specs.declared.outcome.Failure.{Failure}
use Rattle.source_meaning.specs.Meaning.{Env}
use Rattle.slot_code.specs.declared.slots.SlotFunction.{SlotFunction}
use Rattle.slot_code.specs.Meaning.{State, state}
use Rattle.slot_code.specs.Shape.{Operand, has_span}
use Rattle.row_runs.specs.Rows.{instructions, Machine, machine, Fault, Next, setting_of, placed, step, run_rows, is_control, IsNested}
use Rattle.row_runs.proofs.Turns.{run_append, then_ok, passes}
use Rattle.stack_emitter.specs.declared.emit.Emitter.{Emitter}
use Rattle.stack_emitter.specs.Places.{Spot, spot}
use Rattle.stack_emitter.specs.Codes.{is_span}
use Rattle.stack_emitter.specs.Correct.{value, machine_at, Fits, Agrees, told, Deed, Emits}
use Rattle.stack_emitter.proofs.Choose.{opens, flips, closes, if_step, else_step}
use Rattle.stack_emitter.proofs.Works.{fits_tail, none_fits, fits_length}
use Rattle.stack_steps.specs.Lower.{statements_of}
use Rattle.stack_steps.specs.Steps.{are_told}
use Rattle.schedule_marks.specs.Marks.{uses, before, StandsFirst, start_at, HasHeight, IsRight}
use Rattle.schedule_marks.proofs.Keeps.{rows_keep}

-- ---- lists

pub each_map : {A : Type 0} (P Q : A → Type 0) → ((x : A) → P x → Q x) → (xs : List A) → AllByRecursion P xs → AllByRecursion Q xs
each_map P Q f [] h = tt
each_map P Q f (x ∷ xs) h = (f x h.0, each_map P Q f xs h.1)

pub each_more : {A : Type 0} (P : A → Type 0) (xs : List A) (y : A) → AllByRecursion P xs → P y → AllByRecursion P (xs ++ y ∷ [])
each_more P [] y h k = (k, tt)
each_more P (x ∷ xs) y h k = (h.0, each_more P xs y h.1 k)

pub or_parts : (a b : Bool) → (a || b) ≡ false → (a ≡ false) × (b ≡ false)
or_parts false b h = (refl, h)
or_parts true b h = absurd (false≢true (sym h))

pub same_span : (a b : Span) → is_span a b ≡ true → b ≡ a
same_span a b h =
    let p = and_parts (a.from == b.from) (a.to == b.to) h in
    ap (λ (n : ℕ). record { from = n; to = b.to }) (sym (eqb-true a.from b.from p.0)) ∙ ap (λ (n : ℕ). record { from = a.from; to = n }) (sym (eqb-true a.to b.to p.1))

-- a span of which one is not said what is said of another
pub other_span : (seen : List Span) (c s : Span) → has_span c seen ≡ true → has_span s seen ≡ false → is_span s c ≡ false
other_span seen c s has h = by (is_span s c) refl
  where
    by : (b : Bool) → is_span s c ≡ b → is_span s c ≡ false
    by false e = e
    by true e = absurd (false≢true (sym h ∙ ap (λ x. has_span x seen) (sym (same_span s c e)) ∙ has))

pub statements_append : (a b : List Mark) → statements_of (a ++ b) ≡ statements_of a ++ statements_of b
statements_append [] b = refl
statements_append (m ∷ a) b = ap (λ l. m.statement ∷ l) (statements_append a b)

pub has_more : (d c : Span) (seen : List Span) → has_span d (seen ++ c ∷ []) ≡ (has_span d seen || is_span d c)
has_more d c [] = or_none (is_span d c)
  where
    or_none : (b : Bool) → (b || false) ≡ b
    or_none true = refl
    or_none false = refl
has_more d c (s ∷ seen) = by (is_span d s) (has_more d c seen)
  where
    by : (b : Bool) → has_span d (seen ++ c ∷ []) ≡ (has_span d seen || is_span d c) → (b || has_span d (seen ++ c ∷ [])) ≡ ((b || has_span d seen) || is_span d c)
    by true h = refl
    by false h = h

-- ---- the rows before the first with a checking span

pub uses_append : (c : Span) (a b : List Spanned) → uses c (a ++ b) ≡ (uses c a || uses c b)
uses_append c [] b = refl
uses_append c (row ∷ a) b = by (is_span c row.checking) (uses_append c a b)
  where
    by : (t : Bool) → uses c (a ++ b) ≡ (uses c a || uses c b) → (t || uses c (a ++ b)) ≡ ((t || uses c a) || uses c b)
    by true h = refl
    by false h = h

pub used_more : (c : Span) (a b : List Spanned) → uses c a ≡ true → uses c (a ++ b) ≡ true
used_more c a b h = uses_append c a b ∙ ap (λ t. t || uses c b) h

pub before_used : (c : Span) (a b : List Spanned) → uses c a ≡ true → before c (a ++ b) ≡ before c a
before_used c [] b h = absurd (false≢true h)
before_used c (row ∷ a) b h = by (is_span c row.checking) h (before_used c a b)
  where
    by : (t : Bool) → (t || uses c a) ≡ true → (uses c a ≡ true → before c (a ++ b) ≡ before c a) → cond t [] (row ∷ before c (a ++ b)) ≡ cond t [] (row ∷ before c a)
    by true h ih = refl
    by false h ih = ap (λ l. row ∷ l) (ih h)

pub before_unused : (c : Span) (a b : List Spanned) → uses c a ≡ false → before c (a ++ b) ≡ a ++ before c b
before_unused c [] b h = refl
before_unused c (row ∷ a) b h = by (is_span c row.checking) h (before_unused c a b)
  where
    by : (t : Bool) → (t || uses c a) ≡ false → (uses c a ≡ false → before c (a ++ b) ≡ a ++ before c b) → cond t [] (row ∷ before c (a ++ b)) ≡ row ∷ (a ++ before c b)
    by true h ih = absurd (false≢true (sym h))
    by false h ih = ap (λ l. row ∷ l) (ih h)

-- what is right for a code is right for a longer one
pub right_more : (f : SlotFunction) (start : List Slot) (a b : List Spanned) (m : Mark) → IsRight f start a m → IsRight f start (a ++ b) m
right_more f start a b m k =
    let same = before_used m.statement a b k.stands.used in record {
      stands = record { used = used_more m.statement a b k.stands.used; at = k.stands.at ∙ ap length (sym same) };
      height = λ world env n ran lives. k.height world env n (ap (λ l. run_rows world l (start_at start env)) (sym same) ∙ ran) lives;
      low = k.low;
    }

-- ---- rows of one statement

pub told_unused : (d c s : Span) (rows : List Spanned) → are_told d c rows ≡ true → is_span s c ≡ false → uses s rows ≡ false
told_unused d c s [] h ne = refl
told_unused d c s (row ∷ rows) h ne =
    let k = and_parts ((is_span d row.doing && is_span c row.checking) && not (is_control row.instr)) (are_told d c rows) h in
    let l = and_parts (is_span d row.doing && is_span c row.checking) (not (is_control row.instr)) k.0 in
    let q = and_parts (is_span d row.doing) (is_span c row.checking) l.0 in
    ap (λ x. is_span s x || uses s rows) (same_span c row.checking q.1) ∙ ap (λ t. t || uses s rows) ne ∙ told_unused d c s rows k.1 ne

-- where there is one it has the statement's span
pub record Begins (c : Span) (rows : List Spanned) : Type 0 where
  pub row : Spanned
  pub more : List Spanned
  pub is : rows ≡ row ∷ more
  pub has : is_span c row.checking ≡ true

pub begins_by : (d c : Span) (a rows b : List Spanned) → b ≡ a ++ rows → length a < length b → are_told d c rows ≡ true → Begins c rows
begins_by d c a [] b e lt h = absurd (omega (arith, lt, ap length e, length-append a []))
begins_by d c a (row ∷ rows) b e lt h =
    let k = and_parts ((is_span d row.doing && is_span c row.checking) && not (is_control row.instr)) (are_told d c rows) h in
    let l = and_parts (is_span d row.doing && is_span c row.checking) (not (is_control row.instr)) k.0 in
    record { row = row; more = rows; is = refl; has = (and_parts (is_span d row.doing) (is_span c row.checking) l.0).1 }

pub before_here : (c : Span) (rows : List Spanned) → Begins c rows → before c rows ≡ []
before_here c xs b = ap (before c) b.is ∙ ap (λ t. cond t [] (b.row ∷ before c b.more)) b.has

pub uses_here : (c : Span) (rows : List Spanned) → Begins c rows → uses c rows ≡ true
uses_here c xs b = ap (uses c) b.is ∙ ap (λ t. t || uses c b.more) b.has

-- ---- runs of two codes

pub record Midway (world : World) (a b : List Spanned) (m n : Machine) : Type 0 where
  pub mid : Machine
  pub first : run_rows world a m ≡ Ok mid
  pub second : run_rows world b mid ≡ Ok n

pub ok_same : (a b : Machine) → ◌≡◌ {A = Next} (Ok a) (Ok b) → a ≡ b
ok_same a b h = cc

pub midway : (world : World) (a b : List Spanned) (m n : Machine) → run_rows world (a ++ b) m ≡ Ok n → Midway world a b m n
midway world a b m n h = by (run_rows world a m) refl (sym (run_append world a b m) ∙ h)
  where
    by : (r : Next) → run_rows world a m ≡ r → (r >>= run_rows world b) ≡ Ok n → Midway world a b m n
    by (Ok k) e g = record { mid = k; first = e; second = g }
    by (Err f) e g = absurd cc

-- nested rows make no run live again
pub live_back : (world : World) (b : List Spanned) (m n : Machine) → IsNested b → run_rows world b m ≡ Ok n → is_live n.conditions ≡ true → is_live m.conditions ≡ true
live_back world b m n nested h lives = by (is_live m.conditions) refl
  where
    by : (t : Bool) → is_live m.conditions ≡ t → is_live m.conditions ≡ true
    by true e = e
    by false e =
        let same : m ≡ n = ok_same m n (sym (passes world b nested m.stack m.conditions e) ∙ h) in
        absurd (false≢true (sym e ∙ ap (λ k. is_live k.conditions) same ∙ lives))

-- ---- what stands on the stack

-- the operands and the slots of the place, and nothing else
pub record Stands (p : Spot) (m : Machine) : Type 0 where
  pub operands : Stack
  pub env : Env
  pub fits : Fits p.operands operands
  pub stack : m.stack ≡ operands ++ (map (value env) p.slots ++ [])

-- each run that comes to where an emitter goes on finds its place
abbrev pub Arrives : List Slot → Emitter → Type 0
Arrives start e = (world : World) (env : Env) (n : Machine) → run_rows world e.code.items (start_at start env) ≡ Ok n → is_live n.conditions ≡ true
    → Stands e.place n

pub stack_length : (p : Spot) (m : Machine) → Stands p m → length p.operands ≡ 0 → length m.stack ≡ length p.slots
stack_length p m s none =
    let a = ap length s.stack in
    let b = length-append s.operands (map (value s.env) p.slots ++ []) in
    let c = length-append (map (value s.env) p.slots) [] in
    let d = map_length p.slots in
    let e = fits_length p.operands s.operands s.fits in
    omega (arith, a, b, c, d, e, none)
  where
    map_length : (slots : List Slot) → length (map (value s.env) slots) ≡ length slots
    map_length [] = refl
    map_length (x ∷ slots) = ap suc (map_length slots)

module _ (start : List Slot) (old new : Emitter) (deed : Deed) (x : Emits old new deed) where
  pub came : (world : World) (env : Env) (n : Machine) → run_rows world new.code.items (start_at start env) ≡ Ok n
      → Midway world old.code.items x.rows (start_at start env) n
  came world env n h = midway world old.code.items x.rows (start_at start env) n (ap (λ l. run_rows world l (start_at start env)) (sym x.grown) ∙ h)

  stands_by : (world : World) (o : Result State Failure) (m n : Machine) → Agrees new.place [] m.conditions o (run_rows world x.rows m) → run_rows world x.rows m ≡ Ok n
      → Stands new.place n
  stands_by world (Ok s) m n a h =
      record { operands = s.operands; env = s.env; fits = a.0; stack = ap (λ k. k.stack) (sym (ok_same (machine_at new.place.slots [] m.conditions s) n (sym a.1 ∙ h))) }
  stands_by world (Err e) m n a h = absurd (no_fault (told e) n (sym a ∙ h))
    where
      no_fault : (e : Fault) (n : Machine) → ◌≡◌ {A = Next} (Err e) (Ok n) → ⊥
      no_fault e n h = cc

  pub arrives_more : Arrives start old → Arrives start new
  arrives_more s world env n h lives =
      let w = came world env n h in
      let l = live_back world x.rows w.mid n x.follows.nested w.second lives in
      let at = s world env w.mid w.first l in
      let same : machine_at old.place.slots [] w.mid.conditions (state at.operands at.env) ≡ w.mid = ap (λ k. machine k w.mid.conditions) (sym at.stack) in
      stands_by world (deed world (state at.operands at.env)) w.mid n
      (subst (λ k. Agrees new.place [] w.mid.conditions (deed world (state at.operands at.env)) (run_rows world x.rows k)) same
      (x.follows.runs world (state at.operands at.env) [] w.mid.conditions l at.fits)) w.second

-- ---- where a block begins

if_row : row_of 0x63 ≡ Opens true
unfolding rows
if_row = refl

dead_step : (world : World) (d c : Span) (stack : Stack) (conditions : List Bool) → is_live conditions ≡ false
    → step world (opens d c) (machine stack conditions) ≡ Ok (machine stack (false ∷ conditions))
dead_step world d c stack conditions dead =
    ap (λ w. placed (opens d c) (row_after (around (setting_of world) 0 20) w (board stack [] conditions 0))) if_row
    ∙ ap (λ l. placed (opens d c) (opened_where l true (board stack [] conditions 0))) dead

module _ (world : World) (d c : Span) (p : Spot) (k : Operand) (one : p.operands ≡ k ∷ []) (m : Machine) (stands : is_live m.conditions ≡ true → Stands p m) where
  record Taken : Type 0 where
    test : List ℕ
    env : Env
    stack : m.stack ≡ test ∷ (map (value env) p.slots ++ [])

  taken_of : is_live m.conditions ≡ true → Taken
  taken_of lives = let s = stands lives in by s.operands s.env (subst (λ o. Fits o s.operands) one s.fits) s.stack
    where
      by : (operands : Stack) (env : Env) → Fits (k ∷ []) operands → m.stack ≡ operands ++ (map (value env) p.slots ++ []) → Taken
      by [] env f e = absurd (none_fits k [] f)
      by (x ∷ []) env f e = record { test = x; env = env; stack = e }
      by (x ∷ y ∷ more) env f e = absurd (fits_tail k [] x (y ∷ more) f)

  stands_at : (env : Env) (n : Machine) (conditions : List Bool) → machine (map (value env) p.slots ++ []) conditions ≡ n → Stands (spot [] p.slots) n
  stands_at env n conditions e = record { operands = []; env = env; fits = tt; stack = ap (λ k. k.stack) (sym e) }

  pub if_comes : (n : Machine) → run_rows world (opens d c ∷ []) m ≡ Ok n → is_live n.conditions ≡ true → (is_live m.conditions ≡ true) × Stands (spot [] p.slots) n
  if_comes n ran lives = by (is_live m.conditions) refl
    where
      ran_step : step world (opens d c) m ≡ Ok n
      ran_step = sym (then_ok world (step world (opens d c) m)) ∙ ran

      by : (l : Bool) → is_live m.conditions ≡ l → (is_live m.conditions ≡ true) × Stands (spot [] p.slots) n
      by false e =
          let is = ok_same (machine m.stack (false ∷ m.conditions)) n (sym (dead_step world d c m.stack m.conditions e) ∙ ran_step) in
          absurd (false≢true (ap (λ k. is_live k.conditions) is ∙ lives))
      by true e =
          let t = taken_of e in
          let is = ok_same (machine (map (value t.env) p.slots ++ []) (truth_of t.test ∷ m.conditions)) n
          (sym (if_step world d c t.test (map (value t.env) p.slots ++ []) m.conditions e) ∙ ap (λ s. step world (opens d c) (machine s m.conditions)) (sym t.stack) ∙ ran_step) in
          (e, stands_at t.env n (truth_of t.test ∷ m.conditions) is)

  module _ (rows : List Spanned) (nested : IsNested rows) where
    abbrev turn : List Spanned
    turn = rows ++ flips d c ∷ []

    turned : (stack : Stack) → run_rows world turn (machine stack (false ∷ m.conditions)) ≡ Ok (machine stack (true ∷ m.conditions))
    turned stack =
        run_append world rows (flips d c ∷ []) (machine stack (false ∷ m.conditions))
        ∙ ap (λ r. r >>= run_rows world (flips d c ∷ [])) (passes world rows nested stack (false ∷ m.conditions) refl)
        ∙ then_ok world (step world (flips d c) (machine stack (false ∷ m.conditions))) ∙ else_step world d c false stack m.conditions

    -- the block was executed, so the other isn't
    not_both : (n : Machine) (stack : Stack) → run_rows world turn (machine stack (true ∷ m.conditions)) ≡ Ok n → is_live n.conditions ≡ false
    not_both n stack h =
        let w = midway world rows (flips d c ∷ []) (machine stack (true ∷ m.conditions)) n h in
        let kept : w.mid.conditions ≡ true ∷ m.conditions = rows_keep world rows 0 0 (machine stack (true ∷ m.conditions)) w.mid (nested 0) w.first in
        let last : step world (flips d c) (machine w.mid.stack (true ∷ m.conditions)) ≡ Ok n
        = ap (λ cs. step world (flips d c) (machine w.mid.stack cs)) (sym kept) ∙ sym (then_ok world (step world (flips d c) w.mid)) ∙ w.second in
        ap (λ k. is_live k.conditions) (sym (ok_same (machine w.mid.stack (false ∷ m.conditions)) n (sym (else_step world d c true w.mid.stack m.conditions) ∙ last)))

    pub else_comes : (n : Machine) → run_rows world (opens d c ∷ turn) m ≡ Ok n → is_live n.conditions ≡ true → (is_live m.conditions ≡ true) × Stands (spot [] p.slots) n
    else_comes n ran lives = by (is_live m.conditions) refl
      where
        pick : (t : Taken) (b : Bool) → is_live m.conditions ≡ true → run_rows world turn (machine (map (value t.env) p.slots ++ []) (b ∷ m.conditions)) ≡ Ok n
            → (is_live m.conditions ≡ true) × Stands (spot [] p.slots) n
        pick t true e h = absurd (false≢true (sym (not_both n (map (value t.env) p.slots ++ []) h) ∙ lives))
        pick t false e h =
            (e, stands_at t.env n (true ∷ m.conditions) (ok_same (machine (map (value t.env) p.slots ++ []) (true ∷ m.conditions)) n (sym (turned (map (value t.env) p.slots ++ [])) ∙ h)))

        by : (l : Bool) → is_live m.conditions ≡ l → (is_live m.conditions ≡ true) × Stands (spot [] p.slots) n
        by false e =
            let h = ap (λ r. r >>= run_rows world turn) (sym (dead_step world d c m.stack m.conditions e)) ∙ ran in
            absurd (false≢true (sym e ∙ ap (λ k. is_live k.conditions) (ok_same (machine m.stack (true ∷ m.conditions)) n (sym (turned m.stack) ∙ h)) ∙ lives))
        by true e =
            let t = taken_of e in
            let h = ap (λ r. r >>= run_rows world turn) (sym (if_step world d c t.test (map (value t.env) p.slots ++ []) m.conditions e))
            ∙ ap (λ s. run_rows world (opens d c ∷ turn) (machine s m.conditions)) (sym t.stack) ∙ ran in
            pick t (truth_of t.test) e h
