-- Runs of rows compose, and nested rows that aren't executed change nothing.
use Rattle.std.proofs.Common.{◌≡◌, ℕ, zero, suc, ◌+◌, ◌-◌, Bool, true, false, cond, not, List, [], ◌∷◌, ◌++◌, length, map, Option, Some, None, Result, Ok, Err, refl, sym, ap, ◌∙◌, subst, arith, append_assoc, append-nil, add-one}
use Rattle.std.specs.Prelude.{option_and_then, ◌||◌, ◌==◌, ◌&&◌}
use Rattle.std.proofs.lemmas.Bool.{false≢true, eqb-true}
use Rattle.std.proofs.lemmas.Option.{none-some, same_Some}
use Rattle.cash_base.specs.declared.fault.MachineCause.{MachineCause}
use Rattle.cash_base.specs.declared.place.Span.{Span}
use Rattle.cash_base.specs.Failing.{◌>>=◌}
use Rattle.tx_context.specs.World.{World}
use Rattle.script_codec.specs.declared.instr.Instr.{Instr}
use Rattle.script_codec.specs.declared.instr.Instr.TheVariants.{Push, Do}
use Rattle.script_codec.specs.declared.spans.Spanned.{Spanned}
use Rattle.opcode_table.specs.declared.rows.Row.{Row}
use Rattle.opcode_table.specs.declared.rows.Row.TheVariants.{Never, Opens, Flips, Closes, Lays, Fetches, Separates, Does, DoesAndVerifies}
use Rattle.opcode_table.specs.Stack.{Stack}
use Rattle.opcode_table.specs.Table.{row_of, rows}
use Rattle.bch_vm.specs.Setting.{Setting, Around, around, asked_at}
use Rattle.bch_vm.specs.Board.{Board, board, Move, is_live, outer, opened_where, flipped, closed, on_conditions, executed_where, row_after, pushed_where, board_after, ends_block, is_executed}
use Rattle.run_laws.specs.Nested.{open_after_row, open_after, nesting}
use Rattle.row_runs.specs.Rows.{row, instructions, Machine, machine, Fault, Next, setting_of, placed, board_then, step, run_rows, Executed, logged, executed, is_control, last_of, IsNested}

-- ---- rows in turn

pub then_goes : {A B C E : Type 0} (r : Result A E) (f : A → Result B E) (g : B → Result C E) (h : A → Result C E)
    → ((a : A) → h a ≡ (f a >>= g)) → (r >>= h) ≡ ((r >>= f) >>= g)
then_goes (Ok a) f g h e = e a
then_goes (Err e') f g h e = refl

pub run_append : (world : World) (a b : List Spanned) (m : Machine) → run_rows world (a ++ b) m ≡ (run_rows world a m >>= run_rows world b)
run_append world [] b m = refl
run_append world (r ∷ a) b m =
    then_goes (step world r m) (run_rows world a) (run_rows world b) (run_rows world (a ++ b)) (run_append world a b)

pub then_ok : (world : World) (r : Next) → (r >>= run_rows world []) ≡ r
then_ok world (Ok m) = refl
then_ok world (Err e) = refl

pub instructions_append : (a b : List Spanned) → instructions (a ++ b) ≡ instructions a ++ instructions b
instructions_append [] b = refl
instructions_append (r ∷ a) b = ap (λ l. r.instr ∷ l) (instructions_append a b)

-- ---- nesting

pub nesting_append : (a b : List Spanned) (n : ℕ)
    → nesting (instructions (a ++ b)) n ≡ option_and_then (nesting (instructions b)) (nesting (instructions a) n)
nesting_append [] b n = refl
nesting_append (r ∷ a) b n = nesting_then a b (nesting_append a b) (open_after r.instr n)
  where
    nesting_then : (a b : List Spanned)
        → ((n : ℕ) → nesting (instructions (a ++ b)) n ≡ option_and_then (nesting (instructions b)) (nesting (instructions a) n))
        → (o : Option ℕ)
        → option_and_then (nesting (instructions (a ++ b))) o
        ≡ option_and_then (nesting (instructions b)) (option_and_then (nesting (instructions a)) o)
    nesting_then a b h (Some m) = h m
    nesting_then a b h None = refl

pub nested_append : (a b : List Spanned) → IsNested a → IsNested b → IsNested (a ++ b)
nested_append a b na nb n = nesting_append a b n ∙ ap (option_and_then (nesting (instructions b))) (na n) ∙ nb n

-- ---- rows that aren't executed

still_dead : (inner around : List Bool) → is_live around ≡ false → is_live (inner ++ around) ≡ false
still_dead [] around dead = dead
still_dead (true ∷ inner) around dead = still_dead inner around dead
still_dead (false ∷ inner) around dead = refl

-- where some outer condition is false a row changes the inner conditions alone
record Rests (world : World) (r : Spanned) (stack : Stack) (inner around : List Bool) (k : ℕ) : Type 0 where
  after : List Bool
  count : length after ≡ k
  same : step world r (machine stack (inner ++ around)) ≡ Ok (machine stack (after ++ around))

abbrev RestsAt : World → Spanned → Stack → List Bool → List Bool → Option ℕ → Type 0
RestsAt world r stack inner around None = Unit {0}
RestsAt world r stack inner around (Some k) = Rests world r stack inner around k

-- by the row of its opcode
abbrev by_row : World → Spanned → Row → Stack → List Bool → Next
by_row world r row stack conditions = placed r (row_after (around (setting_of world) 0 20) row (board stack [] conditions 0))

record RestsBy (world : World) (r : Spanned) (row : Row) (stack : Stack) (inner around : List Bool) (k : ℕ) : Type 0 where
  after : List Bool
  count : length after ≡ k
  same : by_row world r row stack (inner ++ around) ≡ Ok (machine stack (after ++ around))

abbrev RestsByAt : World → Spanned → Row → Stack → List Bool → List Bool → Option ℕ → Type 0
RestsByAt world r row stack inner around None = Unit {0}
RestsByAt world r row stack inner around (Some k) = RestsBy world r row stack inner around k

passed_over : (r : Spanned) (move : Move) (stack : Stack) (conditions : List Bool) → is_live conditions ≡ false
    → placed r (executed_where (is_live conditions) move (board stack [] conditions 0)) ≡ Ok (machine stack conditions)
passed_over r move stack conditions dead =
    ap (λ live. placed r (executed_where live move (board stack [] conditions 0))) dead

row_rests : (world : World) (r : Spanned) (row : Row) (stack : Stack) (inner around : List Bool) → is_live around ≡ false
    → RestsByAt world r row stack inner around (open_after_row row (length inner))
row_rests world r (Never cause) stack inner around dead = tt
row_rests world r (Opens sense) stack inner around dead = record {
  after = false ∷ inner;
  count = refl;
  same = ap (λ live. placed r (opened_where live sense (board stack [] (inner ++ around) 0))) (still_dead inner around dead);
}
row_rests world r Flips stack [] around dead = tt
row_rests world r Flips stack (c ∷ inner) around dead = record { after = not c ∷ inner; count = refl; same = refl }
row_rests world r Closes stack [] around dead = tt
row_rests world r Closes stack (c ∷ inner) around dead = record { after = inner; count = refl; same = refl }
row_rests world r row stack inner around dead =
    record { after = inner; count = refl; same = passed_over r _ stack (inner ++ around) (still_dead inner around dead) }

rests : (world : World) (r : Spanned) (stack : Stack) (inner around : List Bool) → is_live around ≡ false
    → RestsAt world r stack inner around (open_after r.instr (length inner))
rests world r stack inner around dead = by r.instr refl
  where
    from_row : (opcode : ℕ) (o : Option ℕ) → RestsByAt world r (row_of opcode) stack inner around o
        → ((conditions : List Bool) → step world r (machine stack conditions) ≡ by_row world r (row_of opcode) stack conditions)
        → RestsAt world r stack inner around o
    from_row opcode None x e = tt
    from_row opcode (Some k) x e = record { after = x.after; count = x.count; same = e (inner ++ around) ∙ x.same }

    by : (instr : Instr) → r.instr ≡ instr → RestsAt world r stack inner around (open_after instr (length inner))
    by (Push e) is = record {
      after = inner;
      count = refl;
      same = ap (λ i. placed r (board_then world i (machine stack (inner ++ around)))) is
          ∙ ap (λ live. placed r (Ok (pushed_where live e.items (board stack [] (inner ++ around) 0)))) (still_dead inner around dead);
    }
    by (Do opcode) is =
        from_row opcode.0 (open_after_row (row_of opcode.0) (length inner)) (row_rests world r (row_of opcode.0) stack inner around dead)
        (λ conditions. ap (λ i. placed r (board_then world i (machine stack conditions))) is)

-- ELSE and ENDIF close or flip a condition
flips_at : row_of 0x67 ≡ Flips
unfolding rows
flips_at = refl

closes_at : row_of 0x68 ≡ Closes
unfolding rows
closes_at = refl

ends_inside : (opcode : ℕ) → ends_block opcode ≡ true → open_after_row (row_of opcode) 0 ≡ None
ends_inside opcode h = by (opcode == 0x67) refl (opcode == 0x68) refl h
  where
    by : (a : Bool) → (opcode == 0x67) ≡ a → (b : Bool) → (opcode == 0x68) ≡ b → (a || b) ≡ true → open_after_row (row_of opcode) 0 ≡ None
    by true e b f h = ap (λ n. open_after_row (row_of n) 0) (eqb-true opcode 0x67 e) ∙ ap (λ w. open_after_row w 0) flips_at
    by false e true f h = ap (λ n. open_after_row (row_of n) 0) (eqb-true opcode 0x68 f) ∙ ap (λ w. open_after_row w 0) closes_at
    by false e false f h = absurd (false≢true h)

unexecuted : (instr : Instr) (inner around : List Bool) (k : ℕ) → is_live around ≡ false → open_after instr (length inner) ≡ Some k
    → is_executed instr (inner ++ around) ≡ false
unexecuted (Push e) inner around k dead h = still_dead inner around dead
unexecuted (Do opcode) inner around k dead h = by (ends_block opcode.0) refl inner h
  where
    by : (b : Bool) → ends_block opcode.0 ≡ b → (inner : List Bool) → open_after_row (row_of opcode.0) (length inner) ≡ Some k
        → cond b (is_live (outer (inner ++ around))) (is_live (inner ++ around)) ≡ false
    by true e [] h = absurd (none-some k (sym (ends_inside opcode.0 e) ∙ h))
    by true e (c ∷ inner) h = still_dead inner around dead
    by false e inner h = still_dead inner around dead

record Skips (world : World) (rows : List Spanned) (stack : Stack) (inner around : List Bool) (m : ℕ) : Type 0 where
  after : List Bool
  count : length after ≡ m
  same : run_rows world rows (machine stack (inner ++ around)) ≡ Ok (machine stack (after ++ around))
  none : (i : ℕ) → executed world i rows (machine stack (inner ++ around)) ≡ []

skips_row : (world : World) (r : Spanned) (rows : List Spanned) (stack : Stack) (inner around : List Bool) (m : ℕ) → is_live around ≡ false
    → ((inner : List Bool) → nesting (instructions rows) (length inner) ≡ Some m → Skips world rows stack inner around m)
    → (o : Option ℕ) → open_after r.instr (length inner) ≡ o → RestsAt world r stack inner around o
    → option_and_then (nesting (instructions rows)) o ≡ Some m → Skips world (r ∷ rows) stack inner around m
skips_row world r rows stack inner around m dead ih None e x h = absurd (none-some m h)
skips_row world r rows stack inner around m dead ih (Some k) e x h =
    let s = ih x.after (ap (nesting (instructions rows)) x.count ∙ h) in
    let silent : is_executed r.instr (inner ++ around) ≡ false = unexecuted r.instr inner around k dead e in
    record {
      after = s.after;
      count = s.count;
      same = ap (λ n. n >>= run_rows world rows) x.same ∙ s.same;
      none = λ i. ap (λ b. logged b (record { at = i; row = r; stack = stack }) (step world r (machine stack (inner ++ around))) (executed world (i + 1) rows)) silent
          ∙ ap (λ n. logged false (record { at = i; row = r; stack = stack }) n (executed world (i + 1) rows)) x.same
          ∙ s.none (i + 1);
    }

skips : (world : World) (rows : List Spanned) (stack : Stack) (inner around : List Bool) (m : ℕ) → is_live around ≡ false
    → nesting (instructions rows) (length inner) ≡ Some m → Skips world rows stack inner around m
skips world [] stack inner around m dead h = record { after = inner; count = same_Some (length inner) m h; same = refl; none = λ i. refl }
skips world (r ∷ rows) stack inner around m dead h =
    skips_row world r rows stack inner around m dead (λ i k. skips world rows stack i around m dead k)
    (open_after r.instr (length inner)) refl (rests world r stack inner around dead) h

none_left : (after : List Bool) → length after ≡ 0 → (rest : List Bool) → after ++ rest ≡ rest
none_left [] h rest = refl
none_left (b ∷ after) h rest = absurd (omega (arith, h))

-- nested rows change nothing where they aren't executed
pub passes : (world : World) (rows : List Spanned) → IsNested rows → (stack : Stack) (conditions : List Bool) → is_live conditions ≡ false
    → run_rows world rows (machine stack conditions) ≡ Ok (machine stack conditions)
passes world rows nested stack conditions dead =
    let s = skips world rows stack [] conditions 0 dead (nested 0) in
    s.same ∙ ap (λ l. Ok (machine stack l)) (none_left s.after s.count conditions)

-- and none of them is executed
pub silent : (world : World) (rows : List Spanned) → IsNested rows → (i : ℕ) (stack : Stack) (conditions : List Bool)
    → is_live conditions ≡ false → executed world i rows (machine stack conditions) ≡ []
silent world rows nested i stack conditions dead = (skips world rows stack [] conditions 0 dead (nested 0)).none i

-- ---- executed rows in turn

abbrev pub then_log : Next → (Machine → List Executed) → List Executed
then_log (Ok m) f = f m
then_log (Err e) f = []

log_step : (b : Bool) (e : Executed) (r : Next) (f g k : Machine → List Executed) (h : Machine → Next)
    → ((n : Machine) → f n ≡ g n ++ then_log (h n) k) → logged b e r f ≡ logged b e r g ++ then_log (r >>= h) k
log_step true e (Ok n) f g k h ih = ap (λ l. e ∷ l) (ih n)
log_step false e (Ok n) f g k h ih = ih n
log_step b e (Err d) f g k h ih = refl

pub executed_append : (world : World) (i : ℕ) (a b : List Spanned) (m : Machine)
    → executed world i (a ++ b) m ≡ executed world i a m ++ then_log (run_rows world a m) (executed world (i + length a) b)
executed_append world i [] b m = let e : i ≡ i + 0 = omega arith in ap (λ j. executed world j b m) e
executed_append world i (r ∷ a) b m =
    let e : i + 1 + length a ≡ i + length (r ∷ a) = omega arith in
    log_step (is_executed r.instr m.conditions) (record { at = i; row = r; stack = m.stack }) (step world r m) (executed world (i + 1) (a ++ b))
    (executed world (i + 1) a) (executed world (i + length (r ∷ a)) b) (run_rows world a)
    (λ n. executed_append world (i + 1) a b n ∙ ap (λ j. executed world (i + 1) a n ++ then_log (run_rows world a n) (executed world j b)) e)

pub last_append : (o : Option Executed) (a b : List Executed) → last_of o (a ++ b) ≡ last_of (last_of o a) b
last_append o [] b = refl
last_append o (e ∷ a) b = last_append (cond (is_control e.row.instr) o (Some e)) a b
