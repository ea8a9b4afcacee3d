-- Values that are read, moved and dropped.
use Rattle.std.proofs.Common.{◌≡◌, ℕ, suc, ◌+◌, ◌^◌, ◌<◌, Bool, true, false, cond, not, List, [], ◌∷◌, ◌++◌, length, map, take, drop, Some, None, Ok, pos, refl, sym, ap, ◌∙◌, subst, arith, add-one, append_assoc}
use Rattle.std.specs.Prelude.{slice_get, nat_lt, ℤ, unwrap_or, ◌||◌}
use Rattle.std.specs.List.{position_or_len}
use Rattle.std.proofs.lemmas.List.{length-map, length-append}
use Rattle.std.proofs.lemmas.Bool.{false≢true, ltb-true}
use Rattle.std.proofs.lemmas.List.{map-append}
use Rattle.cash_base.specs.declared.place.Slot.{Slot}
use Rattle.cash_base.specs.declared.place.Span.{Span}
use Rattle.cash_base.specs.Failing.{◌>>=◌}
use Rattle.cash_base.specs.Number.{minimal_bytes, number_of}
use Rattle.cash_base.specs.Operand.{number_or_cause}
use Rattle.cash_base.proofs.Laws.{number_of-minimal_bytes}
use Rattle.script_codec.specs.Reading.{push}
use Rattle.opcode_table.specs.declared.rows.Deed.TheVariants.{Copies, Moves}
use Rattle.opcode_table.specs.Stack.{Stack, shared}
use Rattle.opcode_table.specs.Deeds.{index_taken, element_or_underflow, copied, moved, at_index, picked, rolled}
use Rattle.source_meaning.specs.Meaning.{Env, with_value}
use Rattle.slot_code.specs.Meaning.{State, state, on_one, on_two}
use Rattle.slot_code.specs.Shape.{Operand, has}
use Rattle.slot_liveness.specs.Counts.{is_slot, place_of, less}
use Rattle.slot_liveness.proofs.Counts.{same_slot, is_itself, found_at}
use Rattle.row_runs.specs.Rows.{row, machine, step, run_rows}
use Rattle.row_runs.proofs.Turns.{then_ok, nested_append}
use Rattle.stack_emitter.specs.Places.{Spot, spot}
use Rattle.stack_emitter.specs.Codes.{IsOpcode}
use Rattle.stack_emitter.specs.Correct.{value, Fits, Agrees, Deed, Follows, nothing, get_deed, drop_deed, lower_deed}
use Rattle.stack_emitter.proofs.Steps.{op, stacked, step_push, step_do, push_nested, op_nested, op_sound, sound_append, follows_then}
use Rattle.stack_emitter.proofs.Works.{fits_length, fits_tail, drop_table, drop_follows, none_fits}

-- ---- an element so far below the top

index_on : (index : List ℕ) (stack : Stack) (n : ℤ) → 0 < length stack → number_of index ≡ Some n → index_taken (index ∷ stack) ≡ Ok (n, stack)
index_on index [] n some e = absurd (omega (arith, some))
index_on index (below ∷ rest) n some e = ap (λ o. shared (number_or_cause o) >>= (λ m. Ok (m, below ∷ rest))) e

some_below : (above : Stack) (x : List ℕ) (rest : Stack) → 0 < length (above ++ x ∷ rest)
some_below [] x rest = omega arith
some_below (y ∷ above) x rest = omega arith

get_past : (above : Stack) (x : List ℕ) (rest : Stack) → slice_get (above ++ x ∷ rest) (length above) ≡ Some x
get_past [] x rest = refl
get_past (y ∷ above) x rest = get_past above x rest

rest_past : (above : Stack) (x : List ℕ) (rest : Stack)
    → take (length above) (above ++ x ∷ rest) ++ drop (suc (length above)) (above ++ x ∷ rest) ≡ above ++ rest
rest_past [] x rest = refl
rest_past (y ∷ above) x rest = ap (λ l. y ∷ l) (rest_past above x rest)

abbrev index_of : ℕ → List ℕ
index_of n = minimal_bytes (pos n)

read_index : (above : Stack) (x : List ℕ) (rest : Stack) (n : ℕ) → n < 2 ^ 63
    → index_taken (index_of n ∷ (above ++ x ∷ rest)) ≡ Ok (pos n, above ++ x ∷ rest)
read_index above x rest n small =
    index_on (index_of n) (above ++ x ∷ rest) (pos n) (some_below above x rest) (number_of-minimal_bytes (pos n) small)

picked_past : (above : Stack) (x : List ℕ) (rest : Stack) (n : ℕ) → length above ≡ n → n < 2 ^ 63
    → picked (index_of n ∷ (above ++ x ∷ rest)) ≡ Ok (x ∷ (above ++ x ∷ rest))
picked_past above x rest n e small =
    let stack : Stack = above ++ x ∷ rest in
    ap (λ r. r >>= (λ indexed. at_index copied indexed.0 indexed.1)) (read_index above x rest n small)
    ∙ ap (λ m. copied m stack) (sym e)
    ∙ ap (λ o. element_or_underflow o >>= (λ e. Ok (e ∷ stack))) (get_past above x rest)

rolled_past : (above : Stack) (x : List ℕ) (rest : Stack) (n : ℕ) → length above ≡ n → n < 2 ^ 63
    → rolled (index_of n ∷ (above ++ x ∷ rest)) ≡ Ok (x ∷ (above ++ rest))
rolled_past above x rest n e small =
    let stack : Stack = above ++ x ∷ rest in
    let m = length above in
    ap (λ r. r >>= (λ indexed. at_index moved indexed.0 indexed.1)) (read_index above x rest n small)
    ∙ ap (λ m. moved m stack) (sym e)
    ∙ ap (λ o. element_or_underflow o >>= (λ e. Ok (e ∷ take m stack ++ drop (m + 1) stack))) (get_past above x rest)
    ∙ ap (λ k. Ok (x ∷ take m stack ++ drop k stack)) (add-one m)
    ∙ ap (λ l. Ok (x ∷ l)) (rest_past above x rest)

-- ---- the place of a slot

record Found (slot : Slot) (slots : List Slot) (i : ℕ) : Type 0 where
  above : List Slot
  below : List Slot
  split : slots ≡ above ++ slot ∷ below
  left : less slot slots ≡ above ++ below
  count : length above ≡ i

found_from : (slot : Slot) (slots : List Slot) → position_or_len (is_slot slot) slots < length slots
    → Found slot slots (position_or_len (is_slot slot) slots)
found_from slot [] lt = absurd (omega (arith, lt))
found_from slot (x ∷ xs) lt = by (is_slot slot x) refl (found_from slot xs) lt
  where
    n : ℕ
    n = position_or_len (is_slot slot) xs

    by : (b : Bool) → is_slot slot x ≡ b → (n < length xs → Found slot xs n) → cond (not b) (1 + n) 0 < length (x ∷ xs)
        → Found slot (x ∷ xs) (cond (not b) (1 + n) 0)
    by true e ih h = record {
      above = [];
      below = xs;
      split = ap (λ y. y ∷ xs) (same_slot slot x e);
      left = ap (λ b. cond b xs (x ∷ less slot xs)) e;
      count = refl;
    }
    by false e ih h =
        let f = ih (omega (arith, h)) in record {
          above = x ∷ f.above;
          below = f.below;
          split = ap (λ l. x ∷ l) f.split;
          left = ap (λ b. cond b xs (x ∷ less slot xs)) e ∙ ap (λ l. x ∷ l) f.left;
          count = let c = f.count in omega (arith, c);
        }

found : (slot : Slot) (slots : List Slot) (i : ℕ) → place_of slot slots ≡ Some i → Found slot slots i
found slot slots i e =
    let n = position_or_len (is_slot slot) slots in
    let f = found_at (nat_lt n (length slots)) n i e in
    subst (λ j. Found slot slots j) f.1 (found_from slot slots (ltb-true n (length slots) f.0))

pub inside : (slot : Slot) (slots : List Slot) (i : ℕ) → place_of slot slots ≡ Some i → i < length slots
inside slot slots i e =
    let f = found slot slots i e in
    let l = ap length f.split ∙ length-append f.above (slot ∷ f.below) in
    let c = f.count in
    omega (arith, l, c)

-- ---- reads

module _ (slot : Slot) (i n : ℕ) (p : Spot) (at : place_of slot p.slots ≡ Some i) (is : n ≡ length p.operands + i) (small : n < 2 ^ 63) where
  f : Found slot p.slots i
  f = found slot p.slots i at

  abbrev before : State → Stack
  before s = s.operands ++ map (value s.env) f.above

  abbrev behind : State → Stack → Stack
  behind s rest = map (value s.env) f.below ++ rest

  -- the stack around the value
  around : (s : State) (rest : Stack) → s.operands ++ (map (value s.env) p.slots ++ rest) ≡ before s ++ value s.env slot ∷ behind s rest
  around s rest =
      ap (λ l. s.operands ++ (map (value s.env) l ++ rest)) f.split
      ∙ ap (λ l. s.operands ++ (l ++ rest)) (map-append (value s.env) f.above (slot ∷ f.below))
      ∙ ap (λ l. s.operands ++ l) (append_assoc (map (value s.env) f.above) (value s.env slot ∷ map (value s.env) f.below) rest)
      ∙ sym (append_assoc s.operands (map (value s.env) f.above) (value s.env slot ∷ behind s rest))

  without : (s : State) (rest : Stack) → before s ++ behind s rest ≡ s.operands ++ (map (value s.env) (less slot p.slots) ++ rest)
  without s rest =
      append_assoc s.operands (map (value s.env) f.above) (behind s rest)
      ∙ ap (λ l. s.operands ++ l) (sym (append_assoc (map (value s.env) f.above) (map (value s.env) f.below) rest))
      ∙ ap (λ l. s.operands ++ (l ++ rest)) (sym (map-append (value s.env) f.above f.below))
      ∙ ap (λ l. s.operands ++ (map (value s.env) l ++ rest)) (sym f.left)

  deep : (s : State) → Fits p.operands s.operands → length (before s) ≡ n
  deep s fits =
      let a = fits_length p.operands s.operands fits in
      let b : length (map (value s.env) f.above) ≡ length f.above = length-map f.above (value s.env) in
      let c = f.count in
      let l = append_length s.operands (map (value s.env) f.above) in
      omega (arith, a, b, c, l, is)
    where
      append_length : (xs ys : Stack) → length (xs ++ ys) ≡ length xs + length ys
      append_length [] ys = omega arith
      append_length (x ∷ xs) ys = let e = append_length xs ys in omega (arith, e)

  -- PICK copies it
  pub get_follows : (opcode : ℕ) (d c : Span) → IsOpcode opcode Copies
      → Follows (row (push (index_of n)) d c ∷ row (op opcode) d c ∷ []) (get_deed slot) p (spot (None ∷ p.operands) p.slots)
  get_follows opcode d c copies = record {
    nested = nested_append (row (push (index_of n)) d c ∷ []) (row (op opcode) d c ∷ []) (push_nested (index_of n) d c) (op_nested opcode Copies d c copies.row);
    sound = sound_append (row (push (index_of n)) d c ∷ []) (row (op opcode) d c ∷ []) refl (op_sound opcode Copies d c copies);
    runs = λ world s rest conditions live fits.
        let stack : Stack = s.operands ++ (map (value s.env) p.slots ++ rest) in (
          fits,
          ap (λ r. r >>= run_rows world (row (op opcode) d c ∷ [])) (step_push world (index_of n) d c stack conditions live)
              ∙ then_ok world (step world (row (op opcode) d c) (machine (index_of n ∷ stack) conditions))
              ∙ step_do world opcode Copies d c (index_of n ∷ stack) conditions copies.row live
              ∙ ap (stacked d c conditions) (ap (λ l. picked (index_of n ∷ l)) (around s rest)
              ∙ picked_past (before s) (value s.env slot) (behind s rest) n (deep s fits) small
              ∙ ap (λ l. Ok (value s.env slot ∷ l)) (sym (around s rest))),
        );
  }

  -- ROLL moves it
  pub take_follows : (opcode : ℕ) (d c : Span) → IsOpcode opcode Moves
      → Follows (row (push (index_of n)) d c ∷ row (op opcode) d c ∷ []) (get_deed slot) p (spot (None ∷ p.operands) (less slot p.slots))
  take_follows opcode d c moves = record {
    nested = nested_append (row (push (index_of n)) d c ∷ []) (row (op opcode) d c ∷ []) (push_nested (index_of n) d c) (op_nested opcode Moves d c moves.row);
    sound = sound_append (row (push (index_of n)) d c ∷ []) (row (op opcode) d c ∷ []) refl (op_sound opcode Moves d c moves);
    runs = λ world s rest conditions live fits.
        let stack : Stack = s.operands ++ (map (value s.env) p.slots ++ rest) in (
          fits,
          ap (λ r. r >>= run_rows world (row (op opcode) d c ∷ [])) (step_push world (index_of n) d c stack conditions live)
              ∙ then_ok world (step world (row (op opcode) d c) (machine (index_of n ∷ stack) conditions))
              ∙ step_do world opcode Moves d c (index_of n ∷ stack) conditions moves.row live
              ∙ ap (stacked d c conditions) (ap (λ l. rolled (index_of n ∷ l)) (around s rest)
              ∙ rolled_past (before s) (value s.env slot) (behind s rest) n (deep s fits) small
              ∙ ap (λ l. Ok (value s.env slot ∷ l)) (without s rest)),
        );
  }

  -- and DROP takes it away
  pub discard_follows : (opcode dropping : ℕ) (c : Span) → IsOpcode opcode Moves → IsOpcode dropping drop_table
      → Follows (row (push (index_of n)) c c ∷ row (op opcode) c c ∷ row (op dropping) c c ∷ []) nothing p (spot p.operands (less slot p.slots))
  discard_follows opcode dropping c moves drops =
      let between = spot (None ∷ p.operands) (less slot p.slots) in
      follows_then (row (push (index_of n)) c c ∷ row (op opcode) c c ∷ []) (row (op dropping) c c ∷ []) (get_deed slot) (drop_deed c) p between
      (spot p.operands (less slot p.slots)) (take_follows opcode c c moves) (drop_follows dropping c c c between (omega arith) drops)

-- ---- definitions

-- where the slot doesn't stand its new value changes nothing
fresh_values : (env : Env) (slot : Slot) (x : List ℕ) (slots : List Slot) → has slot slots ≡ false
    → map (value (with_value slot x env)) slots ≡ map (value env) slots
fresh_values env slot x [] h = refl
fresh_values env slot x (s ∷ slots) h = by (is_slot slot s) h (fresh_values env slot x slots)
  where
    by : (b : Bool) → (b || has slot slots) ≡ false → (has slot slots ≡ false → map (value (with_value slot x env)) slots ≡ map (value env) slots)
        → unwrap_or (cond b (Some x) (env s)) [] ∷ map (value (with_value slot x env)) slots ≡ value env s ∷ map (value env) slots
    by true k ih = absurd (false≢true (sym k))
    by false k ih = ap (λ l. value env s ∷ l) (ih k)

defined_value : (env : Env) (slot : Slot) (x : List ℕ) → value (with_value slot x env) slot ≡ x
defined_value env slot x = ap (λ b. unwrap_or (cond b (Some x) (env slot)) []) (is_itself slot)

abbrev pub define_deed : Slot → Span → Deed
define_deed slot d world s = on_one d s.operands (λ a more. Ok (state more (with_value slot a s.env)))

define_agrees : (d : Span) (slot : Slot) (known : List Operand) (slots : List Slot) (rest : Stack) (conditions : List Bool) (operands : Stack) (env : Env)
    → length known ≡ 1 → has slot slots ≡ false → Fits known operands
    → Agrees (spot [] (slot ∷ slots)) rest conditions (on_one d operands (λ a more. Ok (state more (with_value slot a env))))
    (Ok (machine (operands ++ (map (value env) slots ++ rest)) conditions))
define_agrees d slot [] slots rest conditions operands env one fresh fits = absurd (omega (arith, one))
define_agrees d slot (k ∷ l ∷ known) slots rest conditions operands env one fresh fits = absurd (omega (arith, one))
define_agrees d slot (k ∷ []) slots rest conditions [] env one fresh fits = absurd (none_fits k [] fits)
define_agrees d slot (k ∷ []) slots rest conditions (x ∷ y ∷ operands) env one fresh fits =
    absurd (fits_tail k [] x (y ∷ operands) fits)
define_agrees d slot (k ∷ []) slots rest conditions (x ∷ []) env one fresh fits = (
  tt,
  ap (λ l. Ok (machine (x ∷ (l ++ rest)) conditions)) (sym (fresh_values env slot x slots fresh))
      ∙ ap (λ v. Ok (machine (v ∷ (map (value (with_value slot x env)) slots ++ rest)) conditions)) (sym (defined_value env slot x)),
)

-- the operand becomes the value of the slot, in its place
pub define_follows : (slot : Slot) (d : Span) (p : Spot) → length p.operands ≡ 1 → has slot p.slots ≡ false
    → Follows [] (define_deed slot d) p (spot [] (slot ∷ p.slots))
define_follows slot d p one fresh = record {
  nested = λ n. refl;
  sound = refl;
  runs = λ world s rest conditions live fits. define_agrees d slot p.operands p.slots rest conditions s.operands s.env one fresh fits;
}

lower_agrees : (d : Span) (slot : Slot) (known : List Operand) (slots : List Slot) (rest : Stack) (conditions : List Bool) (operands : Stack) (env : Env)
    → length known ≡ 2 → has slot slots ≡ false → Fits known operands
    → Agrees (spot (None ∷ []) (slot ∷ slots)) rest conditions (on_two d operands (λ a b more. Ok (state (b ∷ more) (with_value slot a env))))
    (Ok (machine (operands ++ (map (value env) slots ++ rest)) conditions))
lower_agrees d slot [] slots rest conditions operands env two fresh fits = absurd (omega (arith, two))
lower_agrees d slot (k ∷ []) slots rest conditions operands env two fresh fits = absurd (omega (arith, two))
lower_agrees d slot (k ∷ l ∷ m ∷ known) slots rest conditions operands env two fresh fits = absurd (omega (arith, two))
lower_agrees d slot (k ∷ l ∷ []) slots rest conditions [] env two fresh fits = absurd (none_fits k (l ∷ []) fits)
lower_agrees d slot (k ∷ l ∷ []) slots rest conditions (y ∷ []) env two fresh fits = absurd (none_fits l [] (fits_tail k (l ∷ []) y [] fits))
lower_agrees d slot (k ∷ l ∷ []) slots rest conditions (y ∷ x ∷ z ∷ operands) env two fresh fits =
    absurd (fits_tail l [] x (z ∷ operands) (fits_tail k (l ∷ []) y (x ∷ z ∷ operands) fits))
lower_agrees d slot (k ∷ l ∷ []) slots rest conditions (y ∷ x ∷ []) env two fresh fits = (
  tt,
  ap (λ l. Ok (machine (y ∷ x ∷ (l ++ rest)) conditions)) (sym (fresh_values env slot x slots fresh))
      ∙ ap (λ v. Ok (machine (y ∷ v ∷ (map (value (with_value slot x env)) slots ++ rest)) conditions)) (sym (defined_value env slot x)),
)

-- the lower of two operands becomes the value of the slot, in its place
pub lower_follows : (slot : Slot) (d : Span) (p : Spot) → length p.operands ≡ 2 → has slot p.slots ≡ false
    → Follows [] (lower_deed true slot d) p (spot (None ∷ []) (slot ∷ p.slots))
lower_follows slot d p two fresh = record {
  nested = λ n. refl;
  sound = refl;
  runs = λ world s rest conditions live fits. lower_agrees d slot p.operands p.slots rest conditions s.operands s.env two fresh fits;
}
