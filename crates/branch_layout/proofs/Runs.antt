-- What moves do to a layout.
use Rattle.std.proofs.Common.{◌≡◌, ℕ, suc, ◌+◌, ◌<◌, ◌≤◌, ◌^◌, Bool, true, false, cond, List, [], ◌∷◌, ◌++◌, length, map, take, drop, Some, ℤ, pos, Result, Ok, Err, refl, sym, ap, ◌∙◌, add-one, arith}
use Rattle.std.specs.Prelude.{◌==◌, slice_get}
use Rattle.std.proofs.lemmas.Bool.{eqb-true}
use Rattle.std.proofs.lemmas.List.{length-map}
use Rattle.cash_base.specs.Failing.{◌>>=◌}
use Rattle.cash_base.specs.Number.{number_of, minimal_bytes}
use Rattle.cash_base.specs.Operand.{number_or_cause}
use Rattle.cash_base.specs.declared.place.Slot.{Slot}
use Rattle.cash_base.proofs.Laws.{number_of-minimal_bytes}
use Rattle.script_codec.specs.declared.instr.Instr.{Instr}
use Rattle.script_codec.specs.Reading.{push}
use Rattle.script_codec.specs.Spelling.{spelling}
use Rattle.opcode_table.specs.declared.rows.Deed.TheVariants.{Puts, Moves}
use Rattle.opcode_table.specs.declared.rows.Row.TheVariants.{Does}
use Rattle.opcode_table.specs.Stack.{Stack, shared}
use Rattle.opcode_table.specs.Deeds.{done, index_taken, element_or_underflow, moved, at_index, rolled}
use Rattle.opcode_table.specs.Table.{rows, row_of}
use Rattle.bch_vm.specs.Setting.{Setting, Around, around, asked_at}
use Rattle.bch_vm.specs.Board.{board_after, pushed_where, row_after, executed_where, on_stack, is_live}
use Rattle.bch_vm.specs.Script.{State, Progress, progress_after, passed, state_after, run, RunsInTurn}
use Rattle.branch_layout.specs.Arms.{with_stack, progress_over, passed_over, Reaches, drop_top, roll, raising, discarding}

-- ---- runs compose

then_in_turn : {A B C E : Type 0} (r : Result A E) (f : A → Result B E) (g : B → Result C E) (h : A → Result C E)
    → ((a : A) → h a ≡ (f a >>= g)) → (r >>= h) ≡ ((r >>= f) >>= g)
then_in_turn (Ok a) f g h e = e a
then_in_turn (Err failure) f g h e = refl

run_append : (setting : Setting) (first second : List Instr) → RunsInTurn setting first second
run_append setting [] second s = refl
run_append setting (instr ∷ first) second s =
    then_in_turn (state_after setting instr s) (run setting first) (run setting second) (run setting (first ++ second))
    (run_append setting first second)

progress_append : (first second : List Instr) (conditions : List Bool) (p : Progress)
    → progress_over (first ++ second) conditions p ≡ progress_over second conditions (progress_over first conditions p)
progress_append [] second conditions p = refl
progress_append (instr ∷ first) second conditions p = progress_append first second conditions (progress_after instr conditions p)

pub reaches_then : (first second : List Instr) (a b c : List Slot) → Reaches first a b → Reaches second b c
    → Reaches (first ++ second) a c
reaches_then first second a b c p q = λ setting s element_of rest live.
    run_append setting first second (with_stack (map element_of a ++ rest) s)
    ∙ ap (λ r. r >>= run setting second) (p setting s element_of rest live)
    ∙ q setting (passed_over first s) element_of rest live
    ∙ ap (λ o. Ok (record { board = (with_stack (map element_of c ++ rest) s).board; progress = o }))
    (sym (progress_append first second s.board.conditions s.progress))

pub reaches_nothing : (a b : List Slot) → a ≡ b → Reaches [] a b
reaches_nothing a b e = λ setting s element_of rest live. ap (λ l. Ok (with_stack (map element_of l ++ rest) s)) e

pub reaches_along : (moves moves' : List Instr) (a a' b b' : List Slot) → moves ≡ moves' → a ≡ a' → b ≡ b'
    → Reaches moves a b
    → Reaches moves' a' b'
reaches_along moves moves' a a' b b' e f g r = λ setting s element_of rest live.
    ap (λ m. run setting m (with_stack (map element_of a' ++ rest) s)) (sym e)
    ∙ ap (λ l. run setting moves (with_stack (map element_of l ++ rest) s)) (sym f)
    ∙ r setting s element_of rest live
    ∙ ap (λ l. Ok (passed_over moves (with_stack (map element_of l ++ rest) s))) g
    ∙ ap (λ m. Ok (passed_over m (with_stack (map element_of b' ++ rest) s))) e

-- ---- one move

-- a move that changes the stack alone is passed
one_move : (setting : Setting) (move : Instr) (code : List Instr) (s : State) (from to : Stack)
    → board_after (around setting (s.progress.place + length (spelling move)) 20) move (with_stack from s).board
    ≡ Ok (with_stack to s).board
    → run setting (move ∷ code) (with_stack from s) ≡ run setting code (passed_over (move ∷ []) (with_stack to s))
one_move setting move code s from to e =
    ap (λ r. passed s.progress.at (progress_after move s.board.conditions s.progress) r >>= run setting code) e

pushes : (a : Around) (s : State) (e : List ℕ) (stack : Stack) → is_live s.board.conditions ≡ true
    → board_after a (push e) (with_stack stack s).board ≡ Ok (with_stack (e ∷ stack) s).board
pushes a s e stack live = ap (λ l. Ok (pushed_where l e (with_stack stack s).board)) live

row_of_drop : row_of 0x75 ≡ Does (Puts 1 0 (0 ∷ 0 ∷ 0 ∷ 0 ∷ 0 ∷ 0 ∷ []))
unfolding rows
row_of_drop = refl

row_of_roll : row_of 0x7a ≡ Does Moves
unfolding rows
row_of_roll = refl

drops : (a : Around) (s : State) (e : List ℕ) (stack : Stack) → is_live s.board.conditions ≡ true
    → board_after a drop_top (with_stack (e ∷ stack) s).board ≡ Ok (with_stack stack s).board
drops a s e stack live =
    ap (λ row. row_after a row (with_stack (e ∷ stack) s).board) row_of_drop
    ∙ ap (λ l. executed_where l (on_stack (done (asked_at a s.board.separator) (Puts 1 0 (0 ∷ 0 ∷ 0 ∷ 0 ∷ 0 ∷ 0 ∷ []))))
    (with_stack (e ∷ stack) s).board) live

rolls : (a : Around) (s : State) (from to : Stack) → is_live s.board.conditions ≡ true → rolled from ≡ Ok to
    → board_after a roll (with_stack from s).board ≡ Ok (with_stack to s).board
rolls a s from to live e =
    ap (λ row. row_after a row (with_stack from s).board) row_of_roll
    ∙ ap (λ l. executed_where l (on_stack rolled) (with_stack from s).board) live
    ∙ ap (λ r. r >>= (λ stack. Ok (with_stack stack s).board)) e

-- ---- ROLL

index_on : (index : List ℕ) (stack : Stack) (n : ℤ) → 0 < length stack → number_of index ≡ Some n
    → index_taken (index ∷ stack) ≡ Ok (n, stack)
index_on index [] n some e = absurd (omega (arith, some))
index_on index (below ∷ rest) n some e =
    ap (λ o. shared (number_or_cause o) >>= (λ m. Ok (m, below ∷ rest))) e

nonempty : (above : Stack) (x : List ℕ) (rest : Stack) → 0 < length (above ++ x ∷ rest)
nonempty [] x rest = omega arith
nonempty (y ∷ above) x rest = omega arith

get_past : (above : Stack) (x : List ℕ) (rest : Stack) → slice_get (above ++ x ∷ rest) (length above) ≡ Some x
get_past [] x rest = refl
get_past (y ∷ above) x rest = get_past above x rest

rest_past : (above : Stack) (x : List ℕ) (rest : Stack)
    → take (length above) (above ++ x ∷ rest) ++ drop (suc (length above)) (above ++ x ∷ rest) ≡ above ++ rest
rest_past [] x rest = refl
rest_past (y ∷ above) x rest = ap (λ l. y ∷ l) (rest_past above x rest)

moved_past : (above : Stack) (x : List ℕ) (rest : Stack)
    → moved (length above) (above ++ x ∷ rest) ≡ Ok (x ∷ (above ++ rest))
moved_past above x rest =
    let stack : Stack = above ++ x ∷ rest in
    let n = length above in
    ap (λ o. element_or_underflow o >>= (λ e. Ok (e ∷ take n stack ++ drop (n + 1) stack))) (get_past above x rest)
    ∙ ap (λ m. Ok (x ∷ take n stack ++ drop m stack)) (add-one n)
    ∙ ap (λ l. Ok (x ∷ l)) (rest_past above x rest)

rolled_past : (above : Stack) (x : List ℕ) (rest : Stack) (n : ℕ) → length above ≡ n → n ≤ 160
    → rolled (minimal_bytes (pos n) ∷ (above ++ x ∷ rest)) ≡ Ok (x ∷ (above ++ rest))
rolled_past above x rest n e small =
    let fits : n < 2 ^ 63 = omega arith in
    ap (λ r. r >>= (λ indexed. at_index moved indexed.0 indexed.1))
    (index_on (minimal_bytes (pos n)) (above ++ x ∷ rest) (pos n) (nonempty above x rest) (number_of-minimal_bytes (pos n) fits))
    ∙ ap (λ m. moved m (above ++ x ∷ rest)) (sym e)
    ∙ moved_past above x rest

-- ---- the same of layouts

stacked : (element_of : Slot → List ℕ) (above below : List Slot) (rest : Stack)
    → map element_of (above ++ below) ++ rest ≡ map element_of above ++ (map element_of below ++ rest)
stacked element_of [] below rest = refl
stacked element_of (y ∷ above) below rest = ap (λ l. element_of y ∷ l) (stacked element_of above below rest)

raising_below : (n : ℕ) → push (minimal_bytes (pos (suc n))) ∷ roll ∷ [] ≡ raising (suc n)
raising_below n = by (suc n == 0) refl
  where
    by : (b : Bool) → (suc n == 0) ≡ b
        → push (minimal_bytes (pos (suc n))) ∷ roll ∷ [] ≡ cond b [] (push (minimal_bytes (pos (suc n))) ∷ roll ∷ [])
    by true e = let z = eqb-true (suc n) 0 e in absurd (omega (arith, z))
    by false e = refl

lifted : (n : ℕ) (above : List Slot) (x : Slot) (below : List Slot) → length above ≡ n → n ≤ 160
    → Reaches (push (minimal_bytes (pos n)) ∷ roll ∷ []) (above ++ x ∷ below) (x ∷ (above ++ below))
lifted n above x below e small = λ setting s element_of rest live.
    let index : List ℕ = minimal_bytes (pos n) in
    let from : Stack = map element_of (above ++ x ∷ below) ++ rest in
    let to : Stack = map element_of (x ∷ (above ++ below)) ++ rest in
    let pushed : State = passed_over (push index ∷ []) s in
    let parts : from ≡ map element_of above ++ element_of x ∷ (map element_of below ++ rest) = stacked element_of above (x ∷ below) rest in
    let rolls_so : rolled (index ∷ from) ≡ Ok to =
    ap (λ l. rolled (index ∷ l)) parts
    ∙ rolled_past (map element_of above) (element_of x) (map element_of below ++ rest) n (length-map above element_of ∙ e) small
    ∙ ap (λ l. Ok (element_of x ∷ l)) (sym (stacked element_of above below rest)) in
    one_move setting (push index) (roll ∷ []) s from (index ∷ from)
    (pushes (around setting (s.progress.place + length (spelling (push index))) 20) s index from live)
    ∙ one_move setting roll [] pushed (index ∷ from) to
    (rolls (around setting (pushed.progress.place + length (spelling roll)) 20) pushed (index ∷ from) to live rolls_so)

pub raised_past : (above : List Slot) (x : Slot) (below : List Slot) → length above ≤ 160
    → Reaches (raising (length above)) (above ++ x ∷ below) (x ∷ (above ++ below))
raised_past [] x below small = λ setting s element_of rest live. refl
raised_past (y ∷ above) x below small =
    let layout : List Slot = (y ∷ above) ++ x ∷ below in
    let raised : List Slot = x ∷ ((y ∷ above) ++ below) in
    reaches_along (push (minimal_bytes (pos (length (y ∷ above)))) ∷ roll ∷ []) (raising (length (y ∷ above))) layout layout raised raised
    (raising_below (length above)) refl refl (lifted (length (y ∷ above)) (y ∷ above) x below refl small)

dropped : (x : Slot) (below : List Slot) → Reaches (drop_top ∷ []) (x ∷ below) below
dropped x below = λ setting s element_of rest live.
    one_move setting drop_top [] s (map element_of (x ∷ below) ++ rest) (map element_of below ++ rest)
    (drops (around setting (s.progress.place + length (spelling drop_top)) 20) s (element_of x) (map element_of below ++ rest) live)

pub discarded_past : (above : List Slot) (x : Slot) (below : List Slot) → length above ≤ 160
    → Reaches (discarding (length above)) (above ++ x ∷ below) (above ++ below)
discarded_past above x below small =
    reaches_then (raising (length above)) (drop_top ∷ []) (above ++ x ∷ below) (x ∷ (above ++ below)) (above ++ below)
    (raised_past above x below small) (dropped x (above ++ below))
