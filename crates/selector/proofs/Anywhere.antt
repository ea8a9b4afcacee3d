-- Nested code without a separator goes alike at another place, inside of conditions that are true.
use Rattle.std.proofs.Common.{◌≡◌, ◌⊎◌, inl, ℕ, zero, suc, ◌+◌, Bool, true, false, not, ◌&&◌, cond, List, [], ◌∷◌, ◌++◌, length, Option, Some, None, Result, Ok, Err, refl, sym, ap, ◌∙◌, subst, arith}
use Rattle.std.specs.Prelude.{option_and_then}
use Rattle.std.proofs.lemmas.Bool.{false≢true, and_parts}
use Rattle.std.proofs.lemmas.List.{map-append}
use Rattle.std.proofs.lemmas.Option.{none-some, same_Some}
use Rattle.cash_base.specs.declared.fault.MachineCause.{MachineCause}
use Rattle.cash_base.specs.Failing.{◌>>=◌}
use Rattle.script_codec.specs.declared.instr.Instr.{Instr}
use Rattle.script_codec.specs.declared.instr.Instr.TheVariants.{Push, Do}
use Rattle.script_codec.specs.Spelling.{spelling}
use Rattle.opcode_table.specs.declared.rows.Row.{Row}
use Rattle.opcode_table.specs.declared.rows.Row.TheVariants.{Never, Opens, Flips, Closes, Lays, Fetches, Separates, Does, DoesAndVerifies}
use Rattle.opcode_table.specs.Stack.{Stack}
use Rattle.opcode_table.specs.Deeds.{done, done_and_verified}
use Rattle.opcode_table.specs.Table.{row_of}
use Rattle.bch_vm.specs.Setting.{Setting, Around, around, asked_at}
use Rattle.bch_vm.specs.Board.{Board, board, Move, is_live, opened_where, laid_from, fetched_from, on_stack, executed_where, row_after, pushed_where, board_after, is_effective, is_executed, is_condition, ends_block, outer}
use Rattle.bch_vm.specs.Script.{State, state_of, Progress, progress_after, passed, run, Failure, executed_one, executed_in}
use Rattle.run_laws.specs.Nested.{open_after_row, open_after, nesting, none_open}
use Rattle.selector.specs.Place.{row_separates, separates, is_unseparated, IsLastBehind, executed_behind, all_executed_behind}

-- ---- one instruction

-- further conditions are open around those of the board
abbrev pub inside : List Bool → Board → Board
inside base b = board b.stack b.alternate (b.conditions ++ base) b.separator

abbrev all_inside : List Bool → Result Board MachineCause → Result Board MachineCause
all_inside base r = r >>= λ b. Ok (inside base b)

-- where it is passed so many conditions are open, and the separator is where it was
record IsNext (k : ℕ) (b next : Board) : Type 0 where
  count : length next.conditions ≡ k
  separator : next.separator ≡ b.separator

abbrev Goes : ℕ → Board → Result Board MachineCause → Type 0
Goes k b (Ok next) = IsNext k b next
Goes k b (Err cause) = Unit {0}

-- alike, with this many open after it
record IsAlike (base : List Bool) (k : ℕ) (b : Board) (alone here : Result Board MachineCause) : Type 0 where
  same : here ≡ all_inside base alone
  goes : Goes k b alone

live_inside : (conditions base : List Bool) → is_live base ≡ true → is_live (conditions ++ base) ≡ is_live conditions
live_inside [] base live = live
live_inside (c ∷ conditions) base live = ap (λ l. c && l) (live_inside conditions base live)

opened_alike : (sense live live′ : Bool) (base : List Bool) (b : Board) → live′ ≡ live
    → IsAlike base (suc (length b.conditions)) b (opened_where live sense b) (opened_where live′ sense (inside base b))
opened_alike sense true false base b same = absurd (false≢true same)
opened_alike sense false true base b same = absurd (false≢true (sym same))
opened_alike sense false false base b same = record { same = refl; goes = record { count = refl; separator = refl } }
opened_alike sense true true base b same = by_stack b.stack
  where
    by_stack : (stack : Stack)
        → IsAlike base (suc (length b.conditions)) b (opened_where true sense (board stack b.alternate b.conditions b.separator))
        (opened_where true sense (board stack b.alternate (b.conditions ++ base) b.separator))
    by_stack [] = record { same = refl; goes = tt }
    by_stack (e ∷ stack) = record { same = refl; goes = record { count = refl; separator = refl } }

-- a move of both stacks alone
record IsOfStacks (base : List Bool) (b : Board) (move move′ : Move) : Type 0 where
  same : move′ (inside base b) ≡ all_inside base (move b)
  goes : Goes (length b.conditions) b (move b)

executed_alike : (live live′ : Bool) (base : List Bool) (b : Board) (move move′ : Move) → live′ ≡ live → IsOfStacks base b move move′
    → IsAlike base (length b.conditions) b (executed_where live move b) (executed_where live′ move′ (inside base b))
executed_alike true false base b move move′ same h = absurd (false≢true same)
executed_alike false true base b move move′ same h = absurd (false≢true (sym same))
executed_alike false false base b move move′ same h = record { same = refl; goes = record { count = refl; separator = refl } }
executed_alike true true base b move move′ same h = record { same = h.same; goes = h.goes }

stack_alike : (base : List Bool) (b : Board) (r r′ : Result Stack MachineCause) → r′ ≡ r
    → IsAlike base (length b.conditions) b (r >>= λ stack. Ok (board stack b.alternate b.conditions b.separator))
    (r′ >>= λ stack. Ok (board stack b.alternate (b.conditions ++ base) b.separator))
stack_alike base b r r′ same =
    subst (λ x. IsAlike base (length b.conditions) b (r >>= λ stack. Ok (board stack b.alternate b.conditions b.separator))
    (x >>= λ stack. Ok (board stack b.alternate (b.conditions ++ base) b.separator))) (sym same) (by_result r)
  where
    by_result : (r : Result Stack MachineCause)
        → IsAlike base (length b.conditions) b (r >>= λ stack. Ok (board stack b.alternate b.conditions b.separator))
        (r >>= λ stack. Ok (board stack b.alternate (b.conditions ++ base) b.separator))
    by_result (Err cause) = record { same = refl; goes = tt }
    by_result (Ok stack) = record { same = refl; goes = record { count = refl; separator = refl } }

laid_alike : (base : List Bool) (b : Board) (stack : Stack) → IsOfStacks base b (laid_from stack) (laid_from stack)
laid_alike base b [] = record { same = refl; goes = tt }
laid_alike base b (e ∷ stack) = record { same = refl; goes = record { count = refl; separator = refl } }

fetched_alike : (base : List Bool) (b : Board) (stack : Stack) → IsOfStacks base b (fetched_from stack) (fetched_from stack)
fetched_alike base b [] = record { same = refl; goes = tt }
fetched_alike base b (e ∷ stack) = record { same = refl; goes = record { count = refl; separator = refl } }

of_count : (base : List Bool) (n k : ℕ) (b : Board) (alone here : Result Board MachineCause) → Some n ≡ Some k
    → IsAlike base n b alone here → IsAlike base k b alone here
of_count base n k b alone here same h = subst (λ m. IsAlike base m b alone here) (same_Some n k same) h

flips_alike : (base : List Bool) (k : ℕ) (a a′ : Around) (stack alternate : Stack) (conditions : List Bool) (separator : ℕ)
    → open_after_row Flips (length conditions) ≡ Some k
    → IsAlike base k (board stack alternate conditions separator) (row_after a Flips (board stack alternate conditions separator))
    (row_after a′ Flips (board stack alternate (conditions ++ base) separator))
flips_alike base k a a′ stack alternate [] separator h = absurd (none-some k h)
flips_alike base k a a′ stack alternate (c ∷ conditions) separator h =
    record { same = refl; goes = record { count = same_Some (suc (length conditions)) k h; separator = refl } }

closes_alike : (base : List Bool) (k : ℕ) (a a′ : Around) (stack alternate : Stack) (conditions : List Bool) (separator : ℕ)
    → open_after_row Closes (length conditions) ≡ Some k
    → IsAlike base k (board stack alternate conditions separator) (row_after a Closes (board stack alternate conditions separator))
    (row_after a′ Closes (board stack alternate (conditions ++ base) separator))
closes_alike base k a a′ stack alternate [] separator h = absurd (none-some k h)
closes_alike base k a a′ stack alternate (c ∷ conditions) separator h =
    record { same = refl; goes = record { count = same_Some (length conditions) k h; separator = refl } }

row_alike : (base : List Bool) (k : ℕ) (a a′ : Around) (row : Row) (b : Board) → is_live base ≡ true → not (row_separates row) ≡ true
    → asked_at a b.separator ≡ asked_at a′ b.separator → open_after_row row (length b.conditions) ≡ Some k
    → IsAlike base k b (row_after a row b) (row_after a′ row (inside base b))
row_alike base k a a′ (Never cause) b live plain asked h = absurd (none-some k h)
row_alike base k a a′ (Opens sense) b live plain asked h =
    of_count base _ k b _ _ h
    (opened_alike sense (is_live b.conditions) (is_live (b.conditions ++ base)) base b (live_inside b.conditions base live))
row_alike base k a a′ Flips b live plain asked h = flips_alike base k a a′ b.stack b.alternate b.conditions b.separator h
row_alike base k a a′ Closes b live plain asked h = closes_alike base k a a′ b.stack b.alternate b.conditions b.separator h
row_alike base k a a′ Lays b live plain asked h =
    of_count base _ k b _ _ h
    (executed_alike (is_live b.conditions) (is_live (b.conditions ++ base)) base b (laid_from b.stack) (laid_from b.stack)
    (live_inside b.conditions base live) (laid_alike base b b.stack))
row_alike base k a a′ Fetches b live plain asked h =
    of_count base _ k b _ _ h
    (executed_alike (is_live b.conditions) (is_live (b.conditions ++ base)) base b (fetched_from b.alternate) (fetched_from b.alternate)
    (live_inside b.conditions base live) (fetched_alike base b b.alternate))
row_alike base k a a′ Separates b live plain asked h = absurd (false≢true plain)
row_alike base k a a′ (Does deed) b live plain asked h =
    let alike = stack_alike base b (done (asked_at a b.separator) deed b.stack) (done (asked_at a′ b.separator) deed b.stack)
    (ap (λ q. done q deed b.stack) (sym asked)) in
    of_count base _ k b _ _ h
    (executed_alike (is_live b.conditions) (is_live (b.conditions ++ base)) base b (on_stack (done (asked_at a b.separator) deed))
    (on_stack (done (asked_at a′ b.separator) deed)) (live_inside b.conditions base live)
    (record { same = alike.same; goes = alike.goes }))
row_alike base k a a′ (DoesAndVerifies deed) b live plain asked h =
    let alike = stack_alike base b (done_and_verified (asked_at a b.separator) deed b.stack) (done_and_verified (asked_at a′ b.separator) deed b.stack)
    (ap (λ q. done_and_verified q deed b.stack) (sym asked)) in
    of_count base _ k b _ _ h
    (executed_alike (is_live b.conditions) (is_live (b.conditions ++ base)) base b (on_stack (done_and_verified (asked_at a b.separator) deed))
    (on_stack (done_and_verified (asked_at a′ b.separator) deed)) (live_inside b.conditions base live)
    (record { same = alike.same; goes = alike.goes }))

pushed_alike : (live live′ : Bool) (base : List Bool) (e : List ℕ) (b : Board) → live′ ≡ live
    → IsAlike base (length b.conditions) b (Ok (pushed_where live e b)) (Ok (pushed_where live′ e (inside base b)))
pushed_alike true false base e b same = absurd (false≢true same)
pushed_alike false true base e b same = absurd (false≢true (sym same))
pushed_alike true true base e b same = record { same = refl; goes = record { count = refl; separator = refl } }
pushed_alike false false base e b same = record { same = refl; goes = record { count = refl; separator = refl } }

instr_alike : (base : List Bool) (k : ℕ) (a a′ : Around) (instr : Instr) (b : Board) → is_live base ≡ true → not (separates instr) ≡ true
    → asked_at a b.separator ≡ asked_at a′ b.separator → open_after instr (length b.conditions) ≡ Some k
    → IsAlike base k b (board_after a instr b) (board_after a′ instr (inside base b))
instr_alike base k a a′ (Push e) b live plain asked h =
    of_count base _ k b _ _ h
    (pushed_alike (is_live b.conditions) (is_live (b.conditions ++ base)) base e.items b (live_inside b.conditions base live))
instr_alike base k a a′ (Do opcode) b live plain asked h = row_alike base k a a′ (row_of opcode.0) b live plain asked h

-- ---- runs

-- both settings answer alike what an instruction may ask
abbrev pub AreAlike : Setting → Setting → ℕ → Type 0
AreAlike first second separator = (x y : ℕ) → asked_at (around first x 20) separator ≡ asked_at (around second y 20) separator

-- the ends of both
abbrev pub IsBehind : ℕ → List Bool → Progress → Progress → Result State Failure → Result State Failure → Type 0
IsBehind before base p q (Err failure) r = r ≡ Err (record { at = before + failure.at; cause = failure.cause })
IsBehind before base p q (Ok t) r =
    (u : Progress) × (r ≡ Ok (state_of (inside base t.board) u)) × IsLastBehind before p q t.progress u

same_effect : (instr : Instr) (conditions base : List Bool) → is_live base ≡ true
    → is_effective instr (conditions ++ base) ≡ is_effective instr conditions
same_effect (Push e) conditions base live = live_inside conditions base live
same_effect (Do opcode) conditions base live = ap (λ l. l && not (is_condition opcode.0)) (live_inside conditions base live)

last_behind : (t t′ : Bool) (before at at′ last last′ : ℕ) (p q : Progress) → t′ ≡ t → at′ ≡ before + at
    → ((last′ ≡ before + last) ⊎ ((last ≡ p.last) × (last′ ≡ q.last)))
    → ((cond t′ at′ last′ ≡ before + cond t at last) ⊎ ((cond t at last ≡ p.last) × (cond t′ at′ last′ ≡ q.last)))
last_behind true true before at at′ last last′ p q same there h = inl there
last_behind false false before at at′ last last′ p q same there h = h
last_behind true false before at at′ last last′ p q same there h = absurd (false≢true same)
last_behind false true before at at′ last last′ p q same there h = absurd (false≢true (sym same))

abbrev Later : Setting → Setting → ℕ → List Bool → Progress → Progress → List Instr → ℕ → Progress → Progress → Board → Type 0
Later first second before base p0 q0 code k p q next =
    length next.conditions ≡ k → AreAlike first second next.separator
    → IsBehind before base p0 q0 (run first code (state_of next p)) (run second code (state_of (inside base next) q))

run_step : (first second : Setting) (before : ℕ) (base : List Bool) (p0 q0 : Progress) (code : List Instr) (k at at′ : ℕ)
    (p q : Progress) (b : Board) (r r′ : Result Board MachineCause) → IsAlike base k b r r′ → at′ ≡ before + at
    → AreAlike first second b.separator → ((next : Board) → Later first second before base p0 q0 code k p q next)
    → IsBehind before base p0 q0 (passed at p r >>= run first code) (passed at′ q r′ >>= run second code)
run_step first second before base p0 q0 code k at at′ p q b r r′ h there alike more =
    subst (λ x. IsBehind before base p0 q0 (passed at p r >>= run first code) (passed at′ q x >>= run second code)) (sym h.same)
    (by_result r h.goes)
  where
    by_result : (r : Result Board MachineCause) → Goes k b r
        → IsBehind before base p0 q0 (passed at p r >>= run first code) (passed at′ q (all_inside base r) >>= run second code)
    by_result (Err cause) goes = ap (λ n. Err (record { at = n; cause = cause })) there
    by_result (Ok next) goes = more next goes.count (subst (λ s. AreAlike first second s) (sym goes.separator) alike)

pub run_behind : (first second : Setting) (before : ℕ) (base : List Bool) (p0 q0 : Progress) (code : List Instr) (n : ℕ) (b : Board)
    (p q : Progress) → is_live base ≡ true → is_unseparated code ≡ true → AreAlike first second b.separator
    → nesting code (length b.conditions) ≡ Some n → q.at ≡ before + p.at → IsLastBehind before p0 q0 p q
    → IsBehind before base p0 q0 (run first code (state_of b p)) (run second code (state_of (inside base b) q))
run_behind first second before base p0 q0 [] n b p q live plain alike nested there last = (q, refl, last)
run_behind first second before base p0 q0 (instr ∷ code) n b p q live plain alike nested there last =
    by_open (run_behind first second before base p0 q0 code n) (open_after instr (length b.conditions)) refl nested
  where
    by_open : ((b : Board) (p q : Progress) → is_live base ≡ true → is_unseparated code ≡ true → AreAlike first second b.separator
        → nesting code (length b.conditions) ≡ Some n → q.at ≡ before + p.at → IsLastBehind before p0 q0 p q
        → IsBehind before base p0 q0 (run first code (state_of b p)) (run second code (state_of (inside base b) q)))
        → (o : Option ℕ) → open_after instr (length b.conditions) ≡ o → option_and_then (nesting code) o ≡ Some n
        → IsBehind before base p0 q0 (run first (instr ∷ code) (state_of b p)) (run second (instr ∷ code) (state_of (inside base b) q))
    by_open more None is nested = absurd (none-some n nested)
    by_open more (Some k) is nested =
        let parts = and_parts (not (separates instr)) (is_unseparated code) plain in
        let a = around first (p.place + length (spelling instr)) 20 in
        let a′ = around second (q.place + length (spelling instr)) 20 in
        let p′ = progress_after instr b.conditions p in
        let q′ = progress_after instr (b.conditions ++ base) q in
        let there′ : q.at + 1 ≡ before + (p.at + 1) = omega (arith, there) in
        run_step first second before base p0 q0 code k p.at q.at p′ q′ b (board_after a instr b) (board_after a′ instr (inside base b))
        (instr_alike base k a a′ instr b live parts.0 (alike (p.place + length (spelling instr)) (q.place + length (spelling instr))) is)
        there alike
        (λ next count same. more next p′ q′ live parts.1 same (ap (nesting code) count ∙ nested) there′
        (last_behind (is_effective instr b.conditions) (is_effective instr (b.conditions ++ base)) before p.at q.at p.last q.last p0 q0
        (same_effect instr b.conditions base live) there last))

-- ---- executed instructions

live_outside : (base : List Bool) → is_live base ≡ true → is_live (outer base) ≡ true
live_outside [] live = live
live_outside (c ∷ base) live = (and_parts c (is_live base) live).1

outer_inside : (conditions base : List Bool) → is_live base ≡ true → is_live (outer (conditions ++ base)) ≡ is_live (outer conditions)
outer_inside [] base live = live_outside base live
outer_inside (c ∷ conditions) base live = live_inside conditions base live

same_executed : (instr : Instr) (conditions base : List Bool) → is_live base ≡ true
    → is_executed instr (conditions ++ base) ≡ is_executed instr conditions
same_executed (Push e) conditions base live = live_inside conditions base live
same_executed (Do opcode) conditions base live =
    ap (λ l. cond (ends_block opcode.0) (is_live (outer (conditions ++ base))) l) (live_inside conditions base live)
    ∙ ap (λ l. cond (ends_block opcode.0) l (is_live conditions)) (outer_inside conditions base live)

one_behind : (before at at′ : ℕ) (base : List Bool) (t t′ : Bool) (p q : Progress) (r : Result Board MachineCause) → t′ ≡ t
    → at′ ≡ before + at
    → executed_one t′ at′ (passed at′ q (all_inside base r)) ≡ all_executed_behind before (executed_one t at (passed at p r))
one_behind before at at′ base true false p q r same there = absurd (false≢true same)
one_behind before at at′ base false true p q r same there = absurd (false≢true (sym same))
one_behind before at at′ base true true p q (Err cause) same there = refl
one_behind before at at′ base false false p q (Err cause) same there = refl
one_behind before at at′ base false false p q (Ok next) same there = refl
one_behind before at at′ base true true p q (Ok next) same there =
    ap (λ n. record { at = n; height = length next.stack } ∷ []) there

executed_step : (first second : Setting) (before : ℕ) (base : List Bool) (code : List Instr) (k at at′ : ℕ) (t t′ : Bool)
    (p q : Progress) (b : Board) (r r′ : Result Board MachineCause) → IsAlike base k b r r′ → t′ ≡ t → at′ ≡ before + at
    → AreAlike first second b.separator
    → ((next : Board) → length next.conditions ≡ k → AreAlike first second next.separator
    → executed_in second code (Ok (state_of (inside base next) q)) ≡ all_executed_behind before (executed_in first code (Ok (state_of next p))))
    → executed_one t′ at′ (passed at′ q r′) ++ executed_in second code (passed at′ q r′)
    ≡ all_executed_behind before (executed_one t at (passed at p r) ++ executed_in first code (passed at p r))
executed_step first second before base code k at at′ t t′ p q b r r′ h same there alike more =
    ap (λ x. executed_one t′ at′ (passed at′ q x) ++ executed_in second code (passed at′ q x)) h.same
    ∙ ap (λ es. es ++ executed_in second code (passed at′ q (all_inside base r))) (one_behind before at at′ base t t′ p q r same there)
    ∙ by_result r h.goes
    ∙ sym (map-append (executed_behind before) (executed_one t at (passed at p r)) (executed_in first code (passed at p r)))
  where
    by_result : (r : Result Board MachineCause) → Goes k b r
        → all_executed_behind before (executed_one t at (passed at p r)) ++ executed_in second code (passed at′ q (all_inside base r))
        ≡ all_executed_behind before (executed_one t at (passed at p r)) ++ all_executed_behind before (executed_in first code (passed at p r))
    by_result (Err cause) goes =
        ap (λ es. all_executed_behind before (executed_one t at (passed at p (Err cause))) ++ es) (none code)
      where
        none : (code : List Instr) → executed_in second code (passed at′ q (Err cause)) ≡ all_executed_behind before (executed_in first code (passed at p (Err cause)))
        none [] = refl
        none (instr ∷ code) = refl
    by_result (Ok next) goes =
        ap (λ es. all_executed_behind before (executed_one t at (passed at p (Ok next))) ++ es)
        (more next goes.count (subst (λ s. AreAlike first second s) (sym goes.separator) alike))

pub executed_all_behind : (first second : Setting) (before : ℕ) (base : List Bool) (code : List Instr) (n : ℕ) (b : Board)
    (p q : Progress) → is_live base ≡ true → is_unseparated code ≡ true → AreAlike first second b.separator
    → nesting code (length b.conditions) ≡ Some n → q.at ≡ before + p.at
    → executed_in second code (Ok (state_of (inside base b) q)) ≡ all_executed_behind before (executed_in first code (Ok (state_of b p)))
executed_all_behind first second before base [] n b p q live plain alike nested there = refl
executed_all_behind first second before base (instr ∷ code) n b p q live plain alike nested there =
    by_open (executed_all_behind first second before base code n) (open_after instr (length b.conditions)) refl nested
  where
    by_open : ((b : Board) (p q : Progress) → is_live base ≡ true → is_unseparated code ≡ true → AreAlike first second b.separator
        → nesting code (length b.conditions) ≡ Some n → q.at ≡ before + p.at
        → executed_in second code (Ok (state_of (inside base b) q)) ≡ all_executed_behind before (executed_in first code (Ok (state_of b p))))
        → (o : Option ℕ) → open_after instr (length b.conditions) ≡ o → option_and_then (nesting code) o ≡ Some n
        → executed_in second (instr ∷ code) (Ok (state_of (inside base b) q))
        ≡ all_executed_behind before (executed_in first (instr ∷ code) (Ok (state_of b p)))
    by_open more None is nested = absurd (none-some n nested)
    by_open more (Some k) is nested =
        let parts = and_parts (not (separates instr)) (is_unseparated code) plain in
        let a = around first (p.place + length (spelling instr)) 20 in
        let a′ = around second (q.place + length (spelling instr)) 20 in
        let p′ = progress_after instr b.conditions p in
        let q′ = progress_after instr (b.conditions ++ base) q in
        let there′ : q.at + 1 ≡ before + (p.at + 1) = omega (arith, there) in
        executed_step first second before base code k p.at q.at (is_executed instr b.conditions) (is_executed instr (b.conditions ++ base))
        p′ q′ b (board_after a instr b) (board_after a′ instr (inside base b))
        (instr_alike base k a a′ instr b live parts.0 (alike (p.place + length (spelling instr)) (q.place + length (spelling instr))) is)
        (same_executed instr b.conditions base live) there alike
        (λ next count same. more next p′ q′ live parts.1 same (ap (nesting code) count ∙ nested) there′)

-- ---- code that stands alone

pub closes : (o : Option ℕ) → none_open o ≡ true → o ≡ Some 0
closes None h = absurd (false≢true h)
closes (Some zero) h = refl
closes (Some (suc around)) h = absurd (false≢true h)
