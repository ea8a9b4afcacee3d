-- The code of a contract runs as the contract's functions do: the code of one function is that function's, and the code of
-- several runs the function that is chosen.
use Rattle.std.proofs.Common.{◌≡◌, ℕ, ◌+◌, ◌^◌, ◌≤◌, ◌<◌, inl, inr, Bool, true, false, cond, List, [], ◌∷◌, ◌++◌, length, map, zero, suc, pos, Some, Result, Ok, Err, refl, sym, ap, ◌∙◌, subst, arith}
use Rattle.std.specs.Prelude.{slice_get, ℤ, unsigned_abs}
use Rattle.std.specs.List.{AllZip}
use Rattle.std.proofs.lemmas.Bool.{le-ltb}
use Rattle.std.proofs.lemmas.List.{length-map, map-append}
use Rattle.std.proofs.lemmas.Option.{same_Some, none-some}
use Rattle.std.proofs.lemmas.Grind.{flat_map-append}
use Rattle.cash_base.specs.declared.fault.Cause.{Cause}
use Rattle.cash_base.specs.declared.fault.Cause.TheVariants.{CheckFailed}
use Rattle.cash_base.specs.declared.fault.MachineCause.{MachineCause}
use Rattle.cash_base.specs.declared.fault.MachineCause.TheVariants.{Shared, EndFalse, Unbalanced}
use Rattle.cash_base.specs.declared.place.Slot.{Slot}
use Rattle.cash_base.specs.declared.place.Span.{Span}
use Rattle.cash_base.specs.Failing.{◌>>=◌}
use Rattle.cash_base.specs.Number.{number_of, minimal_bytes}
use Rattle.cash_tree.specs.declared.Ty.{Ty}
use Rattle.cash_tree.specs.declared.Contract.{Contract}
use Rattle.source_meaning.specs.declared.outcome.SourceOutcome.{SourceOutcome}
use Rattle.source_meaning.specs.declared.outcome.SourceOutcome.TheVariants.{Met, Failed}
use Rattle.script_codec.specs.declared.instr.Instr.{Instr}
use Rattle.script_codec.specs.declared.spans.Spanned.{Spanned}
use Rattle.script_codec.specs.declared.spans.Marked.{Marked}
use Rattle.opcode_table.specs.Stack.{Stack}
use Rattle.bch_vm.specs.Board.{Board, board}
use Rattle.bch_vm.specs.Setting.{setting_in}
use Rattle.bch_vm.specs.Script.{State, state_of, state, beginning, run, balanced, Progress, Failure}
use Rattle.span_map.specs.declared.SpanRow.{SpanRow}
use Rattle.span_map.specs.Places.{place_of}
use Rattle.run_laws.specs.Nested.{nesting}
use Rattle.run_laws.specs.Branches.{past}
use Rattle.selector.specs.Pieces.{Piece, Own, Function as Piece-function, rows_of, code_of, functions_of}
use Rattle.selector.specs.Selection.{behind, IsAlone, Selects}
use Rattle.selector.proofs.Anywhere.{inside, IsBehind, run_behind, closes}
use Rattle.unlocker.specs.Scripts.{handed_in}
use Rattle.row_runs.specs.Rows.{instructions}
use Rattle.tidied_code.specs.Ends.{LeavesOne, EndsAs, places}
use Rattle.cash_compile.specs.Correct.{run_of}
use Rattle.cash_compile.specs.Runs.{start, AgreesByRun}
use Rattle.cash_compile.specs.Code.{FunctionAgrees}

abbrev pub AreAgreeing : Contract Slot Ty → List Marked → Type 0
AreAgreeing contract functions = AllZip (λ f (m : Marked). FunctionAgrees contract f m.code.items) contract.functions functions

-- ---- lists that stand side by side

both_at : {A B : Type 0} (R : A → B → Type 0) (xs : List A) (ys : List B) (k : ℕ) (x : A) (y : B) → AllZip R xs ys
    → slice_get xs k ≡ Some x → slice_get ys k ≡ Some y → R x y
both_at R [] ys k x y all found found_ = absurd (none-some x found)
both_at R (a ∷ xs) [] k x y all found found_ = absurd (none-some y found_)
both_at R (a ∷ xs) (b ∷ ys) zero x y all found found_ = subst (λ z. R x z) (same_Some b y found_) (subst (λ z. R z b) (same_Some a x found) all.0)
both_at R (a ∷ xs) (b ∷ ys) (suc k) x y all found found_ = both_at R xs ys k x y all.1 found found_

pub same_length : {A B : Type 0} (R : A → B → Type 0) (xs : List A) (ys : List B) → AllZip R xs ys → length xs ≡ length ys
same_length R [] [] all = refl
same_length R [] (b ∷ ys) all = absurd all
same_length R (a ∷ xs) [] all = absurd all
same_length R (a ∷ xs) (b ∷ ys) all = ap suc (same_length R xs ys all.1)

found_within : {A : Type 0} (xs : List A) (k : ℕ) (x : A) → slice_get xs k ≡ Some x → k < length xs
found_within [] k x found = absurd (none-some x found)
found_within (a ∷ xs) zero x found = omega arith
found_within (a ∷ xs) (suc k) x found = let less = found_within xs k x found in omega (arith, less)

-- ---- one function

pub one_agrees : (contract : Contract Slot Ty) (functions : List Marked) (function code : Marked) → AreAgreeing contract functions
    → functions ≡ function ∷ [] → IsAlone function code → AgreesByRun contract (instructions code.code.items) (map places code.code.items)
one_agrees contract functions function code all only alone call f world whole progress called =
    let count = same_length (λ g (m : Marked). FunctionAgrees contract g m.code.items) contract.functions functions all in
    let one : length contract.functions ≡ 1 = count ∙ ap length only in
    let first : slice_get functions 0 ≡ Some function = ap (λ (l : List Marked). slice_get l 0) only in
    let chosen = found_within contract.functions call.chosen f called.found in
    let none : call.chosen ≡ 0 = omega (arith, chosen, one) in
    let found : slice_get contract.functions 0 ≡ Some f = ap (slice_get contract.functions) (sym none) ∙ called.found in
    let agrees = both_at (λ g (m : Marked). FunctionAgrees contract g m.code.items) contract.functions functions 0 f function all found first in
    let handed : handed_in (length contract.functions) call.chosen call.args ≡ call.args =
    ap (λ (n : ℕ). handed_in n call.chosen call.args) one in
    let ends = agrees call.ctor call.args world whole progress called.ctor_count called.arg_count in
    subst (λ (rows : List Spanned). EndsAs (map places rows) progress.at (run_of contract f call world)
    (run (setting_in world whole) (instructions rows) (state (start contract call) progress))) (sym alone.rows)
    (subst (λ (xs : Stack). EndsAs (map places function.code.items) progress.at (run_of contract f call world)
    (run (setting_in world whole) (instructions function.code.items) (state (call.ctor ++ xs) progress))) (sym handed) ends)

-- ---- the place of a function's code

placed_in_front : (rows back : List SpanRow) (at : ℕ) (cause : MachineCause) (span : Span) → place_of rows at cause ≡ Some span
    → place_of (rows ++ back) at cause ≡ Some span
placed_in_front [] back at cause span is = absurd (none-some span is)
placed_in_front (r ∷ rows) back zero cause span is = is
placed_in_front (r ∷ rows) back (suc at) cause span is = placed_in_front rows back at cause span is

placed_behind : (front rows : List SpanRow) (at : ℕ) (cause : MachineCause) → place_of (front ++ rows) (length front + at) cause ≡ place_of rows at cause
placed_behind [] rows at cause = let same : 0 + at ≡ at = omega arith in ap (λ (k : ℕ). place_of rows k cause) same
placed_behind (r ∷ front) rows at cause =
    let index : length (r ∷ front) + at ≡ suc (length front + at) = omega arith in
    ap (λ (k : ℕ). place_of (r ∷ (front ++ rows)) k cause) index ∙ placed_behind front rows at cause

-- what has a place in a function's code has it in the whole, so many instructions further on
abbrev Placed : List SpanRow → List SpanRow → ℕ → Type 0
Placed rows whole before = (at : ℕ) (cause : MachineCause) (span : Span) → place_of rows at cause ≡ Some span → place_of whole (before + at) cause ≡ Some span

placed_among : (front rows back : List Spanned) (whole : List Spanned) (before : ℕ) → whole ≡ front ++ (rows ++ back) → before ≡ length front
    → Placed (map places rows) (map places whole) before
placed_among front rows back whole before is count at cause span place =
    let size = length-map front places in
    let index : before + at ≡ length (map places front) + at = omega (arith, count, size) in
    let split : map places whole ≡ map places front ++ (map places rows ++ map places back) =
    ap (map places) is ∙ map-append places front (rows ++ back) ∙ ap (λ (l : List SpanRow). map places front ++ l) (map-append places rows back) in
    ap (λ (k : ℕ). place_of (map places whole) k cause) index
    ∙ ap (λ (l : List SpanRow). place_of l (length (map places front) + at) cause) split
    ∙ placed_behind (map places front) (map places rows ++ map places back) at cause
    ∙ placed_in_front (map places rows) (map places back) at cause span place

function_at : (before : List Piece) (function : Marked) (after : List Piece)
    → slice_get (functions_of (before ++ (Piece-function function ∷ after))) (length (functions_of before)) ≡ Some function
function_at [] function after = refl
function_at (Own rows ∷ before) function after = function_at before function after
function_at (Piece-function first ∷ before) function after = function_at before function after

-- ---- how the whole ends

abbrev End : Type 0
End = Result State Failure

abbrev state_or : State → End → State
state_or d (Ok s) = s
state_or d (Err f) = d

abbrev failure_or : Failure → End → Failure
failure_or d (Ok s) = d
failure_or d (Err f) = f

same_failure : (a b : Failure) → ◌≡◌ {A = End} (Err a) (Err b) → a ≡ b
same_failure a b is = ap (failure_or a) is

abbrev closed : End → End
closed r = r >>= λ s. balanced s.board.conditions s

abbrev passed : List Instr → End → End
passed after r = r >>= λ t. Ok (past after t)

-- a run that ends closed is that state, and no condition is open
record IsClosed (t s : State) : Type 0 where
  same : t ≡ s
  none : t.board.conditions ≡ []

closed_ok : (t s : State) (conditions : List Bool) → t.board.conditions ≡ conditions → balanced conditions t ≡ Ok s → IsClosed t s
closed_ok t s [] none is = record { same = ap (state_or t) is; none = none }
closed_ok t s (c ∷ conditions) some is = absurd cc

never_shared : (t : State) (conditions : List Bool) (at : ℕ) (cause : Cause) → balanced conditions t ≡ Err (record { at = at; cause = Shared cause }) → ⊥
never_shared t [] at cause is = cc
never_shared t (c ∷ conditions) at cause is =
    let same = ap (λ (f : Failure). f.cause) (same_failure (record { at = t.progress.at; cause = Unbalanced }) (record { at = at; cause = Shared cause }) is) in
    cc

-- the whole's run from the beginning, the same behind others, and the run of the function
record Runs (before : ℕ) (after : List Instr) (progress : Progress) (alone first second : End) : Type 0 where
  some : 1 ≤ before
  runs : closed first ≡ passed after alone
  behind : IsBehind progress.at [] beginning progress first second

no_conditions : (b : Board) → b.conditions ≡ [] → (inside [] b).conditions ≡ []
no_conditions b none = ap (λ (c : List Bool). c ++ []) none

whole_met : (rows : List SpanRow) (before : ℕ) (after : List Instr) (progress : Progress) (first second : End) (s : State)
    → closed first ≡ Ok (past after s) → IsBehind progress.at [] beginning progress first second → LeavesOne true s → EndsAs rows progress.at Met second
whole_met rows before after progress (Err f) second s is here one = absurd cc
whole_met rows before after progress (Ok t) second s is (u, second_is, last) one =
    let h = closed_ok t (past after s) t.board.conditions refl is in
    (state_of (inside [] t.board) u, second_is, (one.0, ap (λ (v : State). v.board.stack) h.same ∙ one.1, one.2, no_conditions t.board h.none))

whole_fails : (rows whole : List SpanRow) (before : ℕ) (progress : Progress) (first second : End) (span : Span) (cause : Cause) (at : ℕ)
    → Placed rows whole before → closed first ≡ Err (record { at = before + at; cause = Shared cause }) → IsBehind progress.at [] beginning progress first second
    → place_of rows at (Shared cause) ≡ Some span → EndsAs whole progress.at (Failed span cause) second
whole_fails rows whole before progress (Ok t) second span cause at placed is here place = absurd (never_shared t t.board.conditions (before + at) cause is)
whole_fails rows whole before progress (Err f) second span cause at placed is here place =
    let same = same_failure f (record { at = before + at; cause = Shared cause }) is in
    inl (before + at, here ∙ ap (λ (g : Failure). Err (record { at = progress.at + g.at; cause = g.cause })) same, placed at (Shared cause) span place)

whole_false : (rows whole : List SpanRow) (before : ℕ) (after : List Instr) (progress : Progress) (first second : End) (span : Span) (cause : Cause) (s : State) (at : ℕ)
    → Placed rows whole before → 1 ≤ before → closed first ≡ Ok (past after s) → IsBehind progress.at [] beginning progress first second
    → LeavesOne false s → cause ≡ CheckFailed → s.progress.last ≡ before + at → place_of rows at EndFalse ≡ Some span
    → EndsAs whole progress.at (Failed span cause) second
whole_false rows whole before after progress (Err f) second span cause s at placed some is here one checks last place = absurd cc
whole_false rows whole before after progress (Ok t) second span cause s at placed some is (u, second_is, inl there) one checks last place =
    let h = closed_ok t (past after s) t.board.conditions refl is in
    let same : t.progress.last ≡ s.progress.last = ap (λ (v : State). v.progress.last) h.same in
    inr (
      state_of (inside [] t.board) u,
      second_is,
      (one.0, ap (λ (v : State). v.board.stack) h.same ∙ one.1, one.2, no_conditions t.board h.none),
      checks,
      (before + at, omega (arith, there, same, last), placed at EndFalse span place),
    )
whole_false rows whole before after progress (Ok t) second span cause s at placed some is (u, second_is, inr (unmoved, left)) one checks last place =
    let h = closed_ok t (past after s) t.board.conditions refl is in
    let same : t.progress.last ≡ s.progress.last = ap (λ (v : State). v.progress.last) h.same in
    absurd (omega (arith, some, unmoved, same, last))

whole_ends : (rows whole : List SpanRow) (before : ℕ) (after : List Instr) (progress : Progress) (outcome : SourceOutcome) (alone first second : End)
    → Placed rows whole before → Runs before after progress alone first second → EndsAs rows before outcome alone → EndsAs whole progress.at outcome second
whole_ends rows whole before after progress Met alone first second placed h (s, is, one) =
    whole_met whole before after progress first second s (h.runs ∙ ap (passed after) is) h.behind one
whole_ends rows whole before after progress (Failed span cause) alone first second placed h (inl (at, is, place)) =
    whole_fails rows whole before progress first second span cause at placed (h.runs ∙ ap (passed after) is) h.behind place
whole_ends rows whole before after progress (Failed span cause) alone first second placed h (inr (s, is, one, checks, (at, last, place))) =
    whole_false rows whole before after progress first second span cause s at placed h.some (h.runs ∙ ap (passed after) is) h.behind one checks last place

-- ---- several functions

abbrev pub Written : Type 0
Written = (n : ℤ) → unsigned_abs n < 2 ^ 63 → number_of (minimal_bytes n) ≡ Some n

handed_with : (functions chosen : ℕ) (args : Stack) → 2 ≤ functions → handed_in functions chosen args ≡ minimal_bytes (pos chosen) ∷ args
handed_with functions chosen args several = ap (λ (t : Bool). cond t args (minimal_bytes (pos chosen) ∷ args)) (le-ltb functions 2 several)

pub chosen_agrees : Written → (contract : Contract Slot Ty) (functions : List Marked) (ctors : ℕ) (code : Marked) → AreAgreeing contract functions
    → ctors ≡ length contract.params → 2 ≤ length functions → length functions ≤ 64 → Selects functions ctors contract.span code
    → AgreesByRun contract (instructions code.code.items) (map places code.code.items)
chosen_agrees written contract functions ctors code all ctors_is several few selects call f world whole progress called =
    let rows = code.code.items in
    let number = minimal_bytes (pos call.chosen) in
    let count = same_length (λ g (m : Marked). FunctionAgrees contract g m.code.items) contract.functions functions all in
    let within = found_within contract.functions call.chosen f called.found in
    let less : call.chosen < length functions = omega (arith, within, count) in
    let chosen = selects.chosen call.chosen less in
    let stands = chosen.place in
    let function = stands.function in
    let there : slice_get functions call.chosen ≡ Some function =
    ap (λ (l : List Marked). slice_get l call.chosen) (sym selects.in_order)
    ∙ ap (λ (l : List Piece). slice_get (functions_of l) call.chosen) stands.parts
    ∙ ap (slice_get (functions_of (stands.before ++ (Piece-function function ∷ stands.after)))) (sym stands.count)
    ∙ function_at stands.before function stands.after in
    let agrees = both_at (λ g (m : Marked). FunctionAgrees contract g m.code.items) contract.functions functions call.chosen f function all called.found there in
    let is_number = written (pos call.chosen) (omega (arith, less, few)) in
    let ctor_count : length call.ctor ≡ ctors = called.ctor_count ∙ sym ctors_is in
    let front = instructions (code_of stands.before) in
    let size = length-map (code_of stands.before) (λ (r : Spanned). r.instr) in
    let at = (chosen.executes world call.ctor call.args number ctor_count is_number).at in
    let handed = handed_with (length contract.functions) call.chosen call.args (omega (arith, several, count)) in
    let stack = call.ctor ++ number ∷ call.args in
    let own = setting_in world (instructions rows) in
    let first = run own (instructions rows) (state stack beginning) in
    let second = run (setting_in world whole) (instructions rows) (state stack progress) in
    let alone = run own (instructions function.code.items) (state (call.ctor ++ call.args) (behind front beginning)) in
    let outcome = run_of contract f call world in
    let split : rows ≡ code_of stands.before ++ (function.code.items ++ code_of stands.after) =
    selects.rows ∙ ap code_of stands.parts ∙ flat_map-append rows_of stands.before (Piece-function function ∷ stands.after) in
    let before : (behind front beginning).at ≡ length (code_of stands.before) = omega (arith, size) in
    let placed = placed_among (code_of stands.before) function.code.items (code_of stands.after) rows (behind front beginning).at split before in
    let runs : Runs (behind front beginning).at (instructions (code_of stands.after)) progress alone first second = record {
      some = omega (arith, at, before);
      runs = chosen.runs world call.ctor call.args number ctor_count is_number;
      behind = run_behind own (setting_in world whole) progress.at [] beginning progress (instructions rows) 0 (board stack [] [] 0) beginning progress refl selects.unseparated
          (λ x y. refl) (closes (nesting (instructions rows) 0) selects.nested) (omega arith) (inr (refl, refl));
    } in
    let ends = whole_ends (map places function.code.items) (map places rows) (behind front beginning).at (instructions (code_of stands.after)) progress outcome alone first second placed runs
    (agrees call.ctor call.args world (instructions rows) (behind front beginning) called.ctor_count called.arg_count) in
    subst (λ (xs : Stack). EndsAs (map places rows) progress.at outcome (run (setting_in world whole) (instructions rows) (state (call.ctor ++ xs) progress))) (sym handed) ends
