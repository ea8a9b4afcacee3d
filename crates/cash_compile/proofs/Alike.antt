-- The code of a function runs as the function's source does, behind whatever stands before it, and in whichever code it stands.
use Rattle.std.proofs.Common.{◌≡◌, ℕ, ◌+◌, ◌≤◌, inl, inr, Bool, true, IsTrue, List, [], ◌∷◌, ◌++◌, length, map, zero, suc, Some, None, Result, Ok, Err, refl, sym, ap, ◌∙◌, subst, arith}
use Rattle.std.specs.Prelude.{slice_get, option_map, unwrap_or, take}
use Rattle.std.proofs.lemmas.Bool.{and_parts, and_from}
use Rattle.std.proofs.lemmas.List.{length-append, map-append, take_all, take_more}
use Rattle.std.proofs.lemmas.Option.{same_Some, slice_get-map, unwrap_or-slice_get}
use Rattle.cash_base.specs.declared.fault.MachineCause.{MachineCause}
use Rattle.cash_base.specs.declared.fault.MachineCause.TheVariants.{Shared, EndFalse}
use Rattle.cash_base.specs.declared.place.Slot.{Slot}
use Rattle.cash_base.specs.declared.place.Span.{Span}
use Rattle.cash_base.specs.Failing.{◌>>=◌}
use Rattle.cash_base.specs.Source.{place_in}
use Rattle.cash_tree.specs.declared.Ty.{Ty}
use Rattle.cash_tree.specs.declared.Contract.{Contract}
use Rattle.cash_tree.specs.declared.Function.{Function}
use Rattle.source_meaning.specs.declared.outcome.SourceOutcome.{SourceOutcome}
use Rattle.source_meaning.specs.declared.outcome.SourceOutcome.TheVariants.{Met, Failed}
use Rattle.script_codec.specs.declared.spans.Spanned.{Spanned}
use Rattle.opcode_table.specs.Stack.{Stack}
use Rattle.bch_vm.specs.Board.{board}
use Rattle.bch_vm.specs.Setting.{setting_in}
use Rattle.bch_vm.specs.Script.{State, state_of, state, beginning, run, balanced, Progress, Failure}
use Rattle.span_map.specs.Places.{place_of}
use Rattle.row_runs.specs.Rows.{Machine, machine, Next, Executed, executed, last_of, run_rows}
use Rattle.row_runs.specs.Code.{is_simple, are_simple}
use Rattle.rows_behind.specs.Behind.{EndsAlikeBehind, RunsBehind}
use Rattle.slot_code.specs.declared.slots.SlotFunction.{SlotFunction}
use Rattle.slot_code.specs.Meaning.{handed, slot_outcome}
use Rattle.slot_code.specs.Shape.{first_slots}
use Rattle.slot_lowering.specs.Functions.{HasCounts, RunsAs}
use Rattle.stack_emitter.specs.Codes.{is_sound, are_sound}
use Rattle.stack_emitter.specs.Correct.{value}
use Rattle.stack_schedule.specs.Schedule as scheduled
use Rattle.stack_schedule.specs.Schedule.{HasForm, EndsOnItsOwn}
use Rattle.row_runs.specs.Rows.{instructions}
use Rattle.tidied_code.specs.Ends.{EndsAs, places}
use Rattle.cash_compile.specs.Code.{FunctionAgrees}

-- ---- the elements that the first slots hold

abbrev hand : Stack → Slot → List ℕ
hand xs slot = unwrap_or (slice_get xs slot.0) []

first_elements : (xs : Stack) (n : ℕ) → n ≤ length xs → map (hand xs) (first_slots n) ≡ take n xs
first_elements xs zero few = refl
first_elements xs (suc n) few =
    let before = first_elements xs n (omega (arith, few)) in
    let on : n + 1 ≡ suc n = omega arith in
    map-append (hand xs) (first_slots n) (record { 0 = n } ∷ [])
    ∙ ap (λ (l : Stack). l ++ hand xs (record { 0 = n }) ∷ []) before
    ∙ ap (λ (e : List ℕ). take n xs ++ e ∷ []) (unwrap_or-slice_get xs n [])
    ∙ sym (take_more xs n [] (omega (arith, few)))
    ∙ ap (λ (k : ℕ). take k xs) on

all_elements : (xs : Stack) (n : ℕ) → n ≡ length xs → map (hand xs) (first_slots n) ≡ xs
all_elements xs n is = first_elements xs n (omega (arith, is)) ∙ take_all n xs (omega (arith, is))

-- ---- rows and their places

place_at : (rows : List Spanned) (at : ℕ) (cause : MachineCause) (row : Spanned) → slice_get rows at ≡ Some row
    → place_of (map places rows) at cause ≡ Some (place_in row.doing row.checking cause)
place_at rows at cause row found =
    ap (option_map (λ p. place_in p.doing p.checking cause)) (slice_get-map places rows at ∙ ap (option_map places) found)

sound_simple : (rows : List Spanned) → are_sound rows ≡ true → are_simple rows ≡ true
sound_simple [] sound = refl
sound_simple (r ∷ rows) sound =
    let parts = and_parts (is_sound r.instr) (are_sound rows) sound in
    and_from (is_simple r.instr) (are_simple rows) (and_parts _ _ (and_parts _ _ parts.0).1).0 (sound_simple rows parts.1)

-- ---- equations of results

abbrev End : Type 0
End = Result State Failure

abbrev state_or : State → End → State
state_or d (Ok s) = s
state_or d (Err f) = d

same_state : (a b : State) → ◌≡◌ {A = End} (Ok a) (Ok b) → a ≡ b
same_state a b is = ap (state_or a) is

abbrev failure_or : Failure → End → Failure
failure_or d (Ok s) = d
failure_or d (Err f) = f

same_failure : (a b : Failure) → ◌≡◌ {A = End} (Err a) (Err b) → a ≡ b
same_failure a b is = ap (failure_or a) is

-- ---- the run of the code, behind others

abbrev closed : End → End
closed r = r >>= λ s. balanced s.board.conditions s

-- a run of the rows that ends, once at the beginning and once behind others
ends_alike : (rows : List Spanned) (outcome : SourceOutcome) (before : ℕ) (stack : Stack) (conditions : List Bool) (p q : Progress) (e : Executed)
    → p.last ≡ 0 + e.at → q.last ≡ before + e.at
    → scheduled.EndsAs rows outcome (balanced conditions (state_of (board stack [] conditions 0) p))
    → EndsAs (map places rows) before outcome (Ok (state_of (board stack [] conditions 0) q))
ends_alike rows Met before stack [] p q e first second (s, is, (x, left, truth)) =
    let same = same_state (state_of (board stack [] [] 0) p) s is in
    (state_of (board stack [] [] 0) q, refl, (x, ap (λ (t : State). t.board.stack) same ∙ left, truth, refl))
ends_alike rows Met before stack (c ∷ conditions) p q e first second (s, is, one) = absurd cc
ends_alike rows (Failed span cause) before stack [] p q e first second (inl (at, is, tells)) = absurd cc
ends_alike rows (Failed span cause) before stack (c ∷ conditions) p q e first second (inl (at, is, tells)) =
    absurd (let same = ap (λ (f : Failure). f.cause) (same_failure _ _ is) in cc)
ends_alike rows (Failed span cause) before stack [] p q e first second (inr (s, is, (x, left, truth), checks, (row, found, place))) =
    let same = same_state (state_of (board stack [] [] 0) p) s is in
    let last : s.progress.last ≡ e.at = omega (arith, ap (λ (t : State). t.progress.last) same, first) in
    let there : slice_get rows e.at ≡ Some row = ap (slice_get rows) (sym last) ∙ found in
    inr (
      state_of (board stack [] [] 0) q,
      refl,
      (x, ap (λ (t : State). t.board.stack) same ∙ left, truth, refl),
      checks,
      (e.at, second, place_at rows e.at EndFalse row there ∙ ap Some place),
    )
ends_alike rows (Failed span cause) before stack (c ∷ conditions) p q e first second (inr (s, is, one, checks, tells)) = absurd cc

-- a run of the rows that fails
fails_alike : (rows : List Spanned) (outcome : SourceOutcome) (before at there : ℕ) (span : Span) (cause : MachineCause) (row here : Spanned)
    → slice_get rows at ≡ Some row → span ≡ place_in row.doing row.checking cause
    → slice_get rows there ≡ Some here → span ≡ place_in here.doing here.checking cause
    → scheduled.EndsAs rows outcome (Err (record { at = 0 + at; cause = cause }))
    → EndsAs (map places rows) before outcome (Err (record { at = before + there; cause = cause }))
fails_alike rows Met before at there span cause row here found place found_ place_ (s, is, one) = absurd cc
fails_alike rows (Failed told fault) before at there span cause row here found place found_ place_ (inl (k, is, (other, got, tells))) =
    let same = same_failure (record { at = 0 + at; cause = cause }) (record { at = k; cause = Shared fault }) is in
    let index : at ≡ k = omega (arith, ap (λ (f : Failure). f.at) same) in
    let alike : cause ≡ Shared fault = ap (λ (f : Failure). f.cause) same in
    let one : row ≡ other = same_Some row other (sym found ∙ ap (slice_get rows) index ∙ got) in
    let spans : place_in here.doing here.checking (Shared fault) ≡ told =
    ap (place_in here.doing here.checking) (sym alike) ∙ sym place_ ∙ place ∙ ap (λ (r : Spanned). place_in r.doing r.checking cause) one
    ∙ ap (place_in other.doing other.checking) alike ∙ tells in
    inl (
      there,
      ap (λ (c : MachineCause). Err (record { at = before + there; cause = c })) alike,
      place_at rows there (Shared fault) here found_ ∙ ap Some spans,
    )
fails_alike rows (Failed told fault) before at there span cause row here found place found_ place_ (inr (s, is, one, checks, tells)) = absurd cc

-- the run of the machine, by that of the rows
behind : (rows : List Spanned) (outcome : SourceOutcome) (before : ℕ) (log : List Executed) (next : Next) (first second : End)
    → ((m : Machine) → next ≡ Ok m → (e : Executed) × (last_of None log ≡ Some e))
    → EndsAlikeBehind rows log 0 next first → EndsAlikeBehind rows log before next second
    → scheduled.EndsAs rows outcome (closed first) → EndsAs (map places rows) before outcome second
behind rows outcome before log (Ok m) first second own (p, first_is, p_last) (q, second_is, q_last) ends =
    let e = own m refl in
    subst (EndsAs (map places rows) before outcome) (sym second_is)
    (ends_alike rows outcome before m.stack m.conditions p q e.0 (p_last.index e.0 e.1) (q_last.index e.0 e.1)
    (subst (λ (r : End). scheduled.EndsAs rows outcome (closed r)) first_is ends))
behind rows outcome before log (Err f) first second own (at, row, found, place, first_is) (there, here, found_, place_, second_is) ends =
    subst (EndsAs (map places rows) before outcome) (sym second_is)
    (fails_alike rows outcome before at there f.span f.cause row here found place found_ place_
    (subst (λ (r : End). scheduled.EndsAs rows outcome (closed r)) first_is ends))

abbrev pub Law : Type 0
Law = (rows : List Spanned) → IsTrue (are_simple rows) → RunsBehind rows

pub function_agrees : Law → (contract : Contract Slot Ty) (f : Function Slot Ty) (g : SlotFunction) (layout : List Slot) (rows : List Spanned)
    → layout ≡ first_slots (g.ctors + g.params) → HasCounts contract f g → RunsAs contract f g
    → scheduled.Decides g layout rows → EndsOnItsOwn layout rows → HasForm rows → FunctionAgrees contract f rows
function_agrees law contract f g layout rows layout_is counts runs_as decides own form ctor args world whole progress ctor_count arg_count =
    let env = handed ctor args in
    let ctors = counts.ctors in
    let params = counts.params in
    let both = length-append ctor args in
    let size : g.ctors + g.params ≡ length (ctor ++ args) = omega (arith, both, ctors, params, ctor_count, arg_count) in
    let stack : map (value env) layout ≡ ctor ++ args =
    ap (map (value env)) layout_is ∙ all_elements (ctor ++ args) (g.ctors + g.params) size in
    let simple = sound_simple rows form.sound in
    let given = map (value env) layout in
    let start = machine given [] in
    let log = executed world 0 rows start in
    let first = run (setting_in world (instructions rows)) (instructions rows) (state given beginning) in
    let second = run (setting_in world whole) (instructions rows) (state given progress) in
    let ends : EndsAs (map places rows) progress.at (slot_outcome g ctor args world) second =
    behind rows (slot_outcome g ctor args world) progress.at log (run_rows world rows start) first second
    (λ m is. own world env m is) (law rows simple world (instructions rows) given beginning) (law rows simple world whole given progress)
    (decides world env) in
    subst (λ (o : SourceOutcome). EndsAs (map places rows) progress.at o (run (setting_in world whole) (instructions rows) (state (ctor ++ args) progress)))
    (runs_as.runs ctor args world ctor_count arg_count)
    (subst (λ (xs : Stack). EndsAs (map places rows) progress.at (slot_outcome g ctor args world) (run (setting_in world whole) (instructions rows) (state xs progress))) stack ends)
