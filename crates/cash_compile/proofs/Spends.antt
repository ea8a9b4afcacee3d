-- Code whose run agrees with the source's run, behind whatever stands before it, makes spends that agree: each pair of built
-- scripts is decided by this run behind the pushes of the constructor's elements.
use Rattle.std.proofs.Common.{◌≡◌, ◌↔◌, ℕ, ◌+◌, ◌*◌, ◌≤◌, ◌<◌, inl, inr, Bool, true, false, cond, ◌||◌, List, [], ◌∷◌, ◌++◌, length, map, reverse, zero, suc, ◌-◌, pos, Some, None, Result, Ok, refl, sym, ap, ◌∙◌, subst, arith}
use Rattle.std.specs.Prelude.{slice_get, slice_index_or, IsTrue, nat_lt, if◌then◌else◌}
use Rattle.std.specs.List.{AllByRecursion, enumerate_from}
use Rattle.std.proofs.lemmas.Bool.{and_parts, and_from, eq-eqb, le-ltb}
use Rattle.std.proofs.lemmas.List.{length-append}
use Rattle.std.proofs.lemmas.Grind.{flat_map-append}
use mathlib.Core.List.{reverse_aux}
use Rattle.cash_base.specs.declared.fault.Cause.{Cause}
use Rattle.cash_base.specs.declared.fault.MachineCause.{MachineCause}
use Rattle.cash_base.specs.declared.fault.MachineCause.TheVariants.{Shared, EndFalse}
use Rattle.cash_base.specs.declared.place.Slot.{Slot}
use Rattle.cash_base.specs.Element.{IsElement}
use Rattle.cash_base.specs.Failing.{◌>>=◌}
use Rattle.cash_base.specs.Number.{truth_of, minimal_bytes}
use Rattle.cash_tree.specs.declared.Ty.{Ty}
use Rattle.cash_tree.specs.declared.Contract.{Contract}
use Rattle.cash_tree.specs.declared.Function.{Function}
use Rattle.source_meaning.specs.declared.outcome.SourceOutcome.{SourceOutcome}
use Rattle.source_meaning.specs.declared.outcome.SourceOutcome.TheVariants.{Met, Failed}
use Rattle.tx_context.specs.Transaction.{InputParts, plain_input, Transaction, Locking}
use Rattle.tx_context.specs.World.{filled_input, filled_inputs, filled_context}
use Rattle.tx_context.specs.Table as verdict
use Rattle.tx_context.proofs.Amounts.{active_in_frame}
use Rattle.script_codec.specs.declared.instr.Instr.{Instr}
use Rattle.script_codec.specs.Reading.{reading, push}
use Rattle.script_codec.specs.Spelling.{are_instructions, spelling, spellings, minimal_push}
use Rattle.script_codec.specs.Counting.{counted_in}
use Rattle.script_codec.proofs.Sizes.{push_size}
use Rattle.opcode_table.specs.Stack.{Stack}
use Rattle.bch_vm.specs.declared.outcome.Which.TheVariants.{Redeem}
use Rattle.bch_vm.specs.declared.outcome.Which.TheVariants as script
use Rattle.bch_vm.specs.declared.outcome.MachineOutcome.{MachineOutcome}
use Rattle.bch_vm.specs.declared.outcome.MachineOutcome.TheVariants.{Accepted, Refused}
use Rattle.bch_vm.specs.Setting.{Setting, setting_in}
use Rattle.bch_vm.specs.Script.{State, Progress, progress_after, state, beginning, run, balanced, run_end, stack_at_end, Failure}
use Rattle.bch_vm.specs.Course.{Course, Gives, Stops, ◌>>◌, outcome_of}
use Rattle.bch_vm.specs.Spend.{top_check, clean, spend_outcome}
use Rattle.bch_vm.specs.Law as spends
use Rattle.bch_vm.specs.Law.{unlocking_script, locking_script, are_keys_known, decided_by, IsRedeemed, IsSmall}
use Rattle.span_map.specs.declared.SpanRow.{SpanRow}
use Rattle.span_map.specs.Places.{place_of, place_after}
use Rattle.unlocker.specs.Scripts.{redeem_code, redeem_script, handed_in, spending_script}
use Rattle.cash_compile.specs.Correct.{run_of, world_of, spend_in, IsSameCause, Agrees, SpendsAgree, Decides, is_limit, is_limited, MeetsNoLimit}
use Rattle.cash_compile.specs.Runs.{start, FailsOrEndsFalse, AgreesAlone, DecidesByRun, AgreesByRun}
use Rattle.tidied_code.specs.Ends.{LeavesOne, EndsAs}

-- ---- the pushes of the constructor's elements

-- so many instructions further on
record Further (setting : Setting) (code : List Instr) (before after : List Instr) (n : ℕ) (stack left : Stack) (p : Progress) : Type 0 where
  progress : Progress
  at : progress.at ≡ p.at + n
  same : run setting (before ++ code) (state stack p) ≡ run setting (after ++ code) (state left progress)

pushed : (setting : Setting) (code : List Instr) (xs more stack : Stack) (p : Progress)
    → Further setting code (map push (reverse_aux xs more)) (map push more) (length xs) stack (xs ++ stack) p
pushed setting code [] more stack p = record { progress = p; at = omega arith; same = refl }
pushed setting code (x ∷ xs) more stack p =
    let h = pushed setting code xs (x ∷ more) stack p in
    let at = h.at in
    record { progress = progress_after (push x) [] h.progress; at = omega (arith, at); same = h.same }

-- ---- the end of the redeem script

abbrev after : ℕ → Stack → MachineOutcome
after last stack = outcome_of (top_check Redeem EndFalse last stack >> Stops (clean Redeem last stack))

abbrev checked_top : ℕ → Bool → Course (Unit {0})
checked_top last t = if t then Gives tt else Stops (Refused Redeem last EndFalse)

abbrev end_by : ℕ → Bool → MachineOutcome
end_by last t = outcome_of (checked_top last t >> Stops Accepted)

abbrev closed : Result State Failure → Result State Failure
closed r = r >>= λ s. balanced s.board.conditions s

one_closed : (s : State) → s.board.conditions ≡ [] → closed (Ok s) ≡ Ok s
one_closed s none = ap (λ (c : List Bool). balanced c s) none

one_left : (s : State) (e : List ℕ) (t : Bool) → s.board.stack ≡ e ∷ [] → truth_of e ≡ t → decided_by (Ok s) ≡ end_by s.progress.last t
one_left s e t left is = ap (after s.progress.last) left ∙ ap (end_by s.progress.last) is

one_decided : (r : Result State Failure) (s : State) (t : Bool) → r ≡ Ok s → LeavesOne t s → decided_by (closed r) ≡ end_by s.progress.last t
one_decided r s t is one = ap (λ (o : Result State Failure). decided_by (closed o)) is ∙ ap decided_by (one_closed s one.3) ∙ one_left s one.0 t one.1 one.2

-- behind so many pushes the place is that of the row
place_behind : (rows : List SpanRow) (before at : ℕ) (cause : MachineCause) → place_after rows before (before + at) cause ≡ place_of rows at cause
place_behind rows before at cause =
    let late : before ≤ before + at = omega arith in
    let index : (before + at) - before ≡ at = omega arith in
    ap (λ (t : Bool). cond t None (place_of rows ((before + at) - before) cause)) (le-ltb (before + at) before late)
    ∙ ap (λ (k : ℕ). place_of rows k cause) index

agrees_at_end : (rows : List SpanRow) (before : ℕ) (outcome : SourceOutcome) (r : Result State Failure) → EndsAs rows before outcome r → Agrees rows before (decided_by (closed r)) outcome
agrees_at_end rows before Met r (s, is, one) =
    subst (λ (o : MachineOutcome). Agrees rows before o Met) (sym (one_decided r s true is one)) tt
agrees_at_end rows before (Failed span cause) r (inl (at, is, place)) =
    subst (λ (o : Result State Failure). Agrees rows before (decided_by (closed o)) (Failed span cause)) (sym is)
    (place_behind rows before at (Shared cause) ∙ place, inl refl)
agrees_at_end rows before (Failed span cause) r (inr (s, is, one, checks, (at, last, place))) =
    subst (λ (o : MachineOutcome). Agrees rows before o (Failed span cause)) (sym (one_decided r s false is one))
    (ap (λ (k : ℕ). place_after rows before k EndFalse) last ∙ place_behind rows before at EndFalse ∙ place, inr (refl, checks))

-- ---- the run alone decides

ends_decide : (rows : List SpanRow) (before : ℕ) (outcome : SourceOutcome) (r : Result State Failure) → EndsAs rows before outcome r → AgreesAlone outcome (stack_at_end (closed r))
ends_decide rows before Met r (s, is, one) = (one.0, ap (λ (o : Result State Failure). stack_at_end (closed o)) is ∙ ap stack_at_end (one_closed s one.3) ∙ ap Ok one.1, one.2)
ends_decide rows before (Failed span cause) r (inl (at, is, place)) =
    subst (λ (o : Result State Failure). FailsOrEndsFalse (stack_at_end (closed o))) (sym is) tt
ends_decide rows before (Failed span cause) r (inr (s, is, one, checks, at)) =
    subst (λ (o : Result Stack Failure). FailsOrEndsFalse o)
    (sym (ap (λ (o : Result State Failure). stack_at_end (closed o)) is ∙ ap stack_at_end (one_closed s one.3) ∙ ap Ok one.1))
    (one.0, refl, one.2)

pub decides_by_run : (contract : Contract Slot Ty) (code : List Instr) (rows : List SpanRow) → AgreesByRun contract code rows → DecidesByRun contract code
decides_by_run contract code rows h call function world called =
    ends_decide rows 0 (run_of contract function call world) (run (setting_in world code) code (state (start contract call) beginning))
    (h call function world code beginning called)

-- ---- the input that is spent

active_from : (n k active : ℕ) (locking unlocking : List ℕ) (xs : List (InputParts Locking)) (d : InputParts (List ℕ)) → active ≡ n + k → k < length xs
    → (i : InputParts Locking) × (slice_index_or (filled_inputs active locking unlocking (enumerate_from n xs)) k d ≡ filled_input true locking unlocking i)
active_from n k active locking unlocking [] d at within = absurd (omega (arith, within))
active_from n zero active locking unlocking (x ∷ xs) d at within =
    (x, ap (λ (t : Bool). filled_input t locking unlocking x) (eq-eqb n active (omega (arith, at))))
active_from n (suc k) active locking unlocking (x ∷ xs) d at within =
    active_from (n + 1) k active locking unlocking xs d (omega (arith, at)) (omega (arith, within))

-- ---- what the unlocking script has at most

pushes_size : (xs more : Stack) → AllByRecursion IsElement xs → length (spellings (map push (reverse_aux xs more))) ≤ 523 * length xs + length (spellings (map push more))
pushes_size [] more all = omega arith
pushes_size (x ∷ xs) more all =
    let one = push_size x in
    let most = all.0.size in
    let rest = pushes_size xs (x ∷ more) all.1 in
    let split = length-append (minimal_push x) (spellings (map push more)) in
    omega (arith, one, most, rest, split)

unlocking_size : (elements : Stack) (redeem : List ℕ) → AllByRecursion IsElement elements → length elements ≤ 17 → length redeem ≤ 520 → length (unlocking_script elements redeem) ≤ 10000
unlocking_size elements redeem all few size =
    let pushes = pushes_size elements [] all in
    let last = push_size redeem in
    let whole = ap length (flat_map-append spelling (map push (reverse elements)) (push redeem ∷ [])) ∙ length-append (spellings (map push (reverse elements))) (minimal_push redeem ++ []) in
    let end = length-append (minimal_push redeem) [] in
    omega (arith, pushes, last, size, whole, end, few)

-- what is handed in: the arguments, and a number where there are several functions
handed_count : (functions chosen : ℕ) (args : Stack) → length args ≤ 16 → length (handed_in functions chosen args) ≤ 17
handed_count functions chosen args few = by (nat_lt functions 2)
  where
    by : (t : Bool) → length (cond t args (minimal_bytes (pos chosen) ∷ args)) ≤ 17
    by true = omega (arith, few)
    by false = omega (arith, few)

abbrev pub Written : Type 0
Written = (n : ℕ) → IsElement (minimal_bytes (pos n))

handed_elements : Written → (functions chosen : ℕ) (args : Stack) → AllByRecursion IsElement args → AllByRecursion IsElement (handed_in functions chosen args)
handed_elements written functions chosen args all = by (nat_lt functions 2)
  where
    by : (t : Bool) → AllByRecursion IsElement (cond t args (minimal_bytes (pos chosen) ∷ args))
    by true = all
    by false = (written chosen, all)

-- ---- code behind pushes

all_spelled : (xs : Stack) (code : List Instr) → are_instructions code ≡ true → are_instructions (map push xs ++ code) ≡ true
all_spelled [] code is = is
all_spelled (x ∷ xs) code is = all_spelled xs code is

known_later : (code : List Instr) → are_keys_known false code ≡ true → are_keys_known true code ≡ true
known_later [] is = refl
known_later (instr ∷ code) is = (and_parts _ _ is).1

known_anyhow : (before : Bool) (code : List Instr) → are_keys_known false code ≡ true → are_keys_known before code ≡ true
known_anyhow true code is = known_later code is
known_anyhow false code is = is

any_or : (before : Bool) → (before || true) ≡ true
any_or true = refl
any_or false = refl

keys_behind : (before : Bool) (xs : Stack) (code : List Instr) → are_keys_known false code ≡ true → are_keys_known before (map push xs ++ code) ≡ true
keys_behind before [] code is = known_anyhow before code is
keys_behind before (x ∷ xs) code is = and_from _ _ (any_or before) (keys_behind (spends.pushes_key_count (push x)) xs code is)

-- ---- all spends

abbrev pub Law : Type 0
Law = (elements : Stack) (code : List Instr) (context : Transaction (List ℕ)) (verdicts : List verdict.Row)
    → IsRedeemed elements code context → IsSmall elements code → spend_outcome context verdicts ≡ decided_by (run_end (spends.world_of code context verdicts) code elements)

-- pushes in front of code count nothing, where the code doesn't begin with a check of several signatures
abbrev pub PushesCountNothing : Type 0
PushesCountNothing = (xs : Stack) (code : List Instr) → IsTrue (are_instructions code) → IsTrue (are_keys_known false code)
    → counted_in (reading (spellings (map push xs ++ code))) ≡ counted_in (reading (spellings code))

-- what is known of code that is within the limits
pub record IsGood (contract : Contract Slot Ty) (code : List Instr) : Type 0 where
  pub spelled : IsTrue (are_instructions code)
  pub keys : IsTrue (are_keys_known false code)
  pub opcodes : counted_in (reading (spellings code)) ≤ 201
  -- each function has at most 16 parameters
  pub few : (chosen : ℕ) (function : Function Slot Ty) → slice_get contract.functions chosen ≡ Some function → length function.params ≤ 16

pub spends_agree : Law → Written → PushesCountNothing → (contract : Contract Slot Ty) (code : List Instr) (rows : List SpanRow)
    → IsGood contract code → AgreesByRun contract code rows → SpendsAgree contract code rows
spends_agree law written uncounted contract code rows good h call function outside admits within =
    let called = admits.called in
    let functions = length contract.functions in
    let elements = handed_in functions call.chosen call.args in
    let all = redeem_code code call.ctor in
    let redeem = redeem_script code call.ctor in
    let locking = locking_script redeem in
    let unlocking = spending_script functions call.chosen call.args redeem in
    let frame = outside.frame in
    let world = world_of functions code call outside in
    let active = active_from 0 frame.active frame.active locking unlocking frame.inputs (plain_input 0 [] []) (omega arith) (active_in_frame frame within.frame) in
    let params = good.few call.chosen function called.found in
    let count = called.arg_count in
    let most : length call.args ≤ 16 = omega (arith, count, params) in
    let few = handed_count functions call.chosen call.args most in
    let are_elements = handed_elements written functions call.chosen call.args called.arg_elements in
    let redeemed : IsRedeemed elements all (filled_context frame locking unlocking) = record {
      are_elements = are_elements;
      spelled = all_spelled (reverse call.ctor) code good.spelled;
      redeem_size = admits.size;
      unlocking_size = unlocking_size elements redeem are_elements few admits.size;
      unlocking = ap (λ (i : InputParts (List ℕ)). i.unlocking) active.1;
      locking = ap (λ (i : InputParts (List ℕ)). i.locking) active.1;
    } in
    let same = uncounted (reverse call.ctor) code good.spelled good.keys in
    let low = good.opcodes in
    let small : IsSmall elements all = record {
      few = omega (arith, few);
      opcodes = omega (arith, same, low);
      keys = keys_behind false (reverse call.ctor) code good.keys;
    } in
    let outcome = run_of contract function call world in
    let further = pushed (setting_in world all) code call.ctor [] elements beginning in
    let at = further.at in
    let before : further.progress.at ≡ length call.ctor = omega (arith, at) in
    let ends : EndsAs rows (length call.ctor) outcome (run (setting_in world all) code (state (start contract call) further.progress)) =
    subst (λ (n : ℕ). EndsAs rows n outcome (run (setting_in world all) code (state (start contract call) further.progress))) before
    (h call function world all further.progress called) in
    let ends_all : EndsAs rows (length call.ctor) outcome (run (setting_in world all) all (state elements beginning)) =
    subst (λ (r : Result State Failure). EndsAs rows (length call.ctor) outcome r) (sym further.same) ends in
    subst (λ (o : MachineOutcome). Agrees rows (length call.ctor) o outcome)
    (sym (law elements all (filled_context frame locking unlocking) outside.verdicts redeemed small))
    (agrees_at_end rows (length call.ctor) outcome (run (setting_in world all) all (state elements beginning)) ends_all)

-- ---- what the machine accepts

-- an outcome that agrees with a run is accepted exactly where the run is met
accepts_exactly : (rows : List SpanRow) (before : ℕ) (outcome : MachineOutcome) (run : SourceOutcome) → Agrees rows before outcome run → (outcome ≡ Accepted) ↔ (run ≡ Met)
accepts_exactly rows before Accepted Met agrees = (λ is. refl, λ is. refl)
accepts_exactly rows before (Refused Redeem at cause) (Failed span fault) agrees = (λ is. absurd cc, λ is. absurd cc)
accepts_exactly rows before (Refused script.Unlocking at cause) run agrees = absurd agrees
accepts_exactly rows before (Refused script.Locking at cause) run agrees = absurd agrees
accepts_exactly rows before (Refused Redeem at cause) Met agrees = absurd agrees
accepts_exactly rows before Accepted (Failed span fault) agrees = absurd agrees

pub spends_decide : (contract : Contract Slot Ty) (code : List Instr) (rows : List SpanRow) → SpendsAgree contract code rows → Decides contract code
spends_decide contract code rows h call function outside admits within =
    let world = world_of (length contract.functions) code call outside in
    accepts_exactly rows (length call.ctor) (spend_in world) (run_of contract function call world) (h call function outside admits within)

-- what agrees with a run is no refusal for a limit, since a run of a source knows none
same_cause_limit : (cause : MachineCause) (fault : Cause) → IsSameCause cause fault → is_limit cause ≡ false
same_cause_limit cause fault (inl is) = ap is_limit is
same_cause_limit cause fault (inr is) = ap is_limit is.0

no_limit : (rows : List SpanRow) (before : ℕ) (outcome : MachineOutcome) (run : SourceOutcome) → Agrees rows before outcome run → is_limited outcome ≡ false
no_limit rows before Accepted run agrees = refl
no_limit rows before (Refused Redeem at cause) (Failed span fault) agrees = same_cause_limit cause fault agrees.1
no_limit rows before (Refused script.Unlocking at cause) run agrees = absurd agrees
no_limit rows before (Refused script.Locking at cause) run agrees = absurd agrees
no_limit rows before (Refused Redeem at cause) Met agrees = absurd agrees

pub spends_meet_none : (contract : Contract Slot Ty) (code : List Instr) (rows : List SpanRow) → SpendsAgree contract code rows → MeetsNoLimit contract code
spends_meet_none contract code rows h call function outside admits within =
    let world = world_of (length contract.functions) code call outside in
    no_limit rows (length call.ctor) (spend_in world) (run_of contract function call world) (h call function outside admits within)
