-- Steps of a spend are steps of the script that is run.
use Rattle.std.proofs.Common.{◌≡◌, ℕ, Bool, Some, None, Ok, List, sym, ap, ◌∙◌, subst}
use Rattle.tx_context.specs.Transaction.{Transaction}
use Rattle.tx_context.specs.Table as verdict
use Rattle.bch_vm.specs.declared.outcome.Which.{Which}
use Rattle.bch_vm.specs.declared.outcome.Step.TheVariants.{Ran}
use Rattle.bch_vm.specs.declared.phase.Phase.{Phase}
use Rattle.bch_vm.specs.declared.phase.Phase.TheVariants.{Running}
use Rattle.bch_vm.specs.Setting.{setting_of}
use Rattle.bch_vm.specs.Script.{Counted}
use Rattle.bch_vm.specs.Course.{◌>>=◌}
use Rattle.bch_vm.specs.Position.{rest_course, IsPassed}
use Rattle.bch_vm.specs.Status.{Status, status, stack_of, script_of, after, closed_course, running_course, phase_course, scripts_from, Goes}
use Rattle.bch_vm.proofs.Courses.{goes_on}

-- what is left of the spend is what is left of the script, and what comes after it
course_is : (context : Transaction (List ℕ)) (verdicts : List verdict.Row) (which : Which) (p : Counted) (redeem script unlocking locking : List ℕ) (phase : Phase)
    → phase ≡ Running which → script ≡ script_of which unlocking locking redeem
    → scripts_from context verdicts unlocking locking (status phase p redeem) ≡ running_course context verdicts which script unlocking locking p
course_is context verdicts which p redeem script unlocking locking phase is same =
    ap (λ now. phase_course context verdicts now p redeem unlocking locking) is
    ∙ ap (λ bytes. running_course context verdicts which bytes unlocking locking p) (sym same)

pub step_goes : (context : Transaction (List ℕ)) (verdicts : List verdict.Row) (which : Which) (old new : Counted) (redeem script unlocking locking : List ℕ) (phase : Phase) (s : Status) (at : ℕ) (executed : Bool)
    → phase ≡ Running which → status phase old redeem ≡ s → script ≡ script_of which unlocking locking redeem → at ≡ old.state.progress.at
    → IsPassed (setting_of context verdicts script) which script old (Ok (Some executed)) new
    → Goes (scripts_from context verdicts unlocking locking s) (Ran which at executed) (scripts_from context verdicts unlocking locking (status phase new redeem)) (stack_of (status phase new redeem))
step_goes context verdicts which old new redeem script unlocking locking phase s at executed is view same index passed =
    let rest = rest_course (setting_of context verdicts script) which script in
    let next = after context verdicts which unlocking locking in
    let before = ap (scripts_from context verdicts unlocking locking) (sym view) ∙ course_is context verdicts which old redeem script unlocking locking phase is same in
    let next_course = course_is context verdicts which new redeem script unlocking locking phase is same in
    let stack = stack_of (status phase new redeem) in
    let indexed = goes_on (rest old) (rest new) next which old.state.progress.at executed stack passed in
    subst (λ c. Goes c (Ran which at executed) (scripts_from context verdicts unlocking locking (status phase new redeem)) stack) (sym before)
    (subst (λ c. Goes (rest old >>= next) (Ran which at executed) c stack) (sym next_course)
    (subst (λ n. Goes (rest old >>= next) (Ran which n executed) (rest new >>= next) stack) (sym index) indexed))

pub step_closes : (context : Transaction (List ℕ)) (verdicts : List verdict.Row) (which : Which) (old new : Counted) (redeem script unlocking locking : List ℕ) (phase : Phase) (s : Status)
    → phase ≡ Running which → status phase old redeem ≡ s → script ≡ script_of which unlocking locking redeem
    → IsPassed (setting_of context verdicts script) which script old (Ok None) new
    → closed_course context verdicts which unlocking locking new.state ≡ scripts_from context verdicts unlocking locking s
step_closes context verdicts which old new redeem script unlocking locking phase s is view same ended =
    ap (λ (p : Counted). closed_course context verdicts which unlocking locking p.state) ended.1
    ∙ ap (λ c. c >>= after context verdicts which unlocking locking) (sym ended.0)
    ∙ sym (course_is context verdicts which old redeem script unlocking locking phase is same)
    ∙ ap (scripts_from context verdicts unlocking locking) view
