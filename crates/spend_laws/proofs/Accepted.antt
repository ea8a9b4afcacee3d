-- A run decides that a spend is accepted exactly where it ends with one true element.
use Rattle.std.proofs.Common.{◌≡◌, ◌↔◌, ℕ, Bool, true, false, cond, List, [], ◌∷◌, Result, Ok, Err, refl, ap, ◌∙◌}
use Rattle.std.proofs.lemmas.Bool.{false≢true}
use Rattle.cash_base.specs.declared.fault.MachineCause.TheVariants.{EndFalse}
use Rattle.cash_base.specs.Number.{truth_of}
use Rattle.bch_vm.specs.declared.outcome.Which.TheVariants.{Redeem}
use Rattle.bch_vm.specs.declared.outcome.MachineOutcome.{MachineOutcome}
use Rattle.bch_vm.specs.declared.outcome.MachineOutcome.TheVariants.{Accepted, Refused}
use Rattle.opcode_table.specs.Stack.{Stack}
use Rattle.bch_vm.specs.Script.{State, Failure}
use Rattle.bch_vm.specs.Course.{Course, Gives, Stops, ◌>>◌, outcome_of}
use Rattle.bch_vm.specs.Spend.{clean, top_check}
use Rattle.bch_vm.specs.Law.{decided_by, EndsTrue}

-- the test of a top, by its truth
abbrev pub tested : Bool → ℕ → Course (Unit {0})
tested truth last = cond truth (Gives tt) (Stops (Refused Redeem last EndFalse))

abbrev is_accepted : MachineOutcome → Bool
is_accepted Accepted = true
is_accepted (Refused script at cause) = false

abbrev stack_in : Result Stack Failure → Stack
stack_in (Ok stack) = stack
stack_in (Err failure) = []

abbrev is_end : Result Stack Failure → Bool
is_end (Ok stack) = true
is_end (Err failure) = false

-- one element, which is true
abbrev IsOneTrue : Result Stack Failure → Type 0
IsOneTrue r = (e : List ℕ) × (r ≡ Ok (e ∷ [])) × (truth_of e ≡ true)

-- what is left at the end of a redeem script decides
only_true : (last : ℕ) (stack : Stack)
    → outcome_of (top_check Redeem EndFalse last stack >> Stops (clean Redeem last stack)) ≡ Accepted
    → IsOneTrue (Ok stack)
only_true last [] h = absurd (false≢true (ap is_accepted h))
only_true last (e ∷ []) h = by_truth (truth_of e) refl h
  where
    by_truth : (t : Bool) → truth_of e ≡ t → outcome_of (tested t last >> Stops Accepted) ≡ Accepted
        → IsOneTrue (Ok (e ∷ []))
    by_truth true is accepted = (e, refl, is)
    by_truth false is accepted = absurd (false≢true (ap is_accepted accepted))
only_true last (e ∷ a ∷ rest) h = by_truth (truth_of e) h
  where
    by_truth : (t : Bool) → outcome_of (tested t last >> Stops (clean Redeem last (e ∷ a ∷ rest))) ≡ Accepted
        → IsOneTrue (Ok (e ∷ a ∷ rest))
    by_truth true accepted = absurd (false≢true (ap is_accepted accepted))
    by_truth false accepted = absurd (false≢true (ap is_accepted accepted))

ends_accepted : (r : Result State Failure) → decided_by r ≡ Accepted → EndsTrue r
ends_accepted (Ok end) h = only_true end.progress.last end.board.stack h
ends_accepted (Err failure) h = absurd (false≢true (ap is_accepted h))

accepted_ends : (r : Result State Failure) → EndsTrue r → decided_by r ≡ Accepted
accepted_ends (Err failure) ends = absurd (false≢true (ap is_end ends.1))
accepted_ends (Ok end) ends =
    let last = end.progress.last in
    ap (λ stack. outcome_of (top_check Redeem EndFalse last stack >> Stops (clean Redeem last stack)))
    (ap stack_in ends.1)
    ∙ ap (λ truth. outcome_of (tested truth last >> Stops Accepted)) ends.2

pub accepted_exactly : (r : Result State Failure) → (decided_by r ≡ Accepted) ↔ EndsTrue r
accepted_exactly r = (ends_accepted r, accepted_ends r)
