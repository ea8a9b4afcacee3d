-- Steps along a course.
use Rattle.std.proofs.Common.{◌≡◌, ◌<◌, ℕ, Bool, length, refl, sym, ap, ◌∙◌, subst, arith}
use Rattle.bch_vm.specs.declared.outcome.Which.{Which}
use Rattle.bch_vm.specs.declared.outcome.MachineOutcome.{MachineOutcome}
use Rattle.bch_vm.specs.declared.outcome.Step.TheVariants.{Ran, Ended}
use Rattle.opcode_table.specs.Stack.{Stack}
use Rattle.bch_vm.specs.Script.{State}
use Rattle.bch_vm.specs.Course.{Course, Row, Passes, Gives, Stops, ◌>>=◌, row_of, outcome_of, rows_of}
use Rattle.bch_vm.specs.Spend.{given_stack}
use Rattle.bch_vm.specs.Status.{Goes}

pub rows_passed : {A : Type 0} (old new : Course A) (row : Row) → old ≡ Passes row new → length (rows_of new) < length (rows_of old)
rows_passed old new row is = let counts : length (rows_of old) ≡ length (rows_of (Passes row new)) = ap (λ c. length (rows_of c)) is in omega (arith, counts)

pub given_passed : (old new : Course State) (row : Row) → old ≡ Passes row new → given_stack new ≡ given_stack old
given_passed old new row is = sym (ap given_stack is)

-- an instruction of a script that was passed is passed of the whole
pub goes_on : (old new : Course State) (f : State → Course MachineOutcome) (which : Which) (at : ℕ) (executed : Bool) (stack : Stack) → old ≡ Passes (row_of which at executed stack) new → Goes (old >>= f) (Ran which at executed) (new >>= f) stack
goes_on old new f which at executed stack is = subst (λ c. Goes (c >>= f) (Ran which at executed) (new >>= f) stack) (sym is) (refl, refl)

pub stops_on : (old : Course State) (f : State → Course MachineOutcome) (outcome : MachineOutcome) → old ≡ Stops outcome → Stops outcome ≡ (old >>= f)
stops_on old f outcome is = sym (ap (λ c. c >>= f) is)

-- what a step answers, at the end and before
pub goes_ended : (old new : Course MachineOutcome) (outcome : MachineOutcome) (stack : Stack) → Goes old (Ended outcome) new stack → (outcome ≡ outcome_of old) × (new ≡ Stops outcome)
goes_ended (Passes row rest) new outcome stack h = elim h [ ]
goes_ended (Gives answer) new outcome stack h = elim h [ ]
goes_ended (Stops answer) new outcome stack h = (h.0, h.1 ∙ ap Stops (sym h.0))

pub goes_ran : (old new : Course MachineOutcome) (which : Which) (at : ℕ) (executed : Bool) (stack : Stack) → Goes old (Ran which at executed) new stack → (outcome_of new ≡ outcome_of old) × (length (rows_of new) < length (rows_of old))
goes_ran (Passes row rest) new which at executed stack h = (ap outcome_of h.1, (let counts : length (rows_of new) ≡ length (rows_of rest) = ap (λ c. length (rows_of c)) h.1 in omega (arith, counts)))
goes_ran (Gives answer) new which at executed stack h = elim h [ ]
goes_ran (Stops answer) new which at executed stack h = elim h [ ]
