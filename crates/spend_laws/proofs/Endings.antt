-- How a course ends, without its rows, and courses that stop at no limit.
use Rattle.std.proofs.Common.{◌≡◌, Ok, Err, Result, IsTrue, refl}
use Rattle.bch_vm.specs.declared.outcome.Which.{Which}
use Rattle.bch_vm.specs.declared.outcome.MachineOutcome.{MachineOutcome}
use Rattle.bch_vm.specs.Script.{State, Failure}
use Rattle.bch_vm.specs.Course.{Course, Passes, Gives, Stops, ◌>>=◌, outcome_of}
use Rattle.bch_vm.specs.Spend.{told, given_stack}
use Rattle.bch_vm.specs.Law.{is_in_room}

-- a course without its rows
abbrev pub ends : {A : Type 0} → Course A → Course A
ends (Passes row rest) = ends rest
ends (Gives a) = Gives a
ends (Stops outcome) = Stops outcome

-- it doesn't stop at a limit
abbrev pub Stays : {A : Type 0} → Course A → Type 0
Stays (Passes row rest) = Stays rest
Stays (Gives a) = Unit {0}
Stays (Stops outcome) = IsTrue (is_in_room outcome)

pub outcome-ends : {A : Type 0} (c : Course A) (f : A → Course MachineOutcome)
    → outcome_of (c >>= f) ≡ outcome_of (ends c >>= f)
outcome-ends (Passes row rest) f = outcome-ends rest f
outcome-ends (Gives a) f = refl
outcome-ends (Stops outcome) f = refl

pub given-ends : (c : Course State) → given_stack c ≡ given_stack (ends c)
given-ends (Passes row rest) = given-ends rest
given-ends (Gives s) = refl
given-ends (Stops outcome) = refl

pub ends-told : {A : Type 0} (which : Which) (r : Result A Failure) → ends (told which r) ≡ told which r
ends-told which (Ok a) = refl
ends-told which (Err failure) = refl

-- what is in room at its end has stopped at no limit on the way
pub stays_before : {A : Type 0} (c : Course A) (f : A → Course MachineOutcome)
    → IsTrue (is_in_room (outcome_of (c >>= f))) → Stays c
stays_before (Passes row rest) f h = stays_before rest f h
stays_before (Gives a) f h = tt
stays_before (Stops outcome) f h = h

-- and what has stopped at no limit is in room at its end, where everything after it is
pub stays_on : {A : Type 0} (c : Course A) (f : A → Course MachineOutcome) → Stays c
    → ((a : A) → IsTrue (is_in_room (outcome_of (f a)))) → IsTrue (is_in_room (outcome_of (c >>= f)))
stays_on (Passes row rest) f h after = stays_on rest f h after
stays_on (Gives a) f h after = after a
stays_on (Stops outcome) f h after = h
