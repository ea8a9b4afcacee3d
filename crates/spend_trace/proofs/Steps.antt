-- A step along a course, and what is left of its rows and of its end.
use Rattle.std.proofs.Common.{◌≡◌, ℕ, suc, ◌≤◌, Bool, true, false, List, [], ◌++◌, length, map, reverse, refl, sym, ap, ◌∙◌, subst}
use Rattle.std.proofs.lemmas.List.{length-map, length-reverse}
use Rattle.bch_vm.specs.declared.outcome.Which.{Which}
use Rattle.bch_vm.specs.declared.outcome.MachineOutcome.{MachineOutcome}
use Rattle.bch_vm.specs.declared.outcome.Step.TheVariants.{Ran, Ended}
use Rattle.opcode_table.specs.Stack.{Stack}
use Rattle.bch_vm.specs.Course.{Course, Passes, Gives, Stops, row_of, outcome_of, rows_of}
use Rattle.bch_vm.specs.Status.{Goes}
use Rattle.artifact_json.specs.Artifact.{Artifact}
use Rattle.unlocker.specs.Spends.{Built}
use Rattle.spend_trace.specs.Traced.{rows_in, row_with}
use Rattle.spend_trace.specs.Heights.{HasLowStacks, added}

-- the row in front
front_row : (program : Artifact) (scripts : Built) (which : Which) (at : ℕ) (executed : Bool) (stack : Stack) (rest : Course MachineOutcome)
    → rows_in program scripts (Passes (row_of which at executed stack) rest)
    ≡ added executed (row_with program scripts which at (length stack)) ++ rows_in program scripts rest
front_row program scripts which at true stack rest = refl
front_row program scripts which at false stack rest = refl

-- a step that passes an instruction
passes : (c next : Course MachineOutcome) (which : Which) (at : ℕ) (executed : Bool) (stack : Stack)
    → Goes c (Ran which at executed) next stack → c ≡ Passes (row_of which at executed stack) next
passes (Passes row rest) next which at executed stack goes =
    ap (λ r. Passes r rest) goes.0 ∙ ap (λ (n : Course MachineOutcome). Passes (row_of which at executed stack) n) (sym goes.1)
passes (Gives outcome) next which at executed stack goes = elim goes [ ]
passes (Stops outcome) next which at executed stack goes = elim goes [ ]

pub rows_passed : (program : Artifact) (scripts : Built) (c next : Course MachineOutcome) (which : Which) (at : ℕ) (executed : Bool) (stack : Stack)
    → Goes c (Ran which at executed) next stack
    → rows_in program scripts c ≡ added executed (row_with program scripts which at (length stack)) ++ rows_in program scripts next
rows_passed program scripts c next which at executed stack goes =
    ap (rows_in program scripts) (passes c next which at executed stack goes) ∙ front_row program scripts which at executed stack next

pub outcome_passed : (c next : Course MachineOutcome) (which : Which) (at : ℕ) (executed : Bool) (stack : Stack)
    → Goes c (Ran which at executed) next stack → outcome_of c ≡ outcome_of next
outcome_passed c next which at executed stack goes = ap outcome_of (passes c next which at executed stack goes)

pub fewer_passed : (c next : Course MachineOutcome) (which : Which) (at : ℕ) (executed : Bool) (stack : Stack)
    → Goes c (Ran which at executed) next stack → length (rows_of c) ≡ suc (length (rows_of next))
fewer_passed c next which at executed stack goes = ap (λ (d : Course MachineOutcome). length (rows_of d)) (passes c next which at executed stack goes)

pub low_passed : (c next : Course MachineOutcome) (which : Which) (at : ℕ) (executed : Bool) (stack : Stack)
    → HasLowStacks c → Goes c (Ran which at executed) next stack → HasLowStacks next
low_passed c next which at executed stack low goes =
    (subst (λ (d : Course MachineOutcome). HasLowStacks d) (passes c next which at executed stack goes) low).1

pub stack_passed : (c next : Course MachineOutcome) (which : Which) (at : ℕ) (executed : Bool) (stack : Stack)
    → HasLowStacks c → Goes c (Ran which at executed) next stack → length stack ≤ 1000
stack_passed c next which at executed stack low goes =
    (subst (λ (d : Course MachineOutcome). HasLowStacks d) (passes c next which at executed stack goes) low).0

-- a step that ends it
ends : (c next : Course MachineOutcome) (outcome : MachineOutcome) (stack : Stack)
    → Goes c (Ended outcome) next stack → c ≡ Stops outcome
ends (Passes row rest) next outcome stack goes = elim goes [ ]
ends (Gives o) next outcome stack goes = elim goes [ ]
ends (Stops o) next outcome stack goes = ap (λ (x : MachineOutcome). Stops x) (sym goes.0)

pub rows_ended : (program : Artifact) (scripts : Built) (c next : Course MachineOutcome) (outcome : MachineOutcome) (stack : Stack)
    → Goes c (Ended outcome) next stack → rows_in program scripts c ≡ []
rows_ended program scripts c next outcome stack goes = ap (rows_in program scripts) (ends c next outcome stack goes)

pub outcome_ended : (c next : Course MachineOutcome) (outcome : MachineOutcome) (stack : Stack)
    → Goes c (Ended outcome) next stack → outcome_of c ≡ outcome
outcome_ended c next outcome stack goes = ap outcome_of (ends c next outcome stack goes)

-- as many elements as the machine shows
pub counted : {A : Type 0} (f : A → List ℕ) (xs : List A) (stack : Stack) → reverse (map f xs) ≡ stack → length xs ≡ length stack
counted f xs stack same = sym (ap length (sym same) ∙ length-reverse (map f xs) ∙ length-map xs f)
