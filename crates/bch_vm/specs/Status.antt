-- Where the machine is in a spend.
use Rattle.std.specs.Prelude.{◌≡◌, ℕ, List}
use Rattle.tx_context.specs.Transaction.{Transaction}
use Rattle.tx_context.specs.Table as verdict
use Rattle.bch_vm.specs.declared.outcome.Which.{Which}
use Rattle.bch_vm.specs.declared.outcome.Which.TheVariants.{Unlocking, Locking, Redeem}
use Rattle.bch_vm.specs.declared.outcome.MachineOutcome.{MachineOutcome}
use Rattle.bch_vm.specs.declared.outcome.Step.{Step}
use Rattle.bch_vm.specs.declared.outcome.Step.TheVariants.{Ran, Ended}
use Rattle.bch_vm.specs.declared.phase.Phase.{Phase}
use Rattle.bch_vm.specs.declared.phase.Phase.TheVariants.{Begin, Running, Over}
use Rattle.opcode_table.specs.Stack.{Stack}
use Rattle.bch_vm.specs.Setting.{setting_of}
use Rattle.bch_vm.specs.Script.{State, Counted, balanced}
use Rattle.bch_vm.specs.Course.{Course, Passes, Stops, ◌>>=◌, row_of}
use Rattle.bch_vm.specs.Spend.{told, after_unlocking, after_locking, after_redeem, scripts_course, spent_input, spend_course}
use Rattle.bch_vm.specs.Position.{rest_course}

-- how far the spend is, where the run of its script is, and the redeem script
pub record Status : Type 0 where
  pub phase : Phase
  pub run : Counted
  pub redeem : List ℕ

abbrev pub status : Phase → Counted → List ℕ → Status
status phase run redeem = record { phase = phase; run = run; redeem = redeem }

abbrev pub stack_of : Status → Stack
stack_of s = s.run.state.board.stack

-- the bytes of a script
abbrev pub script_of : Which → List ℕ → List ℕ → List ℕ → List ℕ
script_of Unlocking unlocking locking redeem = unlocking
script_of Locking unlocking locking redeem = locking
script_of Redeem unlocking locking redeem = redeem

-- what comes after a script
abbrev pub after : Transaction (List ℕ) → List verdict.Row → Which → List ℕ → List ℕ → State → Course MachineOutcome
after context verdicts Unlocking unlocking locking s = after_unlocking context verdicts unlocking locking s
after context verdicts Locking unlocking locking s = after_locking context verdicts unlocking locking s
after context verdicts Redeem unlocking locking s = after_redeem s

-- what comes after the last instruction of a script, where no condition may be open
abbrev pub closed_course : Transaction (List ℕ) → List verdict.Row → Which → List ℕ → List ℕ → State → Course MachineOutcome
closed_course context verdicts which unlocking locking s =
    told which (balanced s.board.conditions s) >>= after context verdicts which unlocking locking

-- what is left of a script and after it
abbrev pub running_course : Transaction (List ℕ) → List verdict.Row → Which → List ℕ → List ℕ → List ℕ → Counted
    → Course MachineOutcome
running_course context verdicts which script unlocking locking p =
    rest_course (setting_of context verdicts script) which script p >>= after context verdicts which unlocking locking

abbrev pub phase_course : Transaction (List ℕ) → List verdict.Row → Phase → Counted → List ℕ → List ℕ → List ℕ
    → Course MachineOutcome
phase_course context verdicts Begin p redeem unlocking locking = scripts_course context verdicts unlocking locking
phase_course context verdicts (Running which) p redeem unlocking locking =
    running_course context verdicts which (script_of which unlocking locking redeem) unlocking locking p
phase_course context verdicts (Over outcome) p redeem unlocking locking = Stops outcome

-- the course of what is left of the spend by these scripts
abbrev pub scripts_from : Transaction (List ℕ) → List verdict.Row → List ℕ → List ℕ → Status → Course MachineOutcome
scripts_from context verdicts unlocking locking s = phase_course context verdicts s.phase s.run s.redeem unlocking locking

-- the course of what is left of the spend
abbrev pub course_from : Transaction (List ℕ) → List verdict.Row → Status → Course MachineOutcome
course_from context verdicts s =
    scripts_from context verdicts (spent_input context).unlocking (spent_input context).locking s

-- nothing was done: all of a spend is left, whichever it is
abbrev pub IsAtBeginning : Status → Type 0
IsAtBeginning s =
    (context : Transaction (List ℕ)) (verdicts : List verdict.Row) → course_from context verdicts s ≡ spend_course context verdicts

-- What a step answers by the course that was left, with the course that is left after it and the stack. It answers the
-- first row; at the end it answers the end, and the end is what is left.
abbrev pub Goes : Course MachineOutcome → Step → Course MachineOutcome → Stack → Type 0
Goes (Passes row rest) (Ran script at executed) next stack = (row ≡ row_of script at executed stack) × (next ≡ rest)
Goes (Stops outcome) (Ended answer) next stack = (answer ≡ outcome) × (next ≡ Stops outcome)
Goes _ _ next stack = ⊥

-- the spend has ended so: nothing else is left of it, whatever it is handed from here on
abbrev pub IsAtEnd : MachineOutcome → Status → Type 0
IsAtEnd outcome s =
    (context : Transaction (List ℕ)) (verdicts : List verdict.Row) → course_from context verdicts s ≡ Stops outcome

-- a step that answers an end leaves the machine there
abbrev pub StaysAtEnd : Step → Status → Type 0
StaysAtEnd (Ran script at executed) s = Unit {0}
StaysAtEnd (Ended outcome) s = IsAtEnd outcome s

-- how many phases are left at most
abbrev pub rank : Phase → ℕ
rank Begin = 4
rank (Running Unlocking) = 3
rank (Running Locking) = 2
rank (Running Redeem) = 1
rank (Over outcome) = 0
