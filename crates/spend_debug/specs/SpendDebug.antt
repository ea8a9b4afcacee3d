-- What a spend of a compiled contract comes to: its scripts, the machine's outcome, and the place of a failure.
use Rattle.std.specs.Prelude.{◌≡◌, ℕ, ◌≤◌, List, [], ◌∷◌, length, slice_get, Option, Some, None, Result, Ok, Err}
use Rattle.cash_base.specs.declared.place.Span.{Span}
use Rattle.cash_base.specs.Failing.{◌>>=◌}
use Rattle.tx_context.specs.Transaction.{plain_input, transaction, Transaction, Locking}
use Rattle.tx_context.specs.World.{filled_context}
use Rattle.tx_context.specs.Table.{Row}
use Rattle.bch_vm.specs.declared.outcome.Which.TheVariants.{Redeem}
use Rattle.bch_vm.specs.declared.outcome.MachineOutcome.{MachineOutcome}
use Rattle.bch_vm.specs.declared.outcome.MachineOutcome.TheVariants.{Refused}
use Rattle.bch_vm.specs.Law.{locking_script}
use Rattle.bch_vm.specs.Spend.{spend_outcome}
use Rattle.span_map.specs.declared.SpanRow.{SpanRow}
use Rattle.span_map.specs.Places.{place_after}
use Rattle.artifact_json.specs.Artifact.{Artifact, AbiCall}
use Rattle.unlocker.specs.declared.BuildFault.{BuildFault}
use Rattle.unlocker.specs.declared.BuildFault.TheVariants as faults
use Rattle.unlocker.specs.Scripts.{redeem_script, spending_script}
use Rattle.unlocker.specs.Building.{built_redeem, built_unlocking}
use Rattle.spend_debug.specs.declared.spends.SpendStop.{SpendStop}
use Rattle.spend_debug.specs.declared.spends.SpendStop.TheVariants as stops
use Rattle.spend_debug.specs.Telling.{Told}

-- what a contract is spent with, as contracts see it
pub record SpendParts : Type 0 where
  pub ctor : List (List ℕ)
  -- the function, by its index from 0
  pub chosen : ℕ
  pub args : List (List ℕ)
  pub frame : Transaction Locking
  pub verdicts : List Row

-- the transaction of a spend for which none is given: version 2, one input of zeros and empty bytecodes, no output
abbrev pub plain_frame : Transaction Locking
plain_frame = transaction 2 0 (plain_input 0 (Some []) [] ∷ []) [] 0

-- ---- why there are no scripts

-- want of memory is told as such
abbrev pub stop_of : BuildFault → SpendStop
stop_of faults.Memory = stops.Memory
stop_of fault = stops.Build fault

abbrev pub or_stop : {A : Type 0} → Result A BuildFault → Result A SpendStop
or_stop (Ok script) = Ok script
or_stop (Err fault) = Err (stop_of fault)

-- the redeem script and the unlocking script of a spend: the faults of the first come before those of the second
abbrev pub built_scripts : Artifact → SpendParts → Result (List ℕ × List ℕ) SpendStop
built_scripts program spend = do
  redeem ← or_stop (built_redeem program spend.ctor)
  unlocking ← or_stop (built_unlocking program spend.chosen spend.args redeem)
  Ok (redeem, unlocking)

-- ---- what is told

-- the place of the row of a refusal in the redeem script, after so many pushes of the constructor, where rows are known
abbrev pub known_place : Option (List SpanRow) → ℕ → MachineOutcome → Option Span
known_place (Some rows) before (Refused Redeem at cause) = place_after rows before at cause
known_place rows before outcome = None

-- how the machine ends on the scripts of a spend, in its transaction and by its table of verdicts
abbrev pub outcome_with : SpendParts → List ℕ → List ℕ → MachineOutcome
outcome_with spend redeem unlocking =
    spend_outcome (filled_context spend.frame (locking_script redeem) unlocking) spend.verdicts

abbrev pub told_with : Artifact → SpendParts → List ℕ → List ℕ → Told
told_with program spend redeem unlocking = record {
  redeem = redeem;
  unlocking = unlocking;
  locking = locking_script redeem;
  outcome = outcome_with spend redeem unlocking;
  place = known_place program.spans (length spend.ctor) (outcome_with spend redeem unlocking);
}

abbrev pub redeem_of : Artifact → SpendParts → List ℕ
redeem_of program spend = redeem_script program.code spend.ctor

abbrev pub unlocking_of : Artifact → SpendParts → List ℕ
unlocking_of program spend =
    spending_script (length program.abi) spend.chosen spend.args (redeem_of program spend)

-- a spend of a program: its scripts, how the machine ends on them, and the place of a failure
abbrev pub told_of : Artifact → SpendParts → Told
told_of program spend = told_with program spend (redeem_of program spend) (unlocking_of program spend)

-- how the machine ends on it
abbrev pub outcome_of : Artifact → SpendParts → MachineOutcome
outcome_of program spend = outcome_with spend (redeem_of program spend) (unlocking_of program spend)

-- ---- scripts that are built

-- They are the scripts of a call: there are as many elements as the constructor and the function have parameters, and the
-- redeem script can be pushed as one element.
pub record AreOfCall (program : Artifact) (spend : SpendParts) (redeem unlocking : List ℕ) : Type 0 where
  pub ctor_count : length program.ctor ≡ length spend.ctor
  pub function : AbiCall
  pub found : slice_get program.abi spend.chosen ≡ Some function
  pub arg_count : length function.inputs ≡ length spend.args
  pub size : length redeem ≤ 520
  pub redeem_is : redeem ≡ redeem_of program spend
  pub unlocking_is : unlocking ≡ unlocking_of program spend
