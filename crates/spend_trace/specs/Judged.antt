-- What a spend of a program comes to: its scripts, how the machine ends, and the place of a failure.
use Rattle.std.specs.Prelude.{length, Result, Ok}
use Rattle.cash_base.specs.Failing.{◌>>=◌}
use Rattle.bch_vm.specs.declared.outcome.MachineOutcome.{MachineOutcome}
use Rattle.bch_vm.specs.Law.{locking_script}
use Rattle.bch_vm.specs.Spend.{spend_outcome}
use Rattle.spend_json.specs.Given.{SpendParts}
use Rattle.artifact_json.specs.Artifact.{Artifact}
use Rattle.unlocker.specs.Spends.{Built, built_spend, context_of}
use Rattle.spend_debug.specs.declared.spends.SpendStop.{SpendStop}
use Rattle.spend_debug.specs.SpendDebug.{or_stop, known_place}
use Rattle.spend_debug.specs.Telling.{Told}

-- how the machine ends on these scripts
abbrev pub outcome_of : SpendParts → Built → MachineOutcome
outcome_of spend scripts = spend_outcome (context_of spend scripts) spend.verdicts

abbrev pub told_with : Artifact → Built → MachineOutcome → Told
told_with program scripts outcome = record {
  redeem = scripts.redeem;
  unlocking = scripts.unlocking;
  locking = locking_script scripts.redeem;
  outcome = outcome;
  place = known_place program.spans (length program.ctor) outcome;
}

abbrev pub told_by : Artifact → SpendParts → Built → Told
told_by program spend scripts = told_with program scripts (outcome_of spend scripts)

-- the report on a spend, or why its scripts aren't built
abbrev pub report_of : Artifact → SpendParts → Result Told SpendStop
report_of program spend = do
  scripts ← or_stop (built_spend program spend)
  Ok (told_by program spend scripts)
