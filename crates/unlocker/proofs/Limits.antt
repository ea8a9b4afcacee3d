-- The machine's limit on the size of a script.
use Rattle.std.proofs.Common.{◌≡◌, ℕ, ◌<◌, ◌≤◌, Bool, cond, List, length, ap}
use Rattle.std.proofs.lemmas.Bool.{lt-ltb, le-ltb}
use Rattle.bch_vm.specs.declared.outcome.Which.{Which}
use Rattle.bch_vm.specs.declared.outcome.MachineOutcome.TheVariants.{Refused}
use Rattle.cash_base.specs.declared.fault.MachineCause.TheVariants.{ScriptSize}
use Rattle.bch_vm.specs.Course.{Course, Gives, Stops}
use Rattle.bch_vm.specs.Spend.{sized}

abbrev by_size : Which → Bool → Course (Unit {0})
by_size which long = cond long (Stops (Refused which 0 ScriptSize)) (Gives tt)

pub longer_refused : (which : Which) (script : List ℕ) → 10000 < length script → sized which script ≡ Stops (Refused which 0 ScriptSize)
longer_refused which script long = ap (by_size which) (lt-ltb 10000 (length script) long)

pub other_run : (which : Which) (script : List ℕ) → length script ≤ 10000 → sized which script ≡ Gives tt
other_run which script short = ap (by_size which) (le-ltb 10000 (length script) short)
