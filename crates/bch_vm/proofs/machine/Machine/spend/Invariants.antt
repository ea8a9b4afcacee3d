use Rattle.std.proofs.Common.{◌≡◌, length}
use Rattle.bch_vm.specs.Course.{outcome_of, rows_of}
use Rattle.bch_vm.specs.Spend.{spend_outcome}
use Rattle.bch_vm.specs.Status.{course_from}
use Rattle.bch_vm.proofs.machine.Machine.spend.Given as goal

-- what is left, from here on, ends as the whole
abbrev pub invariant-steps : goal.invariant-steps
invariant-steps l = outcome_of (course_from l.context l.verdicts l.self) ≡ spend_outcome l.context l.verdicts

abbrev pub decreases-steps : goal.decreases-steps
decreases-steps l = length (rows_of (course_from l.context l.verdicts l.self))
