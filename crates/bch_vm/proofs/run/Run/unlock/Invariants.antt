use Rattle.std.proofs.Common.{◌≡◌, length}
use Rattle.bch_vm.specs.declared.outcome.Which.TheVariants.{Unlocking}
use Rattle.bch_vm.specs.Course.{rows_of}
use Rattle.bch_vm.specs.Spend.{given_stack, stack_left}
use Rattle.bch_vm.specs.Setting.{setting_of}
use Rattle.bch_vm.specs.Position.{rest_course}
use Rattle.bch_vm.proofs.run.Run.unlock.Given as goal

-- what is left, from here on, leaves what the whole leaves
abbrev pub invariant-script : goal.invariant-script
invariant-script l = given_stack (rest_course (setting_of l.context l.verdicts l.unlocking) Unlocking l.unlocking l.self) ≡ stack_left l.context l.verdicts l.unlocking

abbrev pub decreases-script : goal.decreases-script
decreases-script l = length (rows_of (rest_course (setting_of l.context l.verdicts l.unlocking) Unlocking l.unlocking l.self))
