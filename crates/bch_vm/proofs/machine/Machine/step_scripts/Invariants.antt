use Rattle.std.proofs.Common.{◌≡◌}
use Rattle.bch_vm.specs.Status.{scripts_from, rank}
use Rattle.bch_vm.proofs.machine.Machine.step_scripts.Given as goal

-- a later phase leaves the same course
abbrev pub invariant-phases : goal.invariant-phases
invariant-phases l =
    scripts_from l.context l.verdicts l.unlocking l.locking l.self ≡ scripts_from l.context l.verdicts l.unlocking l.locking l.initial.self

abbrev pub decreases-phases : goal.decreases-phases
decreases-phases l = rank l.self.phase
