use Rattle.std.proofs.Common.{ap}
use Rattle.bch_vm.specs.Course.{outcome_of}
use Rattle.bch_vm.proofs.machine.Machine.spend.Goals as goal

pub steps-init : goal.steps-init
steps-init c = ap outcome_of (c.begin.ensures.begins c.args.context.now c.args.verdicts.now)
