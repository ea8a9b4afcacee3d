use Rattle.std.proofs.Common.{length, ap}
use Rattle.stack_emitter.proofs.Tails.{costs_above}
use Rattle.stack_emitter.proofs.emit.Emitter.finish.Goals as goal

pub returns-in_ok-repeat-clause-costs : goal.returns-in_ok-repeat-clause-costs
returns-in_ok-repeat-clause-costs c =
    costs_above c.args.self.now c.repeat.new.self _ c.args.checking (ap length c.slots-count.ensures) c.in_ok-repeat.ensures.code
