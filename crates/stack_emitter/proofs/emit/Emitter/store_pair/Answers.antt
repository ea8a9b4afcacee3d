use Rattle.stack_emitter.specs.Correct.{lower_deed, store_deed}
use Rattle.stack_emitter.proofs.Steps.{adds_then}
use Rattle.stack_emitter.proofs.emit.Emitter.store_pair.Goals as goal

pub returns-clause-emits : goal.returns-clause-emits
returns-clause-emits c = λ doing.
    adds_then c.args.checking c.args.checking c.args.self.now c.store_lower.new.self c.store.new.self (lower_deed c.args.left_kept c.args.left doing) (store_deed c.args.right_kept c.args.right doing)
    (c.in_ok-store_lower.ensures.emits doing) (c.in_ok-store.ensures.emits doing)
