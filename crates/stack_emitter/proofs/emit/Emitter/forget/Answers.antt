use Rattle.stack_emitter.proofs.Emits.{adds_none}
use Rattle.stack_emitter.proofs.emit.Emitter.forget.Goals as goal

pub returns-else-contains-clause-emits : goal.returns-else-contains-clause-emits
returns-else-contains-clause-emits c = adds_none c.args.checking c.args.self.now
