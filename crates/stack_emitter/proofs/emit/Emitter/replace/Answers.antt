use Rattle.stack_emitter.proofs.Emits.{stored_again}
use Rattle.stack_emitter.proofs.emit.Emitter.replace.Goals as goal

pub returns-in_ok-define-clause-emits : goal.returns-in_ok-define-clause-emits
returns-in_ok-define-clause-emits c = λ doing.
    stored_again _ _ _ _ _ _ c.if-later.true c.in_ok-discard.ensures.emits c.in_ok-define.ensures.emits doing
