use Rattle.std.proofs.Common.{ap, ◌∙◌, drop}
use Rattle.stack_emitter.specs.Places.{spot}
use Rattle.stack_emitter.proofs.Emits.{emits_drop}
use Rattle.stack_emitter.proofs.emit.Emitter.drop_top.Goals as goal

pub returns-clause-emits : goal.returns-clause-emits
returns-clause-emits c = λ doing.
    emits_drop _ _ _ doing c.requires c.in_ok-put.ensures.code (c.take.ensures ∙ ap (λ p. spot (drop 1 p.operands) p.slots) c.put.ensures.place)
