use Rattle.std.proofs.Common.{ap, ◌∙◌, None, ◌∷◌, drop}
use Rattle.stack_emitter.specs.Places.{spot}
use Rattle.stack_emitter.proofs.Emits.{drops_lower, two_gone}
use Rattle.stack_emitter.proofs.emit.Emitter.drop_lower.Goals as goal

pub returns-clause-emits : goal.returns-clause-emits
returns-clause-emits c = λ doing.
    drops_lower _ _ _ doing c.requires c.in_ok-put.ensures.code
    (c.in_ok-put-2.ensures ∙ ap (λ p. spot (None ∷ p.operands) p.slots) (c.take.ensures ∙ ap (λ p. spot (drop 2 p.operands) p.slots) c.put.ensures.place)
    ∙ ap (λ o. spot (None ∷ o) c.args.self.now.place.slots) (two_gone c.args.self.now.place.operands c.requires))

pub returns-clause-place : goal.returns-clause-place
returns-clause-place c =
    c.in_ok-put-2.ensures ∙ ap (λ p. spot (None ∷ p.operands) p.slots) (c.take.ensures ∙ ap (λ p. spot (drop 2 p.operands) p.slots) c.put.ensures.place)
    ∙ ap (λ o. spot (None ∷ o) c.args.self.now.place.slots) (two_gone c.args.self.now.place.operands c.requires)
