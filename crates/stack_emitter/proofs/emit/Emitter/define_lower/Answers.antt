use Rattle.std.proofs.Common.{ap, ◌∙◌, refl, None, ◌∷◌}
use Rattle.stack_emitter.specs.Places.{spot}
use Rattle.stack_emitter.proofs.Emits.{defines_lower, two_gone}
use Rattle.stack_emitter.proofs.emit.Emitter.define_lower.Goals as goal

pub returns-clause-emits : goal.returns-clause-emits
returns-clause-emits c = λ doing checking.
    defines_lower c.args.self.now _ c.args.slot doing checking c.requires.operands c.requires.fresh refl
    (c.in_ok-define.ensures ∙ ap (λ p. spot p.operands (c.args.slot ∷ p.slots)) (c.in_ok-put.ensures ∙ ap (λ p. spot (None ∷ p.operands) p.slots) c.take.ensures)
    ∙ ap (λ o. spot (None ∷ o) (c.args.slot ∷ c.args.self.now.place.slots)) (two_gone c.args.self.now.place.operands c.requires.operands))

pub returns-clause-place : goal.returns-clause-place
returns-clause-place c =
    c.in_ok-define.ensures ∙ ap (λ p. spot p.operands (c.args.slot ∷ p.slots)) (c.in_ok-put.ensures ∙ ap (λ p. spot (None ∷ p.operands) p.slots) c.take.ensures)
    ∙ ap (λ o. spot (None ∷ o) (c.args.slot ∷ c.args.self.now.place.slots)) (two_gone c.args.self.now.place.operands c.requires.operands)
