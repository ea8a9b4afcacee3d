use Rattle.std.proofs.Common.{ap, ◌∙◌, refl, ◌∷◌}
use Rattle.stack_emitter.specs.Places.{spot}
use Rattle.stack_emitter.proofs.Emits.{emits_define, one_gone}
use Rattle.stack_emitter.proofs.emit.Emitter.define.Goals as goal

pub returns-clause-emits : goal.returns-clause-emits
returns-clause-emits c = λ doing checking.
    emits_define c.args.self.now _ c.args.slot doing checking c.requires.operand c.requires.fresh refl
    (c.in_ok-define.ensures ∙ ap (λ p. spot p.operands (c.args.slot ∷ p.slots)) c.take.ensures ∙ ap (λ o. spot o (c.args.slot ∷ c.args.self.now.place.slots)) (one_gone c.args.self.now.place.operands c.requires.operand))

pub returns-clause-place : goal.returns-clause-place
returns-clause-place c =
    c.in_ok-define.ensures ∙ ap (λ p. spot p.operands (c.args.slot ∷ p.slots)) c.take.ensures ∙ ap (λ o. spot o (c.args.slot ∷ c.args.self.now.place.slots)) (one_gone c.args.self.now.place.operands c.requires.operand)
