use Rattle.std.proofs.Common.{ap, ◌∙◌, refl, Some, ◌∷◌}
use Rattle.stack_emitter.specs.Places.{spot}
use Rattle.stack_emitter.proofs.Emits.{emits_lit, pushed_row}
use Rattle.stack_emitter.proofs.emit.Emitter.lit.Goals as goal

pub returns-clause-emits : goal.returns-clause-emits
returns-clause-emits c =
    emits_lit c.args.self.now c.put.new.self _ c.args.element.now.items c.args.doing c.args.checking
    (pushed_row _ _ c.copy_of-pushed.result.items _ _ _ c.in_ok-put.ensures.code (c.copy_of-pushed.ensures ∙ c.as_slice.ensures.value)) c.put.ensures.place refl
    (c.in_ok-put-2.ensures ∙ ap (λ b. spot (Some b ∷ c.put.new.self.place.operands) c.put.new.self.place.slots) (c.copy_of-known.ensures ∙ c.as_slice-2.ensures.value)
    ∙ ap (λ p. spot (Some c.args.element.now.items ∷ p.operands) p.slots) c.put.ensures.place)

pub returns-clause-code : goal.returns-clause-code
returns-clause-code c =
    pushed_row _ _ c.copy_of-pushed.result.items _ _ _ c.in_ok-put.ensures.code (c.copy_of-pushed.ensures ∙ c.as_slice.ensures.value)
