use Rattle.std.proofs.Common.{ap, ◌∙◌, None, ◌∷◌}
use Rattle.stack_emitter.specs.Places.{spot}
use Rattle.stack_emitter.proofs.Emits.{few, gets, two_rows, pushed_row}
use Rattle.stack_emitter.proofs.emit.Emitter.get.Goals as goal

pub returns-clause-emits : goal.returns-clause-emits
returns-clause-emits c =
    gets c.args.self.now c.args.slot c.below-below.result c.below-below.ensures c.requires.room (record { alloc = c.put-2.new.self.alloc; code = c.put-2.new.self.code; place = c.put-3.new.self }) c.args.doing c.args.checking
    (two_rows _ _ _ _ _ (pushed_row _ _ c.depth_element-depth.result.items _ _ _ c.in_ok-put.ensures.code c.depth_element-depth.ensures.number) c.in_ok-put-2.ensures.code)
    (c.in_ok-put-3.ensures ∙ ap (λ p. spot (None ∷ p.operands) p.slots) (c.put-2.ensures.place ∙ c.put.ensures.place))

pub depth_element-depth-requires : goal.depth_element-depth-requires
depth_element-depth-requires c = few c.args.self.now c.args.slot c.below-below.result c.below-below.ensures c.requires.room
