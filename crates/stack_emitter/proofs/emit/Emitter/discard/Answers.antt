use Rattle.std.proofs.Common.{ap, ◌∙◌}
use Rattle.slot_liveness.specs.Counts.{less}
use Rattle.stack_emitter.specs.Places.{spot}
use Rattle.stack_emitter.proofs.Emits.{few, discards, three_rows, pushed_row}
use Rattle.slot_liveness.proofs.Counts.{length_less}
use Rattle.std.proofs.Common.{length, suc, sym}
use Rattle.stack_emitter.proofs.Sizes.{discarded_costs}
use Rattle.stack_emitter.proofs.emit.Emitter.discard.Goals as goal

pub returns-clause-emits : goal.returns-clause-emits
returns-clause-emits c =
    discards c.args.self.now c.args.slot c.below-below.result c.below-below.ensures c.requires.room (record { alloc = c.put-3.new.self.alloc; code = c.put-3.new.self.code; place = c.leave.new.self }) c.args.checking
    (three_rows _ _ _ _ _ _ _ (pushed_row _ _ c.depth_element-depth.result.items _ _ _ c.in_ok-put.ensures.code c.depth_element-depth.ensures.number) c.in_ok-put-2.ensures.code c.in_ok-put-3.ensures.code)
    (c.leave.ensures ∙ ap (λ p. spot p.operands (less c.args.slot p.slots)) (c.put-3.ensures.place ∙ c.put-2.ensures.place ∙ c.put.ensures.place))

pub depth_element-depth-requires : goal.depth_element-depth-requires
depth_element-depth-requires c = few c.args.self.now c.args.slot c.below-below.result c.below-below.ensures c.requires.room

pub returns-clause-costs : goal.returns-clause-costs
returns-clause-costs c =
    discarded_costs c.args.self.now (record { alloc = c.put-3.new.self.alloc; code = c.put-3.new.self.code; place = c.leave.new.self }) c.put.new.self.code.items c.put-2.new.self.code.items _
    c.in_ok-put.ensures.bytes c.depth_element-depth.ensures.size c.in_ok-put-2.ensures.bytes c.in_ok-put-3.ensures.bytes c.in_ok-put.ensures.ops c.in_ok-put-2.ensures.ops c.in_ok-put-3.ensures.ops
    (length_less c.args.slot c.args.self.now.place.slots c.requires.defined
    ∙ ap (λ l. suc (length l)) (sym (ap (λ p. p.slots) (c.leave.ensures ∙ ap (λ p. spot p.operands (less c.args.slot p.slots)) (c.put-3.ensures.place ∙ c.put-2.ensures.place ∙ c.put.ensures.place)))))
