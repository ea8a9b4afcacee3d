use Rattle.std.proofs.Common.{◌∙◌}
use Rattle.slot_liveness.specs.Live.{later, hold, kept}
use Rattle.stack_schedule.proofs.Joins.{once_distinct, left_few, left_distinct, left_stand}
use Rattle.stack_schedule.proofs.choices.join.Goals as goal

pub settle-requires-clause-few_left : goal.settle-requires-clause-few_left
settle-requires-clause-few_left c =
    left_few (kept (later c.args.rest.now c.args.after.now) (hold c.args.body.now c.args.held.now)) c.args.low.now.emitter.place.slots _ _ _ (c.in_ok-slots.ensures ∙ c.slots.ensures) c.in_ok-target.ensures c.as_slice.ensures 160 c.requires.few

pub settle-requires-clause-distinct : goal.settle-requires-clause-distinct
settle-requires-clause-distinct c =
    once_distinct c.args.low.now.emitter.place.slots c.requires.once

pub settle-requires-clause-distinct_left : goal.settle-requires-clause-distinct_left
settle-requires-clause-distinct_left c =
    left_distinct (kept (later c.args.rest.now c.args.after.now) (hold c.args.body.now c.args.held.now)) c.args.low.now.emitter.place.slots _ _ _ (c.in_ok-slots.ensures ∙ c.slots.ensures) c.in_ok-target.ensures c.as_slice.ensures c.requires.once

pub settle-requires-clause-within : goal.settle-requires-clause-within
settle-requires-clause-within c =
    left_stand (kept (later c.args.rest.now c.args.after.now) (hold c.args.body.now c.args.held.now)) c.args.low.now.emitter.place.slots _ _ _ (c.in_ok-slots.ensures ∙ c.slots.ensures) c.in_ok-target.ensures c.as_slice.ensures
