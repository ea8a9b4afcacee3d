use Rattle.std.proofs.Common.{arith, ◌≡◌, ◌≤◌, length, true, ap, ◌∙◌, sym, subst, not, refl}
use Rattle.branch_layout.specs.Slots.{are_distinct, all_stand_in}
use Rattle.slot_code.specs.declared.slots.SlotKind.TheVariants.{If}
use Rattle.slot_liveness.specs.Live.{read_in}
use Rattle.std.proofs.Common.{[]}
use Rattle.stack_emitter.specs.Places.{Spot, spot}
use Rattle.stack_schedule.proofs.Blocks.{left_none, left_more, left_all, rest_is}
use Rattle.stack_schedule.proofs.Keys.{opened_keys, flipped_keys, closed_keys, settled_keys, keys_from}
use Rattle.stack_schedule.proofs.Paid.{left_pays_none, left_pays_more, left_pays_all, joins_by}
use Rattle.stack_schedule.proofs.Spans.{left_places_none, left_places_more, left_places_all, choice_places, step_places}
use Rattle.stack_schedule.proofs.Smaller.{first_smaller, second_smaller}
use Rattle.stack_schedule.proofs.Taken.{choice_yes, choice_yes_ends, choice_yes_once, choice_yes_few, target_few, target_distinct, choice_no, choice_no_ends, choice_no_distinct, choice_no_few, choice_within, choice_does, choice_costs}
use Rattle.stack_schedule.specs.Built.{step}
use Rattle.stack_schedule.proofs.Building.{left_built_none, left_built_more, left_built_all, choice_built}
use Rattle.stack_schedule.proofs.choices.+lower.Goals as goal

pub lower_all-loop-i-init : goal.lower_all-loop-i-init
lower_all-loop-i-init t c = record {
  does = left_none _ _ _ _ c.requires;
  counts = λ k. left_pays_none c.args.low.now c.args.instrs.now k;
  places = left_places_none c.args.low.now.emitter c.args.instrs.now;
  built = left_built_none c.args.body.now c.args.instrs.now c.args.after.now c.args.held.now c.args.low.now;
}

pub lower_all-loop-i-preserved : goal.lower_all-loop-i-preserved
lower_all-loop-i-preserved t c = record {
  does = left_more _ _ _ _ _ _ c.index-instrs-i.result _ c.loop-i.invariant.does c.loop-i-test.true c.index-instrs-i.is _ (rest_is _ _ c.loop-i-test.true) _ c.in_ok-lower_instr.ensures.does;
  counts = λ k. left_pays_more c.args.low.now c.loop-i.low c.lower_instr.new.low c.args.instrs.now c.loop-i.i c.index-instrs-i.result _ (c.loop-i.invariant.counts k) c.loop-i-test.true c.index-instrs-i.is c.in_ok-lower_instr.ensures.counts;
  places = left_places_more c.args.low.now.emitter c.loop-i.low.emitter c.args.instrs.now c.loop-i.i c.index-instrs-i.result _ c.loop-i.invariant.places c.loop-i-test.true c.index-instrs-i.is c.lower_instr.new.low.emitter c.in_ok-lower_instr.ensures.places;
  built = left_built_more c.args.body.now c.args.instrs.now c.args.after.now c.args.held.now c.args.low.now c.loop-i.low c.loop-i.i c.index-instrs-i.result _ _ c.loop-i-test.true c.index-instrs-i.is (rest_is _ _ c.loop-i-test.true) c.lower_instr.new.low c.loop-i.invariant.built c.in_ok-lower_instr.ensures.built;
}

pub lower_all-returns : goal.lower_all-returns
lower_all-returns t c = record {
  does = left_all _ _ _ _ _ _ c.loop-i.invariant.does c.loop-i-test.false;
  counts = λ k. left_pays_all c.args.low.now c.loop-i.low c.args.instrs.now c.loop-i.i (c.loop-i.invariant.counts k) c.loop-i-test.false;
  places = left_places_all c.args.low.now.emitter c.loop-i.low.emitter c.args.instrs.now c.loop-i.i c.loop-i.invariant.places;
  built = left_built_all c.args.body.now c.args.instrs.now c.args.after.now c.args.held.now c.args.low.now c.loop-i.low c.loop-i.i c.loop-i-test.false c.loop-i.invariant.built;
}

pub lower_instr-lower_all-requires : goal.lower_instr-lower_all-requires
lower_instr-lower_all-requires t c =
    (omega (arith, first_smaller c.args.instr.now c.as_slice-yes.result.now c.as_slice-no.result.now (c.in-If.is ∙ ap (λ l. If l c.in-If.no) (sym c.as_slice-yes.ensures) ∙ ap (λ l. If c.as_slice-yes.result.now l) (sym c.as_slice-no.ensures))), choice_yes c.args.instr.now c.as_slice-yes.result.now c.as_slice-no.result.now c.args.rest.now c.args.after.now c.args.held.now (λ s. not (read_in c.args.body.now s)) c.args.low.now c.mark.new.self (record { scope = c.mark.ensures.scope; outer = c.mark.ensures.outer; emitter = c.mark.ensures.emitter; seen = c.in_ok-mark.ensures.seen }) (c.in-If.is ∙ ap (λ l. If l c.in-If.no) (sym c.as_slice-yes.ensures) ∙ ap (λ l. If c.as_slice-yes.result.now l) (sym c.as_slice-no.ensures)) _ _ _ _ _ (record { live_is = c.in_ok-arms.ensures.live; yes_is = c.in_ok-arms.ensures.held_yes; no_is = c.in_ok-arms.ensures.held_no; layout_is = c.in_ok-arms.ensures.before; scope_is = c.in_ok-arms.ensures.scope }) c.requires c.enter.new.low (record { code = c.in_ok-enter.ensures.code; place_is = c.in_ok-enter.ensures.place; scope_is = c.in_ok-enter.ensures.scope; outer_is = c.in_ok-enter.ensures.outer; marks_are = c.enter.ensures.marks }))

pub lower_instr-join-requires-clause-operands : goal.lower_instr-join-requires-clause-operands
lower_instr-join-requires-clause-operands t c =
    choice_yes_ends c.args.instr.now c.as_slice-yes.result.now c.as_slice-no.result.now c.args.rest.now c.args.after.now c.args.held.now (λ s. not (read_in c.args.body.now s)) c.args.low.now c.mark.new.self (record { scope = c.mark.ensures.scope; outer = c.mark.ensures.outer; emitter = c.mark.ensures.emitter; seen = c.in_ok-mark.ensures.seen }) (c.in-If.is ∙ ap (λ l. If l c.in-If.no) (sym c.as_slice-yes.ensures) ∙ ap (λ l. If c.as_slice-yes.result.now l) (sym c.as_slice-no.ensures)) _ _ _ _ _ (record { live_is = c.in_ok-arms.ensures.live; yes_is = c.in_ok-arms.ensures.held_yes; no_is = c.in_ok-arms.ensures.held_no; layout_is = c.in_ok-arms.ensures.before; scope_is = c.in_ok-arms.ensures.scope }) c.requires c.enter.new.low (record { code = c.in_ok-enter.ensures.code; place_is = c.in_ok-enter.ensures.place; scope_is = c.in_ok-enter.ensures.scope; outer_is = c.in_ok-enter.ensures.outer; marks_are = c.enter.ensures.marks }) c.lower_all.new.low c.in_ok-lower_all.ensures.does

pub lower_instr-join-requires-clause-once : goal.lower_instr-join-requires-clause-once
lower_instr-join-requires-clause-once t c =
    choice_yes_once c.args.instr.now c.as_slice-yes.result.now c.as_slice-no.result.now c.args.rest.now c.args.after.now c.args.held.now (λ s. not (read_in c.args.body.now s)) c.args.low.now c.mark.new.self (record { scope = c.mark.ensures.scope; outer = c.mark.ensures.outer; emitter = c.mark.ensures.emitter; seen = c.in_ok-mark.ensures.seen }) (c.in-If.is ∙ ap (λ l. If l c.in-If.no) (sym c.as_slice-yes.ensures) ∙ ap (λ l. If c.as_slice-yes.result.now l) (sym c.as_slice-no.ensures)) _ _ _ _ _ (record { live_is = c.in_ok-arms.ensures.live; yes_is = c.in_ok-arms.ensures.held_yes; no_is = c.in_ok-arms.ensures.held_no; layout_is = c.in_ok-arms.ensures.before; scope_is = c.in_ok-arms.ensures.scope }) c.requires c.enter.new.low (record { code = c.in_ok-enter.ensures.code; place_is = c.in_ok-enter.ensures.place; scope_is = c.in_ok-enter.ensures.scope; outer_is = c.in_ok-enter.ensures.outer; marks_are = c.enter.ensures.marks }) c.lower_all.new.low c.in_ok-lower_all.ensures.does

pub lower_instr-join-requires-clause-few : goal.lower_instr-join-requires-clause-few
lower_instr-join-requires-clause-few t c =
    choice_yes_few c.args.instr.now c.as_slice-yes.result.now c.as_slice-no.result.now c.args.rest.now c.args.after.now c.args.held.now (λ s. not (read_in c.args.body.now s)) c.args.low.now c.mark.new.self (record { scope = c.mark.ensures.scope; outer = c.mark.ensures.outer; emitter = c.mark.ensures.emitter; seen = c.in_ok-mark.ensures.seen }) (c.in-If.is ∙ ap (λ l. If l c.in-If.no) (sym c.as_slice-yes.ensures) ∙ ap (λ l. If c.as_slice-yes.result.now l) (sym c.as_slice-no.ensures)) _ _ _ _ _ (record { live_is = c.in_ok-arms.ensures.live; yes_is = c.in_ok-arms.ensures.held_yes; no_is = c.in_ok-arms.ensures.held_no; layout_is = c.in_ok-arms.ensures.before; scope_is = c.in_ok-arms.ensures.scope }) c.requires c.enter.new.low (record { code = c.in_ok-enter.ensures.code; place_is = c.in_ok-enter.ensures.place; scope_is = c.in_ok-enter.ensures.scope; outer_is = c.in_ok-enter.ensures.outer; marks_are = c.enter.ensures.marks }) c.lower_all.new.low c.in_ok-lower_all.ensures.does

pub lower_instr-lower_all-requires-in-If : goal.lower_instr-lower_all-requires-in-If
lower_instr-lower_all-requires-in-If t c =
    (omega (arith, second_smaller c.args.instr.now c.as_slice-yes.result.now c.as_slice-no.result.now (c.in-If.is ∙ ap (λ l. If l c.in-If.no) (sym c.as_slice-yes.ensures) ∙ ap (λ l. If c.as_slice-yes.result.now l) (sym c.as_slice-no.ensures))), choice_no c.args.instr.now c.as_slice-yes.result.now c.as_slice-no.result.now c.args.rest.now c.args.after.now c.args.held.now (λ s. not (read_in c.args.body.now s)) c.args.low.now c.mark.new.self (record { scope = c.mark.ensures.scope; outer = c.mark.ensures.outer; emitter = c.mark.ensures.emitter; seen = c.in_ok-mark.ensures.seen }) (c.in-If.is ∙ ap (λ l. If l c.in-If.no) (sym c.as_slice-yes.ensures) ∙ ap (λ l. If c.as_slice-yes.result.now l) (sym c.as_slice-no.ensures)) _ _ _ _ _ (record { live_is = c.in_ok-arms.ensures.live; yes_is = c.in_ok-arms.ensures.held_yes; no_is = c.in_ok-arms.ensures.held_no; layout_is = c.in_ok-arms.ensures.before; scope_is = c.in_ok-arms.ensures.scope }) c.requires c.enter.new.low (record { code = c.in_ok-enter.ensures.code; place_is = c.in_ok-enter.ensures.place; scope_is = c.in_ok-enter.ensures.scope; outer_is = c.in_ok-enter.ensures.outer; marks_are = c.enter.ensures.marks }) c.lower_all.new.low c.in_ok-lower_all.ensures.does _ c.in_ok-joined.ensures.target c.join.new.low c.enter-in-If.new.low c.in_ok-joined.ensures.emits.emits c.in_ok-joined.ensures.place c.join.ensures.marks (record { code = c.in_ok-enter-2.ensures.code; place_is = c.in_ok-enter-2.ensures.place; scope_is = c.in_ok-enter-2.ensures.scope; outer_is = c.in_ok-enter-2.ensures.outer; marks_are = c.enter-in-If.ensures.marks }))

pub lower_instr-settle-requires-clause-operands : goal.lower_instr-settle-requires-clause-operands
lower_instr-settle-requires-clause-operands t c =
    choice_no_ends c.args.instr.now c.as_slice-yes.result.now c.as_slice-no.result.now c.args.rest.now c.args.after.now c.args.held.now (λ s. not (read_in c.args.body.now s)) c.args.low.now c.mark.new.self (record { scope = c.mark.ensures.scope; outer = c.mark.ensures.outer; emitter = c.mark.ensures.emitter; seen = c.in_ok-mark.ensures.seen }) (c.in-If.is ∙ ap (λ l. If l c.in-If.no) (sym c.as_slice-yes.ensures) ∙ ap (λ l. If c.as_slice-yes.result.now l) (sym c.as_slice-no.ensures)) _ _ _ _ _ (record { live_is = c.in_ok-arms.ensures.live; yes_is = c.in_ok-arms.ensures.held_yes; no_is = c.in_ok-arms.ensures.held_no; layout_is = c.in_ok-arms.ensures.before; scope_is = c.in_ok-arms.ensures.scope }) c.requires c.enter.new.low (record { code = c.in_ok-enter.ensures.code; place_is = c.in_ok-enter.ensures.place; scope_is = c.in_ok-enter.ensures.scope; outer_is = c.in_ok-enter.ensures.outer; marks_are = c.enter.ensures.marks }) c.lower_all.new.low c.in_ok-lower_all.ensures.does _ c.in_ok-joined.ensures.target c.join.new.low c.enter-in-If.new.low c.in_ok-joined.ensures.emits.emits c.in_ok-joined.ensures.place c.join.ensures.marks (record { code = c.in_ok-enter-2.ensures.code; place_is = c.in_ok-enter-2.ensures.place; scope_is = c.in_ok-enter-2.ensures.scope; outer_is = c.in_ok-enter-2.ensures.outer; marks_are = c.enter-in-If.ensures.marks }) c.lower_all-in-If.new.low c.in_ok-lower_all-2.ensures.does

pub lower_instr-settle-requires-clause-few : goal.lower_instr-settle-requires-clause-few
lower_instr-settle-requires-clause-few t c =
    choice_no_few c.args.instr.now c.as_slice-yes.result.now c.as_slice-no.result.now c.args.rest.now c.args.after.now c.args.held.now (λ s. not (read_in c.args.body.now s)) c.args.low.now c.mark.new.self (record { scope = c.mark.ensures.scope; outer = c.mark.ensures.outer; emitter = c.mark.ensures.emitter; seen = c.in_ok-mark.ensures.seen }) (c.in-If.is ∙ ap (λ l. If l c.in-If.no) (sym c.as_slice-yes.ensures) ∙ ap (λ l. If c.as_slice-yes.result.now l) (sym c.as_slice-no.ensures)) _ _ _ _ _ (record { live_is = c.in_ok-arms.ensures.live; yes_is = c.in_ok-arms.ensures.held_yes; no_is = c.in_ok-arms.ensures.held_no; layout_is = c.in_ok-arms.ensures.before; scope_is = c.in_ok-arms.ensures.scope }) c.requires c.enter.new.low (record { code = c.in_ok-enter.ensures.code; place_is = c.in_ok-enter.ensures.place; scope_is = c.in_ok-enter.ensures.scope; outer_is = c.in_ok-enter.ensures.outer; marks_are = c.enter.ensures.marks }) c.lower_all.new.low c.in_ok-lower_all.ensures.does _ c.in_ok-joined.ensures.target c.join.new.low c.enter-in-If.new.low c.in_ok-joined.ensures.emits.emits c.in_ok-joined.ensures.place c.join.ensures.marks (record { code = c.in_ok-enter-2.ensures.code; place_is = c.in_ok-enter-2.ensures.place; scope_is = c.in_ok-enter-2.ensures.scope; outer_is = c.in_ok-enter-2.ensures.outer; marks_are = c.enter-in-If.ensures.marks }) c.lower_all-in-If.new.low c.in_ok-lower_all-2.ensures.does

pub lower_instr-settle-requires-clause-few_left : goal.lower_instr-settle-requires-clause-few_left
lower_instr-settle-requires-clause-few_left t c =
    subst (λ l. length l ≤ 160) (sym c.as_slice.ensures) (target_few c.args.instr.now c.as_slice-yes.result.now c.as_slice-no.result.now c.args.rest.now c.args.after.now c.args.held.now (λ s. not (read_in c.args.body.now s)) c.args.low.now c.mark.new.self (record { scope = c.mark.ensures.scope; outer = c.mark.ensures.outer; emitter = c.mark.ensures.emitter; seen = c.in_ok-mark.ensures.seen }) (c.in-If.is ∙ ap (λ l. If l c.in-If.no) (sym c.as_slice-yes.ensures) ∙ ap (λ l. If c.as_slice-yes.result.now l) (sym c.as_slice-no.ensures)) _ _ _ _ _ (record { live_is = c.in_ok-arms.ensures.live; yes_is = c.in_ok-arms.ensures.held_yes; no_is = c.in_ok-arms.ensures.held_no; layout_is = c.in_ok-arms.ensures.before; scope_is = c.in_ok-arms.ensures.scope }) c.requires c.enter.new.low (record { code = c.in_ok-enter.ensures.code; place_is = c.in_ok-enter.ensures.place; scope_is = c.in_ok-enter.ensures.scope; outer_is = c.in_ok-enter.ensures.outer; marks_are = c.enter.ensures.marks }) c.lower_all.new.low c.in_ok-lower_all.ensures.does _ c.in_ok-joined.ensures.target)

pub lower_instr-settle-requires-clause-distinct : goal.lower_instr-settle-requires-clause-distinct
lower_instr-settle-requires-clause-distinct t c =
    choice_no_distinct c.args.instr.now c.as_slice-yes.result.now c.as_slice-no.result.now c.args.rest.now c.args.after.now c.args.held.now (λ s. not (read_in c.args.body.now s)) c.args.low.now c.mark.new.self (record { scope = c.mark.ensures.scope; outer = c.mark.ensures.outer; emitter = c.mark.ensures.emitter; seen = c.in_ok-mark.ensures.seen }) (c.in-If.is ∙ ap (λ l. If l c.in-If.no) (sym c.as_slice-yes.ensures) ∙ ap (λ l. If c.as_slice-yes.result.now l) (sym c.as_slice-no.ensures)) _ _ _ _ _ (record { live_is = c.in_ok-arms.ensures.live; yes_is = c.in_ok-arms.ensures.held_yes; no_is = c.in_ok-arms.ensures.held_no; layout_is = c.in_ok-arms.ensures.before; scope_is = c.in_ok-arms.ensures.scope }) c.requires c.enter.new.low (record { code = c.in_ok-enter.ensures.code; place_is = c.in_ok-enter.ensures.place; scope_is = c.in_ok-enter.ensures.scope; outer_is = c.in_ok-enter.ensures.outer; marks_are = c.enter.ensures.marks }) c.lower_all.new.low c.in_ok-lower_all.ensures.does _ c.in_ok-joined.ensures.target c.join.new.low c.enter-in-If.new.low c.in_ok-joined.ensures.emits.emits c.in_ok-joined.ensures.place c.join.ensures.marks (record { code = c.in_ok-enter-2.ensures.code; place_is = c.in_ok-enter-2.ensures.place; scope_is = c.in_ok-enter-2.ensures.scope; outer_is = c.in_ok-enter-2.ensures.outer; marks_are = c.enter-in-If.ensures.marks }) c.lower_all-in-If.new.low c.in_ok-lower_all-2.ensures.does

pub lower_instr-settle-requires-clause-distinct_left : goal.lower_instr-settle-requires-clause-distinct_left
lower_instr-settle-requires-clause-distinct_left t c =
    subst (λ l. are_distinct l ≡ true) (sym c.as_slice.ensures) (target_distinct c.args.instr.now c.as_slice-yes.result.now c.as_slice-no.result.now c.args.rest.now c.args.after.now c.args.held.now (λ s. not (read_in c.args.body.now s)) c.args.low.now c.mark.new.self (record { scope = c.mark.ensures.scope; outer = c.mark.ensures.outer; emitter = c.mark.ensures.emitter; seen = c.in_ok-mark.ensures.seen }) (c.in-If.is ∙ ap (λ l. If l c.in-If.no) (sym c.as_slice-yes.ensures) ∙ ap (λ l. If c.as_slice-yes.result.now l) (sym c.as_slice-no.ensures)) _ _ _ _ _ (record { live_is = c.in_ok-arms.ensures.live; yes_is = c.in_ok-arms.ensures.held_yes; no_is = c.in_ok-arms.ensures.held_no; layout_is = c.in_ok-arms.ensures.before; scope_is = c.in_ok-arms.ensures.scope }) c.requires c.enter.new.low (record { code = c.in_ok-enter.ensures.code; place_is = c.in_ok-enter.ensures.place; scope_is = c.in_ok-enter.ensures.scope; outer_is = c.in_ok-enter.ensures.outer; marks_are = c.enter.ensures.marks }) c.lower_all.new.low c.in_ok-lower_all.ensures.does _ c.in_ok-joined.ensures.target)

pub lower_instr-settle-requires-clause-within : goal.lower_instr-settle-requires-clause-within
lower_instr-settle-requires-clause-within t c =
    subst (λ l. all_stand_in l c.lower_all-in-If.new.low.emitter.place.slots ≡ true) (sym c.as_slice.ensures) (choice_within c.args.instr.now c.as_slice-yes.result.now c.as_slice-no.result.now c.args.rest.now c.args.after.now c.args.held.now (λ s. not (read_in c.args.body.now s)) c.args.low.now c.mark.new.self (record { scope = c.mark.ensures.scope; outer = c.mark.ensures.outer; emitter = c.mark.ensures.emitter; seen = c.in_ok-mark.ensures.seen }) (c.in-If.is ∙ ap (λ l. If l c.in-If.no) (sym c.as_slice-yes.ensures) ∙ ap (λ l. If c.as_slice-yes.result.now l) (sym c.as_slice-no.ensures)) _ _ _ _ _ (record { live_is = c.in_ok-arms.ensures.live; yes_is = c.in_ok-arms.ensures.held_yes; no_is = c.in_ok-arms.ensures.held_no; layout_is = c.in_ok-arms.ensures.before; scope_is = c.in_ok-arms.ensures.scope }) c.requires c.enter.new.low (record { code = c.in_ok-enter.ensures.code; place_is = c.in_ok-enter.ensures.place; scope_is = c.in_ok-enter.ensures.scope; outer_is = c.in_ok-enter.ensures.outer; marks_are = c.enter.ensures.marks }) c.lower_all.new.low c.in_ok-lower_all.ensures.does _ c.in_ok-joined.ensures.target c.join.new.low c.enter-in-If.new.low c.in_ok-joined.ensures.emits.emits c.in_ok-joined.ensures.place c.join.ensures.marks (record { code = c.in_ok-enter-2.ensures.code; place_is = c.in_ok-enter-2.ensures.place; scope_is = c.in_ok-enter-2.ensures.scope; outer_is = c.in_ok-enter-2.ensures.outer; marks_are = c.enter-in-If.ensures.marks }) c.lower_all-in-If.new.low c.in_ok-lower_all-2.ensures.does)

pub lower_instr-returns-in-If : goal.lower_instr-returns-in-If
lower_instr-returns-in-If t c = let does = choice_does c.args.instr.now c.as_slice-yes.result.now c.as_slice-no.result.now c.args.rest.now c.args.after.now c.args.held.now (λ s. not (read_in c.args.body.now s)) c.args.low.now c.mark.new.self (record { scope = c.mark.ensures.scope; outer = c.mark.ensures.outer; emitter = c.mark.ensures.emitter; seen = c.in_ok-mark.ensures.seen }) (c.in-If.is ∙ ap (λ l. If l c.in-If.no) (sym c.as_slice-yes.ensures) ∙ ap (λ l. If c.as_slice-yes.result.now l) (sym c.as_slice-no.ensures)) _ _ _ _ _ (record { live_is = c.in_ok-arms.ensures.live; yes_is = c.in_ok-arms.ensures.held_yes; no_is = c.in_ok-arms.ensures.held_no; layout_is = c.in_ok-arms.ensures.before; scope_is = c.in_ok-arms.ensures.scope }) c.requires c.enter.new.low (record { code = c.in_ok-enter.ensures.code; place_is = c.in_ok-enter.ensures.place; scope_is = c.in_ok-enter.ensures.scope; outer_is = c.in_ok-enter.ensures.outer; marks_are = c.enter.ensures.marks }) c.lower_all.new.low c.in_ok-lower_all.ensures.does _ c.in_ok-joined.ensures.target c.join.new.low c.enter-in-If.new.low c.in_ok-joined.ensures.emits.emits c.in_ok-joined.ensures.place c.join.ensures.marks (record { code = c.in_ok-enter-2.ensures.code; place_is = c.in_ok-enter-2.ensures.place; scope_is = c.in_ok-enter-2.ensures.scope; outer_is = c.in_ok-enter-2.ensures.outer; marks_are = c.enter-in-If.ensures.marks }) c.lower_all-in-If.new.low c.in_ok-lower_all-2.ensures.does (record { emitter = c.settle.new.self; scope = c.lower_all-in-If.new.low.scope; outer = c.lower_all-in-If.new.low.outer; marks = c.lower_all-in-If.new.low.marks }) _ c.in_ok-settle.ensures.emits.emits (c.in_ok-settle.ensures.place ∙ ap (spot []) c.as_slice.ensures) c.in_ok-put.ensures.code c.put.ensures.place refl (c.in_ok-outer.ensures) refl in record {
  does = does;
  counts = λ k.
      let known_a = opened_keys c.mark.new.self.emitter c.enter.new.low.emitter c.args.instr.now.doing c.args.instr.now.checking _ c.in_ok-enter.ensures.code c.in_ok-enter.ensures.place
      (keys_from c.mark.new.self.emitter c.args.low.now.emitter c.mark.ensures.emitter k).known in
      let in_yes = c.in_ok-lower_all.ensures.counts known_a in
      let known_c = flipped_keys c.join.new.low.emitter c.enter-in-If.new.low.emitter c.args.instr.now.doing c.args.instr.now.checking _ c.in_ok-enter-2.ensures.code c.in_ok-enter-2.ensures.place
      (settled_keys c.args.instr.now.checking c.lower_all.new.low.emitter c.join.new.low.emitter _ c.in_ok-joined.ensures.emits c.in_ok-joined.ensures.place in_yes.keys).known in
      let in_no = c.in_ok-lower_all-2.ensures.counts known_c in
      record {
        keys = closed_keys c.settle.new.self c.put.new.self c.args.instr.now.doing c.args.instr.now.checking _ c.in_ok-put.ensures.code (c.put.ensures.place ∙ c.in_ok-settle.ensures.place)
            (settled_keys c.args.instr.now.checking c.lower_all-in-If.new.low.emitter c.settle.new.self _ c.in_ok-settle.ensures.emits c.in_ok-settle.ensures.place in_no.keys).known;
        pays = choice_costs c.args.instr.now c.as_slice-yes.result.now c.as_slice-no.result.now c.args.rest.now c.args.after.now c.args.held.now (λ s. not (read_in c.args.body.now s)) c.args.low.now c.mark.new.self (record { scope = c.mark.ensures.scope; outer = c.mark.ensures.outer; emitter = c.mark.ensures.emitter; seen = c.in_ok-mark.ensures.seen }) (c.in-If.is ∙ ap (λ l. If l c.in-If.no) (sym c.as_slice-yes.ensures) ∙ ap (λ l. If c.as_slice-yes.result.now l) (sym c.as_slice-no.ensures)) _ _ _ _ _ (record { live_is = c.in_ok-arms.ensures.live; yes_is = c.in_ok-arms.ensures.held_yes; no_is = c.in_ok-arms.ensures.held_no; layout_is = c.in_ok-arms.ensures.before; scope_is = c.in_ok-arms.ensures.scope }) c.requires c.enter.new.low (record { code = c.in_ok-enter.ensures.code; place_is = c.in_ok-enter.ensures.place; scope_is = c.in_ok-enter.ensures.scope; outer_is = c.in_ok-enter.ensures.outer; marks_are = c.enter.ensures.marks }) c.lower_all.new.low c.in_ok-lower_all.ensures.does _ c.in_ok-joined.ensures.target c.join.new.low c.enter-in-If.new.low c.in_ok-joined.ensures.emits.emits c.in_ok-joined.ensures.place c.join.ensures.marks (record { code = c.in_ok-enter-2.ensures.code; place_is = c.in_ok-enter-2.ensures.place; scope_is = c.in_ok-enter-2.ensures.scope; outer_is = c.in_ok-enter-2.ensures.outer; marks_are = c.enter-in-If.ensures.marks }) c.lower_all-in-If.new.low c.in_ok-lower_all-2.ensures.does _ in_yes.pays in_no.pays
            (joins_by c.args.instr.now.checking c.lower_all.new.low.emitter c.join.new.low.emitter c.in_ok-joined.ensures.emits c.in_ok-joined.ensures.bytes c.in_ok-joined.ensures.ops)
            c.settle.new.self (joins_by c.args.instr.now.checking c.lower_all-in-If.new.low.emitter c.settle.new.self c.in_ok-settle.ensures.emits c.in_ok-settle.ensures.bytes c.in_ok-settle.ensures.ops)
            c.in_ok-put.ensures.code (ap (λ (p : Spot). p.slots) (c.put.ensures.place ∙ c.in_ok-settle.ensures.place) ∙ c.as_slice.ensures) refl;
      };
  places = choice_places c.args.instr.now c.as_slice-yes.result.now c.as_slice-no.result.now (c.in-If.is ∙ ap (λ l. If l c.in-If.no) (sym c.as_slice-yes.ensures) ∙ ap (λ l. If c.as_slice-yes.result.now l) (sym c.as_slice-no.ensures)) c.args.low.now.emitter c.mark.new.self.emitter c.mark.ensures.emitter c.enter.new.low.emitter c.lower_all.new.low.emitter c.enter-in-If.new.low.emitter c.lower_all-in-If.new.low.emitter c.in_ok-enter.ensures.code
      c.put.new.self c.join.new.low.emitter c.settle.new.self c.in_ok-lower_all.ensures.places c.in_ok-joined.ensures.emits c.in_ok-enter-2.ensures.code c.in_ok-lower_all-2.ensures.places c.in_ok-settle.ensures.emits c.in_ok-put.ensures.code;
  built = choice_built c.args.body.now c.args.instr.now c.as_slice-yes.result.now c.as_slice-no.result.now c.args.rest.now c.args.after.now c.args.held.now c.args.low.now c.mark.new.self (record { scope = c.mark.ensures.scope; outer = c.mark.ensures.outer; emitter = c.mark.ensures.emitter; marks = c.in_ok-mark.ensures.marks })
      (c.in-If.is ∙ ap (λ l. If l c.in-If.no) (sym c.as_slice-yes.ensures) ∙ ap (λ l. If c.as_slice-yes.result.now l) (sym c.as_slice-no.ensures))
      _ _ _ _ _ (record { live_is = c.in_ok-arms.ensures.live; yes_is = c.in_ok-arms.ensures.held_yes; no_is = c.in_ok-arms.ensures.held_no; layout_is = c.in_ok-arms.ensures.before; scope_is = c.in_ok-arms.ensures.scope })
      c.requires c.enter.new.low c.lower_all.new.low c.join.new.low c.enter-in-If.new.low c.lower_all-in-If.new.low _ c.settle.new.self does
      (record { code = c.in_ok-enter.ensures.code; place = c.in_ok-enter.ensures.place; scope_is = c.in_ok-enter.ensures.scope; outer_is = c.in_ok-enter.ensures.outer; marks = c.enter.ensures.marks })
      c.in_ok-lower_all.ensures.built c.in_ok-joined.ensures.emits c.join.ensures.marks
      (record { code = c.in_ok-enter-2.ensures.code; place = c.in_ok-enter-2.ensures.place; scope_is = c.in_ok-enter-2.ensures.scope; outer_is = c.in_ok-enter-2.ensures.outer; marks = c.enter-in-If.ensures.marks })
      c.in_ok-lower_all-2.ensures.built c.in_ok-settle.ensures.emits c.in_ok-put.ensures.code refl;
}

pub lower_instr-returns : goal.lower_instr-returns
lower_instr-returns t c = record {
  does = c.in_ok-step.ensures.steps.does;
  counts = λ k. record { keys = c.in_ok-step.ensures.steps.keys k; pays = c.in_ok-step.ensures.steps.pays k };
  places = step_places c.args.instr.now c.args.low.now.emitter c.step.new.low.emitter c.in_ok-step.ensures.steps.tells;
  built = λ u. step c.args.instr.now c.args.rest.now c.args.after.now c.args.held.now c.args.low.now c.step.new.low c.in_ok-step.ensures;
}
