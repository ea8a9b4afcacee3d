use Rattle.std.proofs.Common.{arith, ap, ◌∙◌, sym, not, refl}
use Rattle.slot_code.specs.declared.slots.SlotKind.TheVariants.{If}
use Rattle.slot_liveness.specs.Live.{hold, read_in}
use Rattle.stack_schedule.proofs.Blocks.{rest_is}
use Rattle.stack_schedule.proofs.Inverse.{over_ends, not_over}
use Rattle.stack_schedule.proofs.Keys.{opened_keys, flipped_keys, closed_counted, keys_from}
use Rattle.stack_schedule.proofs.Paid.{end_pays_none, end_pays_more, end_pays_done, end_pays_missing}
use Rattle.stack_schedule.proofs.Spans.{left_places_none, left_places_more, end_places_done, end_places_missing, fork_places}
use Rattle.stack_schedule.proofs.Smaller.{first_smaller, second_smaller}
use Rattle.stack_schedule.proofs.Taken.{path_yes, path_no, path_finishes, path_costs}
use Rattle.stack_schedule.proofs.Ways.{left_end_none, end_item, left_end_more, end_last, left_end_done, missing_closed, left_end_missing}
use Rattle.stack_schedule.proofs.Building.{left_path_none, left_path_more, left_path_done, left_path_missing, fork_built}
use Rattle.stack_schedule.proofs.paths.+tail.Goals as goal

pub lower_tail-loop-i-init : goal.lower_tail-loop-i-init
lower_tail-loop-i-init t c = record {
  finishes = left_end_none c.args.around c.args.low.now c.args.instrs.now c.args.after.now (hold c.args.body.now c.args.held.now) c.requires;
  counts = λ k. end_pays_none c.args.low.now c.args.instrs.now k;
  places = left_places_none c.args.low.now.emitter c.args.instrs.now;
  built = left_path_none c.args.around c.args.body.now c.args.instrs.now c.args.after.now c.args.held.now c.args.low.now;
}

pub lower_tail-may_end-requires : goal.lower_tail-may_end-requires
lower_tail-may_end-requires t c =
    (end_last c.args.around c.args.low.now c.loop-i.low c.args.instrs.now c.args.after.now (hold c.args.body.now c.args.held.now) c.loop-i.i c.index-instrs-i.result _ _ c.loop-i.invariant.finishes c.loop-i-test.true c.index-instrs-i.is (rest_is _ _ c.loop-i-test.true) (sym c.is_over.ensures ∙ c.if-is_over.true) (over_ends _ (sym c.is_over.ensures ∙ c.if-is_over.true)))

pub lower_tail-returns-then-is_over : goal.lower_tail-returns-then-is_over
lower_tail-returns-then-is_over t c = record {
  finishes = left_end_done c.args.around c.args.low.now c.loop-i.low c.args.instrs.now c.args.after.now (hold c.args.body.now c.args.held.now) c.loop-i.i c.index-instrs-i.result _ _ c.loop-i.invariant.finishes c.loop-i-test.true c.index-instrs-i.is (rest_is _ _ c.loop-i-test.true) (sym c.is_over.ensures ∙ c.if-is_over.true) (over_ends _ (sym c.is_over.ensures ∙ c.if-is_over.true)) c.lower_last.new.low c.in_ok-lower_last.ensures.finishes;
  counts = λ k. end_pays_done c.args.low.now c.loop-i.low c.args.instrs.now c.loop-i.i c.index-instrs-i.result _ _ (c.loop-i.invariant.counts k) c.loop-i-test.true c.index-instrs-i.is (rest_is _ _ c.loop-i-test.true) c.lower_last.new.low (sym c.is_over.ensures ∙ c.if-is_over.true) c.in_ok-lower_last.ensures.counts;
  places = end_places_done c.args.low.now.emitter c.loop-i.low.emitter c.args.instrs.now c.loop-i.i c.index-instrs-i.result _ c.loop-i.invariant.places c.loop-i-test.true c.index-instrs-i.is c.args.around c.lower_last.new.low.emitter c.in_ok-lower_last.ensures.places;
  built = left_path_done c.args.body.now c.args.instrs.now c.args.after.now c.args.held.now c.args.low.now c.loop-i.low c.loop-i.i c.index-instrs-i.result _ _ c.loop-i-test.true c.index-instrs-i.is (rest_is _ _ c.loop-i-test.true) c.args.around c.lower_last.new.low c.loop-i.invariant.built (sym c.is_over.ensures ∙ c.if-is_over.true) c.in_ok-lower_last.ensures.built;
}

pub lower_tail-lower_instr-requires : goal.lower_tail-lower_instr-requires
lower_tail-lower_instr-requires t c =
    end_item c.args.around c.args.low.now c.loop-i.low c.args.instrs.now c.args.after.now (hold c.args.body.now c.args.held.now) c.loop-i.i c.index-instrs-i.result _ _ c.loop-i.invariant.finishes c.loop-i-test.true c.index-instrs-i.is (rest_is _ _ c.loop-i-test.true) (sym c.is_over.ensures ∙ c.if-is_over.false)

pub lower_tail-loop-i-preserved : goal.lower_tail-loop-i-preserved
lower_tail-loop-i-preserved t c = record {
  finishes = left_end_more c.args.around c.args.low.now c.loop-i.low c.args.instrs.now c.args.after.now (hold c.args.body.now c.args.held.now) c.loop-i.i c.index-instrs-i.result _ _ c.loop-i.invariant.finishes c.loop-i-test.true c.index-instrs-i.is (rest_is _ _ c.loop-i-test.true) (sym c.is_over.ensures ∙ c.if-is_over.false) (not_over _ (sym c.is_over.ensures ∙ c.if-is_over.false)) c.lower_instr.new.low c.in_ok-lower_instr.ensures.does;
  counts = λ k. end_pays_more c.args.low.now c.loop-i.low c.args.instrs.now c.loop-i.i c.index-instrs-i.result _ _ (c.loop-i.invariant.counts k) c.loop-i-test.true c.index-instrs-i.is (rest_is _ _ c.loop-i-test.true) c.lower_instr.new.low (sym c.is_over.ensures ∙ c.if-is_over.false) c.in_ok-lower_instr.ensures.counts;
  places = left_places_more c.args.low.now.emitter c.loop-i.low.emitter c.args.instrs.now c.loop-i.i c.index-instrs-i.result _ c.loop-i.invariant.places c.loop-i-test.true c.index-instrs-i.is c.lower_instr.new.low.emitter c.in_ok-lower_instr.ensures.places;
  built = left_path_more c.args.body.now c.args.instrs.now c.args.after.now c.args.held.now c.args.low.now c.loop-i.low c.loop-i.i c.index-instrs-i.result _ _ c.loop-i-test.true c.index-instrs-i.is (rest_is _ _ c.loop-i-test.true) c.args.around c.lower_instr.new.low c.loop-i.invariant.built (sym c.is_over.ensures ∙ c.if-is_over.false) c.in_ok-lower_instr.ensures.built;
}

pub lower_tail-finish_true-requires : goal.lower_tail-finish_true-requires
lower_tail-finish_true-requires t c =
    missing_closed c.args.around c.args.low.now c.loop-i.low c.args.instrs.now c.args.after.now (hold c.args.body.now c.args.held.now) c.loop-i.i c.loop-i.invariant.finishes c.loop-i-test.false

pub lower_tail-returns : goal.lower_tail-returns
lower_tail-returns t c = record {
  finishes = left_end_missing c.args.around c.args.low.now c.loop-i.low c.args.instrs.now c.args.after.now (hold c.args.body.now c.args.held.now) c.loop-i.i c.loop-i.invariant.finishes c.loop-i-test.false _ c.in_ok-finish_true.ensures.ends refl;
  counts = λ k. end_pays_missing c.args.low.now c.loop-i.low _ c.args.instrs.now c.loop-i.i c.args.around _ (c.loop-i.invariant.counts k) c.loop-i-test.false c.in_ok-finish_true.ensures.ends c.in_ok-finish_true.ensures.costs;
  places = end_places_missing c.args.low.now.emitter c.loop-i.low.emitter c.finish_true.new.self c.args.instrs.now c.loop-i.i c.args.around _ c.loop-i.invariant.places c.in_ok-finish_true.ensures.ends;
  built = left_path_missing c.args.body.now c.args.instrs.now c.args.after.now c.args.held.now c.args.low.now c.loop-i.low c.loop-i.i c.loop-i-test.false c.args.around _ c.loop-i.invariant.built c.in_ok-finish_true.ensures.ends refl;
}

pub lower_last-lower_tail-requires : goal.lower_last-lower_tail-requires
lower_last-lower_tail-requires t c =
    (omega (arith, first_smaller c.args.instr.now c.as_slice-yes.result.now c.as_slice-no.result.now (c.in-If.is ∙ ap (λ l. If l c.in-If.no) (sym c.as_slice-yes.ensures) ∙ ap (λ l. If c.as_slice-yes.result.now l) (sym c.as_slice-no.ensures))), path_yes c.args.instr.now c.as_slice-yes.result.now c.as_slice-no.result.now c.args.rest.now c.args.after.now c.args.held.now (λ s. not (read_in c.args.body.now s)) c.args.low.now c.mark.new.self (record { scope = c.mark.ensures.scope; outer = c.mark.ensures.outer; emitter = c.mark.ensures.emitter; seen = c.in_ok-mark.ensures.seen }) (c.in-If.is ∙ ap (λ l. If l c.in-If.no) (sym c.as_slice-yes.ensures) ∙ ap (λ l. If c.as_slice-yes.result.now l) (sym c.as_slice-no.ensures)) _ _ _ _ _ (record { live_is = c.in_ok-arms.ensures.live; yes_is = c.in_ok-arms.ensures.held_yes; no_is = c.in_ok-arms.ensures.held_no; layout_is = c.in_ok-arms.ensures.before; scope_is = c.in_ok-arms.ensures.scope }) c.requires _ c.new-none.ensures c.enter.new.low (record { code = c.in_ok-enter.ensures.code; place_is = c.in_ok-enter.ensures.place; scope_is = c.in_ok-enter.ensures.scope; outer_is = c.in_ok-enter.ensures.outer; marks_are = c.enter.ensures.marks }))

pub lower_last-lower_tail-requires-in-If : goal.lower_last-lower_tail-requires-in-If
lower_last-lower_tail-requires-in-If t c =
    (omega (arith, second_smaller c.args.instr.now c.as_slice-yes.result.now c.as_slice-no.result.now (c.in-If.is ∙ ap (λ l. If l c.in-If.no) (sym c.as_slice-yes.ensures) ∙ ap (λ l. If c.as_slice-yes.result.now l) (sym c.as_slice-no.ensures))), path_no c.args.instr.now c.as_slice-yes.result.now c.as_slice-no.result.now c.args.rest.now c.args.after.now c.args.held.now (λ s. not (read_in c.args.body.now s)) c.args.low.now c.mark.new.self (record { scope = c.mark.ensures.scope; outer = c.mark.ensures.outer; emitter = c.mark.ensures.emitter; seen = c.in_ok-mark.ensures.seen }) (c.in-If.is ∙ ap (λ l. If l c.in-If.no) (sym c.as_slice-yes.ensures) ∙ ap (λ l. If c.as_slice-yes.result.now l) (sym c.as_slice-no.ensures)) _ _ _ _ _ (record { live_is = c.in_ok-arms.ensures.live; yes_is = c.in_ok-arms.ensures.held_yes; no_is = c.in_ok-arms.ensures.held_no; layout_is = c.in_ok-arms.ensures.before; scope_is = c.in_ok-arms.ensures.scope }) c.requires _ c.new-none.ensures c.enter.new.low (record { code = c.in_ok-enter.ensures.code; place_is = c.in_ok-enter.ensures.place; scope_is = c.in_ok-enter.ensures.scope; outer_is = c.in_ok-enter.ensures.outer; marks_are = c.enter.ensures.marks }) c.lower_tail.new.low c.in_ok-lower_tail.ensures.finishes c.enter-in-If.new.low (record { code = c.in_ok-enter-2.ensures.code; place_is = c.in_ok-enter-2.ensures.place; scope_is = c.in_ok-enter-2.ensures.scope; outer_is = c.in_ok-enter-2.ensures.outer; marks_are = c.enter-in-If.ensures.marks }))

pub lower_last-returns-in-If : goal.lower_last-returns-in-If
lower_last-returns-in-If t c = record {
  finishes = path_finishes c.args.instr.now c.as_slice-yes.result.now c.as_slice-no.result.now c.args.rest.now c.args.after.now c.args.held.now (λ s. not (read_in c.args.body.now s)) c.args.low.now c.mark.new.self (record { scope = c.mark.ensures.scope; outer = c.mark.ensures.outer; emitter = c.mark.ensures.emitter; seen = c.in_ok-mark.ensures.seen }) (c.in-If.is ∙ ap (λ l. If l c.in-If.no) (sym c.as_slice-yes.ensures) ∙ ap (λ l. If c.as_slice-yes.result.now l) (sym c.as_slice-no.ensures)) _ _ _ _ _ (record { live_is = c.in_ok-arms.ensures.live; yes_is = c.in_ok-arms.ensures.held_yes; no_is = c.in_ok-arms.ensures.held_no; layout_is = c.in_ok-arms.ensures.before; scope_is = c.in_ok-arms.ensures.scope }) c.requires _ c.new-none.ensures c.enter.new.low (record { code = c.in_ok-enter.ensures.code; place_is = c.in_ok-enter.ensures.place; scope_is = c.in_ok-enter.ensures.scope; outer_is = c.in_ok-enter.ensures.outer; marks_are = c.enter.ensures.marks }) c.lower_tail.new.low c.in_ok-lower_tail.ensures.finishes c.enter-in-If.new.low (record { code = c.in_ok-enter-2.ensures.code; place_is = c.in_ok-enter-2.ensures.place; scope_is = c.in_ok-enter-2.ensures.scope; outer_is = c.in_ok-enter-2.ensures.outer; marks_are = c.enter-in-If.ensures.marks }) c.lower_tail-in-If.new.low c.in_ok-lower_tail-2.ensures.finishes _ c.in_ok-put.ensures.code refl;
  counts = λ k.
      let known_a = opened_keys c.mark.new.self.emitter c.enter.new.low.emitter c.args.instr.now.doing c.args.instr.now.checking _ c.in_ok-enter.ensures.code c.in_ok-enter.ensures.place
      (keys_from c.mark.new.self.emitter c.args.low.now.emitter c.mark.ensures.emitter k).known in
      let in_yes = c.in_ok-lower_tail.ensures.counts known_a in
      let known_c = flipped_keys c.lower_tail.new.low.emitter c.enter-in-If.new.low.emitter c.args.instr.now.doing c.args.instr.now.checking _ c.in_ok-enter-2.ensures.code c.in_ok-enter-2.ensures.place in_yes.keys in
      let in_no = c.in_ok-lower_tail-2.ensures.counts known_c in
      path_costs c.args.instr.now c.as_slice-yes.result.now c.as_slice-no.result.now c.args.rest.now c.args.after.now c.args.held.now (λ s. not (read_in c.args.body.now s)) c.args.low.now c.mark.new.self (record { scope = c.mark.ensures.scope; outer = c.mark.ensures.outer; emitter = c.mark.ensures.emitter; seen = c.in_ok-mark.ensures.seen }) (c.in-If.is ∙ ap (λ l. If l c.in-If.no) (sym c.as_slice-yes.ensures) ∙ ap (λ l. If c.as_slice-yes.result.now l) (sym c.as_slice-no.ensures)) _ _ _ _ _ (record { live_is = c.in_ok-arms.ensures.live; yes_is = c.in_ok-arms.ensures.held_yes; no_is = c.in_ok-arms.ensures.held_no; layout_is = c.in_ok-arms.ensures.before; scope_is = c.in_ok-arms.ensures.scope }) c.requires _ c.new-none.ensures c.enter.new.low (record { code = c.in_ok-enter.ensures.code; place_is = c.in_ok-enter.ensures.place; scope_is = c.in_ok-enter.ensures.scope; outer_is = c.in_ok-enter.ensures.outer; marks_are = c.enter.ensures.marks }) c.lower_tail.new.low c.in_ok-lower_tail.ensures.finishes c.enter-in-If.new.low (record { code = c.in_ok-enter-2.ensures.code; place_is = c.in_ok-enter-2.ensures.place; scope_is = c.in_ok-enter-2.ensures.scope; outer_is = c.in_ok-enter-2.ensures.outer; marks_are = c.enter-in-If.ensures.marks }) c.lower_tail-in-If.new.low _ in_yes in_no c.in_ok-put.ensures.code
      (closed_counted c.lower_tail-in-If.new.low.emitter c.put.new.self c.args.instr.now.doing c.args.instr.now.checking c.in_ok-put.ensures.code in_no.keys);
  places = fork_places c.args.instr.now c.as_slice-yes.result.now c.as_slice-no.result.now (c.in-If.is ∙ ap (λ l. If l c.in-If.no) (sym c.as_slice-yes.ensures) ∙ ap (λ l. If c.as_slice-yes.result.now l) (sym c.as_slice-no.ensures)) c.args.low.now.emitter c.mark.new.self.emitter c.mark.ensures.emitter c.enter.new.low.emitter c.lower_tail.new.low.emitter c.enter-in-If.new.low.emitter c.lower_tail-in-If.new.low.emitter c.in_ok-enter.ensures.code
      c.put.new.self c.in_ok-lower_tail.ensures.places c.in_ok-enter-2.ensures.code c.in_ok-lower_tail-2.ensures.places c.in_ok-put.ensures.code;
  built = fork_built c.args.body.now c.args.instr.now c.as_slice-yes.result.now c.as_slice-no.result.now c.args.rest.now c.args.after.now c.args.held.now c.args.low.now c.mark.new.self (record { scope = c.mark.ensures.scope; outer = c.mark.ensures.outer; emitter = c.mark.ensures.emitter; marks = c.in_ok-mark.ensures.marks })
      (c.in-If.is ∙ ap (λ l. If l c.in-If.no) (sym c.as_slice-yes.ensures) ∙ ap (λ l. If c.as_slice-yes.result.now l) (sym c.as_slice-no.ensures))
      _ _ _ _ _ (record { live_is = c.in_ok-arms.ensures.live; yes_is = c.in_ok-arms.ensures.held_yes; no_is = c.in_ok-arms.ensures.held_no; layout_is = c.in_ok-arms.ensures.before; scope_is = c.in_ok-arms.ensures.scope })
      c.requires _ c.new-none.ensures c.enter.new.low c.lower_tail.new.low c.enter-in-If.new.low c.lower_tail-in-If.new.low _
      (record { code = c.in_ok-enter.ensures.code; place = c.in_ok-enter.ensures.place; scope_is = c.in_ok-enter.ensures.scope; outer_is = c.in_ok-enter.ensures.outer; marks = c.enter.ensures.marks })
      c.in_ok-lower_tail.ensures.built c.in_ok-lower_tail.ensures.finishes.seen
      (record { code = c.in_ok-enter-2.ensures.code; place = c.in_ok-enter-2.ensures.place; scope_is = c.in_ok-enter-2.ensures.scope; outer_is = c.in_ok-enter-2.ensures.outer; marks = c.enter-in-If.ensures.marks })
      c.in_ok-lower_tail-2.ensures.built c.in_ok-put.ensures.code refl;
}
