use Rattle.std.proofs.Common.{refl}
use Rattle.slot_liveness.specs.Live.{hold}
use Rattle.stack_schedule.proofs.Lasts.{last_ready, last_closed, true_finishes, check_operand, check_finishes}
use Rattle.stack_schedule.proofs.Paid.{check_counts, true_counts, instr_covers}
use Rattle.stack_schedule.proofs.Spans.{check_places, true_places}
use Rattle.stack_schedule.specs.Built.{check, finish}
use Rattle.stack_schedule.proofs.paths.last_of_path.Goals as goal

pub finish-requires : goal.finish-requires
finish-requires c =
    check_operand c.args.instr.now c.args.rest.now c.args.after.now (hold c.args.body.now c.args.held.now) c.args.low.now c.requires.no_choice c.requires.may c.mark.new.self (record { scope = c.mark.ensures.scope; outer = c.mark.ensures.outer; emitter = c.mark.ensures.emitter; seen = c.in_ok-mark.ensures.seen }) c.in-Require.is

pub returns-in-Require : goal.returns-in-Require
returns-in-Require c = record {
  finishes = check_finishes c.args.instr.now c.args.rest.now c.args.after.now (hold c.args.body.now c.args.held.now) c.args.low.now c.requires.no_choice c.requires.may c.mark.new.self (record { scope = c.mark.ensures.scope; outer = c.mark.ensures.outer; emitter = c.mark.ensures.emitter; seen = c.in_ok-mark.ensures.seen }) c.in-Require.is _ c.in_ok-finish.ensures.ends refl;
  counts = λ k. check_counts c.args.instr.now c.args.low.now _ c.mark.new.self.emitter c.args.instr.now.checking _ c.in-Require.is c.mark.ensures.emitter k (c.in_ok-finish.ensures.ends c.args.instr.now.doing) c.in_ok-finish.ensures.costs;
  places = check_places c.args.instr.now c.args.low.now.emitter c.finish.new.self c.mark.new.self.emitter _ c.mark.ensures.emitter (c.in_ok-finish.ensures.ends c.args.instr.now.doing);
  built = λ u. check c.args.instr.now c.args.rest.now c.args.after.now c.args.held.now c.args.low.now c.mark.new.self _ c.in-Require.is c.requires.may (record { scope = c.mark.ensures.scope; outer = c.mark.ensures.outer; emitter = c.mark.ensures.emitter; marks = c.in_ok-mark.ensures.marks }) (c.in_ok-finish.ensures.ends c.args.instr.now.doing) refl;
}

pub step-requires : goal.step-requires
step-requires c =
    record { no_choice = c.requires.no_choice; ready = last_ready c.args.instr.now c.args.rest.now c.args.after.now (hold c.args.body.now c.args.held.now) c.args.low.now c.requires.no_choice c.requires.may }

pub finish_true-requires : goal.finish_true-requires
finish_true-requires c =
    last_closed c.args.instr.now c.args.rest.now c.args.after.now (hold c.args.body.now c.args.held.now) c.args.low.now c.requires.no_choice c.requires.may c.step.new.low c.in_ok-step.ensures.steps.does

pub returns : goal.returns
returns c = record {
  finishes = true_finishes c.args.instr.now c.args.rest.now c.args.after.now (hold c.args.body.now c.args.held.now) c.args.low.now c.requires.no_choice c.requires.may c.step.new.low c.in_ok-step.ensures.steps.does _ c.in_ok-finish_true.ensures.ends refl;
  counts = λ k. true_counts c.args.instr.now c.args.low.now c.step.new.low _ c.args.instr.now.checking _ (instr_covers c.args.instr.now c.in_default.not-Require c.requires.no_choice) (record { keys = c.in_ok-step.ensures.steps.keys k; pays = c.in_ok-step.ensures.steps.pays k }) c.in_ok-finish_true.ensures.ends c.in_ok-finish_true.ensures.costs;
  places = true_places c.args.instr.now c.args.low.now.emitter c.step.new.low.emitter c.finish_true.new.self _ c.in_ok-step.ensures.steps.tells c.in_ok-finish_true.ensures.ends;
  built = λ u. finish c.args.instr.now c.args.rest.now c.args.after.now c.args.held.now c.args.low.now c.step.new.low _ c.in_ok-step.ensures c.in_ok-finish_true.ensures.ends refl;
}
