use Rattle.slot_liveness.specs.Live.{hold}
use Rattle.stack_steps.specs.Steps.{KeysKnown}
use Rattle.stack_schedule.proofs.Ways.{LeftEnd}
use Rattle.stack_schedule.proofs.Paid.{LeftPaysEnd}
use Rattle.stack_schedule.proofs.Spans.{LeftPlaces}
use Rattle.stack_schedule.proofs.Building.{LeftPath}
use Rattle.stack_schedule.proofs.paths.+tail.Given as goal

abbrev pub invariant-lower_tail-loop-i : goal.invariant-lower_tail-loop-i
invariant-lower_tail-loop-i l = record {
  finishes : LeftEnd l.around l.initial.low l.low l.instrs l.after (hold l.body l.held) l.i;
  counts : KeysKnown l.initial.low.emitter → LeftPaysEnd l.initial.low l.low l.instrs l.i;
  places : LeftPlaces l.initial.low.emitter l.low.emitter l.instrs l.i;
  built : LeftPath l.around l.body l.instrs l.after l.held l.initial.low l.low l.i;
}
