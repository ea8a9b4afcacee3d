use Rattle.slot_liveness.specs.Live.{hold}
use Rattle.stack_steps.specs.Steps.{KeysKnown}
use Rattle.stack_schedule.proofs.Blocks.{Left}
use Rattle.stack_schedule.proofs.Paid.{LeftPays}
use Rattle.stack_schedule.proofs.Spans.{LeftPlaces}
use Rattle.stack_schedule.proofs.Building.{LeftBuilt}
use Rattle.stack_schedule.proofs.choices.+lower.Given as goal

abbrev pub invariant-lower_all-loop-i : goal.invariant-lower_all-loop-i
invariant-lower_all-loop-i l = record {
  does : Left l.initial.low l.low l.instrs l.after (hold l.body l.held) l.i;
  counts : KeysKnown l.initial.low.emitter → LeftPays l.initial.low l.low l.instrs l.i;
  places : LeftPlaces l.initial.low.emitter l.low.emitter l.instrs l.i;
  built : LeftBuilt l.body l.instrs l.after l.held l.initial.low l.low l.i;
}
