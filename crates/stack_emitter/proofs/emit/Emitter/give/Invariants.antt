use Rattle.std.proofs.Common.{◌≡◌, ◌++◌, replicate, None}
use Rattle.stack_emitter.specs.Places.{spot}
use Rattle.stack_emitter.proofs.emit.Emitter.give.Given as goal

abbrev pub invariant-loop-i : goal.invariant-loop-i
invariant-loop-i l = record {
  code : l.self.code ≡ l.initial.self.code;
  place : l.self.place ≡ spot (replicate l.i None ++ l.initial.self.place.operands) l.initial.self.place.slots;
}
