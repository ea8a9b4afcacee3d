use Rattle.std.proofs.Common.{◌≡◌, ◌++◌, drop}
use Rattle.stack_emitter.specs.Correct.{rows_of}
use Rattle.stack_emitter.proofs.emit.Emitter.put_all.Given as goal

abbrev pub invariant-loop-instr : goal.invariant-loop-instr
invariant-loop-instr l = record {
  code : l.self.code.items ++ rows_of l.checking (drop l.instr-index l.instrs) ≡ l.initial.self.code.items ++ rows_of l.checking l.instrs;
  place : l.self.place ≡ l.initial.self.place;
}
