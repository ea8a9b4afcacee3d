use Rattle.std.proofs.Common.{◌≡◌, ◌++◌, replicate}
use Rattle.script_codec.specs.declared.instr.Instr.TheVariants.{Do}
use Rattle.stack_emitter.proofs.emit.Emitter.repeat.Given as goal

abbrev pub invariant-loop-i : goal.invariant-loop-i
invariant-loop-i l = record {
  code : l.self.code.items ≡ l.initial.self.code.items ++ replicate l.i (record { instr = Do l.opcode; doing = l.checking; checking = l.checking });
  place : l.self.place ≡ l.initial.self.place;
}
