use Rattle.std.proofs.Common.{◌≡◌, ◌++◌, drop}
use Rattle.script_codec.specs.Spelling.{spellings}
use Rattle.script_codec.proofs.spelling.encode.Given as goal

-- what is left stands after the bytes so far
abbrev pub invariant-loop-instr : goal.invariant-loop-instr
invariant-loop-instr l = l.bytes.items ++ spellings (drop l.instr-index l.code) ≡ spellings l.code
