use Rattle.std.proofs.Common.{◌≡◌, ◌++◌, drop}
use Rattle.std.specs.Prelude.{string_bytes}
use Rattle.asm_text.specs.Assembly.{further_words}
use Rattle.asm_text.proofs.writing.push_others.Given as goal

-- what is left stands after the text so far
abbrev pub invariant-loop-instr : goal.invariant-loop-instr
invariant-loop-instr l = string_bytes l.text ++ further_words (drop l.instr-index l.others) ≡ string_bytes l.initial.text ++ further_words l.others
