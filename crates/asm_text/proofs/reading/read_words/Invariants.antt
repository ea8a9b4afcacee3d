use Rattle.std.proofs.Common.{◌≡◌, length}
use Rattle.script_codec.specs.Words.{words}
use Rattle.asm_text.specs.Assembly.{code_from}
use Rattle.asm_text.specs.Reading.{after}
use Rattle.asm_text.proofs.reading.read_words.Given as goal

-- what was read, with what is left, makes the whole
abbrev pub invariant-words : goal.invariant-words
invariant-words l = after l.code.items (code_from l.number (words l.rest)) ≡ code_from 0 (words l.text)

abbrev pub decreases-words : goal.decreases-words
decreases-words l = length l.rest
