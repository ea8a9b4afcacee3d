use Rattle.std.proofs.Common.{◌≡◌, ◌≤◌, length}
use Rattle.script_codec.specs.Words.{words}
use Rattle.asm_text.proofs.cutting.without_blanks.Given as goal

abbrev pub invariant-blanks : goal.invariant-blanks
invariant-blanks l = record { same : words l.rest ≡ words l.text; shorter : length l.rest ≤ length l.text }

abbrev pub decreases-blanks : goal.decreases-blanks
decreases-blanks l = length l.rest
