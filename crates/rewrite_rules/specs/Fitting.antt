-- What instructions of a window are asked for.
use Rattle.std.specs.Prelude.{ℕ, ◌==◌, ◌&&◌, Bool, true, false, List, [], ◌∷◌}
use Rattle.std.specs.Str.{bytes_eq}
use Rattle.script_codec.specs.declared.instr.Instr.{Instr}
use Rattle.script_codec.specs.declared.instr.Instr.TheVariants.{Push, Do}
use Rattle.script_codec.specs.declared.spans.Spanned.{Spanned}
use Rattle.rewrite_rules.specs.declared.rewriting.Pattern.{Pattern}
use Rattle.rewrite_rules.specs.declared.rewriting.Pattern.TheVariants.{Zero, One, Two, Does}
use Rattle.rewrite_rules.specs.Rules.{zero_pushed, one_pushed, two_pushed}

abbrev pub instr_of : Pattern → Instr
instr_of Zero = zero_pushed
instr_of One = one_pushed
instr_of Two = two_pushed
instr_of (Does opcode) = Do opcode

abbrev pub pushes : Pattern → List ℕ → Bool
pushes Zero bytes = bytes_eq bytes []
pushes One bytes = bytes_eq bytes (1 ∷ [])
pushes Two bytes = bytes_eq bytes (2 ∷ [])
pushes (Does opcode) bytes = false

abbrev pub does : Pattern → ℕ → Bool
does (Does other) opcode = opcode == other.0
does _ opcode = false

abbrev pub fits : Pattern → Instr → Bool
fits pattern (Push e) = pushes pattern e.items
fits pattern (Do opcode) = does pattern opcode.0

-- the instructions of a window are these, as many
abbrev pub all_fit : List Spanned → List Pattern → Bool
all_fit [] [] = true
all_fit [] (pattern ∷ patterns) = false
all_fit (row ∷ rows) [] = false
all_fit (row ∷ rows) (pattern ∷ patterns) = fits pattern row.instr && all_fit rows patterns
