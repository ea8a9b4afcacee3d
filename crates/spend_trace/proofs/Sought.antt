-- The opcodes of a reading, from the left.
use Rattle.std.proofs.Common.{◌≡◌, ℕ, zero, suc, [], ◌∷◌, refl}
use Rattle.script_codec.specs.Reading.{CutOff}
use Rattle.spend_trace.specs.Traced.{opcode_in}

-- a push that is cut off has none, and is the last
pub cut_off : (at : ℕ) → opcode_in (CutOff ∷ []) at ≡ 0
cut_off zero = refl
cut_off (suc at) = refl
