-- A count of a script's opcodes that is read off its bytes, whatever a run would execute.
use Rattle.std.specs.Prelude.{ℕ, ◌+◌, ◌==◌, ◌||◌, Bool, nat_lt, nat_le, if◌then◌else◌, List, [], ◌∷◌, ℤ, pos, negsuc, Option, Some, None}
use Rattle.cash_base.specs.Number.{number_of}
use Rattle.script_codec.specs.declared.instr.Instr.{Instr}
use Rattle.script_codec.specs.declared.instr.Instr.TheVariants.{Push, Do}
use Rattle.script_codec.specs.Reading.{Raw, Piece, Whole, CutOff, instruction, is_minimal}

-- the number that is pushed
abbrev pub number_pushed : Instr → Option ℤ
number_pushed (Push e) = number_of e.items
number_pushed (Do opcode) = None

-- a number of keys: 0 to 20
abbrev pub key_count : Option ℤ → ℕ
key_count (Some (pos n)) = if nat_le n 20 then n else 0
key_count (Some (negsuc n)) = 0
key_count None = 0

-- the number of keys that a minimal push pushes, and 0 where it is none
abbrev pub keys_pushed : Raw → ℕ
keys_pushed raw = if is_minimal raw then key_count (number_pushed (instruction raw)) else 0

-- CHECKMULTISIG and CHECKMULTISIGVERIFY
abbrev pub takes_keys : ℕ → Bool
takes_keys opcode = (opcode == 0xae) || (opcode == 0xaf)

-- so many keys, where what comes next takes them
abbrev pub keys_for : ℕ → List Piece → ℕ
keys_for keys (Whole raw ∷ more) = if takes_keys raw.opcode then keys else 0
keys_for keys (CutOff ∷ more) = 0
keys_for keys [] = 0

-- an opcode above 60 counts as one
abbrev pub weight : ℕ → ℕ
weight opcode = if nat_lt 0x60 opcode then 1 else 0

-- the opcodes above 60 up to the end or the first push that is cut off, and the keys of each opcode that takes keys and
-- stands directly after their number
abbrev pub counted_in : List Piece → ℕ
counted_in [] = 0
counted_in (CutOff ∷ more) = 0
counted_in (Whole raw ∷ more) = weight raw.opcode + keys_for (keys_pushed raw) more + counted_in more
