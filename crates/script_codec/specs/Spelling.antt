-- Instructions as bytes, each in its minimal spelling, as the Bitcoin Cash specification has it.
use Rattle.std.specs.Prelude.{ℕ, ◌+◌, Bool, true, ◌==◌, ◌&&◌, nat_lt, nat_le, if◌then◌else◌, List, [], ◌∷◌, ◌++◌, length, Option, Some, None}
use Rattle.std.specs.List.{list_all, flat_map}
use Rattle.cash_base.specs.Push.{push_prefix}
use Rattle.script_codec.specs.declared.instr.Instr.{Instr}
use Rattle.script_codec.specs.declared.instr.Instr.TheVariants.{Push, Do}

-- an opcode is above 0x60: the bytes up to that push, but for 0x50, which is reserved
abbrev pub is_instruction : Instr → Bool
is_instruction (Push e) = true
is_instruction (Do opcode) = nat_lt 0x60 opcode.0

-- each instruction has a spelling that is read as the instruction
abbrev pub are_instructions : List Instr → Bool
are_instructions code = list_all is_instruction code

-- the opcode of an element that has one of its own: OP_0 the empty element, OP_1 to OP_16 the elements 01 to 10, and
-- OP_1NEGATE the element 81
abbrev pub own_opcode : List ℕ → Option ℕ
own_opcode [] = Some 0
own_opcode (byte ∷ []) =
    if nat_le 1 byte && nat_le byte 16 then Some (0x50 + byte)
    else (if byte == 0x81 then Some 0x4f else None)
own_opcode (a ∷ b ∷ more) = None

-- the opcode alone, or the bytes after their length
abbrev pub push_by : Option ℕ → List ℕ → List ℕ
push_by (Some opcode) e = opcode ∷ []
push_by None e = push_prefix (length e) ++ e

-- the minimal push of an element
abbrev pub minimal_push : List ℕ → List ℕ
minimal_push e = push_by (own_opcode e) e

abbrev pub spelling : Instr → List ℕ
spelling (Push e) = minimal_push e.items
spelling (Do opcode) = opcode.0 ∷ []

-- the bytes of some instructions
abbrev pub spellings : List Instr → List ℕ
spellings code = flat_map spelling code
