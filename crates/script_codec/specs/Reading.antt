-- What the bytes of a script spell, as the Bitcoin Cash specification has it.
use Rattle.std.specs.Prelude.{ℕ, zero, suc, ◌+◌, ◌-◌, ◌*◌, Bool, false, ◌==◌, ◌&&◌, nat_lt, nat_le, if◌then◌else◌, List, [], ◌∷◌, length, take, drop, Option, Some, None}
use Rattle.script_codec.specs.declared.instr.Instr.{Instr}
use Rattle.script_codec.specs.declared.instr.Instr.TheVariants.{Push, Do}
use Rattle.script_codec.specs.Spelling.{own_opcode, spelling}

-- ---- the bytes of one instruction

-- a whole number in little-endian
abbrev pub little_endian : List ℕ → ℕ
little_endian [] = 0
little_endian (b ∷ bs) = b + 256 * little_endian bs

-- how many bytes of a length stand after an opcode: 1 after PUSHDATA1, 2 after PUSHDATA2, 4 after PUSHDATA4
abbrev pub length_size : ℕ → ℕ
length_size opcode = if opcode == 0x4c then 1 else (if opcode == 0x4d then 2 else (if opcode == 0x4e then 4 else 0))

-- how many bytes of the script an opcode in front of these bytes pushes: up to 4b as many as it says (OP_0 none),
-- after a PUSHDATA as many as the length says, and otherwise none
abbrev pub pushed_size : ℕ → List ℕ → ℕ
pushed_size opcode after =
    if nat_le opcode 0x4b then opcode
    else (if nat_le opcode 0x4e then little_endian (take (length_size opcode) after) else 0)

-- how many bytes after its opcode belong to an instruction
abbrev pub size_after : ℕ → List ℕ → ℕ
size_after opcode after = length_size opcode + pushed_size opcode after

-- an instruction as it stands in a script: its opcode, and the bytes of the script that it pushes
pub record Raw : Type 0 where
  pub opcode : ℕ
  pub pushed : List ℕ

-- all its bytes: the opcode, the length and what is pushed
abbrev pub size_of : Raw → ℕ
size_of raw = 1 + length_size raw.opcode + length raw.pushed

-- what stands where an instruction begins: all of it, or a push whose length or bytes are cut off
pub data Piece : Type 0 where
  Whole : Raw → Piece
  CutOff : Piece

abbrev pub piece_of : ℕ → List ℕ → Piece
piece_of opcode after =
    if nat_le (size_after opcode after) (length after)
    then Whole (record { opcode = opcode; pushed = take (pushed_size opcode after) (drop (length_size opcode) after) })
    else CutOff

-- ---- the bytes of a script

-- the instructions after so many bytes that belong to the one before; a push that is cut off takes more bytes than are
-- left, and so is the last
unfoldable pub reading_after : ℕ → List ℕ → List Piece
reading_after left [] = []
reading_after (suc left) (byte ∷ bytes) = reading_after left bytes
reading_after zero (opcode ∷ after) = piece_of opcode after ∷ reading_after (size_after opcode after) after

-- the instructions of a script, one after the other, up to its end or the first push that is cut off
abbrev pub reading : List ℕ → List Piece
reading script = reading_after 0 script

-- ---- what an instruction of a script stands for

abbrev pub push : List ℕ → Instr
push bytes = Push (record { items = bytes })

-- The element of a push or an opcode: OP_1 to OP_16 are 51 to 60, and OP_1NEGATE is 4f. Byte 50 is reserved, and no
-- push.
abbrev pub instruction : Raw → Instr
instruction raw =
    if nat_le raw.opcode 0x4e then push raw.pushed
    else (if raw.opcode == 0x4f then push (0x81 ∷ [])
    else (if nat_lt 0x50 raw.opcode && nat_le raw.opcode 0x60 then push ((raw.opcode - 0x50) ∷ [])
    else Do (record { 0 = raw.opcode })))

abbrev pub first_byte : List ℕ → ℕ
first_byte [] = 0
first_byte (b ∷ bs) = b

-- it begins as the minimal spelling of what it stands for
abbrev pub is_minimal : Raw → Bool
is_minimal raw = raw.opcode == first_byte (spelling (instruction raw))

-- the instruction that a piece stands for
abbrev pub meaning : Piece → Option Instr
meaning (Whole raw) = Some (instruction raw)
meaning CutOff = None

abbrev pub is_minimal_piece : Piece → Bool
is_minimal_piece (Whole raw) = is_minimal raw
is_minimal_piece CutOff = false

-- ---- how the minimal spelling of an instruction is read

-- none where its opcode says it all
abbrev pub bytes_after : Option ℕ → List ℕ → List ℕ
bytes_after (Some opcode) e = []
bytes_after None e = e

-- the bytes of an element that stand in the script: none where it has an opcode of its own
abbrev pub bytes_in_script : List ℕ → List ℕ
bytes_in_script e = bytes_after (own_opcode e) e

abbrev pub spelled : Instr → Raw
spelled (Push e) = record { opcode = first_byte (spelling (Push e)); pushed = bytes_in_script e.items }
spelled (Do opcode) = record { opcode = opcode.0; pushed = [] }
