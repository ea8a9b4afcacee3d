-- The places of an instruction's bytes in its script.
use Rattle.std.specs.Prelude.{◌≡◌, ℕ, ◌+◌, ◌<◌, ◌≤◌, nat_le, if◌then◌else◌, List, [], ◌∷◌, length, drop, slice_range, Option, Some, None, Result, Ok, Err}
use Rattle.script_codec.specs.declared.reading.RawInstr.{RawInstr}
use Rattle.script_codec.specs.declared.reading.CodecFault.{CodecFault}
use Rattle.script_codec.specs.Reading.{Raw, Whole, CutOff, length_size, size_after, size_of, reading}

-- what an instruction at a place is, and the place after it; the bytes that it pushes end where it ends
abbrev pub placed : ℕ → List ℕ → Result (Option (RawInstr × ℕ)) CodecFault
placed at [] = Ok None
placed at (opcode ∷ after) =
    let end = at + 1 + size_after opcode after in
    if nat_le (size_after opcode after) (length after)
    then Ok (Some (record { opcode = opcode; from = at + 1 + length_size opcode; to = end }, end))
    else Err (record { at = at })

-- the instruction at a place of a script
abbrev pub instruction_at : List ℕ → ℕ → Result (Option (RawInstr × ℕ)) CodecFault
instruction_at script at = placed at (drop at script)

-- the instruction with the bytes that it pushes
abbrev pub raw_in : List ℕ → RawInstr → Raw
raw_in script instr = record { opcode = instr.opcode; pushed = slice_range script instr.from instr.to }

-- the reading from a place on begins with this
abbrev pub ReadsAs : List ℕ → ℕ → Result (Option (RawInstr × ℕ)) CodecFault → Type 0
ReadsAs script at (Ok None) = reading (drop at script) ≡ []
ReadsAs script at (Ok (Some (instr, next))) =
    reading (drop at script) ≡ Whole (raw_in script instr) ∷ reading (drop next script)
ReadsAs script at (Err fault) = reading (drop at script) ≡ CutOff ∷ []

-- an instruction that begins at a place lies in the script, and so do the bytes that it pushes
abbrev pub LiesIn : List ℕ → ℕ → Result (Option (RawInstr × ℕ)) CodecFault → Type 0
LiesIn script at (Ok (Some (instr, next))) =
    (at < instr.from) × (instr.from ≤ instr.to) × (instr.to ≡ next) × (next ≤ length script) × (next ≡ at + size_of (raw_in script instr))
LiesIn script at _ = Unit {0}
