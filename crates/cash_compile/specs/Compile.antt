-- Which sources are accepted and which are refused, and what is promised of the program of a contract, and of code that is too long
-- or has too many opcodes.
use Rattle.std.specs.Prelude.{◌≡◌, ℕ, ◌≤◌, ◌<◌, IsTrue, List, length}
use Rattle.cash_base.specs.declared.place.Slot.{Slot}
use Rattle.cash_tree.specs.declared.Ty.{Ty}
use Rattle.cash_tree.specs.declared.Contract.{Contract}
use Rattle.cash_parser.specs.declared.fault.ParseFault.TheVariants as parser
use Rattle.source_stages.specs.Stages as stages
use Rattle.source_stages.specs.declared.fault.SourceFault.TheVariants as faults
use Rattle.cash_compile.specs.declared.refusal.Refusal.{Refusal}
use Rattle.cash_compile.specs.declared.refusal.Refusal.TheVariants.{SourceTooLong, NotUtf8, Lex, Parse, Name, Typing, CodeTooLong, TooManyOps, Memory}
use Rattle.script_codec.specs.declared.instr.Instr.{Instr}
use Rattle.script_codec.specs.Spelling.{are_instructions, spellings}
use Rattle.script_codec.specs.Reading.{reading}
use Rattle.script_codec.specs.Counting.{counted_in}
use Rattle.artifact_json.specs.Artifact.{Artifact, IsStorable}
use Rattle.slot_lowering.specs.Room.{room, ops_room}
use Rattle.cash_compile.specs.Correct.{IsCorrect}
use Rattle.cash_compile.specs.Runs.{DecidesByRun}

-- ---- sources

-- the bytes are accepted as the contract
abbrev pub IsAccepted : List ℕ → Contract Slot Ty → Type 0
IsAccepted source contract = stages.IsAccepted source contract

-- The first stage of a source that gives nothing gives this refusal. What becomes of its code is none of these stages, and memory
-- stands in no source.
abbrev pub IsRefused : List ℕ → Refusal → Type 0
IsRefused source (SourceTooLong bytes) = stages.IsRefused source (faults.TooLong bytes)
IsRefused source (NotUtf8 at) = stages.IsRefused source (faults.NotUtf8 at)
IsRefused source (Lex fault) = stages.IsRefused source (faults.Lex fault)
IsRefused source (Parse fault) = stages.IsRefused source (faults.Parse fault)
IsRefused source (Name fault) = stages.IsRefused source (faults.Name fault)
IsRefused source (Typing fault) = stages.IsRefused source (faults.Typing fault)
IsRefused source (CodeTooLong bytes code) = ⊥
IsRefused source (TooManyOps count code) = ⊥
IsRefused source Memory = ⊥

-- the same refusal, but for the token that a Syntax names
abbrev pub AreSame : Refusal → Refusal → Type 0
AreSame (Parse (parser.Syntax a)) (Parse (parser.Syntax b)) = Unit {0}
AreSame a b = a ≡ b

-- ---- programs

-- the bytes of code, and the opcodes that count in it
abbrev pub code_size : List Instr → ℕ
code_size code = length (spellings code)

abbrev pub code_count : List Instr → ℕ
code_count code = counted_in (reading (spellings code))

-- the most bytes of a redeem script, since it is pushed as one element, and the most opcodes that a script may count
abbrev pub most_bytes : ℕ
most_bytes = 520

abbrev pub most_opcodes : ℕ
most_opcodes = 201

-- within both limits
pub record IsWithin (code : List Instr) : Type 0 where
  pub bytes : code_size code ≤ most_bytes
  pub opcodes : code_count code ≤ most_opcodes

-- no more bytes and opcodes than the contract's statements sum up to
pub record FitsRoom (contract : Contract Slot Ty) (code : List Instr) : Type 0 where
  pub bytes : code_size code ≤ room contract
  pub opcodes : code_count code ≤ ops_room contract

-- The source stands for the contract, the program is correct for it, the runs of its code alone decide as those of the source, its
-- code is within the limits and fits the contract's room, and a file can hold it.
pub record IsCompiled (source : List ℕ) (contract : Contract Slot Ty) (program : Artifact) : Type 0 where
  pub accepted : IsAccepted source contract
  pub correct : IsCorrect source contract program
  pub decides : DecidesByRun contract program.code
  pub within : IsWithin program.code
  pub fits : FitsRoom contract program.code
  pub storable : IsStorable program

-- ---- the refusals of an accepted source

-- code that decides the contract by its runs has so many bytes, more than can be pushed, and no more than the contract's room
pub record IsTooLong (contract : Contract Slot Ty) (code : List Instr) (bytes : ℕ) : Type 0 where
  pub spelled : IsTrue (are_instructions code)
  pub decides : DecidesByRun contract code
  pub number : bytes ≡ code_size code
  pub over : most_bytes < bytes
  pub most : bytes ≤ room contract

-- ... has few enough bytes, and counts so many opcodes, more than a script may count, and no more than the contract's room
pub record HasTooMany (contract : Contract Slot Ty) (code : List Instr) (count : ℕ) : Type 0 where
  pub spelled : IsTrue (are_instructions code)
  pub decides : DecidesByRun contract code
  pub bytes : code_size code ≤ most_bytes
  pub number : count ≡ code_count code
  pub over : most_opcodes < count
  pub most : count ≤ ops_room contract

-- an accepted source, whose code is too long or counts too many opcodes; or a source that is refused
abbrev pub IsUncompiled : List ℕ → Refusal → Type 0
IsUncompiled source (CodeTooLong bytes code) =
    (contract : Contract Slot Ty) × IsAccepted source contract × IsTooLong contract code.items bytes
IsUncompiled source (TooManyOps count code) =
    (contract : Contract Slot Ty) × IsAccepted source contract × HasTooMany contract code.items count
IsUncompiled source refusal = IsRefused source refusal
