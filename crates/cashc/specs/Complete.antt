-- What commands are always answered: where the files are there and within their limits, and what they say can be done.
use Rattle.std.specs.Prelude.{◌≡◌, ℕ, ◌≤◌, List, length, Option, Some, IsSomeAnd, Ok}
use Rattle.cash_base.specs.Outside.{Files, Rose, file_named}
use Rattle.cash_base.specs.declared.place.Slot.{Slot}
use Rattle.cash_tree.specs.declared.Ty.{Ty}
use Rattle.cash_tree.specs.declared.Contract.{Contract}
use Rattle.slot_lowering.specs.Room.{room, ops_room}
use Rattle.artifact_json.specs.Artifact.{Artifact}
use Rattle.artifact_json.specs.Reading.{artifact_reading}
use Rattle.spend_json.specs.Given.{SpendParts}
use Rattle.spend_json.specs.Files.{spend_reading}
use Rattle.unlocker.specs.Spends.{Built, built_spend, Handed, built_call}
use Rattle.cash_compile.specs.Compile.{IsAccepted, IsCompiled, most_bytes, most_opcodes}
use Rattle.spend_command.specs.Spent.{max_artifact_len, max_input_len}
use Rattle.workload.specs.Refused.{IsWorkRefused}
use Rattle.cashc.specs.TopCall.{Command, compile_by, debug_by, trace_by, spend_by, meaning_by, workload_by}

-- the store tells its files, and has this one
abbrev pub HasFile : Option Files → List ℕ → List ℕ → Type 0
HasFile files name bytes = IsSomeAnd files (λ fs. file_named name fs ≡ Some bytes)

-- the file is a source that is accepted, and its contract has room for 520 bytes and 201 counted opcodes at most
pub record HasSource (files : Option Files) (name source : List ℕ) : Type 0 where
  pub found : HasFile files name source
  pub contract : Contract Slot Ty
  pub accepted : IsAccepted source contract
  pub bytes : room contract ≤ most_bytes
  pub opcodes : ops_room contract ≤ most_opcodes

-- the file is an artifact, or a spend file, within the limit, and reads so
pub record HasArtifact (files : Option Files) (name : List ℕ) (program : Artifact) : Type 0 where
  pub bytes : List ℕ
  pub found : HasFile files name bytes
  pub short : length bytes ≤ max_artifact_len
  pub reads : artifact_reading bytes ≡ Ok program

pub record HasSpend (files : Option Files) (name : List ℕ) (spend : SpendParts) : Type 0 where
  pub bytes : List ℕ
  pub found : HasFile files name bytes
  pub short : length bytes ≤ max_input_len
  pub reads : spend_reading bytes ≡ Ok spend

-- scripts can be built of the spend's values
abbrev pub CanBuild : Artifact → SpendParts → Type 0
CanBuild program spend = (scripts : Built) × (built_spend program spend ≡ Ok scripts)

-- ... of a call
abbrev pub CanCall : Artifact → SpendParts → Type 0
CanCall program spend = (call : Handed) × (built_call program spend ≡ Ok call)

-- a source and a spend file, and what is asked of each program that the source is compiled to
pub record HasBoth (Can : Artifact → SpendParts → Type 0) (files : Option Files) (source_name spend_name : List ℕ) : Type 0 where
  pub source : List ℕ
  pub has_source : HasSource files source_name source
  pub spend : SpendParts
  pub has_spend : HasSpend files spend_name spend
  pub can : (contract : Contract Slot Ty) (program : Artifact) → IsCompiled source contract program → Can program spend

-- an artifact and a spend file, and scripts can be built
pub record HasProgram (files : Option Files) (artifact_name spend_name : List ℕ) : Type 0 where
  pub program : Artifact
  pub has_artifact : HasArtifact files artifact_name program
  pub spend : SpendParts
  pub has_spend : HasSpend files spend_name spend
  pub can : CanBuild program spend

-- nothing that a command reads is in the way of its answer; of a workload none of its contracts is refused
abbrev pub CanAnswer : Option Files → Command → Type 0
CanAnswer files (compile_by source time) = (bytes : List ℕ) × HasSource files source bytes
CanAnswer files (debug_by source spend) = HasBoth CanBuild files source spend
CanAnswer files (trace_by source spend) = HasBoth CanBuild files source spend
CanAnswer files (spend_by artifact spend) = HasProgram files artifact spend
CanAnswer files (meaning_by source spend) = HasBoth CanCall files source spend
CanAnswer files (workload_by contracts) = (status : ℕ) (text : List ℕ) → IsWorkRefused contracts status text → ⊥

-- no count of faults rose
abbrev pub IsQuiet : ℕ → ℕ → Type 0
IsQuiet before now = Rose before now → ⊥
