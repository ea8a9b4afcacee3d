-- Sources in files: the contract and the program of one, what is told of one that is refused, and why nothing is shown.
use Rattle.std.specs.Prelude.{◌≡◌, ℕ, ◌≤◌, ◌⊎◌, List, length, Option}
use Rattle.cash_base.specs.Outside.{Files, Rose}
use Rattle.cash_base.specs.declared.place.Slot.{Slot}
use Rattle.cash_tree.specs.declared.Ty.{Ty}
use Rattle.cash_tree.specs.declared.Contract.{Contract}
use Rattle.artifact_json.specs.Artifact.{Artifact}
use Rattle.cash_compile.specs.declared.refusal.Refusal.{Refusal}
use Rattle.source_stages.specs.Stages.{max_source_len}
use Rattle.cash_compile.specs.Compile.{IsCompiled, IsUncompiled}
use Rattle.command_files.specs.Files.{IsFile, IsLonger, IsMissing, HasUnreadCause}
use Rattle.command_files.specs.declared.Stop.{Stop}
use Rattle.command_files.specs.declared.Stop.TheVariants.{Refused, Unread, Memory}
use Rattle.spend_command.specs.Spent.{IsFileRefusal}
use Rattle.source_texts.specs.RefusalText.{source_too_long, refusal_text}

-- ---- a source that is compiled

-- the file is this source, which stands for the contract, and the program was compiled from it
pub record IsBuilt (files : Option Files) (name source : List ℕ) (contract : Contract Slot Ty) (program : Artifact) : Type 0 where
  pub found : IsFile files name source
  pub compiled : IsCompiled source contract program

-- the program was compiled from the source in the file, which it holds
abbrev pub IsProgramOf : Option Files → List ℕ → Artifact → Type 0
IsProgramOf files name program = (contract : Contract Slot Ty) × IsBuilt files name program.source contract program

-- ---- what is told of a refusal

-- the source is longer than it may be, or it isn't and is refused
abbrev pub IsRefusal : Option Files → List ℕ → List ℕ → Type 0
IsRefusal files name text =
    (IsLonger files name max_source_len × (text ≡ source_too_long))
    ⊎ ((source : List ℕ) × (refusal : Refusal) × IsFile files name source × (length source ≤ max_source_len)
    × IsUncompiled source refusal
    × (text ≡ refusal_text source refusal))

-- The source is compiled, and the spend file is refused: it is longer than it may be, or its bytes are refused for the program.
abbrev pub IsSpendRefusalOf : (Artifact → List ℕ → List ℕ → Type 0) → Option Files → List ℕ → List ℕ → List ℕ → Type 0
IsSpendRefusalOf IsBytesRefusal files source_name spend_name text =
    (program : Artifact) × IsProgramOf files source_name program × IsFileRefusal (IsBytesRefusal program) files spend_name text

-- The source is refused; or it isn't, and the spend file is.
abbrev pub IsRefusalOf : (Artifact → List ℕ → List ℕ → Type 0) → Option Files → List ℕ → List ℕ → ℕ → List ℕ → Type 0
IsRefusalOf IsBytesRefusal files source_name spend_name status text =
    ((status ≡ 1) × IsRefusal files source_name text)
    ⊎ ((status ≡ 4) × IsSpendRefusalOf IsBytesRefusal files source_name spend_name text)

-- The store tells its files, and lacks one that is read. The spend file is read only beside a source that is compiled.
abbrev pub LacksSpendOf : Option Files → List ℕ → List ℕ → Type 0
LacksSpendOf files source_name spend_name =
    IsMissing files source_name
    ⊎ (IsMissing files spend_name × (program : Artifact) × IsProgramOf files source_name program)

-- ---- why nothing is shown

-- a source isn't compiled: it is refused
abbrev pub HasSourceCause : List ℕ → Stop → Type 0
HasSourceCause source (Refused status text) = (status ≡ 1)
    × ((refusal : Refusal) × IsUncompiled source refusal × (text.items ≡ refusal_text source refusal))
HasSourceCause source Unread = ⊥
HasSourceCause source Memory = Unit {0}

-- ... or its file can't be read
abbrev pub HasSourceFileCause : Option Files → List ℕ → ℕ → ℕ → Stop → Type 0
HasSourceFileCause files name before now (Refused status text) = (status ≡ 1) × IsRefusal files name text.items
HasSourceFileCause files name before now Unread = HasUnreadCause files name before now
HasSourceFileCause files name before now Memory = Unit {0}

-- nothing is shown of a spend of a source's program
abbrev pub HasSpendCauseOf : (Artifact → List ℕ → List ℕ → Type 0) → Option Files → List ℕ → List ℕ → ℕ → ℕ → Stop → Type 0
HasSpendCauseOf IsBytesRefusal files source_name spend_name before now (Refused status text) =
    IsRefusalOf IsBytesRefusal files source_name spend_name status text.items
HasSpendCauseOf IsBytesRefusal files source_name spend_name before now Unread =
    Rose before now ⊎ LacksSpendOf files source_name spend_name
HasSpendCauseOf IsBytesRefusal files source_name spend_name before now Memory = Unit {0}
