-- What is shown and told of a spend of an artifact, as the files of its names have them.
use Rattle.std.specs.Prelude.{◌≡◌, ℕ, ◌≤◌, ◌⊎◌, List, length, codes, Option, Ok, Err}
use Rattle.cash_base.specs.Outside.{Files, Rose}
use Rattle.bch_vm.specs.declared.outcome.MachineOutcome.{MachineOutcome}
use Rattle.bch_vm.specs.declared.outcome.MachineOutcome.TheVariants as machine
use Rattle.artifact_json.specs.Artifact.{Artifact}
use Rattle.artifact_json.specs.Reading.{artifact_reading}
use Rattle.artifact_json.specs.declared.fault.ArtifactFault.{ArtifactFault}
use Rattle.spend_json.specs.Given.{SpendParts}
use Rattle.spend_json.specs.Files.{spend_reading}
use Rattle.spend_json.specs.declared.fault.SpendFault.{SpendFault}
use Rattle.unlocker.specs.declared.BuildFault.{BuildFault}
use Rattle.spend_debug.specs.Telling.{Told, report_lines}
use Rattle.spend_debug.specs.declared.spends.SpendStop.TheVariants.{Build}
use Rattle.spend_trace.specs.Judged.{report_of}
use Rattle.command_files.specs.Files.{IsFile, IsLonger, IsMissing, HasUnreadCause}
use Rattle.command_files.specs.declared.Stop.{Stop}
use Rattle.command_files.specs.declared.Stop.TheVariants.{Refused, Unread, Memory}
use Rattle.spend_command.specs.FaultLines.{artifact_line, file_line, build_line}

-- ---- statuses

abbrev pub outcome_status : MachineOutcome → ℕ
outcome_status machine.Accepted = 0
outcome_status (machine.Refused script at cause) = 3

abbrev pub report_status : Told → ℕ
report_status told = outcome_status told.outcome

-- ---- the files

-- an artifact has at most so many bytes
abbrev pub max_artifact_len : ℕ
max_artifact_len = 1048576

-- ... and a spend file so many
abbrev pub max_input_len : ℕ
max_input_len = 4194304

abbrev pub input_too_long : List ℕ
input_too_long = codes "input TooLong\n"

-- the file is the artifact of a program
abbrev pub IsArtifact : Option Files → List ℕ → Artifact → Type 0
IsArtifact files name program = (bytes : List ℕ) × IsFile files name bytes × (artifact_reading bytes ≡ Ok program)

-- ---- what is shown

-- the scripts and the verdict of a spend of a program; status 0 where the machine accepts it, and 3 where it doesn't
pub record IsTold (program : Artifact) (spend : SpendParts) (status : ℕ) (text : List ℕ) : Type 0 where
  pub told : Told
  pub judged : report_of program spend ≡ Ok told
  pub status_is : status ≡ report_status told
  pub shown : text ≡ report_lines program.source told

-- ... of the spend that the bytes of a spend file ask for
abbrev pub IsReported : Artifact → List ℕ → ℕ → List ℕ → Type 0
IsReported program bytes status text = (spend : SpendParts) × (spend_reading bytes ≡ Ok spend) × IsTold program spend status text

-- those of the spend of the first file's program that the second file asks for
abbrev pub IsSpent : Option Files → List ℕ → List ℕ → ℕ → List ℕ → Type 0
IsSpent files artifact_name spend_name status text =
    (program : Artifact) × IsArtifact files artifact_name program
    × (bytes : List ℕ) × IsFile files spend_name bytes × IsReported program bytes status text

-- ---- what is told of a refusal

-- a file has more than so many bytes, or it hasn't, and its bytes are refused so
abbrev pub IsRefusalUpTo : ℕ → (List ℕ → List ℕ → Type 0) → Option Files → List ℕ → List ℕ → Type 0
IsRefusalUpTo most IsBytesRefusal files name text =
    (IsLonger files name most × (text ≡ input_too_long))
    ⊎ ((bytes : List ℕ) × IsFile files name bytes × (length bytes ≤ most) × IsBytesRefusal bytes text)

-- a spend file is longer than it may be, or it isn't, and its bytes are refused so
abbrev pub IsFileRefusal : (List ℕ → List ℕ → Type 0) → Option Files → List ℕ → List ℕ → Type 0
IsFileRefusal IsBytesRefusal files name text = IsRefusalUpTo max_input_len IsBytesRefusal files name text

-- the bytes are no artifact
abbrev pub IsNoArtifact : List ℕ → List ℕ → Type 0
IsNoArtifact bytes text = (fault : ArtifactFault) × (artifact_reading bytes ≡ Err fault) × (text ≡ artifact_line fault)

-- they are no spend file
abbrev pub IsNoSpendFile : List ℕ → List ℕ → Type 0
IsNoSpendFile bytes text = (fault : SpendFault) × (spend_reading bytes ≡ Err fault) × (text ≡ file_line fault)

-- no scripts are built of what a spend says
abbrev pub IsUnbuilt : Artifact → SpendParts → List ℕ → Type 0
IsUnbuilt program spend text = (fault : BuildFault) × (report_of program spend ≡ Err (Build fault)) × (text ≡ build_line fault)

-- they are no spend file, or they are one, and no scripts are built of what it says
abbrev pub IsNoSpend : Artifact → List ℕ → List ℕ → Type 0
IsNoSpend program bytes text =
    IsNoSpendFile bytes text ⊎ ((spend : SpendParts) × (spend_reading bytes ≡ Ok spend) × IsUnbuilt program spend text)

-- The artifact is refused; or it isn't, and the spend file is; or neither is, and no scripts are built.
abbrev pub IsSpendRefusal : Option Files → List ℕ → List ℕ → List ℕ → Type 0
IsSpendRefusal files artifact_name spend_name text =
    IsRefusalUpTo max_artifact_len IsNoArtifact files artifact_name text
    ⊎ ((program : Artifact) × IsArtifact files artifact_name program × IsFileRefusal (IsNoSpend program) files spend_name text)

-- ---- why nothing is shown

-- bytes are refused, of which a text tells
abbrev pub HasBytesRefusal : (List ℕ → Type 0) → Stop → Type 0
HasBytesRefusal IsRefusal (Refused status text) = (status ≡ 4) × IsRefusal text.items
HasBytesRefusal IsRefusal Unread = ⊥
HasBytesRefusal IsRefusal Memory = Unit {0}

-- an artifact is refused, or it can't be read
abbrev pub HasArtifactCause : Option Files → List ℕ → ℕ → ℕ → Stop → Type 0
HasArtifactCause files name before now (Refused status text) =
    (status ≡ 4) × IsRefusalUpTo max_artifact_len IsNoArtifact files name text.items
HasArtifactCause files name before now Unread = HasUnreadCause files name before now
HasArtifactCause files name before now Memory = Unit {0}

-- a spend file is refused, or it can't be read
abbrev pub HasFileRefusal : (List ℕ → List ℕ → Type 0) → Option Files → List ℕ → ℕ → ℕ → Stop → Type 0
HasFileRefusal IsBytesRefusal files name before now (Refused status text) =
    (status ≡ 4) × IsFileRefusal IsBytesRefusal files name text.items
HasFileRefusal IsBytesRefusal files name before now Unread = HasUnreadCause files name before now
HasFileRefusal IsBytesRefusal files name before now Memory = Unit {0}

-- The store tells its files, and lacks one that is read. The spend file is read only beside the artifact of a program.
abbrev pub LacksSpendFile : Option Files → List ℕ → List ℕ → Type 0
LacksSpendFile files artifact_name spend_name =
    IsMissing files artifact_name
    ⊎ (IsMissing files spend_name × (program : Artifact) × IsArtifact files artifact_name program)

-- nothing is shown of a spend
abbrev pub HasSpendCause : Option Files → List ℕ → List ℕ → ℕ → ℕ → Stop → Type 0
HasSpendCause files artifact_name spend_name before now (Refused status text) =
    (status ≡ 4) × IsSpendRefusal files artifact_name spend_name text.items
HasSpendCause files artifact_name spend_name before now Unread = Rose before now ⊎ LacksSpendFile files artifact_name spend_name
HasSpendCause files artifact_name spend_name before now Memory = Unit {0}
