-- What a command on an artifact and a spend file shows or tells, joined from its parts.
use Rattle.std.proofs.Common.{◌≡◌, ℕ, ◌≤◌, List, Option, inl, inr, subst, arith}
use Rattle.cash_base.specs.Outside.{Files, Rose}
use Rattle.artifact_json.specs.Artifact.{Artifact}
use Rattle.command_files.specs.Files.{IsFile}
use Rattle.command_files.specs.declared.Stop.{Stop}
use Rattle.command_files.specs.declared.Stop.TheVariants.{Refused, Unread, Memory}
use Rattle.spend_command.specs.Spent.{IsArtifact, IsReported, IsSpent, IsNoSpend, HasArtifactCause, HasFileRefusal, HasSpendCause}

pub rose_before : (before mid now : ℕ) → before ≤ mid → Rose mid now → Rose before now
rose_before before mid now later (inl risen) = inl (omega (arith, later, risen))
rose_before before mid now later (inr last) = inr last

pub artifact_stopped : (files : Option Files) (artifact spend : List ℕ) (before now : ℕ) (stop : Stop)
    → HasArtifactCause files artifact before now stop → HasSpendCause files artifact spend before now stop
artifact_stopped files artifact spend before now (Refused status text) cause = (cause.0, inl cause.1)
artifact_stopped files artifact spend before now Unread (inl risen) = inl risen
artifact_stopped files artifact spend before now Unread (inr missing) = inr (inl missing)
artifact_stopped files artifact spend before now Memory cause = tt

file_stopped_here : (files : Option Files) (artifact spend : List ℕ) (program : Artifact) (before mid now : ℕ) (stop : Stop)
    → IsArtifact files artifact program → before ≤ mid
    → HasFileRefusal (IsNoSpend program) files spend mid now stop → HasSpendCause files artifact spend before now stop
file_stopped_here files artifact spend program before mid now (Refused status text) read later cause = (cause.0, inr (program, read, cause.1))
file_stopped_here files artifact spend program before mid now Unread read later (inl risen) = inl (rose_before before mid now later risen)
file_stopped_here files artifact spend program before mid now Unread read later (inr missing) = inr (inr (missing, program, read))
file_stopped_here files artifact spend program before mid now Memory read later cause = tt

pub file_stopped : (files then_ : Option Files) (artifact spend : List ℕ) (program : Artifact) (before mid now : ℕ) (stop : Stop)
    → IsArtifact files artifact program → then_ ≡ files → before ≤ mid
    → HasFileRefusal (IsNoSpend program) then_ spend mid now stop → HasSpendCause files artifact spend before now stop
file_stopped files then_ artifact spend program before mid now stop read kept later cause =
    file_stopped_here files artifact spend program before mid now stop read later
    (subst (λ (fs : Option Files). HasFileRefusal (IsNoSpend program) fs spend mid now stop) kept cause)

pub shown : (files then_ : Option Files) (artifact spend : List ℕ) (program : Artifact) (bytes : List ℕ) (status : ℕ) (text : List ℕ)
    → IsArtifact files artifact program → then_ ≡ files → IsFile then_ spend bytes → IsReported program bytes status text
    → IsSpent files artifact spend status text
shown files then_ artifact spend program bytes status text read kept beside reported =
    (program, read, bytes, subst (λ (fs : Option Files). IsFile fs spend bytes) kept beside, reported)
