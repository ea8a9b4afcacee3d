-- What is shown of the meaning of a call: its scripts, and how the run of the source ends in the world of its spend.
use Rattle.std.specs.Prelude.{◌≡◌, ℕ, ◌⊎◌, List, Option, Ok, Err}
use Rattle.cash_base.specs.Outside.{Files}
use Rattle.cash_base.specs.declared.place.Slot.{Slot}
use Rattle.cash_tree.specs.declared.Ty.{Ty}
use Rattle.cash_tree.specs.declared.Contract.{Contract}
use Rattle.source_meaning.specs.declared.outcome.SourceOutcome.{SourceOutcome}
use Rattle.source_meaning.specs.declared.outcome.SourceOutcome.TheVariants.{Met, Failed}
use Rattle.artifact_json.specs.Artifact.{Artifact}
use Rattle.spend_json.specs.Given.{SpendParts}
use Rattle.spend_json.specs.Files.{spend_reading}
use Rattle.unlocker.specs.declared.BuildFault.{BuildFault}
use Rattle.unlocker.specs.Spends.{built_call}
use Rattle.spend_debug.specs.SpendDebug.{or_stop}
use Rattle.spend_debug.specs.declared.spends.SpendStop.TheVariants.{Build}
use Rattle.spend_meaning.specs.Meant.{MeantParts, IsMeant}
use Rattle.command_files.specs.Files.{IsFile}
use Rattle.spend_command.specs.FaultLines.{build_line}
use Rattle.spend_command.specs.Spent.{IsNoSpendFile}
use Rattle.source_texts.specs.RunText.{meaning_lines}
use Rattle.source_commands.specs.Sources.{IsBuilt}

-- ---- what is shown

abbrev pub run_status : SourceOutcome → ℕ
run_status Met = 0
run_status (Failed span cause) = 3

-- the meaning of the call of a program that the bytes of a spend file ask for
pub record IsMeantBy (contract : Contract Slot Ty) (program : Artifact) (bytes : List ℕ) (status : ℕ) (text : List ℕ) : Type 0 where
  pub spend : SpendParts
  pub asked : spend_reading bytes ≡ Ok spend
  pub meant : MeantParts
  pub means : IsMeant program contract spend meant
  pub status_is : status ≡ run_status meant.outcome
  pub shown : text ≡ meaning_lines program.source meant

-- ... of the call of the first file's contract that the second file asks for
pub record IsMeantIn (files : Option Files) (source_name spend_name : List ℕ) (status : ℕ) (text : List ℕ) : Type 0 where
  pub contract : Contract Slot Ty
  pub program : Artifact
  pub built : IsBuilt files source_name program.source contract program
  pub bytes : List ℕ
  pub beside : IsFile files spend_name bytes
  pub meant : IsMeantBy contract program bytes status text

-- ---- what is told of a refusal

-- there is no call: pushes are given, or no scripts are built
abbrev pub IsUncalled : Artifact → SpendParts → List ℕ → Type 0
IsUncalled program spend text =
    (fault : BuildFault) × (or_stop (built_call program spend) ≡ Err (Build fault)) × (text ≡ build_line fault)

-- the bytes are no spend file, or they are one, and there is no call
abbrev pub IsNoCall : Artifact → List ℕ → List ℕ → Type 0
IsNoCall program bytes text =
    IsNoSpendFile bytes text ⊎ ((spend : SpendParts) × (spend_reading bytes ≡ Ok spend) × IsUncalled program spend text)
