-- What a command on a source and a spend file shows or tells, joined from its parts.
use Rattle.std.proofs.Common.{◌≡◌, ℕ, ◌≤◌, List, [], length, Option, Ok, Err, inl, inr, sym, subst, ◌∙◌}
use Rattle.cash_base.specs.Outside.{Files}
use Rattle.cash_base.specs.declared.place.Slot.{Slot}
use Rattle.cash_tree.specs.declared.Ty.{Ty}
use Rattle.cash_tree.specs.declared.Contract.{Contract}
use Rattle.tx_context.specs.Limits.{IsFrame}
use Rattle.tx_context.specs.Table.{IsTable}
use Rattle.spend_json.specs.Given.{SpendParts}
use Rattle.artifact_json.specs.Artifact.{Artifact, HasFewInputs}
use Rattle.unlocker.specs.declared.BuildFault.{BuildFault}
use Rattle.unlocker.specs.Spends.{Handed, built_call}
use Rattle.source_stages.specs.Stages.{max_source_len}
use Rattle.cash_compile.specs.Compile.{IsCompiled}
use Rattle.command_files.specs.Files.{IsFile}
use Rattle.command_files.specs.declared.Stop.{Stop}
use Rattle.command_files.specs.declared.Stop.TheVariants.{Refused, Unread, Memory}
use Rattle.spend_command.specs.Spent.{IsReported, IsNoSpend, HasFileRefusal}
use Rattle.spend_command.proofs.Causes.{rose_before}
use Rattle.source_commands.specs.Sources.{IsBuilt, HasSourceFileCause, HasSpendCauseOf}
use Rattle.source_commands.specs.Judged.{AreDecided, IsDebugged, IsTracedBy, IsTraced, AreElements, IsProper}
use Rattle.source_commands.specs.Meaning.{IsMeantBy, IsMeantIn, IsNoCall}

-- ---- a program holds its source

pub built : (files : Option Files) (name bytes source : List ℕ) (contract : Contract Slot Ty) (program : Artifact)
    → IsFile files name bytes → source ≡ bytes → IsCompiled source contract program → IsBuilt files name program.source contract program
built files name bytes source contract program found same h =
    let own : program.source ≡ source = h.correct.describes.source in
    record {
      found = subst (λ (b : List ℕ). IsFile files name b) (sym (own ∙ same)) found;
      compiled = subst (λ (s : List ℕ). IsCompiled s contract program) (sym own) h;
    }

-- the source of a compiled program isn't too long
pub source_short : (source : List ℕ) (contract : Contract Slot Ty) (program : Artifact) → IsCompiled source contract program
    → length program.source ≤ max_source_len
source_short source contract program h =
    let own : program.source ≡ source = h.correct.describes.source in
    subst (λ (s : List ℕ). length s ≤ max_source_len) (sym own) h.accepted.resolved.parsed.cut.text.short

pub few_inputs : (source : List ℕ) (contract : Contract Slot Ty) (program : Artifact) → IsCompiled source contract program → HasFewInputs program
few_inputs source contract program h = h.storable.few_inputs

-- ---- why nothing is shown

abbrev Refusals : Type 1
Refusals = Artifact → List ℕ → List ℕ → Type 0

source_stopped : (Is : Refusals) (files : Option Files) (source spend : List ℕ) (before now : ℕ) (stop : Stop)
    → HasSourceFileCause files source before now stop → HasSpendCauseOf Is files source spend before now stop
source_stopped Is files source spend before now (Refused status text) cause = inl cause
source_stopped Is files source spend before now Unread (inl risen) = inl risen
source_stopped Is files source spend before now Unread (inr missing) = inr (inl missing)
source_stopped Is files source spend before now Memory cause = tt

spend_stopped_here : (Is : Refusals) (files : Option Files) (source spend : List ℕ) (contract : Contract Slot Ty) (program : Artifact) (before mid now : ℕ) (stop : Stop)
    → IsBuilt files source program.source contract program → before ≤ mid
    → HasFileRefusal (Is program) files spend mid now stop → HasSpendCauseOf Is files source spend before now stop
spend_stopped_here Is files source spend contract program before mid now (Refused status text) made later cause =
    inr (cause.0, (program, (contract, made), cause.1))
spend_stopped_here Is files source spend contract program before mid now Unread made later (inl risen) = inl (rose_before before mid now later risen)
spend_stopped_here Is files source spend contract program before mid now Unread made later (inr missing) =
    inr (inr (missing, program, (contract, made)))
spend_stopped_here Is files source spend contract program before mid now Memory made later cause = tt

spend_stopped : (Is : Refusals) (files then_ : Option Files) (source spend : List ℕ) (contract : Contract Slot Ty) (program : Artifact) (before mid now : ℕ) (stop : Stop)
    → IsBuilt files source program.source contract program → then_ ≡ files → before ≤ mid
    → HasFileRefusal (Is program) then_ spend mid now stop → HasSpendCauseOf Is files source spend before now stop
spend_stopped Is files then_ source spend contract program before mid now stop made kept later cause =
    spend_stopped_here Is files source spend contract program before mid now stop made later
    (subst (λ (fs : Option Files). HasFileRefusal (Is program) fs spend mid now stop) kept cause)

-- of a spend that the machine judges, and of a call that has a meaning

pub source_no_spend : (files : Option Files) (source spend : List ℕ) (before now : ℕ) (stop : Stop)
    → HasSourceFileCause files source before now stop → HasSpendCauseOf IsNoSpend files source spend before now stop
source_no_spend = source_stopped IsNoSpend

pub source_no_call : (files : Option Files) (source spend : List ℕ) (before now : ℕ) (stop : Stop)
    → HasSourceFileCause files source before now stop → HasSpendCauseOf IsNoCall files source spend before now stop
source_no_call = source_stopped IsNoCall

pub no_spend_stopped : (files then_ : Option Files) (source spend : List ℕ) (contract : Contract Slot Ty) (program : Artifact) (before mid now : ℕ) (stop : Stop)
    → IsBuilt files source program.source contract program → then_ ≡ files → before ≤ mid
    → HasFileRefusal (IsNoSpend program) then_ spend mid now stop → HasSpendCauseOf IsNoSpend files source spend before now stop
no_spend_stopped = spend_stopped IsNoSpend

pub no_call_stopped : (files then_ : Option Files) (source spend : List ℕ) (contract : Contract Slot Ty) (program : Artifact) (before mid now : ℕ) (stop : Stop)
    → IsBuilt files source program.source contract program → then_ ≡ files → before ≤ mid
    → HasFileRefusal (IsNoCall program) then_ spend mid now stop → HasSpendCauseOf IsNoCall files source spend before now stop
no_call_stopped = spend_stopped IsNoCall

-- ---- what is shown

pub debugged : (files then_ : Option Files) (source spend : List ℕ) (contract : Contract Slot Ty) (program : Artifact) (bytes : List ℕ) (status : ℕ) (text : List ℕ)
    → IsBuilt files source program.source contract program → then_ ≡ files → IsFile then_ spend bytes → IsReported program bytes status text
    → AreDecided program.source contract program bytes [] status text → IsDebugged files source spend status text
debugged files then_ source spend contract program bytes status text made kept beside reported decided = record {
  contract = contract;
  program = program;
  built = made;
  bytes = bytes;
  beside = subst (λ (fs : Option Files). IsFile fs spend bytes) kept beside;
  reported = reported;
  decided = decided;
}

pub traced : (files then_ : Option Files) (source spend : List ℕ) (contract : Contract Slot Ty) (program : Artifact) (bytes : List ℕ) (status : ℕ) (text : List ℕ)
    → IsBuilt files source program.source contract program → then_ ≡ files → IsFile then_ spend bytes → IsTracedBy contract program bytes status text
    → IsTraced files source spend status text
traced files then_ source spend contract program bytes status text made kept beside shown = record {
  contract = contract;
  program = program;
  built = made;
  bytes = bytes;
  beside = subst (λ (fs : Option Files). IsFile fs spend bytes) kept beside;
  traced = shown;
}

pub meant : (files then_ : Option Files) (source spend : List ℕ) (contract : Contract Slot Ty) (program : Artifact) (bytes : List ℕ) (status : ℕ) (text : List ℕ)
    → IsBuilt files source program.source contract program → then_ ≡ files → IsFile then_ spend bytes → IsMeantBy contract program bytes status text
    → IsMeantIn files source spend status text
meant files then_ source spend contract program bytes status text made kept beside shown = record {
  contract = contract;
  program = program;
  built = made;
  bytes = bytes;
  beside = subst (λ (fs : Option Files). IsFile fs spend bytes) kept beside;
  meant = shown;
}

-- ---- the parts of a spend

pub proper : (program : Artifact) (spend : SpendParts) (call : Handed) → IsFrame spend.frame → IsTable spend.verdicts
    → built_call program spend ≡ Ok call → AreElements call → IsProper program spend
proper program spend call frame table made elements = record {
  frame = frame;
  verdicts = table;
  elements = λ other again.
      let one : Ok call ≡ Ok other = sym made ∙ again in
      let same : call ≡ other = cc in
      subst AreElements same elements;
}

pub no_call : (program : Artifact) (spend : SpendParts) (fault : BuildFault) → IsFrame spend.frame → IsTable spend.verdicts
    → built_call program spend ≡ Err fault → IsProper program spend
no_call program spend fault frame table refused = record {
  frame = frame;
  verdicts = table;
  elements = λ call made.
      let one : Err fault ≡ Ok call = sym refused ∙ made in
      absurd cc;
}
