-- What the workload comes to: the verdicts of the spends of generated contracts, each by the run of its source.
use Rattle.std.specs.Prelude.{◌≡◌, ℕ, zero, suc, ◌+◌, List, [], ◌++◌, length, ◌==◌, Ok}
use Rattle.std.specs.List.{AllZip, filter}
use Rattle.sha2.specs.Sha256.{sha256}
use Rattle.cash_base.specs.declared.place.Slot.{Slot}
use Rattle.cash_tree.specs.declared.Ty.{Ty}
use Rattle.cash_tree.specs.declared.Contract.{Contract}
use Rattle.source_meaning.specs.declared.outcome.SourceOutcome.{SourceOutcome}
use Rattle.source_meaning.specs.declared.outcome.SourceOutcome.TheVariants.{Met, Failed}
use Rattle.artifact_json.specs.Artifact.{Artifact}
use Rattle.spend_json.specs.Given.{SpendParts}
use Rattle.spend_json.specs.Files.{spend_reading}
use Rattle.spend_meaning.specs.Meant.{MeantParts, IsMeant}
use Rattle.cash_compile.specs.Compile.{IsCompiled}
use Rattle.generated_spends.specs.Generated.{Generated, generated}

-- the byte of a verdict: 1 where the run is met, else 0
abbrev pub verdict_of : SourceOutcome → ℕ
verdict_of Met = 1
verdict_of (Failed span cause) = 0

-- the verdict of the call that the bytes of a spend file ask for: how the run of its source ends, in the world of its scripts
pub record IsTried (contract : Contract Slot Ty) (program : Artifact) (bytes : List ℕ) (verdict : ℕ) : Type 0 where
  pub spend : SpendParts
  pub asked : spend_reading bytes ≡ Ok spend
  pub meant : MeantParts
  pub means : IsMeant program contract spend meant
  pub verdict_is : verdict ≡ verdict_of meant.outcome

-- the source of a generated contract is compiled, and these are the verdicts of its spends, in order
pub record AreTried (generated : Generated) (verdicts : List ℕ) : Type 0 where
  pub contract : Contract Slot Ty
  pub program : Artifact
  pub compiled : IsCompiled generated.source contract program
  pub each : AllZip (IsTried contract program) generated.spends verdicts

-- the verdicts of the spends of so many contracts, from this number on
abbrev pub AreVerdicts : ℕ → ℕ → List ℕ → Type 0
AreVerdicts zero from verdicts = verdicts ≡ []
AreVerdicts (suc n) from verdicts =
    (first rest : List ℕ) × (verdicts ≡ first ++ rest) × AreTried (generated from) first × AreVerdicts n (from + 1) rest

-- how many of them are 1
abbrev pub good_ones : List ℕ → ℕ
good_ones verdicts = length (filter (λ (verdict : ℕ). verdict == 1) verdicts)

-- what is counted
pub record Counts : Type 0 where
  pub contracts : ℕ
  pub spends : ℕ
  pub accepted : ℕ
  pub met : ℕ
  pub digest : List ℕ

-- The counts of so many contracts: as many spends are accepted by the machine as runs are met, and the digest is that of one byte a
-- spend.
pub record IsWorked (contracts : ℕ) (counts : Counts) : Type 0 where
  pub verdicts : List ℕ
  pub are : AreVerdicts contracts 0 verdicts
  pub counted : counts ≡ record {
    contracts = contracts;
    spends = length verdicts;
    accepted = good_ones verdicts;
    met = good_ones verdicts;
    digest = sha256 verdicts;
  }
