-- Why a workload isn't done: a generated source is refused, or a spend of its program.
use Rattle.std.specs.Prelude.{◌≡◌, ℕ, ◌<◌, ◌⊎◌, List, [], ◌∷◌}
use Rattle.cash_base.specs.declared.place.Slot.{Slot}
use Rattle.cash_tree.specs.declared.Ty.{Ty}
use Rattle.cash_tree.specs.declared.Contract.{Contract}
use Rattle.artifact_json.specs.Artifact.{Artifact}
use Rattle.cash_compile.specs.declared.refusal.Refusal.{Refusal}
use Rattle.cash_compile.specs.Compile.{IsCompiled, IsUncompiled}
use Rattle.command_files.specs.declared.Stop.{Stop}
use Rattle.command_files.specs.declared.Stop.TheVariants as stops
use Rattle.spend_command.specs.Spent.{IsNoSpend}
use Rattle.source_texts.specs.RefusalText.{refusal_text, source_too_long}
use Rattle.source_commands.specs.Meaning.{IsNoCall}
use Rattle.generated_spends.specs.Generated.{Generated, generated}

-- one of the spend files is refused for the program
abbrev pub IsSpendRefused : Artifact → List (List ℕ) → List ℕ → Type 0
IsSpendRefused program [] text = ⊥
IsSpendRefused program (bytes ∷ others) text =
    (IsNoSpend program bytes text ⊎ IsNoCall program bytes text) ⊎ IsSpendRefused program others text

-- the source of a generated contract is refused; or it is compiled, and one of its spend files is refused
abbrev pub IsContractRefused : Generated → ℕ → List ℕ → Type 0
IsContractRefused generated status text =
    ((status ≡ 1) × (refusal : Refusal) × IsUncompiled generated.source refusal × (text ≡ refusal_text generated.source refusal))
    ⊎ ((status ≡ 4) × (contract : Contract Slot Ty) × (program : Artifact) × IsCompiled generated.source contract program
    × IsSpendRefused program generated.spends text)

-- the refusal of a source that is longer than it may be
abbrev pub IsTooLong : Stop → Type 0
IsTooLong (stops.Refused status text) = (status ≡ 1) × (text.items ≡ source_too_long)
IsTooLong stops.Unread = ⊥
IsTooLong stops.Memory = ⊥

-- a generated contract is refused
abbrev pub HasContractCause : Generated → Stop → Type 0
HasContractCause generated (stops.Refused status text) = IsContractRefused generated status text.items
HasContractCause generated stops.Unread = ⊥
HasContractCause generated stops.Memory = Unit {0}

-- one of so many contracts is refused
abbrev pub IsWorkRefused : ℕ → ℕ → List ℕ → Type 0
IsWorkRefused contracts status text = (k : ℕ) × (k < contracts) × IsContractRefused (generated k) status text

abbrev pub HasWorkCause : ℕ → Stop → Type 0
HasWorkCause contracts (stops.Refused status text) = IsWorkRefused contracts status text.items
HasWorkCause contracts stops.Unread = ⊥
HasWorkCause contracts stops.Memory = Unit {0}
