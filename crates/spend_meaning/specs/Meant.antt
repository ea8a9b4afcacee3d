-- What a call of a contract means, in the world of its spend.
use Rattle.std.specs.Prelude.{◌≡◌, ℕ, ◌==◌, ◌&&◌, Bool, false, List, [], ◌∷◌, length, Some, slice_get, Ok}
use Rattle.cash_base.specs.declared.place.Slot.{Slot}
use Rattle.cash_tree.specs.declared.Ty.{Ty}
use Rattle.cash_tree.specs.declared.Contract.{Contract}
use Rattle.cash_tree.specs.declared.Function.{Function}
use Rattle.bch_vm.specs.Law.{locking_script}
use Rattle.source_meaning.specs.declared.outcome.SourceOutcome.{SourceOutcome}
use Rattle.source_meaning.specs.Meaning.{source_outcome}
use Rattle.source_meaning.specs.Runnable.{CanRun}
use Rattle.spend_json.specs.Given.{SpendParts}
use Rattle.artifact_json.specs.Artifact.{Artifact, AbiCall}
use Rattle.unlocker.specs.Spends.{Built, Handed, built_call, world_of}

-- each function of the contract can be run on as many elements as there are parameters
abbrev pub HasRoom : Contract Slot Ty → Type 0
HasRoom contract = (place : ℕ) (function : Function Slot Ty) → slice_get contract.functions place ≡ Some function
    → CanRun contract (length contract.params) place (length function.params)

-- as many functions, one by one of as many parameters
abbrev pub take_as_many : List AbiCall → List (Function Slot Ty) → Bool
take_as_many [] functions = length functions == 0
take_as_many (call ∷ calls) [] = false
take_as_many (call ∷ calls) (function ∷ functions) =
    (length call.inputs == length function.params) && take_as_many calls functions

-- the program has as many parameters as the contract, of the constructor and of each function
abbrev pub has_parameters_of : Artifact → Contract Slot Ty → Bool
has_parameters_of program contract =
    (length program.ctor == length contract.params) && take_as_many program.abi contract.functions

-- what is answered, as contracts see it
pub record MeantParts : Type 0 where
  pub redeem : List ℕ
  pub unlocking : List ℕ
  pub locking : List ℕ
  pub outcome : SourceOutcome

abbrev pub meant_with : Built → SourceOutcome → MeantParts
meant_with scripts outcome = record {
  redeem = scripts.redeem;
  unlocking = scripts.unlocking;
  locking = locking_script scripts.redeem;
  outcome = outcome;
}

-- the run of the function that is called ends so, in the world of the spend with these scripts
pub record IsEnd (contract : Contract Slot Ty) (spend : SpendParts) (call : Handed) (outcome : SourceOutcome) : Type 0 where
  pub function : Function Slot Ty
  pub called : slice_get contract.functions call.chosen ≡ Some function
  pub ends : outcome ≡ source_outcome contract call.ctor function call.args (world_of spend call.scripts)

-- the spend is a call, whose scripts these are, and whose run ends so
pub record IsMeant (program : Artifact) (contract : Contract Slot Ty) (spend : SpendParts) (meant : MeantParts) : Type 0 where
  pub call : Handed
  pub built : built_call program spend ≡ Ok call
  pub scripts : meant ≡ meant_with call.scripts meant.outcome
  pub outcome : IsEnd contract spend call meant.outcome
