-- What is known of the contract of each accepted source.
use Rattle.std.specs.Prelude.{◌≡◌, ℕ, ◌≤◌, ◌&&◌, IsTrue, List, length, map}
use Rattle.std.specs.List.{AllByRecursion}
use Rattle.cash_base.specs.declared.place.Slot.{Slot}
use Rattle.cash_base.specs.Source.{IsInside, AreInside}
use Rattle.cash_tree.specs.declared.Ty.{Ty}
use Rattle.cash_tree.specs.declared.Param.{Param}
use Rattle.cash_tree.specs.declared.Function.{Function}
use Rattle.cash_tree.specs.declared.Contract.{Contract}
use Rattle.cash_tree.specs.Spans.{nothing, tree_spans}
use Rattle.cash_parser.specs.Names.{NamesHave, IsTextAt}
use Rattle.artifact_json.specs.Artifact.{AbiParam, AbiCall, have_named_types, take_named_types}
use Rattle.slot_lowering.specs.Functions.{CanLower}

-- However its parameters and functions are described, as long as the types are those of the contract: a source can name each.
abbrev pub HasNamedTypes : Contract Slot Ty → Type 0
HasNamedTypes contract =
    (param : Param Slot → AbiParam) (call : Function Slot Ty → AbiCall) → ((p : Param Slot) → (param p).ty ≡ p.ty)
    → ((f : Function Slot Ty) → (call f).inputs ≡ map param f.params)
    → IsTrue (have_named_types (map param contract.params) && take_named_types (map call contract.functions))

pub record Fits (source : List ℕ) (contract : Contract Slot Ty) : Type 0 where
  -- lowering takes it
  pub can_lower : CanLower contract
  -- the limits on parameters and functions
  pub few_params : length contract.params ≤ 16
  pub some_function : 1 ≤ length contract.functions
  pub few_functions : length contract.functions ≤ 64
  pub few_inputs : AllByRecursion (λ (f : Function Slot Ty). length f.params ≤ 16) contract.functions
  pub types : HasNamedTypes contract
  -- each span in it lies in the source, and where all do, so does its own
  pub inside : AreInside (length source) (tree_spans nothing contract)
  pub own : (len : ℕ) → AreInside len (tree_spans nothing contract) → IsInside len contract.span
  -- the texts of its name, of those of its functions and of all parameters are UTF-8
  pub names : NamesHave (IsTextAt source) contract
