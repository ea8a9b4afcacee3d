-- What is known of the contract of each accepted source.
use Rattle.std.specs.Prelude.{◌≤◌, length}
use Rattle.std.specs.List.{AllByRecursion}
use Rattle.cash_tree.specs.declared.Function.{Function}
use Rattle.cash_tree.specs.declared.Contract.{Contract}

-- at most 16 parameters of the constructor, 1 to 64 functions, and at most 16 parameters of each
pub record IsCounted {N T : Type 0} (contract : Contract N T) : Type 0 where
  pub few_params : length contract.params ≤ 16
  pub some_function : 1 ≤ length contract.functions
  pub few_functions : length contract.functions ≤ 64
  pub few_inputs : AllByRecursion (λ (f : Function N T). length f.params ≤ 16) contract.functions
