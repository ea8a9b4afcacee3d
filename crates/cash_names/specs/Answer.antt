-- What `resolve` answers.
use Rattle.std.specs.Prelude.{◌≡◌, ℕ, List, Some, ◌⊎◌}
use Rattle.name_scopes.specs.declared.fault.NameFault.{NameFault}
use Rattle.name_scopes.specs.declared.fault.NameFault.TheVariants.{Memory}
use Rattle.cash_names.specs.Outline.{Tree, NamedTree}
use Rattle.cash_names.specs.Scopes.{IsNamed, first_name_fault}

-- memory ran out, or it is the fault of the first place that is refused
abbrev pub IsFaultOf : List ℕ → Tree → NameFault → Type 0
IsFaultOf source tree fault = (fault ≡ Memory) ⊎ (first_name_fault source tree ≡ Some fault)

-- the tree is named
abbrev pub HasOne : List ℕ → Tree → Type 0
HasOne source tree = (named : NamedTree) × IsNamed source tree named

-- no tree names the tree
abbrev pub HasNone : List ℕ → Tree → Type 0
HasNone source tree = (named : NamedTree) → IsNamed source tree named → ⊥

-- some place of the tree is refused
abbrev pub HasFault : List ℕ → Tree → Type 0
HasFault source tree = (fault : NameFault) × (first_name_fault source tree ≡ Some fault)
