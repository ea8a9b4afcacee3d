-- What `check` answers.
use Rattle.std.specs.Prelude.{◌≡◌, ◌⊎◌, Some, None}
use Rattle.type_tables.specs.declared.fault.TypeFault.{TypeFault}
use Rattle.type_tables.specs.declared.fault.TypeFault.TheVariants.{Memory}
use Rattle.type_tables.specs.Places.{Node, first_fault}
use Rattle.type_check.specs.Outline.{NamedContract, TypedContract, contract_outline}
use Rattle.type_check.specs.Typing.{TypesContract}
use Rattle.type_check.specs.Untyped.{untyped_contract}

-- the first node, parts before wholes, that the rules refuse
abbrev pub first_type_fault : NamedContract → Node
first_type_fault tree = first_fault (contract_outline tree).nodes

abbrev pub HasNone : NamedContract → Type 0
HasNone tree = (typed : TypedContract) → TypesContract tree typed → ⊥

-- the contract with types, and no node is refused
abbrev pub IsTyped : NamedContract → TypedContract → Type 0
IsTyped tree typed = TypesContract tree typed × (first_type_fault tree ≡ None)

-- what a fault says
abbrev pub IsFaultOf : NamedContract → TypeFault → Type 0
IsFaultOf tree fault = (fault ≡ Memory) ⊎ ((first_type_fault tree ≡ Some fault) × HasNone tree)

-- At most one contract with types, which is the tree without them; one, where no node is refused; and none, where a
-- node is.
pub record JudgedOnce (tree : NamedContract) : Type 0 where
  pub one : (a b : TypedContract) → TypesContract tree a → TypesContract tree b → a ≡ b
  pub kept : (typed : TypedContract) → TypesContract tree typed → untyped_contract typed ≡ tree
  pub accepted : first_type_fault tree ≡ None → (typed : TypedContract) × TypesContract tree typed
  pub refused : (fault : TypeFault) → first_type_fault tree ≡ Some fault → HasNone tree
