-- The nodes of a contract, and the first of them that is refused.
use Rattle.std.specs.Prelude.{◌≡◌, ◌⊎◌, List, [], ◌∷◌, Option, Some, None, Result, Ok, Err}
use Rattle.type_tables.specs.declared.fault.TypeFault.{TypeFault}
use Rattle.type_tables.specs.declared.fault.TypeFault.TheVariants.{Memory}
use Rattle.type_tables.specs.Tables.{Answer}

-- what the rules say of one node, by the types of its parts: its fault, or nothing
abbrev pub Node : Type 0
Node = Option TypeFault

infixr 10 ◌or◌
abbrev pub ◌or◌ : Node → Node → Node
(Some fault) or other = Some fault
None or other = other

abbrev pub first_fault : List Node → Node
first_fault [] = None
first_fault (node ∷ nodes) = node or first_fault nodes

abbrev pub fault_of : {A : Type 0} → Answer A → Node
fault_of (Ok x) = None
fault_of (Err fault) = Some fault

-- the value, where there is no fault
abbrev pub granted : {A : Type 0} → Node → A → Answer A
granted None value = Ok value
granted (Some fault) value = Err fault

-- What the code answers is what it should, and memory may be short at any time.
abbrev pub Gives : {A B : Type 0} → (A → B) → Result A TypeFault → Answer B → Type 0
Gives view (Ok x) answer = answer ≡ Ok (view x)
Gives view (Err fault) answer = (fault ≡ Memory) ⊎ (answer ≡ Err fault)
