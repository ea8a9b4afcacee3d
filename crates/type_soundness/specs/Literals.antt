-- What a source spells: the literals of a contract hold bytes, and its parameters are elements.
use Rattle.std.specs.Prelude.{Bool, true, ◌&&◌, List, [], ◌∷◌, Some, None, IsTrue}
use Rattle.std.specs.List.{list_all, AllByRecursion}
use Rattle.cash_tree.specs.declared.Contract.{Contract}
use Rattle.cash_tree.specs.declared.Param.{Param}
use Rattle.cash_tree.specs.declared.Expr.{Expr}
use Rattle.cash_tree.specs.declared.ExprKind.{ExprKind}
use Rattle.cash_tree.specs.declared.ExprKind.TheOpen.{ExprKind-F, Expr-F}
use Rattle.cash_tree.specs.declared.ExprKind.TheFolds.{fold-Expr, fold-ExprKind}
use Rattle.cash_tree.specs.Nodes.{tree_values}
use Rattle.tx_context.specs.Bytes.{are_bytes}
use Rattle.type_tables.specs.Tables.{is_single}

-- the expressions in a node, from left to right
abbrev pub parts : {N T K E : Type 0} → ExprKind-F N T K E → List E
parts (ExprKind-F.Unary op value) = value ∷ []
parts (ExprKind-F.Binary op left right) = left ∷ right ∷ []
parts (ExprKind-F.Length value) = value ∷ []
parts (ExprKind-F.Reverse value) = value ∷ []
parts (ExprKind-F.Split value at) = value ∷ at ∷ []
parts (ExprKind-F.Index pair number) = pair ∷ []
parts (ExprKind-F.Cast to value None) = value ∷ []
parts (ExprKind-F.Cast to value (Some size)) = value ∷ size ∷ []
parts (ExprKind-F.Call callee args) = args
parts (ExprKind-F.New callee args) = args
parts (ExprKind-F.Array items) = items
parts (ExprKind-F.LookAt look index) = index ∷ []
parts _ = []

-- what the node itself spells
abbrev pub spells_bytes : {N T K E : Type 0} → ExprKind-F N T K E → Bool
spells_bytes (ExprKind-F.Hex bytes) = are_bytes bytes
spells_bytes (ExprKind-F.Text bytes) = are_bytes bytes
spells_bytes _ = true

abbrev pub kind_spells : {N T : Type 0} → ExprKind-F N T Bool Bool → Bool
kind_spells kind = spells_bytes kind && list_all (λ b. b) (parts kind)

abbrev pub node_spells : {N T : Type 0} → Expr-F N T Bool Bool → Bool
node_spells e = e.kind

-- the literals of an expression hold bytes
unfoldable pub holds_bytes : {N T : Type 0} → Expr N T → Bool
holds_bytes {N} {T} = fold-Expr N T Bool Bool kind_spells node_spells

unfoldable pub kind_holds_bytes : {N T : Type 0} → ExprKind N T → Bool
kind_holds_bytes {N} {T} = fold-ExprKind N T Bool Bool kind_spells node_spells

-- ... and so do all of a contract
abbrev pub HoldsBytes : {N T : Type 0} → Contract N T → Type 0
HoldsBytes contract = AllByRecursion (λ e. IsTrue (holds_bytes e)) (tree_values contract)

-- ---- parameters

-- a parameter has the type of one element: neither an array nor a pair
abbrev pub AreSingle : {N : Type 0} → List (Param N) → Type 0
AreSingle params = AllByRecursion (λ p. IsTrue (is_single p.ty)) params

-- What holds of each contract that a source spells: its parameters have the types of elements, since no word names another
-- type, and its literals hold bytes.
pub record IsPlain {N T : Type 0} (contract : Contract N T) : Type 0 where
  pub ctor : AreSingle contract.params
  pub args : AllByRecursion (λ f. AreSingle f.params) contract.functions
  pub literals : HoldsBytes contract
