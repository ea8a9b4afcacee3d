-- Which expressions and contracts are lowered: those that are parsed, named and typed.
use Rattle.std.specs.Prelude.{◌≡◌, Bool, true, false, ◌&&◌, pos, ℕ, List, None, IsTrue}
use Rattle.std.specs.List.{list_all, AllByRecursion}
use Rattle.cash_base.specs.declared.place.Slot.{Slot}
use Rattle.element_ops.specs.Operand.{is_in_range}
use Rattle.cash_tree.specs.declared.Ty.{Ty}
use Rattle.cash_tree.specs.declared.Ty.TheOpen.{Ty-F}
use Rattle.cash_tree.specs.declared.Ty.TheViews.{out-Ty}
use Rattle.cash_tree.specs.declared.Callee.{Callee}
use Rattle.cash_tree.specs.declared.Callee.TheVariants.{Known, Unknown}
use Rattle.cash_tree.specs.declared.Expr.{Expr}
use Rattle.cash_tree.specs.declared.ExprKind.{ExprKind}
use Rattle.cash_tree.specs.declared.ExprKind.TheOpen.{ExprKind-F, Expr-F}
use Rattle.cash_tree.specs.declared.ExprKind.TheFolds.{fold-Expr, fold-ExprKind}
use Rattle.cash_tree.specs.declared.Contract.{Contract}
use Rattle.cash_tree.specs.Nodes.{AreSmall, tree_values}
use Rattle.cash_names.specs.Outline.{Tree, NamedTree}
use Rattle.cash_names.specs.Scopes.{IsNamed}
use Rattle.cash_names.specs.Definitions.{expression_uses}
use Rattle.type_tables.specs.Tables.{TypedExpr, Env as Types, type_at, is_single}
use Rattle.type_check.specs.Shapes.{NamedExpr}
use Rattle.type_check.specs.Outline.{TypedContract}
use Rattle.type_check.specs.Typing.{HasType, TypesContract}
use Rattle.type_soundness.specs.Literals.{parts, IsPlain}
use Rattle.slot_expressions.specs.Ready.{Known-names, is_ready}
use Rattle.slot_lowering.specs.Functions.{CanLower}

-- ---- casts and calls

abbrev pub layer_has_length : Ty-F Ty → Bool
layer_has_length (Ty-F.BytesN n) = is_in_range (pos n)
layer_has_length _ = true

-- the length of a type of bytes is a number
abbrev pub type_has_length : Ty → Bool
type_has_length t = layer_has_length (out-Ty t)

abbrev pub is_of_language : Callee → Bool
is_of_language (Known f) = true
is_of_language (Unknown name) = false

abbrev pub own_fits : {N T K E : Type 0} → ExprKind-F N T K E → Bool
own_fits (ExprKind-F.Cast to value size) = type_has_length to
own_fits (ExprKind-F.Call callee args) = is_of_language callee
own_fits (ExprKind-F.New callee args) = is_of_language callee
own_fits _ = true

abbrev pub kind_fits : {N T : Type 0} → ExprKind-F N T Bool Bool → Bool
kind_fits kind = own_fits kind && list_all (λ b. b) (parts kind)

abbrev pub node_fits : {N T : Type 0} → Expr-F N T Bool Bool → Bool
node_fits e = e.kind

-- The casts of an expression are to such types, of which a source spells none above 65535, and its calls are of what the language
-- has, as those of a named tree are.
unfoldable pub nodes_fit : {N T : Type 0} → Expr N T → Bool
nodes_fit {N} {T} = fold-Expr N T Bool Bool kind_fits node_fits

unfoldable pub kind_nodes_fit : {N T : Type 0} → ExprKind N T → Bool
kind_nodes_fit {N} {T} = fold-ExprKind N T Bool Bool kind_fits node_fits

-- ---- expressions

-- each name has the type of one element
abbrev pub AreSingleNames : Types → Type 0
AreSingleNames types = (slot : Slot) → is_single (type_at slot types) ≡ true

-- An expression that has the type of one element is ready where its names are known, and its casts and calls as above.
abbrev pub ExpressionsAreReady : Type 0
ExpressionsAreReady =
    (types : Types) (e : NamedExpr) (x : TypedExpr) (known : Known-names) → HasType types None e x → AreSingleNames types
    → is_single x.ty ≡ true → list_all known (expression_uses x) ≡ true → nodes_fit x ≡ true → is_ready known x ≡ true

-- ---- contracts

-- so are the expressions of a contract
abbrev pub NodesFit : {N T : Type 0} → Contract N T → Type 0
NodesFit contract = AllByRecursion (λ e. IsTrue (nodes_fit e)) (tree_values contract)

-- A contract whose names resolve and whose expressions have types, from a parsed tree with at most 1,000 nodes an expression. Its
-- parameters have the types of one element, and its casts and calls are as above: lowering takes it.
abbrev pub ContractsAreLowered : Type 0
ContractsAreLowered =
    (source : List ℕ) (tree : Tree) (named : NamedTree) (typed : TypedContract)
    → IsNamed source tree named → TypesContract named typed → AreSmall (tree_values tree) → IsPlain typed → NodesFit typed → CanLower typed
