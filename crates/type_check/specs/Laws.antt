-- What types leave as it is.
use Rattle.std.specs.Prelude.{◌≡◌, List, map}
use Rattle.cash_base.specs.declared.place.Span.{Span}
use Rattle.cash_base.specs.declared.place.Slot.{Slot}
use Rattle.cash_tree.specs.Nodes.{nodes, tree_values, AreSmall}
use Rattle.cash_tree.specs.Spans.{expression_spans, tree_spans}
use Rattle.type_tables.specs.Tables.{TypedExpr}
use Rattle.type_check.specs.Outline.{NamedContract, TypedContract}
use Rattle.type_check.specs.Typing.{TypesContract}
use Rattle.type_check.specs.Untyped.{untyped, untyped_contract}

-- An expression with types, and itself without them.
pub record IsAlike (x : TypedExpr) : Type 0 where
  pub own_span : (untyped x).span ≡ x.span
  -- those in it too
  pub all_spans : (of_name : Slot → List Span) → expression_spans of_name (untyped x) ≡ expression_spans of_name x
  pub count : nodes (untyped x) ≡ nodes x

-- A contract, and what types it.
pub record AreAlike (tree : NamedContract) (typed : TypedContract) : Type 0 where
  -- the shape, with every slot, span and literal
  pub shape : untyped_contract typed ≡ tree
  -- the expressions that stand in no other, in the order of the text
  pub expressions : tree_values tree ≡ map untyped (tree_values typed)
  pub spans : (of_name : Slot → List Span) → tree_spans of_name tree ≡ tree_spans of_name typed
  -- at most 1,000 nodes in an expression
  pub small : AreSmall (tree_values tree) → AreSmall (tree_values typed)

abbrev pub ContractsStay : Type 0
ContractsStay = (tree : NamedContract) (typed : TypedContract) → TypesContract tree typed → AreAlike tree typed

abbrev pub ExpressionsStay : Type 0
ExpressionsStay = (x : TypedExpr) → IsAlike x
