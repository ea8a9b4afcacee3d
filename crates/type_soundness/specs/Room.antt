-- Which contracts have room in a run.
use Rattle.std.specs.Prelude.{◌≡◌, ℕ, List, length, slice_get, Some}
use Rattle.cash_tree.specs.Nodes.{AreSmall, tree_values}
use Rattle.cash_names.specs.Outline.{Tree, NamedTree}
use Rattle.cash_names.specs.Scopes.{IsNamed}
use Rattle.type_check.specs.Outline.{TypedFunction, TypedContract}
use Rattle.type_check.specs.Typing.{TypesContract}
use Rattle.source_meaning.specs.Runnable.{CanRun}

-- A contract whose names resolve, whose expressions have types, and whose expressions are those of a parsed tree, each with at
-- most 1,000 nodes: the room of a run has places for each of its functions.
abbrev pub ContractsHaveRoom : Type 0
ContractsHaveRoom =
    (source : List ℕ) (tree : Tree) (named : NamedTree) (typed : TypedContract)
    → IsNamed source tree named → TypesContract named typed → AreSmall (tree_values tree)
    → (place : ℕ) (f : TypedFunction) → slice_get typed.functions place ≡ Some f
    → CanRun typed (length typed.params) place (length f.params)
