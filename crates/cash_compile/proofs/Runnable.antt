-- The contract of an accepted source can be run.
use Rattle.std.proofs.Common.{◌≡◌, ℕ, List, length, None, Some}
use Rattle.std.specs.Prelude.{slice_get}
use Rattle.cash_base.specs.declared.place.Slot.{Slot}
use Rattle.cash_tree.specs.declared.Ty.{Ty}
use Rattle.cash_tree.specs.declared.Contract.{Contract}
use Rattle.cash_tree.specs.declared.Function.{Function}
use Rattle.cash_tree.specs.Nodes.{AreSmall, tree_values}
use Rattle.cash_symbols.specs.Lexemes.{Lexeme, lexemes}
use Rattle.cash_symbols.specs.DepthRules.{first_too_deep}
use Rattle.cash_parser.specs.Files.{Tree, SpellsFile}
use Rattle.source_meaning.specs.Runnable.{CanRun}
use Rattle.type_soundness.specs.Room.{ContractsHaveRoom}
use Rattle.cash_compile.specs.Compile.{IsAccepted}

-- where no token is too deep, each expression is small
abbrev pub SmallTrees : Type 0
SmallTrees = (ts : List Lexeme) (tree : Tree) → SpellsFile ts tree → first_too_deep ts ≡ None → AreSmall (tree_values tree)

pub can_run : ContractsHaveRoom → SmallTrees → (source : List ℕ) (contract : Contract Slot Ty) → IsAccepted source contract
    → (place : ℕ) (function : Function Slot Ty) → slice_get contract.functions place ≡ Some function
    → CanRun contract (length contract.params) place (length function.params)
can_run room small source contract accepted place function found =
    let names = accepted.resolved in
    let parsed = names.parsed in
    room source names.tree accepted.named contract names.names accepted.types.0
    (small (lexemes source parsed.tokens) names.tree parsed.spelled parsed.shallow) place function found
