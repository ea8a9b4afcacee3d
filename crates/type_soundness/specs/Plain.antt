-- Names and types leave what a source spells.
use Rattle.std.specs.Prelude.{ℕ, List}
use Rattle.cash_names.specs.Outline.{Tree, NamedTree}
use Rattle.cash_names.specs.Scopes.{IsNamed}
use Rattle.type_check.specs.Outline.{TypedContract}
use Rattle.type_check.specs.Typing.{TypesContract}
use Rattle.type_soundness.specs.Literals.{IsPlain}

abbrev pub ContractsStayPlain : Type 0
ContractsStayPlain =
    (source : List ℕ) (tree : Tree) (named : NamedTree) (typed : TypedContract)
    → IsNamed source tree named → TypesContract named typed → IsPlain tree → IsPlain typed
