-- What the types of an accepted source promise of its runs.
use Rattle.std.specs.Prelude.{ℕ, List}
use Rattle.cash_base.specs.Number.{IsBytes}
use Rattle.cash_tree.specs.declared.Token.{Token}
use Rattle.cash_symbols.specs.Lexemes.{lexemes}
use Rattle.cash_parser.specs.Files.{Tree, SpellsFile}
use Rattle.cash_names.specs.Outline.{NamedTree}
use Rattle.cash_names.specs.Scopes.{IsNamed}
use Rattle.type_check.specs.Outline.{TypedContract}
use Rattle.type_check.specs.Typing.{TypesContract}
use Rattle.type_soundness.specs.Sound.{FindsNumbers}

-- A source whose tokens spell a tree, whose names resolve and whose expressions have types: its runs find numbers.
abbrev pub AcceptedRunsFindNumbers : Type 0
AcceptedRunsFindNumbers =
    (source : List ℕ) (tokens : List Token) (tree : Tree) (named : NamedTree) (typed : TypedContract)
    → IsBytes source → SpellsFile (lexemes source tokens) tree → IsNamed source tree named → TypesContract named typed
    → FindsNumbers typed
