-- All spans of an accepted contract lie in its source, as those of its tree do.
use Rattle.std.proofs.Common.{◌≡◌, subst, ℕ, List, length, Ok}
use Rattle.cash_base.specs.declared.place.Span.{Span}
use Rattle.cash_base.specs.declared.place.Slot.{Slot}
use Rattle.cash_base.specs.Source.{AreInside}
use Rattle.cash_tree.specs.declared.Ty.{Ty}
use Rattle.cash_tree.specs.declared.Contract.{Contract}
use Rattle.cash_tree.specs.declared.Token.{Token}
use Rattle.cash_tree.specs.Spans.{itself, nothing, tree_spans}
use Rattle.cash_lexer.specs.Tokens.{lexed}
use Rattle.cash_symbols.specs.Lexemes.{lexemes}
use Rattle.cash_parser.specs.Files.{Tree, SpellsFile}
use Rattle.cash_parser.specs.Inside.{StandInOrder}
use Rattle.cash_names.specs.Outline.{NamedTree}
use Rattle.cash_names.specs.Scopes.{IsNamed}
use Rattle.type_check.specs.Laws.{ContractsStay}
use Rattle.source_stages.specs.Stages.{IsAccepted}

-- what is known of the spans of tokens, of a tree that they spell, and of its named tree; and of a contract with types
pub record Laws : Type 0 where
  pub order : (source : List ℕ) (tokens : List Token) → lexed source ≡ Ok tokens → StandInOrder 0 tokens (length source)
  pub tree : (source : List ℕ) (tokens : List Token) (len : ℕ) (tree : Tree) → SpellsFile (lexemes source tokens) tree → StandInOrder 0 tokens len → AreInside len (tree_spans itself tree)
  pub named : (source : List ℕ) (len : ℕ) (tree : Tree) (named : NamedTree) → IsNamed source tree named → AreInside len (tree_spans itself tree) → AreInside len (tree_spans nothing named)
  pub typed : ContractsStay

pub spans_are_inside : Laws → (source : List ℕ) (c : Contract Slot Ty) → IsAccepted source c → AreInside (length source) (tree_spans nothing c)
spans_are_inside laws source c accepted =
    let named = accepted.resolved in
    let tree = named.parsed in
    let len = length source in
    let spelled = laws.tree source tree.tokens len named.tree tree.spelled (laws.order source tree.tokens tree.cut.found) in
    let inside = laws.named source len named.tree accepted.named named.names spelled in
    subst (λ (spans : List Span). AreInside len spans) ((laws.typed accepted.named c accepted.types.0).spans nothing) inside
