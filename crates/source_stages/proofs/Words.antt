-- The texts of a contract's names are UTF-8, as those of the words of its source are: names and types leave their places.
use Rattle.std.proofs.Common.{◌≡◌, sym, subst, ℕ, List, [], ◌∷◌, map, Ok}
use Rattle.std.specs.List.{AllByRecursion}
use Rattle.cash_base.specs.declared.place.Span.{Span}
use Rattle.cash_base.specs.declared.place.Slot.{Slot}
use Rattle.cash_tree.specs.declared.Ty.{Ty}
use Rattle.cash_tree.specs.declared.Param.{Param}
use Rattle.cash_tree.specs.declared.Contract.{Contract}
use Rattle.cash_tree.specs.declared.Token.{Token}
use Rattle.cash_lexer.specs.Tokens.{lexed}
use Rattle.cash_lexer.specs.Laws.{HasWordText}
use Rattle.cash_symbols.specs.Lexemes.{lexemes}
use Rattle.cash_parser.specs.Files.{Tree, FunctionTree, SpellsFile}
use Rattle.cash_parser.specs.Names.{ParamsHave, FunctionHas, NamesHave, IsTextAt}
use Rattle.name_scopes.specs.Names.{Names}
use Rattle.cash_names.specs.Outline.{NamedFunction, NamedTree}
use Rattle.cash_names.specs.Scopes as scopes
use Rattle.cash_names.specs.Scopes.{NamesParams, NamesFunctions, IsNamed}
use Rattle.type_check.specs.Outline.{TypedFunction, TypedContract}
use Rattle.type_check.specs.Untyped.{untyped_function, untyped_contract}
use Rattle.type_check.specs.Answer.{JudgedOnce}
use Rattle.source_stages.specs.Stages.{IsAccepted}

-- ---- slots leave the places of names as they are

params_named : (P : Span → Type 0) {source : List ℕ} {names after : Names} {ps : List (Param Span)} {qs : List (Param Slot)} → NamesParams source names ps qs after → ParamsHave P ps → ParamsHave P qs
params_named P (scopes.no_param names) all = tt
params_named P (scopes.next_param names after p ps qs new rest) all = (all.0, params_named P rest all.1)

functions_named : (P : Span → Type 0) {source : List ℕ} {first names after : Names} {fs : List FunctionTree} {gs : List NamedFunction} → NamesFunctions source first names fs gs after
    → AllByRecursion (FunctionHas P) fs → AllByRecursion (FunctionHas P) gs
functions_named P (scopes.no_function functions) all = tt
functions_named P (scopes.next_function functions after inner last name span ps qs ss ts fs gs new params body rest) all =
    ((all.0.0, params_named P params all.0.1), functions_named P rest all.1)

tree_named : (P : Span → Type 0) {source : List ℕ} {tree : Tree} {named : NamedTree} → IsNamed source tree named → NamesHave P tree → NamesHave P named
tree_named P (scopes.contract ctor functions name span pragmas ps qs f fs gs admitted params calls) all =
    (all.0, params_named P params all.1, functions_named P calls all.2)

-- ---- and so do types

functions_typed : (P : Span → Type 0) (fs : List TypedFunction) → AllByRecursion (FunctionHas P) (map untyped_function fs) → AllByRecursion (FunctionHas P) fs
functions_typed P [] all = tt
functions_typed P (f ∷ fs) all = (all.0, functions_typed P fs all.1)

contract_typed : (P : Span → Type 0) (c : TypedContract) → NamesHave P (untyped_contract c) → NamesHave P c
contract_typed P c all = (all.0, all.1, functions_typed P c.functions all.2)

-- ---- accepted sources

-- what is known of the words of a source, and of a tree's names
pub record Laws : Type 0 where
  pub words : (source : List ℕ) (tokens : List Token) → lexed source ≡ Ok tokens → AllByRecursion (HasWordText source) tokens
  pub names : (source : List ℕ) (tokens : List Token) (tree : Tree) → SpellsFile (lexemes source tokens) tree
      → AllByRecursion (HasWordText source) tokens → NamesHave (IsTextAt source) tree
  pub judged : (tree : NamedTree) → JudgedOnce tree

pub names_are_texts : (laws : Laws) (source : List ℕ) (c : Contract Slot Ty) → IsAccepted source c → NamesHave (IsTextAt source) c
names_are_texts laws source c accepted =
    let named = accepted.resolved in
    let tree = named.parsed in
    let texts = laws.words source tree.tokens tree.cut.found in
    let kept = (laws.judged accepted.named).kept c accepted.types.0 in
    let all = tree_named (IsTextAt source) named.names (laws.names source tree.tokens named.tree tree.spelled texts) in
    contract_typed (IsTextAt source) c (subst (λ (t : NamedTree). NamesHave (IsTextAt source) t) (sym kept) all)
