-- Each name of a tree is one of the words that spell it.
use Rattle.std.proofs.Common.{◌≡◌, refl, ℕ, List, [], ◌∷◌, ◌++◌}
use Rattle.std.specs.List.{AllByRecursion}
use Rattle.cash_base.specs.declared.place.Span.{Span}
use Rattle.cash_tree.specs.declared.Param.{Param}
use Rattle.cash_tree.specs.declared.Token.{Token}
use Rattle.cash_tree.specs.declared.TokenKind.{TokenKind}
use Rattle.cash_tree.specs.declared.TokenKind.TheVariants as kinds
use Rattle.cash_parser.specs.Names.{ParamsHave, FunctionHas, NamesHave, IsTextAt}
use Rattle.cash_symbols.specs.Lexemes.{Lexeme, Name, symbol_of, symbol_at, lexeme, lexemes}
use Rattle.cash_parser.specs.Files.{Tree, FunctionTree, SpellsParams, no_param, last_param, next_param, SpellsFunctions, no_function, one_function, SpellsFile, contract, one_constraint, two_constraints}
use Rattle.cash_lexer.specs.Laws.{HasWordText}

-- it holds of the span of a token that is a word
abbrev OfWord : (Span → Type 0) → Token → Type 0
OfWord P token = token.kind ≡ kinds.Word → P token.span

-- it holds of the span of a lexeme that is a name
abbrev OfName : (Span → Type 0) → Lexeme → Type 0
OfName P l = (word : List ℕ) → l.symbol ≡ Name word → P l.span

abbrev OfNames : (Span → Type 0) → List Lexeme → Type 0
OfNames P ls = AllByRecursion (OfName P) ls

name_is_word : (kind : TokenKind) (text word : List ℕ) → symbol_of kind text ≡ Name word → kind ≡ kinds.Word
name_is_word kinds.Word text word is = refl
name_is_word (kinds.Number n) text word is = cc
name_is_word kinds.Hex text word is = cc
name_is_word kinds.Text text word is = cc
name_is_word (kinds.Date n) text word is = cc
name_is_word kinds.Version text word is = cc
name_is_word kinds.Sign text word is = cc

of_name : (P : Span → Type 0) (source : List ℕ) (token : Token) → OfWord P token → OfName P (lexeme source token)
unfolding symbol_at
of_name P source token h word is = h (name_is_word token.kind _ word is)

of_names : (P : Span → Type 0) (source : List ℕ) (tokens : List Token) → AllByRecursion (OfWord P) tokens
    → OfNames P (lexemes source tokens)
of_names P source [] all = tt
of_names P source (token ∷ tokens) all = (of_name P source token all.0, of_names P source tokens all.1)

parts : {A : Type 0} (P : A → Type 0) (a b : List A) → AllByRecursion P (a ++ b)
    → AllByRecursion P a × AllByRecursion P b
parts P [] b all = (tt, all)
parts P (x ∷ a) b all = let rest = parts P a b all.1 in ((all.0, rest.0), rest.1)

params_have : (P : Span → Type 0) {ls : List Lexeme} {ps : List (Param Span)} → SpellsParams ls ps → OfNames P ls
    → ParamsHave P ps
params_have P no_param all = tt
params_have P (last_param {word = word} p) all = (all.1.0 word refl, tt)
params_have P (next_param {word = word} p m rest) all = (all.1.0 word refl, params_have P rest all.1.1.1)

functions_have : (P : Span → Type 0) {ls : List Lexeme} {fs : List FunctionTree} → SpellsFunctions ls fs → OfNames P ls
    → AllByRecursion (FunctionHas P) fs
functions_have P no_function all = tt
functions_have P (one_function {word = word} f n o c b z {a = a} {d = d} ps body others) all =
    let inside = parts (OfName P) a _ all.1.1.1 in
    let after = parts (OfName P) d _ inside.1.1.1 in
    ((all.1.0 word refl, params_have P ps inside.0), functions_have P others after.1.1)

file_has : (P : Span → Type 0) {ls : List Lexeme} {tree : Tree} → SpellsFile ls tree → OfNames P ls → NamesHave P tree
file_has P (contract {word = word} k n o c b z {a = a} {d = d} ps fs) all =
    let inside = parts (OfName P) a _ all.1.1.1 in
    let after = parts (OfName P) d _ inside.1.1.1 in
    (all.1.0 word refl, params_have P ps inside.0, functions_have P fs after.0)
file_has P (one_constraint p w z {a = a} first more) all =
    file_has P more (parts (OfName P) a _ all.1.1).1.1
file_has P (two_constraints p w z {a = a} {b = b} first second more) all =
    file_has P more (parts (OfName P) b _ (parts (OfName P) a _ all.1.1).1).1.1

pub names_have : (source : List ℕ) (tokens : List Token) (tree : Tree) → SpellsFile (lexemes source tokens) tree
    → AllByRecursion (HasWordText source) tokens → NamesHave (IsTextAt source) tree
names_have source tokens tree spelled all =
    file_has (IsTextAt source) spelled (of_names (IsTextAt source) source tokens all)
