-- The lexemes of a source: a word for a type is one that a source can name, so a length in it is a number.
use Rattle.std.proofs.Common.{◌≡◌, refl, ℕ, ◌<◌, ◌≤◌, ◌^◌, Bool, true, false, cond, List, [], ◌∷◌, Option, Some, None, arith}
use Rattle.std.specs.Prelude.{nat_le, IfSome}
use Rattle.std.specs.List.{AllByRecursion}
use Rattle.std.proofs.lemmas.Bool.{and_parts, leb-true, lt-ltb}
use Rattle.cash_base.specs.Source.{text_at}
use Rattle.cash_tree.specs.declared.Ty.{Ty}
use Rattle.cash_tree.specs.declared.Ty.TheOpen.{Ty-F}
use Rattle.cash_tree.specs.declared.Ty.TheViews.{out-Ty}
use Rattle.cash_tree.specs.declared.Token.{Token}
use Rattle.cash_tree.specs.declared.TokenKind.{TokenKind}
use Rattle.cash_tree.specs.declared.TokenKind.TheVariants as kinds
use Rattle.cash_symbols.specs.Words.{type_of, is_keyword}
use Rattle.cash_symbols.specs.Lexemes.{Symbol, Mark, Type_, Name, Lexeme, word_symbol, symbol_of, symbol_at, lexemes}
use Rattle.artifact_json.specs.Types.{is_named_layer, is_named_type}
use Rattle.artifact_json.proofs.Spellings.{type_named}
use Rattle.lowering_laws.specs.Laws.{layer_has_length, type_has_length}

-- ---- lengths

layer_length : (layer : Ty-F Ty) → is_named_layer layer ≡ true → layer_has_length layer ≡ true
layer_length (Ty-F.BytesN n) is =
    let most : n ≤ 520 = leb-true n 520 (and_parts (nat_le 1 n) (nat_le n 520) is).1 in
    let small : n < 2 ^ 63 = omega (arith, most) in
    lt-ltb n (2 ^ 63) small
layer_length _ is = refl

pub named_has_length : (t : Ty) → is_named_type t ≡ true → type_has_length t ≡ true
named_has_length t is = layer_length (out-Ty t) is

-- ---- lexemes

-- a type is one that a source can name
abbrev pub IsNamedSymbol : Symbol → Type 0
IsNamedSymbol (Type_ ty) = is_named_type ty ≡ true
IsNamedSymbol _ = Unit {0}

no_type : (text : List ℕ) (keyword : Bool) → IsNamedSymbol (cond keyword (Mark text) (Name text))
no_type text true = tt
no_type text false = tt

word_named : (text : List ℕ) (o : Option Ty) → IfSome o (λ t. is_named_type t ≡ true) → IsNamedSymbol (word_symbol text o)
word_named text (Some ty) is = is
word_named text None is = no_type text (is_keyword text)

symbol_named : (kind : TokenKind) (text : List ℕ) → IsNamedSymbol (symbol_of kind text)
symbol_named kinds.Word text = word_named text (type_of text) (type_named text)
symbol_named (kinds.Number n) text = tt
symbol_named kinds.Hex text = tt
symbol_named kinds.Text text = tt
symbol_named (kinds.Date n) text = tt
symbol_named kinds.Version text = tt
symbol_named kinds.Sign text = tt

token_named : (source : List ℕ) (token : Token) → IsNamedSymbol (symbol_at source token)
unfolding symbol_at
token_named source token = symbol_named token.kind (text_at source token.span)

pub lexemes_named : (source : List ℕ) (tokens : List Token) → AllByRecursion (λ (t : Lexeme). IsNamedSymbol t.symbol) (lexemes source tokens)
lexemes_named source [] = tt
lexemes_named source (token ∷ tokens) = (token_named source token, lexemes_named source tokens)
