-- Tokens with their texts, as the grammar sees them.
use Rattle.std.specs.Prelude.{ℕ, ◌-◌, ◌==◌, Bool, ◌||◌, ◌&&◌, List, [], ◌∷◌, length, take, drop, map, Option, Some, None, Result, Ok, Err, ℤ, if◌then◌else◌}
use Rattle.cash_base.specs.declared.place.Span.{Span}
use Rattle.cash_tree.specs.declared.Ty.{Ty}
use Rattle.cash_tree.specs.declared.Token.{Token}
use Rattle.cash_tree.specs.declared.TokenKind.{TokenKind}
use Rattle.cash_tree.specs.declared.TokenKind.TheVariants as kinds
use Rattle.hex.specs.Hex.{decode_of}
use Rattle.hex.specs.declared.error.FromHexError.{FromHexError}
use Rattle.cash_symbols.specs.Words.{type_of, is_keyword}
use Rattle.cash_base.specs.Source.{text_at}

pub data Symbol : Type 0 where
  -- a sign, or a reserved word that names no type
  Mark : List ℕ → Symbol
  -- a word that names a type
  Type_ : Ty → Symbol
  -- any other word
  Name : List ℕ → Symbol
  Number : ℕ → Symbol
  -- the bytes of a literal, where hexadecimal digits spell some
  Hex : Option (List ℕ) → Symbol
  Text : List ℕ → Symbol
  Date : ℤ → Symbol
  Version : Symbol

pub record Lexeme : Type 0 where
  pub symbol : Symbol
  pub span : Span

-- ---- literals

-- a backslash in front of `"`, `'` or another backslash makes it stand for itself
abbrev pub is_escapable : ℕ → Bool
is_escapable byte = byte == 34 || byte == 39 || byte == 92

-- the bytes that stand between the quotes of a text; any other backslash stands for itself
abbrev pub unescaped : List ℕ → List ℕ
unescaped [] = []
unescaped (a ∷ []) = a ∷ []
unescaped (a ∷ b ∷ rest) = if (a == 92) && is_escapable b then b ∷ unescaped rest else a ∷ unescaped (b ∷ rest)

-- without the quotes
abbrev pub between_quotes : List ℕ → List ℕ
between_quotes text = take (length text - 2) (drop 1 text)

abbrev pub hex_bytes : Result (List ℕ) FromHexError → Option (List ℕ)
hex_bytes (Ok bytes) = Some bytes
hex_bytes (Err e) = None

-- ---- tokens

abbrev pub word_symbol : List ℕ → Option Ty → Symbol
word_symbol text (Some ty) = Type_ ty
word_symbol text None = if is_keyword text then Mark text else Name text

-- what a token with this text is to the grammar
abbrev pub symbol_of : TokenKind → List ℕ → Symbol
symbol_of kinds.Word text = word_symbol text (type_of text)
symbol_of (kinds.Number n) text = Number n
symbol_of kinds.Hex text = Hex (hex_bytes (decode_of (drop 2 text)))
symbol_of kinds.Text text = Text (unescaped (between_quotes text))
symbol_of (kinds.Date n) text = Date n
symbol_of kinds.Version text = Version
symbol_of kinds.Sign text = Mark text

unfoldable pub symbol_at : List ℕ → Token → Symbol
symbol_at source token = symbol_of token.kind (text_at source token.span)

abbrev pub lexeme : List ℕ → Token → Lexeme
lexeme source token = record { symbol = symbol_at source token; span = token.span }

-- the tokens of a source, with their texts
abbrev pub lexemes : List ℕ → List Token → List Lexeme
lexemes source tokens = map (lexeme source) tokens
