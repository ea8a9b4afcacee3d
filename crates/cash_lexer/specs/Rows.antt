-- Which piece a text begins with: a gap, a token, or what is none. Each row fits some texts, the first that fits
-- counts, and a piece is as long as it can be.
use Rattle.std.specs.Prelude.{ℕ, ◌+◌, ◌==◌, nat_eq, Bool, ◌||◌, ◌&&◌, nat_lt, List, [], ◌∷◌, codes, Option, Some, None, if◌then◌else◌}
use Rattle.std.specs.List.{prefix_len, starts_with, list_any}
use Rattle.std.specs.Option.{option_map, option_or}
use Rattle.std.specs.Char.{is_ascii_alphabetic, is_ascii_alphanumeric}
use Rattle.cash_tree.specs.declared.TokenKind.TheVariants.{Word, Text, Sign}
use Rattle.cash_lexer.specs.declared.piece.Piece.{Piece}
use Rattle.cash_lexer.specs.declared.piece.Piece.TheVariants.{Known, Flawed}
use Rattle.cash_lexer.specs.declared.piece.Flaw.TheVariants.{OpenString, BadCharacter}
use Rattle.cash_lexer.specs.Gap.{blanks, comment}
use Rattle.cash_lexer.specs.Numbers.{hex, version, number}
use Rattle.cash_lexer.specs.Dates.{is_quote, date}

-- a letter or `_`
abbrev pub is_word_start : ℕ → Bool
is_word_start byte = is_ascii_alphabetic byte || byte == 95

-- a letter, a digit or `_`
abbrev pub is_word_byte : ℕ → Bool
is_word_byte byte = is_ascii_alphanumeric byte || byte == 95

unfoldable pub word : List ℕ → Option Piece
word [] = None
word (byte ∷ rest) =
    if is_word_start byte then Some (Known Word (prefix_len is_word_byte (byte ∷ rest))) else None

-- ---- strings

-- a backslash in front of `"`, `'` or another backslash makes it stand for itself
abbrev pub is_escapable : ℕ → Bool
is_escapable byte = is_quote byte || byte == 92

-- line feed and carriage return
abbrev pub is_line_end : ℕ → Bool
is_line_end byte = byte == 10 || byte == 13

-- How many bytes a text has up to the quote that ends a string and with it, unless a line ends before. A backslash
-- and the sign that it makes stand for itself go together.
abbrev pub string_len : ℕ → List ℕ → Option ℕ
string_len quote [] = None
string_len quote (byte ∷ []) = if byte == quote then Some 1 else None
string_len quote (byte ∷ next ∷ rest) =
    if byte == quote then Some 1
    else (if is_line_end byte then None
    else (if byte == 92 && is_escapable next then option_map (λ n. n + 2) (string_len quote rest)
    else option_map (λ n. n + 1) (string_len quote (next ∷ rest))))

abbrev pub string_piece : Option ℕ → Piece
string_piece (Some n) = Known Text (n + 1)
string_piece None = Flawed OpenString 1

unfoldable pub string : List ℕ → Option Piece
string [] = None
string (byte ∷ rest) = if is_quote byte then Some (string_piece (string_len byte rest)) else None

-- ---- signs

abbrev pub double_signs : List (List ℕ)
double_signs = codes "&&" ∷ codes "||" ∷ codes "==" ∷ codes "!=" ∷ codes "<=" ∷ codes ">=" ∷ []

abbrev pub single_signs : List ℕ
single_signs = codes "()[]{},;.=<>+-*/%!&|^~"

unfoldable pub sign : List ℕ → Option Piece
sign [] = None
sign (byte ∷ rest) =
    if list_any (starts_with nat_eq (byte ∷ rest)) double_signs then Some (Known Sign 2)
    else (if list_any (λ s. s == byte) single_signs then Some (Known Sign 1) else None)

-- ---- anything else

-- how many bytes a character takes whose first byte this is, in UTF-8
abbrev pub char_len : ℕ → ℕ
char_len byte = if nat_lt byte 128 then 1 else (if nat_lt byte 224 then 2 else (if nat_lt byte 240 then 3 else 4))

unfoldable pub bad_character : List ℕ → Option Piece
bad_character [] = None
bad_character (byte ∷ rest) = Some (Flawed BadCharacter (char_len byte))

-- ---- the rows, in their order

abbrev pub gap : List ℕ → Option Piece
gap text = option_or (blanks text) (comment text)

abbrev pub literal : List ℕ → Option Piece
literal text = option_or (date text) (option_or (hex text) (option_or (version text) (number text)))

abbrev pub other : List ℕ → Option Piece
other text = option_or (word text) (option_or (string text) (option_or (sign text) (bad_character text)))

-- the piece with which a text begins, unless it is empty
unfoldable pub piece_of : List ℕ → Option Piece
piece_of text = option_or (gap text) (option_or (literal text) (other text))
