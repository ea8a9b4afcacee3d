-- Digits and numbers, as they stand in front of a text.
use Rattle.std.specs.Prelude.{ℕ, ◌+◌, ◌-◌, ◌*◌, ◌^◌, ◌%◌, ◌==◌, nat_eq, nat_lt, ◌||◌, ◌&&◌, List, take, drop, fold, codes, Option, Some, None, if◌then◌else◌}
use Rattle.std.specs.List.{prefix_len, starts_with}
use Rattle.std.specs.Char.{is_ascii_digit, is_ascii_hexdigit}
use Rattle.cash_tree.specs.declared.TokenKind.TheVariants.{Number, Hex, Version}
use Rattle.cash_lexer.specs.declared.piece.Piece.{Piece}
use Rattle.cash_lexer.specs.declared.piece.Piece.TheVariants.{Known, Flawed}
use Rattle.cash_lexer.specs.declared.piece.Flaw.TheVariants.{OddHex, NumberTooWide}

-- how many digits a text begins with
abbrev pub digits_len : List ℕ → ℕ
digits_len text = prefix_len is_ascii_digit text

-- ---- hexadecimal digits

-- how many bytes `0x` or `0X` and the hexadecimal digits after it take
abbrev pub hex_len : List ℕ → ℕ
hex_len text = 2 + prefix_len is_ascii_hexdigit (drop 2 text)

-- two hexadecimal digits spell a byte
unfoldable pub hex : List ℕ → Option Piece
hex text =
    if starts_with nat_eq text (codes "0x") || starts_with nat_eq text (codes "0X")
    then Some (if hex_len text % 2 == 0 then Known Hex (hex_len text) else Flawed OddHex (hex_len text))
    else None

-- ---- versions

-- how many bytes digits and a dot after them take
abbrev pub dotted_len : List ℕ → Option ℕ
dotted_len text =
    if nat_lt 0 (digits_len text) && starts_with nat_eq (drop (digits_len text) text) (codes ".")
    then Some (digits_len text + 1) else None

infixl 10 ◌>>=◌
abbrev pub ◌>>=◌ : {A B : Type 0} → Option A → (A → Option B) → Option B
None >>= f = None
(Some x) >>= f = f x

-- digits that end a version
abbrev pub last_len : List ℕ → Option ℕ
last_len text = if nat_lt 0 (digits_len text) then Some (digits_len text) else None

-- three times digits, with dots between
abbrev pub version_len : List ℕ → Option ℕ
version_len text = do
  first ← dotted_len text
  second ← dotted_len (drop first text)
  third ← last_len (drop (first + second) text)
  Some (first + second + third)

unfoldable pub version : List ℕ → Option Piece
version text = do
  n ← version_len text
  Some (Known Version n)

-- ---- numbers

-- what a digit adds to the number of those before it
abbrev pub with_digit : ℕ → ℕ → ℕ
with_digit n digit = n * 10 + (digit - 48)

-- the number that decimal digits spell; none spell 0
abbrev pub decimal : List ℕ → ℕ
decimal digits = fold with_digit 0 digits

-- how many bytes `e` or `E` and the digits after it take, or 0
abbrev pub exponent_len : List ℕ → ℕ
exponent_len text =
    if (starts_with nat_eq text (codes "e") || starts_with nat_eq text (codes "E")) && nat_lt 0 (digits_len (drop 1 text))
    then 1 + digits_len (drop 1 text) else 0

-- the number of these digits times ten to the power of those, none of which make no exponent
unfoldable pub number_value : List ℕ → List ℕ → ℕ
number_value digits exponent = decimal digits * 10 ^ decimal exponent

-- a number of at most 128 bits
abbrev pub narrow : ℕ → Option ℕ
narrow n = if nat_lt n (2 ^ 128) then Some n else None

abbrev pub number_piece : ℕ → Option ℕ → Piece
number_piece len (Some value) = Known (Number value) len
number_piece len None = Flawed NumberTooWide len

-- digits, and maybe a power of ten
unfoldable pub number : List ℕ → Option Piece
number text =
    let whole = digits_len text in
    let power = exponent_len (drop whole text) in
    if nat_lt 0 whole
    then Some (number_piece (whole + power) (narrow (number_value (take whole text) (drop 1 (take power (drop whole text))))))
    else None
