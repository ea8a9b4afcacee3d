-- Blanks and comments, as they stand in front of a text.
use Rattle.std.specs.Prelude.{ℕ, ◌+◌, ◌==◌, nat_eq, nat_lt, Bool, not, ◌||◌, List, [], ◌∷◌, length, drop, codes, Option, Some, None, if◌then◌else◌}
use Rattle.std.specs.List.{prefix_len, starts_with}
use Rattle.std.specs.Option.{option_map}
use Rattle.cash_lexer.specs.declared.piece.Piece.{Piece}
use Rattle.cash_lexer.specs.declared.piece.Piece.TheVariants.{Gap, Flawed}
use Rattle.cash_lexer.specs.declared.piece.Flaw.TheVariants.{OpenComment}

-- space, tab, carriage return and line feed
abbrev pub is_blank : ℕ → Bool
is_blank byte = byte == 32 || byte == 9 || byte == 13 || byte == 10

-- no line feed
abbrev pub is_in_line : ℕ → Bool
is_in_line byte = not (byte == 10)

-- how many bytes the blanks take with which a text begins
abbrev pub blank_len : List ℕ → ℕ
blank_len text = prefix_len is_blank text

-- how many bytes are left of the line with which a text begins, without its line feed
abbrev pub line_len : List ℕ → ℕ
line_len text = prefix_len is_in_line text

-- how many bytes a text has up to its first `*/` and with it
abbrev pub closing_len : List ℕ → Option ℕ
closing_len [] = None
closing_len (byte ∷ rest) =
    if starts_with nat_eq (byte ∷ rest) (codes "*/") then Some 2 else option_map (λ n. n + 1) (closing_len rest)

-- the blanks in front of a text, all of them
unfoldable pub blanks : List ℕ → Option Piece
blanks text = if nat_lt 0 (blank_len text) then Some (Gap (blank_len text)) else None

-- a comment that ends after its `*/`, or is open up to the end
abbrev pub block_comment : List ℕ → Option ℕ → Piece
block_comment text (Some n) = Gap (n + 2)
block_comment text None = Flawed OpenComment (length text)

-- The comment with which a text begins: from `//` up to the end of the line, or from `/*` to the next `*/`.
unfoldable pub comment : List ℕ → Option Piece
comment text =
    if starts_with nat_eq text (codes "//") then Some (Gap (line_len text))
    else (if starts_with nat_eq text (codes "/*") then Some (block_comment text (closing_len (drop 2 text))) else None)
