-- What holds of the tokens of a text.
use Rattle.std.specs.Prelude.{◌≡◌, ℕ, ◌+◌, ◌-◌, ◌<◌, ◌≤◌, ◌==◌, Bool, true, List, [], ◌∷◌, ◌++◌, length, take, drop, codes, Some, None, Ok, IsTrue}
use Rattle.std.specs.List.{list_all}
use Rattle.std.specs.Str.{IsUtf8}
use Rattle.cash_base.specs.Source.{text_at}
use Rattle.cash_tree.specs.declared.Token.{Token}
use Rattle.cash_tree.specs.declared.TokenKind.TheVariants.{Word}
use Rattle.cash_lexer.specs.declared.piece.Piece.TheVariants.{Known}
use Rattle.cash_lexer.specs.Gap.{is_blank, is_in_line, closing_len}
use Rattle.cash_lexer.specs.Rows.{piece_of}
use Rattle.cash_lexer.specs.Tokens.{first_found}

-- a line ends in front of the text
abbrev pub ends_line : List ℕ → Bool
ends_line [] = true
ends_line (byte ∷ rest) = byte == 10

-- In front of a text that stands after them, blanks and comments in any number. A comment of a line ends in front of a line
-- feed, or at the end of all, and the other kind with its first `*/`.
pub data IsGap : List ℕ → List ℕ → Type 0 where
  nothing : (after : List ℕ) → IsGap after []
  blank : (after : List ℕ) (byte : ℕ) (rest : List ℕ) → IsTrue (is_blank byte) → IsGap after rest → IsGap after (byte ∷ rest)
  line : (after inside rest : List ℕ) → IsTrue (list_all is_in_line inside) → IsTrue (ends_line (rest ++ after)) → IsGap after rest → IsGap after ((codes "//" ++ inside) ++ rest)
  block : (after inside rest : List ℕ) → closing_len (inside ++ codes "*/") ≡ Some (length inside + 2) → IsGap after rest → IsGap after ((codes "/*" ++ (inside ++ codes "*/")) ++ rest)

-- Of a text that stands at a place this is the next token: after blanks and comments the text begins with it.
pub record IsNext (at : ℕ) (token : Token) (text : List ℕ) : Type 0 where
  pub after : at ≤ token.span.from
  pub some : token.span.from < token.span.to
  pub inside : token.span.to ≤ at + length text
  pub gap : IsGap (drop (token.span.from - at) text) (take (token.span.from - at) text)
  pub begins : piece_of (drop (token.span.from - at) text) ≡ Some (Known token.kind (token.span.to - token.span.from))

-- A text that stands at a place is these tokens, with blanks and comments before, between and after them.
abbrev pub IsCut : ℕ → List Token → List ℕ → Type 0
IsCut at [] text = IsGap [] text
IsCut at (token ∷ tokens) text = IsNext at token text × IsCut token.span.to tokens (drop (token.span.to - at) text)

-- From a place of the source on the next token is the first of these, and from its end on the next, up to the end.
abbrev pub NextAre : ℕ → List Token → List ℕ → Type 0
NextAre at [] source = first_found at (drop at source) ≡ Ok None
NextAre at (token ∷ tokens) source = (first_found at (drop at source) ≡ Ok (Some token)) × NextAre token.span.to tokens source

-- where a token is a word, its text is UTF-8: letters, digits and `_` are ASCII
abbrev pub HasWordText : List ℕ → Token → Type 0
HasWordText source token = token.kind ≡ Word → IsUtf8 (text_at source token.span)
