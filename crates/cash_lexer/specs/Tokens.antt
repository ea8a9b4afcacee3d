-- The tokens of a text. The source of the rules is the CashScript 0.7 documentation with its grammar. This project's own
-- are: the escapes of strings, the exponent of numbers and their limit of 128 bits, the shape of dates and that they are
-- read as UTC, that `a-5` is a subtraction, that a word may begin with `_`, that only a line feed ends a comment after
-- `//`, and the faults with their spans.
use Rattle.std.specs.Prelude.{ℕ, zero, suc, ◌+◌, ◌-◌, List, [], ◌∷◌, ◌++◌, Option, Some, None, Result, Ok, Err}
use Rattle.cash_base.specs.declared.place.Span.{Span}
use Rattle.cash_tree.specs.declared.Token.{Token}
use Rattle.cash_lexer.specs.declared.piece.Piece.{Piece}
use Rattle.cash_lexer.specs.declared.piece.Piece.TheVariants.{Gap, Known, Flawed}
use Rattle.cash_lexer.specs.declared.piece.Flaw.{Flaw}
use Rattle.cash_lexer.specs.declared.piece.Flaw.TheVariants as flaws
use Rattle.cash_lexer.specs.declared.fault.LexFault.{LexFault}
use Rattle.cash_lexer.specs.declared.fault.LexFault.TheVariants as faults
use Rattle.cash_lexer.specs.Rows.{piece_of}

-- a text has at most so many bytes: 2^31 - 1
abbrev pub most_bytes : ℕ
most_bytes = 2147483647

-- so many bytes from a place on
abbrev pub span_at : ℕ → ℕ → Span
span_at at len = record { from = at; to = at + len }

abbrev pub fault_of : Flaw → Span → LexFault
fault_of flaws.BadCharacter span = faults.BadCharacter span
fault_of flaws.OpenString span = faults.OpenString span
fault_of flaws.OpenComment span = faults.OpenComment span
fault_of flaws.NumberTooWide span = faults.NumberTooWide span
fault_of flaws.OddHex span = faults.OddHex span
fault_of flaws.BadDate span = faults.BadDate span

-- A token, or a fault.
abbrev pub Find : Type 0
Find = Result Token LexFault

-- What a piece at a place adds to what is found after it. A fault ends the reading.
abbrev pub finds_with : ℕ → Option Piece → (ℕ → List Find) → List Find
finds_with at None after = []
finds_with at (Some (Gap len)) after = after len
finds_with at (Some (Known kind len)) after = Ok (record { kind = kind; span = span_at at len }) ∷ after len
finds_with at (Some (Flawed flaw len)) after = Err (fault_of flaw (span_at at len)) ∷ []

-- What is found in a text that stands at a place, after its first bytes, so many, which belong to an earlier piece:
-- the tokens in order, up to the end or the first fault.
unfoldable pub finds_after : ℕ → ℕ → List ℕ → List Find
finds_after skipped at [] = []
finds_after (suc skipped) at (byte ∷ rest) = finds_after skipped (at + 1) rest
finds_after zero at (byte ∷ rest) =
    finds_with at (piece_of (byte ∷ rest)) (λ len. finds_after (len - 1) (at + 1) rest)

-- what is found in a text that stands at a place
abbrev pub finds : ℕ → List ℕ → List Find
finds at text = finds_after 0 at text

-- the first token, the fault before any token, or neither
abbrev pub first_of : List Find → Result (Option Token) LexFault
first_of [] = Ok None
first_of (Ok token ∷ more) = Ok (Some token)
first_of (Err fault ∷ more) = Err fault

-- tokens in front of others, unless there is a fault
abbrev pub with_front : List Token → Result (List Token) LexFault → Result (List Token) LexFault
with_front front (Ok tokens) = Ok (front ++ tokens)
with_front front (Err fault) = Err fault

-- all tokens, or the fault
abbrev pub all_of : List Find → Result (List Token) LexFault
all_of [] = Ok []
all_of (Ok token ∷ more) = with_front (token ∷ []) (all_of more)
all_of (Err fault ∷ more) = Err fault

-- the first token, or fault, of a text that stands at a place
abbrev pub first_found : ℕ → List ℕ → Result (Option Token) LexFault
first_found at text = first_of (finds at text)

-- the tokens of a text, or its first fault
abbrev pub lexed : List ℕ → Result (List Token) LexFault
lexed text = all_of (finds 0 text)
