-- What is found in a text, piece by piece.
use Rattle.std.proofs.Common.{◌≡◌, ℕ, zero, suc, ◌+◌, ◌-◌, ◌<◌, ◌≤◌, List, [], ◌∷◌, length, drop, Option, Some, None, Result, Ok, Err, refl, sym, ap, ◌∙◌, subst, arith, add-zero, drop-drop}
use Rattle.cash_tree.specs.declared.Token.{Token}
use Rattle.cash_tree.specs.declared.TokenKind.{TokenKind}
use Rattle.cash_lexer.specs.declared.piece.Piece.{Piece}
use Rattle.cash_lexer.specs.declared.piece.Piece.TheVariants.{Gap, Known, Flawed}
use Rattle.cash_lexer.specs.declared.piece.Flaw.{Flaw}
use Rattle.cash_lexer.specs.declared.fault.LexFault.{LexFault}
use Rattle.cash_lexer.specs.Gap.{blanks, comment}
use Rattle.cash_lexer.specs.Numbers.{hex, version, number}
use Rattle.cash_lexer.specs.Dates.{date}
use Rattle.cash_lexer.specs.Rows.{word, string, sign, bad_character, piece_of}
use Rattle.cash_lexer.specs.Tokens.{span_at, fault_of, finds_with, finds_after, finds, first_of, first_found}
use Rattle.cash_lexer.proofs.Pieces.{Fits, piece_fits}

-- what is found after some bytes is what is found in the text after them
pub finds_after-drop : (skipped at : ℕ) (text : List ℕ) → finds_after skipped at text ≡ finds (at + skipped) (drop skipped text)
unfolding finds_after
finds_after-drop zero at [] = refl
finds_after-drop (suc skipped) at [] = refl
finds_after-drop zero at (byte ∷ rest) = ap (λ n. finds n (byte ∷ rest)) (sym (add-zero at))
finds_after-drop (suc skipped) at (byte ∷ rest) =
    let same : at + 1 + skipped ≡ at + suc skipped = omega arith in
    finds_after-drop skipped (at + 1) rest ∙ ap (λ n. finds n (drop skipped rest)) same

-- after a piece
after_piece : (len at byte : ℕ) (rest : List ℕ) → 0 < len → finds_after (len - 1) (at + 1) rest ≡ finds (at + len) (drop len (byte ∷ rest))
after_piece zero at byte rest some = absurd (omega arith)
after_piece (suc len) at byte rest some =
    let one_less : suc len - 1 ≡ len = omega arith in
    let same : at + 1 + len ≡ at + suc len = omega arith in
    ap (λ n. finds_after n (at + 1) rest) one_less ∙ finds_after-drop len (at + 1) rest ∙ ap (λ n. finds n (drop len rest)) same

pub none_here : (at : ℕ) (text : List ℕ) → piece_of text ≡ None → finds at text ≡ []
unfolding finds_after
none_here at [] is = refl
none_here at (byte ∷ rest) is = ap (λ p. finds_with at p (λ len. finds_after (len - 1) (at + 1) rest)) is

pub piece_of-nil : piece_of [] ≡ None
unfolding piece_of blanks comment date hex version number word string sign bad_character
piece_of-nil = refl

pub gap_len : (text : List ℕ) (len : ℕ) → piece_of text ≡ Some (Gap len) → (0 < len) × (len ≤ length text)
gap_len text len is = subst (Fits (length text)) is (piece_fits text)

pub known_len : (text : List ℕ) (kind : TokenKind) (len : ℕ) → piece_of text ≡ Some (Known kind len) → (0 < len) × (len ≤ length text)
known_len text kind len is = subst (Fits (length text)) is (piece_fits text)

pub flawed_len : (text : List ℕ) (flaw : Flaw) (len : ℕ) → piece_of text ≡ Some (Flawed flaw len) → len ≤ length text + 4
flawed_len text flaw len is = subst (Fits (length text)) is (piece_fits text)

pub gap_here : (at : ℕ) (text : List ℕ) (len : ℕ) → piece_of text ≡ Some (Gap len) → finds at text ≡ finds (at + len) (drop len text)
unfolding finds_after
gap_here at [] len is = let short = (gap_len [] len is) in absurd (omega arith)
gap_here at (byte ∷ rest) len is =
    ap (λ p. finds_with at p (λ n. finds_after (n - 1) (at + 1) rest)) is ∙ after_piece len at byte rest (gap_len (byte ∷ rest) len is).0

pub known_here : (at : ℕ) (text : List ℕ) (kind : TokenKind) (len : ℕ) → piece_of text ≡ Some (Known kind len)
    → finds at text ≡ Ok (record { kind = kind; span = span_at at len }) ∷ finds (at + len) (drop len text)
unfolding finds_after
known_here at [] kind len is = let short = (known_len [] kind len is) in absurd (omega arith)
known_here at (byte ∷ rest) kind len is =
    ap (λ p. finds_with at p (λ n. finds_after (n - 1) (at + 1) rest)) is
    ∙ ap (λ more. Ok (record { kind = kind; span = span_at at len }) ∷ more) (after_piece len at byte rest (known_len (byte ∷ rest) kind len is).0)

pub flawed_here : (at : ℕ) (text : List ℕ) (flaw : Flaw) (len : ℕ) → piece_of text ≡ Some (Flawed flaw len) → finds at text ≡ Err (fault_of flaw (span_at at len)) ∷ []
unfolding finds_after
flawed_here at [] flaw len is = let none : None ≡ Some (Flawed flaw len) = sym piece_of-nil ∙ is in absurd cc
flawed_here at (byte ∷ rest) flaw len is = ap (λ p. finds_with at p (λ n. finds_after (n - 1) (at + 1) rest)) is

finds_by : (at : ℕ) (text : List ℕ) (o : Option Piece) → piece_of text ≡ o → finds at text ≡ finds_with at o (λ len. finds (at + len) (drop len text))
finds_by at text None is = none_here at text is
finds_by at text (Some (Gap len)) is = gap_here at text len is
finds_by at text (Some (Known kind len)) is = known_here at text kind len is
finds_by at text (Some (Flawed flaw len)) is = flawed_here at text flaw len is

pub finds_by_pieces : (at : ℕ) (text : List ℕ) → finds at text ≡ finds_with at (piece_of text) (λ len. finds (at + len) (drop len text))
finds_by_pieces at text = finds_by at text (piece_of text) refl

-- ---- the first

pub first_none : (at : ℕ) (text : List ℕ) (r : Result (Option Token) LexFault) → piece_of text ≡ None → first_found at text ≡ r → Ok None ≡ r
first_none at text r is first = sym (ap first_of (none_here at text is)) ∙ first

pub first_known : (at : ℕ) (text : List ℕ) (kind : TokenKind) (len : ℕ) (r : Result (Option Token) LexFault) → piece_of text ≡ Some (Known kind len)
    → first_found at text ≡ r → Ok (Some (record { kind = kind; span = span_at at len })) ≡ r
first_known at text kind len r is first = sym (ap first_of (known_here at text kind len is)) ∙ first

pub first_flawed : (at : ℕ) (text : List ℕ) (flaw : Flaw) (len : ℕ) (r : Result (Option Token) LexFault) → piece_of text ≡ Some (Flawed flaw len)
    → first_found at text ≡ r → Err (fault_of flaw (span_at at len)) ≡ r
first_flawed at text flaw len r is first = sym (ap first_of (flawed_here at text flaw len is)) ∙ first

pub first_after : (at : ℕ) (source : List ℕ) (len : ℕ) (r : Result (Option Token) LexFault) → piece_of (drop at source) ≡ Some (Gap len)
    → first_found at (drop at source) ≡ r → first_found (at + len) (drop (at + len) source) ≡ r
first_after at source len r is first =
    ap (first_found (at + len)) (sym (drop-drop len at source)) ∙ sym (ap first_of (gap_here at (drop at source) len is)) ∙ first
