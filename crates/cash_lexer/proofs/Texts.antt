-- Words are letters, digits and `_`, which are ASCII: so their texts are UTF-8.
use Rattle.std.proofs.Common.{◌≡◌, ◌∙◌, ap, sym, subst, refl, ℕ, ℤ, ◌+◌, ◌-◌, ◌<◌, ◌≤◌, ◌⊎◌, inl, inr, Bool, true, false, List, [], ◌∷◌, take, drop, length, get_or, Option, Some, None, Ok, arith}
use Rattle.std.specs.Prelude.{if◌then◌else◌, nat_lt, nat_le, nat_eq, ◌||◌, ◌==◌, ◌%◌, codes}
use Rattle.std.specs.List.{AllByRecursion, prefix_len, starts_with, list_any}
use Rattle.std.specs.Option.{option_or}
use Rattle.std.specs.Str.{IsUtf8}
use Rattle.std.specs.Char.{is_ascii_alphanumeric}
use Rattle.std.specs.Int.{is_in_range}
use Rattle.std.proofs.lemmas.Bool.{cases_lt, and_parts, or_cases, leb-true, eqb-true}
use Rattle.std.proofs.lemmas.List.{get_or-take, get_or_past, drop-drop}
use Rattle.std.proofs.lemmas.List.Sums.{prefix_len_passes}
use Rattle.std.proofs.lemmas.List.Folds.{length-prefix_len}
use Rattle.std.proofs.lemmas.Str.{IsUtf8-from_ascii}
use Rattle.cash_tree.specs.declared.Token.{Token}
use Rattle.cash_tree.specs.declared.TokenKind.{TokenKind}
use Rattle.cash_tree.specs.declared.TokenKind.TheVariants as kinds
use Rattle.cash_lexer.specs.declared.piece.Piece.{Piece}
use Rattle.cash_lexer.specs.declared.piece.Piece.TheVariants.{Gap, Known, Flawed}
use Rattle.cash_lexer.specs.declared.piece.Flaw.TheVariants as flaws
use Rattle.cash_lexer.specs.Gap.{blanks, blank_len, line_len, comment, block_comment, closing_len}
use Rattle.cash_lexer.specs.Numbers.{◌>>=◌, hex, hex_len, version, version_len, number, number_piece, number_value, narrow, digits_len, exponent_len}
use Rattle.cash_lexer.specs.Dates.{date, date_piece, date_after, is_quote}
use Rattle.cash_lexer.specs.Rows.{word, is_word_start, is_word_byte, string, string_piece, string_len, sign, double_signs, single_signs, bad_character, gap, literal, other, piece_of}
use Rattle.cash_lexer.specs.Tokens.{lexed}
use Rattle.cash_lexer.specs.Laws.{IsNext, IsCut, HasWordText}
use Rattle.cash_lexer.proofs.Cut.{lexed_cuts}

-- ---- pieces of a text

-- where it is a word, its text is UTF-8
abbrev Suits : List ℕ → Option Piece → Type 0
Suits text (Some (Known kinds.Word len)) = IsUtf8 (take len text)
Suits text _ = Unit {0}

in_range : (low high c : ℕ) → is_in_range low high c ≡ true → high < 128 → c < 128
in_range low high c is small =
    let top : c ≤ high = leb-true c high (and_parts (nat_le low c) (nat_le c high) is).1 in
    omega (arith, top, small)

word_byte : (byte : ℕ) → is_word_byte byte ≡ true → byte < 128
word_byte byte is =
    elim (or_cases (is_ascii_alphanumeric byte) (byte == 95) is) [
      | inl a ↦ elim (or_cases (is_in_range 48 57 byte || is_in_range 65 90 byte) (is_in_range 97 122 byte) a) [
        | inl b ↦ elim (or_cases (is_in_range 48 57 byte) (is_in_range 65 90 byte) b) [
          | inl digit ↦ in_range 48 57 byte digit (omega arith)
          | inr upper ↦ in_range 65 90 byte upper (omega arith)
        ]
        | inr lower ↦ in_range 97 122 byte lower (omega arith)
      ]
      | inr line ↦ let same : byte ≡ 95 = eqb-true byte 95 line in omega (arith, same)
    ]

small_at : (text : List ℕ) (len i : ℕ) → prefix_len is_word_byte text ≡ len → (i < len) ⊎ (len ≤ i) → get_or (take len text) i 0 < 128
small_at text len i is (inl within) =
    let inside : i < prefix_len is_word_byte text = omega (arith, is, within) in
    subst (λ (b : ℕ). b < 128) (sym (get_or-take len text i 0 within)) (word_byte (get_or text i 0) (prefix_len_passes is_word_byte text i 0 inside))
small_at text len i is (inr past) =
    let size : length (take len text) ≡ len = subst (λ (n : ℕ). length (take n text) ≡ n) is (length-prefix_len is_word_byte text) in
    let outside : length (take len text) ≤ i = omega (arith, size, past) in
    subst (λ (b : ℕ). b < 128) (sym (get_or_past (take len text) i 0 outside)) (omega arith)

word_text : (text : List ℕ) → IsUtf8 (take (prefix_len is_word_byte text) text)
word_text text =
    let len = prefix_len is_word_byte text in
    IsUtf8-from_ascii (take len text) (λ i. small_at text len i refl (cases_lt i len))

either : (text : List ℕ) (a b : Option Piece) → Suits text a → Suits text b → Suits text (option_or a b)
either text None b p q = q
either text (Some x) b p q = p

tested : (text : List ℕ) (test : Bool) (a b : Option Piece) → Suits text a → Suits text b → Suits text (if test then a else b)
tested text true a b p q = p
tested text false a b p q = q

-- ---- the rows

blanks_suit : (text : List ℕ) → Suits text (blanks text)
unfolding blanks
blanks_suit text = tested text (nat_lt 0 (blank_len text)) (Some (Gap (blank_len text))) None tt tt

block_suits : (text : List ℕ) (o : Option ℕ) → Suits text (Some (block_comment text o))
block_suits text (Some n) = tt
block_suits text None = tt

comment_suits : (text : List ℕ) → Suits text (comment text)
unfolding comment
comment_suits text =
    let block = tested text (starts_with nat_eq text (codes "/*")) (Some (block_comment text (closing_len (drop 2 text)))) None
    (block_suits text (closing_len (drop 2 text))) tt in
    tested text (starts_with nat_eq text (codes "//")) (Some (Gap (line_len text))) _ tt block

even_suits : (text : List ℕ) (test : Bool) (len : ℕ) → Suits text (Some (if test then Known kinds.Hex len else Flawed flaws.OddHex len))
even_suits text true len = tt
even_suits text false len = tt

hex_suits : (text : List ℕ) → Suits text (hex text)
unfolding hex
hex_suits text = tested text (starts_with nat_eq text (codes "0x") || starts_with nat_eq text (codes "0X")) _ None (even_suits text (hex_len text % 2 == 0) (hex_len text)) tt

version_found : (text : List ℕ) (o : Option ℕ) → Suits text (o >>= λ n. Some (Known kinds.Version n))
version_found text None = tt
version_found text (Some n) = tt

version_suits : (text : List ℕ) → Suits text (version text)
unfolding version
version_suits text = version_found text (version_len text)

number_found : (text : List ℕ) (len : ℕ) (o : Option ℕ) → Suits text (Some (number_piece len o))
number_found text len (Some value) = tt
number_found text len None = tt

number_suits : (text : List ℕ) → Suits text (number text)
unfolding number
number_suits text =
    let whole = digits_len text in
    let power = exponent_len (drop whole text) in
    tested text (nat_lt 0 whole) _ None
    (number_found text (whole + power) (narrow (number_value (take whole text) (drop 1 (take power (drop whole text)))))) tt

date_found : (text : List ℕ) (o : Option ℤ) → Suits text (Some (date_piece o))
date_found text (Some n) = tt
date_found text None = tt

date_suits : (text : List ℕ) → Suits text (date text)
unfolding date
date_suits text = tested text (starts_with nat_eq text (codes "date(")) _ None (date_found text (date_after (drop 5 text))) tt

word_suits : (text : List ℕ) → Suits text (word text)
unfolding word
word_suits [] = tt
word_suits (byte ∷ rest) = tested (byte ∷ rest) (is_word_start byte) _ None (word_text (byte ∷ rest)) tt

string_found : (text : List ℕ) (o : Option ℕ) → Suits text (Some (string_piece o))
string_found text (Some n) = tt
string_found text None = tt

string_suits : (text : List ℕ) → Suits text (string text)
unfolding string
string_suits [] = tt
string_suits (byte ∷ rest) = tested (byte ∷ rest) (is_quote byte) _ None (string_found (byte ∷ rest) (string_len byte rest)) tt

sign_suits : (text : List ℕ) → Suits text (sign text)
unfolding sign
sign_suits [] = tt
sign_suits (byte ∷ rest) =
    let text = byte ∷ rest in
    tested text (list_any (starts_with nat_eq text) double_signs) (Some (Known kinds.Sign 2)) _ tt
    (tested text (list_any (λ s. s == byte) single_signs) (Some (Known kinds.Sign 1)) None tt tt)

bad_suits : (text : List ℕ) → Suits text (bad_character text)
unfolding bad_character
bad_suits [] = tt
bad_suits (byte ∷ rest) = tt

piece_suits : (text : List ℕ) → Suits text (piece_of text)
unfolding piece_of
piece_suits text =
    either text (gap text) (option_or (literal text) (other text))
    (either text (blanks text) (comment text) (blanks_suit text) (comment_suits text))
    (either text (literal text) (other text)
    (either text (date text) _ (date_suits text) (either text (hex text) _ (hex_suits text) (either text (version text) (number text) (version_suits text) (number_suits text))))
    (either text (word text) _ (word_suits text) (either text (string text) _ (string_suits text) (either text (sign text) (bad_character text) (sign_suits text) (bad_suits text)))))

-- ---- tokens

drops : (source : List ℕ) (at to : ℕ) → at ≤ to → drop (to - at) (drop at source) ≡ drop to source
drops source at to within =
    let same : at + (to - at) ≡ to = omega arith in
    drop-drop (to - at) at source ∙ ap (λ (n : ℕ). drop n source) same

token_suits : (source : List ℕ) (at : ℕ) (token : Token) → IsNext at token (drop at source) → HasWordText source token
token_suits source at token next kind =
    let len = token.span.to - token.span.from in
    let rest = drop token.span.from source in
    let begins : piece_of rest ≡ Some (Known kinds.Word len) =
    ap piece_of (sym (drops source at token.span.from next.after)) ∙ next.begins ∙
    ap (λ (k : TokenKind). Some (Known k len)) kind in
    subst (Suits rest) begins (piece_suits rest)

tokens_suit : (source : List ℕ) (at : ℕ) (tokens : List Token) → IsCut at tokens (drop at source)
    → AllByRecursion (HasWordText source) tokens
tokens_suit source at [] cut = tt
tokens_suit source at (token ∷ tokens) cut =
    let further : at ≤ token.span.to = let a = cut.0.after in let b = cut.0.some in omega (arith, a, b) in (
      token_suits source at token cut.0,
      tokens_suit source token.span.to tokens
          (subst (IsCut token.span.to tokens) (drops source at token.span.to further) cut.1),
    )

pub words_suit : (source : List ℕ) (tokens : List Token) → lexed source ≡ Ok tokens
    → AllByRecursion (HasWordText source) tokens
words_suit source tokens is = tokens_suit source 0 tokens (lexed_cuts source tokens is)
