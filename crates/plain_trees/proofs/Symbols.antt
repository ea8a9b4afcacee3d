-- The lexemes of a source: a word names the type of an element, and a literal holds bytes.
use Rattle.std.proofs.Common.{◌≡◌, ◌∙◌, ap, subst, refl, ℕ, zero, suc, ◌-◌, ◌<◌, Bool, true, false, cond, eqb, ◌&&◌, List, [], ◌∷◌, take, drop, length, Option, Some, None, Result, Ok, Err, codes, get_or}
use Rattle.std.specs.Prelude.{nat_eq}
use Rattle.std.specs.List.{AllByRecursion, starts_with}
use Rattle.cash_base.specs.Number.{IsBytes}
use Rattle.cash_base.specs.Source.{text_at}
use Rattle.cash_tree.specs.declared.Ty.{Ty}
use Rattle.cash_tree.specs.declared.Ty.TheVariants as types
use Rattle.cash_tree.specs.declared.Ty.TheOpen.{Ty-F}
use Rattle.cash_tree.specs.declared.Ty.TheViews.{roll-Ty, out-roll-Ty}
use Rattle.cash_tree.specs.declared.Token.{Token}
use Rattle.cash_tree.specs.declared.TokenKind.{TokenKind}
use Rattle.cash_tree.specs.declared.TokenKind.TheVariants as kinds
use Rattle.hex.specs.Hex.{decode_of}
use Rattle.hex.specs.declared.error.FromHexError.{FromHexError}
use Rattle.hex.proofs.HexLemmas.{decode_of-ok}
use Rattle.tx_context.specs.Bytes.{are_bytes}
use Rattle.tx_context.proofs.Bytes.{test-from_IsBytes}
use Rattle.type_tables.specs.Tables.{is_single, is_single_layer}
use Rattle.cash_symbols.specs.Words.{is_text, type_of, bytes_of, size_of, is_keyword}
use Rattle.cash_symbols.specs.Lexemes.{Symbol, Mark, Type_, Name, Hex, Text, Lexeme, unescaped, between_quotes, is_escapable, hex_bytes, word_symbol, symbol_of, symbol_at, lexemes}

abbrev pub is_plain : Symbol → Bool
is_plain (Type_ ty) = is_single ty
is_plain (Hex (Some bytes)) = are_bytes bytes
is_plain (Text bytes) = are_bytes bytes
is_plain _ = true

abbrev pub IsPlainSymbol : Symbol → Type 0
IsPlainSymbol symbol = is_plain symbol ≡ true

abbrev pub ArePlain : List Lexeme → Type 0
ArePlain ts = AllByRecursion (λ (t : Lexeme). IsPlainSymbol t.symbol) ts

-- ---- types

single_roll : (layer : Ty-F Ty) → is_single_layer layer ≡ true → is_single (roll-Ty layer) ≡ true
single_roll layer is = ap is_single_layer (out-roll-Ty layer) ∙ is

one_word : (t : Bool) (w ty : Ty) (rest : Option Ty) → is_single w ≡ true → (rest ≡ Some ty → is_single ty ≡ true) → cond t (Some w) rest ≡ Some ty → is_single ty ≡ true
one_word true w ty rest one more is = let same : w ≡ ty = cc in subst (λ (t : Ty). is_single t ≡ true) same one
one_word false w ty rest one more is = more is

sized_single : (size : Option ℕ) (ty : Ty) → bytes_of size ≡ Some ty → is_single ty ≡ true
unfolding roll-Ty denote.Hole.Carrier.roll
sized_single None ty is = absurd cc
sized_single (Some n) ty is =
    let same : types.BytesN n ≡ ty = cc in
    let layer : Ty-F Ty = Ty-F.BytesN n in
    subst (λ (t : Ty). is_single t ≡ true) same (single_roll layer refl)

if_sized : (t : Bool) (size : Option ℕ) (ty : Ty) → cond t (bytes_of size) None ≡ Some ty → is_single ty ≡ true
if_sized true size ty is = sized_single size ty is
if_sized false size ty is = absurd cc

type_single : (text : List ℕ) (ty : Ty) → type_of text ≡ Some ty → is_single ty ≡ true
unfolding type_of roll-Ty denote.Hole.Carrier.roll
type_single text ty =
    let int : Ty-F Ty = Ty-F.Int in
    let bool : Ty-F Ty = Ty-F.Bool in
    let string : Ty-F Ty = Ty-F.Text in
    let pubkey : Ty-F Ty = Ty-F.Pubkey in
    let sig : Ty-F Ty = Ty-F.Sig in
    let datasig : Ty-F Ty = Ty-F.Datasig in
    let byte : Ty-F Ty = Ty-F.BytesN 1 in
    let bytes : Ty-F Ty = Ty-F.Bytes in
    one_word (is_text text (codes "int")) types.Int ty _ (single_roll int refl)
    (one_word (is_text text (codes "bool")) types.Bool ty _ (single_roll bool refl)
    (one_word (is_text text (codes "string")) types.Text ty _ (single_roll string refl)
    (one_word (is_text text (codes "pubkey")) types.Pubkey ty _ (single_roll pubkey refl)
    (one_word (is_text text (codes "sig")) types.Sig ty _ (single_roll sig refl)
    (one_word (is_text text (codes "datasig")) types.Datasig ty _ (single_roll datasig refl)
    (one_word (is_text text (codes "byte")) (types.BytesN 1) ty _ (single_roll byte refl)
    (one_word (is_text text (codes "bytes")) types.Bytes ty _ (single_roll bytes refl)
    (if_sized (starts_with nat_eq text (codes "bytes")) (size_of (drop 5 text)) ty))))))))

no_type : (text : List ℕ) (keyword : Bool) → is_plain (cond keyword (Mark text) (Name text)) ≡ true
no_type text true = refl
no_type text false = refl

word_plain : (text : List ℕ) (o : Option Ty) → type_of text ≡ o → is_plain (word_symbol text o) ≡ true
word_plain text (Some ty) is = type_single text ty is
word_plain text None is = no_type text (is_keyword text)

-- ---- bytes

taken : (n : ℕ) (xs : List ℕ) → IsBytes xs → IsBytes (take n xs)
taken zero xs h = tt
taken (suc n) [] h = tt
taken (suc n) (x ∷ xs) h = (h.0, taken n xs h.1)

dropped : (n : ℕ) (xs : List ℕ) → IsBytes xs → IsBytes (drop n xs)
dropped zero xs h = h
dropped (suc n) [] h = tt
dropped (suc n) (x ∷ xs) h = dropped n xs h.1

escaped_by : (t : Bool) (first second after : List ℕ) (a b : ℕ) → a < 256 → b < 256 → IsBytes first → IsBytes second → IsBytes (cond t (b ∷ first) (a ∷ second))
escaped_by true first second after a b ha hb h k = (hb, h)
escaped_by false first second after a b ha hb h k = (ha, k)

unescaped_bytes : (text : List ℕ) → IsBytes text → IsBytes (unescaped text)
unescaped_bytes [] h = tt
unescaped_bytes (a ∷ []) h = (h.0, tt)
unescaped_bytes (a ∷ b ∷ rest) h =
    escaped_by (eqb a 92 && is_escapable b) (unescaped rest) (unescaped (b ∷ rest)) [] a b h.0 h.1.0 (unescaped_bytes rest h.1.1) (unescaped_bytes (b ∷ rest) h.1)

each_byte : (bytes : List ℕ) → ((i : ℕ) → get_or bytes i 0 < 256) → IsBytes bytes
each_byte [] h = tt
each_byte (b ∷ bytes) h = (h 0, each_byte bytes (λ i. h (suc i)))

decoded : (text : List ℕ) (r : Result (List ℕ) FromHexError) → decode_of text ≡ r → is_plain (Hex (hex_bytes r)) ≡ true
decoded text (Err e) is = refl
decoded text (Ok bytes) is = test-from_IsBytes bytes (each_byte bytes (decode_of-ok text bytes is).3)

-- ---- lexemes

symbol_plain : (kind : TokenKind) (text : List ℕ) → IsBytes text → is_plain (symbol_of kind text) ≡ true
symbol_plain kinds.Word text h = word_plain text (type_of text) refl
symbol_plain (kinds.Number n) text h = refl
symbol_plain kinds.Hex text h = decoded (drop 2 text) (decode_of (drop 2 text)) refl
symbol_plain kinds.Text text h =
    test-from_IsBytes (unescaped (between_quotes text)) (unescaped_bytes (between_quotes text) (taken (length text - 2) (drop 1 text) (dropped 1 text h)))
symbol_plain (kinds.Date n) text h = refl
symbol_plain kinds.Version text h = refl
symbol_plain kinds.Sign text h = refl

lexeme_plain : (source : List ℕ) (token : Token) → IsBytes source → is_plain (symbol_at source token) ≡ true
unfolding symbol_at
lexeme_plain source token h =
    symbol_plain token.kind (text_at source token.span) (taken (token.span.to - token.span.from) (drop token.span.from source) (dropped token.span.from source h))

pub lexemes_plain : (source : List ℕ) (tokens : List Token) → IsBytes source → ArePlain (lexemes source tokens)
lexemes_plain source [] h = tt
lexemes_plain source (token ∷ tokens) h = (lexeme_plain source token h, lexemes_plain source tokens h)
