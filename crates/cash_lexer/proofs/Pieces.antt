-- A gap and a token take at least one byte, and none that the text hasn't. What is at fault takes at most four more.
use Rattle.std.proofs.Common.{◌≡◌, ℕ, suc, ◌+◌, ◌%◌, ◌<◌, ◌≤◌, Bool, true, false, cond, eqb, ltb, List, [], ◌∷◌, length, take, drop, Option, Some, None, refl, sym, ap, subst, arith, ℤ}
use Rattle.std.specs.Prelude.{nat_eq, codes, ◌&&◌, ◌||◌, ◌==◌}
use Rattle.std.specs.List.{prefix_len, starts_with, list_any, list_all}
use lib.Pointwise.{pointwise}
use Rattle.std.specs.Option.{option_map, option_or}
use Rattle.std.specs.Char.{is_ascii_digit, is_ascii_hexdigit}
use Rattle.std.specs.Int.{is_in_range}
use Rattle.std.proofs.lemmas.List.{length-drop}
use Rattle.std.proofs.lemmas.List.Sums.{prefix_len-le-length}
use Rattle.std.proofs.lemmas.Bool.{ltb-true, leb-true, eqb-true}
use Rattle.std.proofs.lemmas.Grind.{common_steps}
use Rattle.cash_tree.specs.declared.TokenKind.TheVariants.{Word, Hex, Version, Sign}
use Rattle.cash_lexer.specs.declared.piece.Piece.{Piece}
use Rattle.cash_lexer.specs.declared.piece.Piece.TheVariants.{Gap, Known, Flawed}
use Rattle.cash_lexer.specs.declared.piece.Flaw.TheVariants.{OddHex}
use Rattle.cash_lexer.specs.Gap.{is_in_line, blank_len, line_len, closing_len, blanks, block_comment, comment}
use Rattle.cash_lexer.specs.Numbers.{◌>>=◌, digits_len, hex_len, hex, dotted_len, last_len, version, exponent_len, number_piece, number}
use Rattle.cash_lexer.specs.Dates.{has_date_string, date_piece, date_after, date, is_quote}
use Rattle.cash_lexer.specs.Rows.{is_word_start, is_word_byte, is_escapable, is_line_end, word, string_len, string_piece, string, double_signs, single_signs, sign, bad_character, gap, literal, other, piece_of}

abbrev pub Fits : ℕ → Option Piece → Type 0
Fits n None = Unit {0}
Fits n (Some (Gap len)) = (0 < len) × (len ≤ n)
Fits n (Some (Known kind len)) = (0 < len) × (len ≤ n)
Fits n (Some (Flawed flaw len)) = len ≤ n + 4

or_fits : (n : ℕ) (a b : Option Piece) → Fits n a → Fits n b → Fits n (option_or a b)
or_fits n None b p q = q
or_fits n (Some x) b p q = p

-- a choice by a test fits where both sides do
if_fits : (n : ℕ) (t : Bool) (a b : Option Piece) → (t ≡ true → Fits n a) → (t ≡ false → Fits n b) → Fits n (cond t a b)
if_fits n true a b p q = p refl
if_fits n false a b p q = q refl

-- ---- tests

and_left : (a b : Bool) → (a && b) ≡ true → a ≡ true
and_left true b is = refl
and_left false b is = is

and_right : (a b : Bool) → (a && b) ≡ true → b ≡ true
and_right true b is = is
and_right false b is = absurd cc

either : (a b : Bool) (P : Type 0) → (a || b) ≡ true → (a ≡ true → P) → (b ≡ true → P) → P
either true b P is p q = p refl
either false b P is p q = q is

even_fits : (n : ℕ) (t : Bool) (len : ℕ) → 0 < len → len ≤ n → Fits n (Some (cond t (Known Hex len) (Flawed OddHex len)))
even_fits n true len some within = (some, within)
even_fits n false len some within = omega arith

some_if : (t : Bool) (k n : ℕ) → cond t (Some (k + 1)) None ≡ Some n → 0 < n
some_if true k n is = let same : k + 1 ≡ n = cc in omega arith
some_if false k n is = absurd cc

-- what begins a word also goes on with one
start_goes_on : (digit upper lower line : Bool) → ((upper || lower) || line) ≡ true → (((digit || upper) || lower) || line) ≡ true
start_goes_on true upper lower line is = refl
start_goes_on false upper lower line is = is

starts_word : (byte : ℕ) (rest : List ℕ) → is_word_start byte ≡ true → 0 < prefix_len is_word_byte (byte ∷ rest)
starts_word byte rest is =
    let goes_on : is_word_byte byte ≡ true = start_goes_on (is_in_range 48 57 byte) _ _ _ is in
    subst (λ t. 0 < cond t (1 + prefix_len is_word_byte rest) 0) (sym goes_on) (omega arith)

-- ---- what a text begins with is no longer than it

pointwise_length : (xs ys : List ℕ) → pointwise nat_eq xs ys ≡ true → length xs ≡ length ys
pointwise_length [] [] is = refl
pointwise_length [] (y ∷ ys) is = absurd cc
pointwise_length (x ∷ xs) [] is = absurd cc
pointwise_length (x ∷ xs) (y ∷ ys) is =
    elim (eqb x y) as (λ (t : Bool). (t && pointwise nat_eq xs ys) ≡ true → length (x ∷ xs) ≡ length (y ∷ ys))
    [ true ↦ λ h. ap suc (pointwise_length xs ys h) | false ↦ λ h. absurd cc ] is

take_shorter : (n : ℕ) (xs : List ℕ) → length (take n xs) ≤ length xs
take_shorter n xs = grind (arith, common_steps)

starts_length : (text needle : List ℕ) → starts_with nat_eq text needle ≡ true → length needle ≤ length text
starts_length text needle is =
    let same = pointwise_length needle (take (length needle) text) is in
    let less = take_shorter (length needle) text in
    omega arith

-- ---- the rows

blanks_fit : (text : List ℕ) → Fits (length text) (blanks text)
unfolding blanks
blanks_fit text = if_fits (length text) (ltb 0 (blank_len text)) (Some (Gap (blank_len text))) None (λ h. (ltb-true 0 (blank_len text) h, prefix_len-le-length _ text)) (λ h. tt)

-- a length that is no more than this, if there is one
abbrev Most : ℕ → Option ℕ → Type 0
Most n None = Unit {0}
Most n (Some k) = k ≤ n

most_if : (n : ℕ) (t : Bool) (a b : Option ℕ) → (t ≡ true → Most n a) → (t ≡ false → Most n b) → Most n (cond t a b)
most_if n true a b p q = p refl
most_if n false a b p q = q refl

most_more : (n : ℕ) (o : Option ℕ) → Most n o → Most (suc n) (option_map (λ k. k + 1) o)
most_more n None h = tt
most_more n (Some k) h = omega arith

closing_most : (text : List ℕ) → Most (length text) (closing_len text)
closing_most [] = tt
closing_most (byte ∷ rest) =
    most_if (length (byte ∷ rest)) (starts_with nat_eq (byte ∷ rest) (codes "*/")) (Some 2) (option_map (λ n. n + 1) (closing_len rest))
    (λ h. starts_length (byte ∷ rest) (codes "*/") h) (λ h. most_more (length rest) (closing_len rest) (closing_most rest))

line_some : (text : List ℕ) → starts_with nat_eq text (codes "//") ≡ true → 0 < line_len text
line_some [] is = absurd cc
line_some (byte ∷ rest) is =
    let slash : 47 ≡ byte = eqb-true 47 byte (and_left (eqb 47 byte) _ is) in
    subst (λ b. 0 < line_len (b ∷ rest)) slash (omega arith)

block_fits : (text : List ℕ) (o : Option ℕ) → 2 ≤ length text → Most (length (drop 2 text)) o → Fits (length text) (Some (block_comment text o))
block_fits text (Some n) long most = (omega arith, omega (arith, length-drop 2 text))
block_fits text None long most = omega arith

comment_fits : (text : List ℕ) → Fits (length text) (comment text)
unfolding comment
comment_fits text =
    if_fits (length text) (starts_with nat_eq text (codes "//")) (Some (Gap (line_len text))) _ (λ h. (line_some text h, prefix_len-le-length is_in_line text))
    (λ _. if_fits (length text) (starts_with nat_eq text (codes "/*")) (Some (block_comment text (closing_len (drop 2 text)))) None
    (λ h. block_fits text (closing_len (drop 2 text)) (starts_length text (codes "/*") h) (closing_most (drop 2 text))) (λ _. tt))

date_long : (n : ℕ) (t : Bool) (v : Option ℤ) → 5 ≤ n → (t ≡ true → 27 ≤ n) → Fits n (Some (date_piece (cond t v None)))
date_long n true (Some x) some long = (omega arith, long refl)
date_long n true None some long = omega arith
date_long n false v some long = omega arith

date_string_long : (text : List ℕ) → has_date_string text ≡ true → 22 ≤ length text
unfolding has_date_string
date_string_long text is = leb-true 22 (length text) (and_left _ _ (and_left _ _ (and_left _ _ is)))

date_fits : (text : List ℕ) → Fits (length text) (date text)
unfolding date date_after
date_fits text =
    if_fits (length text) (starts_with nat_eq text (codes "date(")) (Some (date_piece (date_after (drop 5 text)))) None
    (λ h. date_long (length text) (has_date_string (drop 5 text)) _ (starts_length text (codes "date(") h) (λ s. let far = date_string_long (drop 5 text) s in omega (arith, length-drop 5 text)))
    (λ _. tt)

hex_fits : (text : List ℕ) → Fits (length text) (hex text)
unfolding hex
hex_fits text =
    if_fits (length text) (starts_with nat_eq text (codes "0x") || starts_with nat_eq text (codes "0X")) _ None
    (λ h.
    let long : 2 ≤ length text = either (starts_with nat_eq text (codes "0x")) (starts_with nat_eq text (codes "0X")) (2 ≤ length text) h (starts_length text (codes "0x")) (starts_length text (codes "0X")) in
    let digits = prefix_len-le-length is_ascii_hexdigit (drop 2 text) in
    let within : hex_len text ≤ length text = omega (arith, length-drop 2 text, digits, long) in
    even_fits (length text) (hex_len text % 2 == 0) (hex_len text) (omega arith) within)
    (λ _. tt)

-- ---- versions and numbers

dotted_most : (text : List ℕ) → Most (length text) (dotted_len text)
dotted_most text =
    most_if (length text) (ltb 0 (digits_len text) && starts_with nat_eq (drop (digits_len text) text) (codes ".")) (Some (digits_len text + 1)) None
    (λ h. let dot = starts_length (drop (digits_len text) text) (codes ".") (and_right (ltb 0 (digits_len text)) _ h) in omega (arith, length-drop (digits_len text) text)) (λ _. tt)

last_most : (text : List ℕ) → Most (length text) (last_len text)
last_most text = most_if (length text) (ltb 0 (digits_len text)) (Some (digits_len text)) None (λ h. prefix_len-le-length is_ascii_digit text) (λ _. tt)

dotted_some : (text : List ℕ) (n : ℕ) → dotted_len text ≡ Some n → 0 < n
dotted_some text n is = some_if (ltb 0 (digits_len text) && starts_with nat_eq (drop (digits_len text) text) (codes ".")) (digits_len text) n is

third_fits : (text : List ℕ) (first second : ℕ) (o : Option ℕ) → first + second ≤ length text → 0 < first → Most (length (drop (first + second) text)) o
    → Fits (length text) ((o >>= λ third. Some (first + second + third)) >>= λ n. Some (Known Version n))
third_fits text first second None within some most = tt
third_fits text first second (Some third) within some most = (omega arith, omega (arith, length-drop (first + second) text))

second_fits : (text : List ℕ) (first : ℕ) (o : Option ℕ) → first ≤ length text → 0 < first → Most (length (drop first text)) o
    → Fits (length text) ((o >>= λ second. last_len (drop (first + second) text) >>= λ third. Some (first + second + third)) >>= λ n. Some (Known Version n))
second_fits text first None within some most = tt
second_fits text first (Some second) within some most =
    third_fits text first second (last_len (drop (first + second) text)) (omega (arith, length-drop first text)) some (last_most (drop (first + second) text))

first_fits : (text : List ℕ) (o : Option ℕ) → dotted_len text ≡ o
    → Fits (length text) ((o >>= λ first. dotted_len (drop first text) >>= λ second. last_len (drop (first + second) text) >>= λ third. Some (first + second + third)) >>= λ n. Some (Known Version n))
first_fits text None is = tt
first_fits text (Some first) is =
    second_fits text first (dotted_len (drop first text)) (subst (Most (length text)) is (dotted_most text)) (dotted_some text first is) (dotted_most (drop first text))

version_fits : (text : List ℕ) → Fits (length text) (version text)
unfolding version
version_fits text = first_fits text (dotted_len text) refl

number_piece_fits : (n len : ℕ) (o : Option ℕ) → 0 < len → len ≤ n → Fits n (Some (number_piece len o))
number_piece_fits n len (Some v) some within = (some, within)
number_piece_fits n len None some within = omega arith

at_most_if : (t : Bool) (a n : ℕ) → (t ≡ true → a ≤ n) → cond t a 0 ≤ n
at_most_if true a n h = h refl
at_most_if false a n h = omega arith

exponent_most : (text : List ℕ) → exponent_len text ≤ length text
exponent_most text =
    at_most_if _ (1 + digits_len (drop 1 text)) (length text) (λ h.
    let some = ltb-true 0 (digits_len (drop 1 text)) (and_right _ (ltb 0 (digits_len (drop 1 text))) h) in
    let digits = prefix_len-le-length is_ascii_digit (drop 1 text) in
    omega (arith, length-drop 1 text))

number_fits : (text : List ℕ) → Fits (length text) (number text)
unfolding number
number_fits text =
    if_fits (length text) (ltb 0 (digits_len text)) _ None
    (λ h.
    let some = ltb-true 0 (digits_len text) h in
    let digits = prefix_len-le-length is_ascii_digit text in
    let power = exponent_most (drop (digits_len text) text) in
    number_piece_fits (length text) (digits_len text + exponent_len (drop (digits_len text) text)) _ (omega arith) (omega (arith, length-drop (digits_len text) text)))
    (λ _. tt)

-- ---- words, strings and signs

word_fits : (text : List ℕ) → Fits (length text) (word text)
unfolding word
word_fits [] = tt
word_fits (byte ∷ rest) =
    if_fits (length (byte ∷ rest)) (is_word_start byte) (Some (Known Word (prefix_len is_word_byte (byte ∷ rest)))) None
    (λ h. (starts_word byte rest h, prefix_len-le-length is_word_byte (byte ∷ rest))) (λ _. tt)

most_twice : (n : ℕ) (o : Option ℕ) → Most n o → Most (suc (suc n)) (option_map (λ k. k + 2) o)
most_twice n None h = tt
most_twice n (Some k) h = omega arith

string_most : (quote : ℕ) (text : List ℕ) → Most (length text) (string_len quote text)
string_most quote [] = tt
string_most quote (byte ∷ []) = most_if 1 (byte == quote) (Some 1) None (λ _. omega arith) (λ _. tt)
string_most quote (byte ∷ next ∷ rest) =
    let after = string_most quote rest in
    let next_too = string_most quote (next ∷ rest) in
    let n = length (byte ∷ next ∷ rest) in
    most_if n (byte == quote) (Some 1) _ (λ _. omega arith)
    (λ _. most_if n (is_line_end byte) None _ (λ _. tt)
    (λ _. most_if n (byte == 92 && is_escapable next) (option_map (λ k. k + 2) (string_len quote rest)) (option_map (λ k. k + 1) (string_len quote (next ∷ rest)))
    (λ _. most_twice (length rest) (string_len quote rest) after) (λ _. most_more (length (next ∷ rest)) (string_len quote (next ∷ rest)) next_too)))

string_piece_fits : (n : ℕ) (o : Option ℕ) → Most n o → Fits (suc n) (Some (string_piece o))
string_piece_fits n (Some k) most = (omega arith, omega arith)
string_piece_fits n None most = omega arith

string_fits : (text : List ℕ) → Fits (length text) (string text)
unfolding string
string_fits [] = tt
string_fits (byte ∷ rest) =
    if_fits (length (byte ∷ rest)) (is_quote byte) (Some (string_piece (string_len byte rest))) None
    (λ _. string_piece_fits (length rest) (string_len byte rest) (string_most byte rest)) (λ _. tt)

-- each of these signs has two bytes
any_long : (text : List ℕ) (signs : List (List ℕ)) → list_all (λ s. length s == 2) signs ≡ true → list_any (starts_with nat_eq text) signs ≡ true → 2 ≤ length text
any_long text [] two is = absurd cc
any_long text (s ∷ signs) two is =
    let two_here : length s ≡ 2 = eqb-true (length s) 2 (and_left (length s == 2) _ two) in
    either (starts_with nat_eq text s) (list_any (starts_with nat_eq text) signs) (2 ≤ length text) is
    (λ h. subst (λ n. n ≤ length text) two_here (starts_length text s h)) (any_long text signs (and_right (length s == 2) _ two))

sign_fits : (text : List ℕ) → Fits (length text) (sign text)
unfolding sign
sign_fits [] = tt
sign_fits (byte ∷ rest) =
    if_fits (length (byte ∷ rest)) (list_any (starts_with nat_eq (byte ∷ rest)) double_signs) (Some (Known Sign 2)) _
    (λ h. (omega arith, any_long (byte ∷ rest) double_signs refl h))
    (λ _. if_fits (length (byte ∷ rest)) (list_any (λ s. s == byte) single_signs) (Some (Known Sign 1)) None (λ _. (omega arith, omega arith)) (λ _. tt))

width_cases : (a b c : Bool) (n : ℕ) → cond a 1 (cond b 2 (cond c 3 4)) ≤ n + 4
width_cases true b c n = omega arith
width_cases false true c n = omega arith
width_cases false false true n = omega arith
width_cases false false false n = omega arith

bad_character_fits : (text : List ℕ) → Fits (length text) (bad_character text)
unfolding bad_character
bad_character_fits [] = tt
bad_character_fits (byte ∷ rest) = width_cases _ _ _ (length (byte ∷ rest))

pub piece_fits : (text : List ℕ) → Fits (length text) (piece_of text)
unfolding piece_of
piece_fits text =
    let n = length text in
    or_fits n (gap text) _ (or_fits n (blanks text) (comment text) (blanks_fit text) (comment_fits text))
    (or_fits n (literal text) (other text)
    (or_fits n (date text) _ (date_fits text) (or_fits n (hex text) _ (hex_fits text) (or_fits n (version text) (number text) (version_fits text) (number_fits text))))
    (or_fits n (word text) _ (word_fits text) (or_fits n (string text) _ (string_fits text) (or_fits n (sign text) (bad_character text) (sign_fits text) (bad_character_fits text)))))
