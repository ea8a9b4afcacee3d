-- What a gap takes is blanks or a comment.
use Rattle.std.proofs.Common.{◌≡◌, ℕ, zero, suc, ◌+◌, ◌≤◌, Bool, true, false, cond, eqb, ltb, List, [], ◌∷◌, ◌++◌, length, take, drop, Option, Some, None, refl, sym, ap, ◌∙◌, subst, arith, ℤ}
use Rattle.std.specs.Prelude.{nat_eq, codes, ◌&&◌, ◌==◌, ◌%◌, ◌||◌, if◌then◌else◌, not}
use Rattle.std.specs.List.{prefix_len, list_all, list_any, starts_with}
use lib.Pointwise.{pointwise}
use Rattle.std.specs.Option.{option_map, option_or}
use Rattle.std.proofs.lemmas.List.{take-append-drop}
use Rattle.std.proofs.lemmas.Bool.{eqb-true}
use Rattle.cash_tree.specs.declared.TokenKind.TheVariants.{Word, Hex, Version, Sign}
use Rattle.cash_lexer.specs.declared.piece.Piece.{Piece}
use Rattle.cash_lexer.specs.declared.piece.Piece.TheVariants.{Gap, Known, Flawed}
use Rattle.cash_lexer.specs.declared.piece.Flaw.TheVariants.{OddHex, BadCharacter}
use Rattle.cash_lexer.specs.Gap.{is_blank, is_in_line, blank_len, line_len, closing_len, blanks, block_comment, comment}
use Rattle.cash_lexer.specs.Numbers.{◌>>=◌, digits_len, hex_len, hex, version_len, version, number_piece, narrow, exponent_len, number_value, number}
use Rattle.cash_lexer.specs.Dates.{is_quote, date_piece, date_after, date}
use Rattle.cash_lexer.specs.Rows.{is_word_start, is_word_byte, string_len, string_piece, double_signs, single_signs, char_len, word, string, sign, bad_character, gap, literal, other, piece_of}
use Rattle.cash_lexer.specs.Laws.{ends_line, IsGap}

-- ---- tests

and_left : (a b : Bool) → (a && b) ≡ true → a ≡ true
and_left true b is = refl
and_left false b is = is

and_right : (a b : Bool) → (a && b) ≡ true → b ≡ true
and_right true b is = is
and_right false b is = absurd cc

-- ---- the rows after the gaps give none

abbrev NoGap : Option Piece → Type 0
NoGap None = Unit {0}
NoGap (Some (Gap len)) = ⊥
NoGap (Some (Known kind len)) = Unit {0}
NoGap (Some (Flawed flaw len)) = Unit {0}

no_gap_or : (a b : Option Piece) → NoGap a → NoGap b → NoGap (option_or a b)
no_gap_or None b p q = q
no_gap_or (Some x) b p q = p

no_gap_if : (t : Bool) (a b : Option Piece) → NoGap a → NoGap b → NoGap (cond t a b)
no_gap_if true a b p q = p
no_gap_if false a b p q = q

no_gap_date : (o : Option ℤ) → NoGap (Some (date_piece o))
no_gap_date (Some n) = tt
no_gap_date None = tt

no_gap_even : (t : Bool) (n : ℕ) → NoGap (Some (cond t (Known Hex n) (Flawed OddHex n)))
no_gap_even true n = tt
no_gap_even false n = tt

no_gap_version : (o : Option ℕ) → NoGap (o >>= λ n. Some (Known Version n))
no_gap_version (Some n) = tt
no_gap_version None = tt

no_gap_number : (len : ℕ) (o : Option ℕ) → NoGap (Some (number_piece len o))
no_gap_number len (Some n) = tt
no_gap_number len None = tt

no_gap_numbers : (t : Bool) (len : ℕ) (o : Option ℕ) → NoGap (cond t (Some (number_piece len o)) None)
no_gap_numbers true len o = no_gap_number len o
no_gap_numbers false len o = tt

no_gap_string : (o : Option ℕ) → NoGap (Some (string_piece o))
no_gap_string (Some n) = tt
no_gap_string None = tt

no_gap_literal : (text : List ℕ) → NoGap (literal text)
unfolding date hex version number
no_gap_literal text =
    no_gap_or (date text) _ (no_gap_if (starts_with nat_eq text (codes "date(")) _ None (no_gap_date (date_after (drop 5 text))) tt)
    (no_gap_or (hex text) _ (no_gap_if (starts_with nat_eq text (codes "0x") || starts_with nat_eq text (codes "0X")) (Some (if hex_len text % 2 == 0 then Known Hex (hex_len text) else Flawed OddHex (hex_len text))) None (no_gap_even (hex_len text % 2 == 0) (hex_len text)) tt)
    (no_gap_or (version text) (number text) (no_gap_version (version_len text)) (no_gap_numbers (ltb 0 (digits_len text)) (digits_len text + exponent_len (drop (digits_len text) text)) (narrow (number_value (take (digits_len text) text) (drop 1 (take (exponent_len (drop (digits_len text) text)) (drop (digits_len text) text))))))))

no_gap_other : (text : List ℕ) → NoGap (other text)
unfolding word string sign bad_character
no_gap_other [] = tt
no_gap_other (byte ∷ rest) =
    no_gap_or (word (byte ∷ rest)) _ (no_gap_if (is_word_start byte) (Some (Known Word (prefix_len is_word_byte (byte ∷ rest)))) None tt tt)
    (no_gap_or (string (byte ∷ rest)) _ (no_gap_if (is_quote byte) (Some (string_piece (string_len byte rest))) None (no_gap_string (string_len byte rest)) tt)
    (no_gap_or (sign (byte ∷ rest)) (bad_character (byte ∷ rest))
    (no_gap_if (list_any (starts_with nat_eq (byte ∷ rest)) double_signs) (Some (Known Sign 2)) _ tt (no_gap_if (list_any (λ s. s == byte) single_signs) (Some (Known Sign 1)) None tt tt))
    tt))

gap_alone : (a b : Option Piece) (len : ℕ) → NoGap b → option_or a b ≡ Some (Gap len) → a ≡ Some (Gap len)
gap_alone None b len none is = absurd (subst NoGap is none)
gap_alone (Some x) b len none is = is

gap_row : (text : List ℕ) (len : ℕ) → piece_of text ≡ Some (Gap len) → gap text ≡ Some (Gap len)
unfolding piece_of
gap_row text len is = gap_alone (gap text) _ len (no_gap_or (literal text) (other text) (no_gap_literal text) (no_gap_other text)) is

-- ---- blanks

one_more : (n : ℕ) (x : ℕ) (xs : List ℕ) → take (1 + n) (x ∷ xs) ≡ x ∷ take n xs
one_more n x xs = let e : 1 + n ≡ suc n = omega arith in ap (λ k. take k (x ∷ xs)) e

one_less : (n : ℕ) (x : ℕ) (xs : List ℕ) → drop (1 + n) (x ∷ xs) ≡ drop n xs
one_less n x xs = let e : 1 + n ≡ suc n = omega arith in ap (λ k. drop k (x ∷ xs)) e

blank_step : (follow : List ℕ) (t : Bool) (byte n : ℕ) (text rest : List ℕ) → is_blank byte ≡ t → IsGap follow rest → IsGap follow (take n text ++ rest) → IsGap follow (take (cond t (1 + n) 0) (byte ∷ text) ++ rest)
blank_step follow true byte n text rest is h more = subst (λ (xs : List ℕ). IsGap follow (xs ++ rest)) (sym (one_more n byte text)) (IsGap.blank follow byte (take n text ++ rest) is more)
blank_step follow false byte n text rest is h more = h

blanks_gap : (follow text rest : List ℕ) → IsGap follow rest → IsGap follow (take (blank_len text) text ++ rest)
blanks_gap follow [] rest h = h
blanks_gap follow (byte ∷ text) rest h = blank_step follow (is_blank byte) byte (blank_len text) text rest refl h (blanks_gap follow text rest h)

-- ---- texts that begin with a sign

pointwise_same : (xs ys : List ℕ) → pointwise nat_eq xs ys ≡ true → xs ≡ ys
pointwise_same [] [] is = refl
pointwise_same [] (y ∷ ys) is = absurd cc
pointwise_same (x ∷ xs) [] is = absurd cc
pointwise_same (x ∷ xs) (y ∷ ys) is =
    let first : x ≡ y = eqb-true x y (and_left (eqb x y) (pointwise nat_eq xs ys) is) in
    let others : xs ≡ ys = pointwise_same xs ys (and_right (eqb x y) (pointwise nat_eq xs ys) is) in
    cc

begins : (text needle : List ℕ) → starts_with nat_eq text needle ≡ true → take (length needle) text ≡ needle
begins text needle is = sym (pointwise_same needle (take (length needle) text) is)

begins_with : (text needle : List ℕ) → starts_with nat_eq text needle ≡ true → text ≡ needle ++ drop (length needle) text
begins_with text needle is = sym (ap (λ (xs : List ℕ). xs ++ drop (length needle) text) (sym (begins text needle is)) ∙ take-append-drop (length needle) text)

-- ---- a comment of a line

in_line_step : (t : Bool) (byte n : ℕ) (text : List ℕ) → is_in_line byte ≡ t → list_all is_in_line (take n text) ≡ true → list_all is_in_line (take (cond t (1 + n) 0) (byte ∷ text)) ≡ true
in_line_step true byte n text is more = ap (list_all is_in_line) (one_more n byte text) ∙ ap (λ t. t && list_all is_in_line (take n text)) is ∙ more
in_line_step false byte n text is more = refl

all_in_line : (text : List ℕ) → list_all is_in_line (take (line_len text) text) ≡ true
all_in_line [] = refl
all_in_line (byte ∷ text) = in_line_step (is_in_line byte) byte (line_len text) text refl (all_in_line text)

not_not : (t : Bool) → not t ≡ false → t ≡ true
not_not true is = refl
not_not false is = absurd cc

end_step : (t : Bool) (byte n : ℕ) (text : List ℕ) → is_in_line byte ≡ t → ends_line (drop n text) ≡ true → ends_line (drop (cond t (1 + n) 0) (byte ∷ text)) ≡ true
end_step true byte n text is more = ap ends_line (one_less n byte text) ∙ more
end_step false byte n text is more = not_not (byte == 10) is

ends_after : (text : List ℕ) → ends_line (drop (line_len text) text) ≡ true
ends_after [] = refl
ends_after (byte ∷ text) = end_step (is_in_line byte) byte (line_len text) text refl (ends_after text)

-- the comment with which a text begins, in front of some bytes that are a gap in front of the rest
line_gap : (after : List ℕ) (k : ℕ) → let text = 47 ∷ 47 ∷ after in IsGap (drop k (drop (line_len text) text)) (take k (drop (line_len text) text))
    → IsGap (drop k (drop (line_len text) text)) (take (line_len text) text ++ take k (drop (line_len text) text))
line_gap after k h =
    let n = line_len after in
    let whole = 47 ∷ 47 ∷ after in
    let left = drop (line_len whole) whole in
    let front : take (line_len whole) whole ≡ 47 ∷ 47 ∷ take n after = one_more (1 + n) 47 (47 ∷ after) ∙ ap (λ (xs : List ℕ). 47 ∷ xs) (one_more n 47 after) in
    let ends : ends_line (take k left ++ drop k left) ≡ true = ap ends_line (take-append-drop k left) ∙ ends_after whole in
    subst (λ (xs : List ℕ). IsGap (drop k left) (xs ++ take k left)) (sym front)
    (IsGap.line (drop k left) (take n after) (take k left) (all_in_line after) ends h)

-- ---- a comment with two ends

-- up to its first `*/` a text is something and then `*/`, of which that is the first
pub record Closes (text : List ℕ) (n : ℕ) : Type 0 where
  pub inside : List ℕ
  pub taken : take n text ≡ inside ++ codes "*/"
  pub first : closing_len (inside ++ codes "*/") ≡ Some (length inside + 2)

some_is : {a b : ℕ} → Some a ≡ Some b → a ≡ b
some_is e = cc

closes_here : (text : List ℕ) (n : ℕ) → starts_with nat_eq text (codes "*/") ≡ true → 2 ≡ n → Closes text n
closes_here text n is two = record { inside = []; taken = ap (λ k. take k text) (sym two) ∙ begins text (codes "*/") is; first = refl }

-- the first two bytes are those of the longer text
two_same : (byte n : ℕ) (rest : List ℕ) → 1 ≤ n → starts_with nat_eq (byte ∷ take n rest) (codes "*/") ≡ starts_with nat_eq (byte ∷ rest) (codes "*/")
two_same byte zero rest some = absurd (omega arith)
two_same byte (suc n) [] some = refl
two_same byte (suc n) (next ∷ rest) some = refl

closes_after : (byte : ℕ) (rest : List ℕ) (k n : ℕ) → starts_with nat_eq (byte ∷ rest) (codes "*/") ≡ false → 1 ≤ k → k + 1 ≡ n → Closes rest k → Closes (byte ∷ rest) n
closes_after byte rest k n is some same h =
    let longer : suc k ≡ n = omega arith in
    let other : starts_with nat_eq (byte ∷ (h.inside ++ codes "*/")) (codes "*/") ≡ false = ap (λ (xs : List ℕ). starts_with nat_eq (byte ∷ xs) (codes "*/")) (sym h.taken) ∙ two_same byte k rest some ∙ is in
    record {
      inside = byte ∷ h.inside;
      taken = ap (λ m. take m (byte ∷ rest)) (sym longer) ∙ ap (λ (xs : List ℕ). byte ∷ xs) h.taken;
      first = ap (λ t. cond t (Some 2) (option_map (λ m. m + 1) (closing_len (h.inside ++ codes "*/")))) other ∙ ap (option_map (λ m. m + 1)) h.first ∙ more (length h.inside);
    }
  where
    more : (m : ℕ) → Some (m + 2 + 1) ≡ Some (suc m + 2)
    more m = ap Some (omega arith)

closing_some : (text : List ℕ) (n : ℕ) → closing_len text ≡ Some n → 1 ≤ n
closing_some [] n is = absurd cc
closing_some (byte ∷ rest) n is = some_step (starts_with nat_eq (byte ∷ rest) (codes "*/")) (closing_len rest) n is
  where
    some_step : (t : Bool) (o : Option ℕ) (n : ℕ) → cond t (Some 2) (option_map (λ m. m + 1) o) ≡ Some n → 1 ≤ n
    some_step true o n is = let e : 2 ≡ n = some_is is in omega arith
    some_step false (Some m) n is = let e : m + 1 ≡ n = some_is is in omega arith
    some_step false None n is = absurd cc

closes_step : (t : Bool) (o : Option ℕ) (byte : ℕ) (rest : List ℕ) (n : ℕ) → starts_with nat_eq (byte ∷ rest) (codes "*/") ≡ t → closing_len rest ≡ o
    → ((k : ℕ) → closing_len rest ≡ Some k → Closes rest k) → cond t (Some 2) (option_map (λ m. m + 1) o) ≡ Some n → Closes (byte ∷ rest) n
closes_step true o byte rest n is found more e = closes_here (byte ∷ rest) n is (some_is e)
closes_step false (Some k) byte rest n is found more e = closes_after byte rest k n is (closing_some rest k found) (some_is e) (more k found)
closes_step false None byte rest n is found more e = absurd cc

closes : (text : List ℕ) (n : ℕ) → closing_len text ≡ Some n → Closes text n
closes [] n is = absurd cc
closes (byte ∷ rest) n is = closes_step (starts_with nat_eq (byte ∷ rest) (codes "*/")) (closing_len rest) byte rest n refl refl (closes rest) is

block_gap : (follow after rest : List ℕ) (n : ℕ) → Closes after n → IsGap follow rest → IsGap follow (take (n + 2) (47 ∷ 42 ∷ after) ++ rest)
block_gap follow after rest n h gap_after =
    let two : suc (suc n) ≡ n + 2 = omega arith in
    let front : take (n + 2) (47 ∷ 42 ∷ after) ≡ 47 ∷ 42 ∷ (h.inside ++ codes "*/") = ap (λ m. take m (47 ∷ 42 ∷ after)) (sym two) ∙ ap (λ (xs : List ℕ). 47 ∷ 42 ∷ xs) h.taken in
    subst (λ (xs : List ℕ). IsGap follow (xs ++ rest)) (sym front) (IsGap.block follow h.inside rest h.first gap_after)

-- ---- the rows of gaps

gap_is : {a b : ℕ} → Some (Gap a) ≡ Some (Gap b) → a ≡ b
gap_is e = cc

blanks_row : (follow : List ℕ) (t : Bool) (text : List ℕ) (len : ℕ) (rest : List ℕ) → cond t (Some (Gap (blank_len text))) None ≡ Some (Gap len) → IsGap follow rest → IsGap follow (take len text ++ rest)
blanks_row follow true text len rest is h = subst (λ n. IsGap follow (take n text ++ rest)) (gap_is is) (blanks_gap follow text rest h)
blanks_row follow false text len rest is h = absurd cc

block_row : (follow : List ℕ) (o : Option ℕ) (after : List ℕ) (len : ℕ) (rest : List ℕ) → closing_len after ≡ o → Some (block_comment (47 ∷ 42 ∷ after) o) ≡ Some (Gap len)
    → IsGap follow rest → IsGap follow (take len (47 ∷ 42 ∷ after) ++ rest)
block_row follow (Some n) after len rest found is h = subst (λ m. IsGap follow (take m (47 ∷ 42 ∷ after) ++ rest)) (gap_is is) (block_gap follow after rest n (closes after n found) h)
block_row follow None after len rest found is h = absurd cc

-- so many bytes of a text, and after them a gap in front of the rest, are a gap in front of the rest
abbrev JoinsGap : ℕ → ℕ → List ℕ → Type 0
JoinsGap len k text = IsGap (drop k (drop len text)) (take k (drop len text)) → IsGap (drop k (drop len text)) (take len text ++ take k (drop len text))

comment_row : (t u : Bool) (text : List ℕ) (len k : ℕ) → starts_with nat_eq text (codes "//") ≡ t → starts_with nat_eq text (codes "/*") ≡ u
    → cond t (Some (Gap (line_len text))) (cond u (Some (block_comment text (closing_len (drop 2 text)))) None) ≡ Some (Gap len)
    → JoinsGap len k text
comment_row true u text len k line block is =
    let Line : List ℕ → Type 0 = λ xs. JoinsGap (line_len xs) k xs in
    let row : Line text = subst Line (sym (begins_with text (codes "//") line)) (line_gap (drop 2 text) k) in
    subst (λ n. JoinsGap n k text) (gap_is is) row
comment_row false true text len k line block is = λ h.
    let follow = drop k (drop len text) in
    let Block : List ℕ → Type 0 = λ xs. Some (block_comment xs (closing_len (drop 2 text))) ≡ Some (Gap len) → IsGap follow (take len xs ++ take k (drop len text)) in
    subst Block (sym (begins_with text (codes "/*") block)) (λ e. block_row follow (closing_len (drop 2 text)) (drop 2 text) len (take k (drop len text)) refl e h) is
comment_row false false text len k line block is = absurd cc

gap_rows : (a b : Option Piece) (len : ℕ) (P : Type 0) → option_or a b ≡ Some (Gap len) → (a ≡ Some (Gap len) → P) → (b ≡ Some (Gap len) → P) → P
gap_rows (Some x) b len P is p q = p is
gap_rows None b len P is p q = q is

-- what a gap takes, in front of a gap after it, is a gap
pub gap_in_front : (text : List ℕ) (len k : ℕ) → piece_of text ≡ Some (Gap len) → JoinsGap len k text
unfolding blanks comment
gap_in_front text len k is = λ h.
    gap_rows (blanks text) (comment text) len (IsGap (drop k (drop len text)) (take len text ++ take k (drop len text))) (gap_row text len is)
    (λ e. blanks_row (drop k (drop len text)) _ text len (take k (drop len text)) e h)
    (λ e. comment_row (starts_with nat_eq text (codes "//")) (starts_with nat_eq text (codes "/*")) text len k refl refl e h)

-- ---- the end

or_none : (a b : Option Piece) → option_or a b ≡ None → b ≡ None
or_none None b is = is
or_none (Some x) b is = absurd cc

-- where no piece is, the text is at its end
pub none_ends : (text : List ℕ) → piece_of text ≡ None → text ≡ []
unfolding piece_of bad_character
none_ends [] is = refl
none_ends (byte ∷ rest) is =
    let text = byte ∷ rest in
    let none : Some (Flawed BadCharacter (char_len byte)) ≡ None = or_none (sign text) (bad_character text) (or_none (string text) _ (or_none (word text) _ (or_none (literal text) (other text) (or_none (gap text) _ is)))) in
    absurd cc
