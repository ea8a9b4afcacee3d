-- The hexadecimal digits of bytes are one word, which names no opcode.
use Rattle.std.proofs.Common.{◌≡◌, ℕ, zero, suc, ◌/◌, ◌%◌, ◌<◌, Bool, true, false, not, ◌||◌, eqb, List, [], ◌∷◌, length, Some, None, refl, sym, ap, subst, ◌∙◌, arith}
use Rattle.std.specs.Prelude.{slice_index, nat_eq, codes}
use Rattle.std.specs.List.{list_all, starts_with}
use Rattle.std.proofs.lemmas.Bool.{eqb-true, and_from}
use Rattle.std.proofs.lemmas.Bool.Decides.{nat_tests}
use Rattle.hex.specs.Hex.{encode_with, encode_lower, lower_digits, hex_digit_value}
use Rattle.hex.specs.Hex as hex
use Rattle.hex.proofs.HexLemmas.{IsDigits-lower_digits}
use Rattle.cash_base.specs.Number.{IsBytes}
use Rattle.script_codec.specs.Words.{is_blank}

-- it has no blank
abbrev pub unbroken : List ℕ → Bool
unbroken bytes = list_all (λ byte. not (is_blank byte)) bytes

pub byte_at : (e : List ℕ) → IsBytes e → hex.IsBytes e
byte_at [] bytes i = omega arith
byte_at (b ∷ e) bytes zero = bytes.0
byte_at (b ∷ e) bytes (suc i) = byte_at e bytes.1 i

-- what is no digit is none of the digits
not_digit : (digit value other : ℕ) → hex_digit_value digit ≡ Some value → hex_digit_value other ≡ None
    → eqb digit other ≡ false
not_digit digit value other is none = by_test (eqb digit other) refl
  where
    by_test : (t : Bool) → eqb digit other ≡ t → t ≡ false
    by_test true same =
        let found : hex_digit_value other ≡ Some value =
        subst (λ (d : ℕ). hex_digit_value d ≡ Some value) (eqb-true digit other same) is in
        absurd (cc (sym none ∙ found))
    by_test false differ = refl

digit_unblank : (digit value : ℕ) → hex_digit_value digit ≡ Some value → not (is_blank digit) ≡ true
digit_unblank digit value is =
    let space = not_digit digit value 0x20 is refl in
    let tab = not_digit digit value 0x09 is refl in
    let feed = not_digit digit value 0x0a is refl in
    let return = not_digit digit value 0x0d is refl in
    ap (λ (t : Bool). not (t || eqb digit 0x09 || eqb digit 0x0a || eqb digit 0x0d)) space
    ∙ ap (λ (t : Bool). not (t || eqb digit 0x0a || eqb digit 0x0d)) tab
    ∙ ap (λ (t : Bool). not (t || eqb digit 0x0d)) feed
    ∙ ap (λ (t : Bool). not t) return

digits_unbroken : (e : List ℕ) → IsBytes e → unbroken (encode_lower e) ≡ true
unfolding encode_with
digits_unbroken [] bytes = refl
digits_unbroken (b ∷ e) bytes =
    let fits : b < 256 = bytes.0 in
    let high : b / 16 < 16 = omega arith in
    let low : b % 16 < 16 = omega arith in
    let first = digit_unblank (slice_index lower_digits (b / 16)) (b / 16) (IsDigits-lower_digits (b / 16) high) in
    let second = digit_unblank (slice_index lower_digits (b % 16)) (b % 16) (IsDigits-lower_digits (b % 16) low) in
    and_from _ _ first (and_from _ _ second (digits_unbroken e bytes.1))

-- the facts of a word of digits
pub record IsDigitWord (e : List ℕ) : Type 0 where
  pub some : 0 < length (encode_lower e)
  pub whole : unbroken (encode_lower e) ≡ true
  pub other : starts_with nat_eq (encode_lower e) (codes "OP_") ≡ false

flipped : (a b : ℕ) → eqb a b ≡ false → eqb b a ≡ false
flipped a b differ = grind (arith, nat_tests, differ)

starts_other : (first : ℕ) (more : List ℕ) → eqb 79 first ≡ false → starts_with nat_eq (first ∷ more) (codes "OP_") ≡ false
starts_other first more differ = rw differ refl

pub digit_word : (e : List ℕ) → IsBytes e → 0 < length e → IsDigitWord e
unfolding encode_with
digit_word [] bytes some = absurd (omega arith)
digit_word (b ∷ e) bytes some =
    let fits : b < 256 = bytes.0 in
    let high : b / 16 < 16 = omega arith in
    let letter : eqb 79 (slice_index lower_digits (b / 16)) ≡ false =
    flipped (slice_index lower_digits (b / 16)) 79
    (not_digit (slice_index lower_digits (b / 16)) (b / 16) 79 (IsDigits-lower_digits (b / 16) high) refl) in
    record {
      some = omega arith;
      whole = digits_unbroken (b ∷ e) bytes;
      other = starts_other (slice_index lower_digits (b / 16)) (slice_index lower_digits (b % 16) ∷ encode_lower e) letter;
    }
