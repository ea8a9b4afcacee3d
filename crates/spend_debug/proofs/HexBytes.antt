-- Hexadecimal digits spell bytes.
use Rattle.std.proofs.Common.{◌≡◌, ℕ, ◌+◌, ◌-◌, ◌*◌, ◌%◌, ◌<◌, ◌≤◌, ◌==◌, Bool, true, false, cond, List, [], ◌∷◌, length, Option, Some, None, Result, Ok, Err, refl, ap, subst, arith}
use Rattle.std.specs.Prelude.{◌&&◌, nat_le, is_some}
use Rattle.std.proofs.lemmas.Bool.{false≢true}
use Rattle.std.proofs.lemmas.Bool.Decides.{nat_tests}
use Rattle.hex.specs.Hex.{◌>>=◌, hex_digit_value, digit_or_error, value_at, pair_value, decode_pairs, decode_of}
use Rattle.hex.specs.declared.error.FromHexError.{FromHexError}
use Rattle.hex.specs.declared.error.FromHexError.TheVariants.{OddLength}
use Rattle.cash_base.specs.Number.{IsBytes}

abbrev number_in : Option ℕ → ℕ
number_in (Some n) = n
number_in None = 0

abbrev ok_number : {E : Type 0} → Result ℕ E → ℕ
ok_number (Ok n) = n
ok_number (Err e) = 0

abbrev pub ok_list : {A E : Type 0} → Result (List A) E → List A
ok_list (Ok xs) = xs
ok_list (Err e) = []

digit_cases : (a b d : Bool) (c v : ℕ) → (nat_le 65 c && nat_le c 70) ≡ a → (nat_le 97 c && nat_le c 102) ≡ b
    → (nat_le 48 c && nat_le c 57) ≡ d
    → cond a (Some (c - 55)) (cond b (Some (c - 87)) (cond d (Some (c - 48)) None)) ≡ Some v → v < 16
digit_cases true b d c v ta tb td found =
    let is : c - 55 ≡ v = ap number_in found in
    let most : c ≤ 70 = grind (arith, nat_tests, ta) in
    omega arith
digit_cases false true d c v ta tb td found =
    let is : c - 87 ≡ v = ap number_in found in
    let most : c ≤ 102 = grind (arith, nat_tests, tb) in
    omega arith
digit_cases false false true c v ta tb td found =
    let is : c - 48 ≡ v = ap number_in found in
    let most : c ≤ 57 = grind (arith, nat_tests, td) in
    omega arith
digit_cases false false false c v ta tb td found = absurd (false≢true (ap (λ (o : Option ℕ). is_some o) found))

digit_small : (c v : ℕ) → hex_digit_value c ≡ Some v → v < 16
digit_small c v found =
    digit_cases (nat_le 65 c && nat_le c 70) (nat_le 97 c && nat_le c 102) (nat_le 48 c && nat_le c 57) c v
    refl refl refl found

value_cases : (o : Option ℕ) (c i v : ℕ) → hex_digit_value c ≡ o → digit_or_error c i o ≡ Ok v → v < 16
value_cases (Some w) c i v is read =
    let same : w ≡ v = ap (λ (r : Result ℕ FromHexError). ok_number r) read in
    subst (λ (n : ℕ). n < 16) same (digit_small c w is)
value_cases None c i v is read = absurd cc

value_small : (c i v : ℕ) → value_at c i ≡ Ok v → v < 16
value_small c i v read = value_cases (hex_digit_value c) c i v refl read

byte_cases : (high low : Result ℕ FromHexError) (b : ℕ) → ((v : ℕ) → high ≡ Ok v → v < 16)
    → ((v : ℕ) → low ≡ Ok v → v < 16)
    → (high >>= λ h. low >>= λ l. Ok (h * 16 + l)) ≡ Ok b → b < 256
byte_cases (Err e) low b small_high small_low read = absurd cc
byte_cases (Ok h) (Err e) b small_high small_low read = absurd cc
byte_cases (Ok h) (Ok l) b small_high small_low read =
    let is : h * 16 + l ≡ b = ap (λ (r : Result ℕ FromHexError). ok_number r) read in
    let high : h < 16 = small_high h refl in
    let low : l < 16 = small_low l refl in
    omega arith

byte_small : (high low i b : ℕ) → pair_value high low i ≡ Ok b → b < 256
byte_small high low i b read =
    byte_cases (value_at high i) (value_at low (i + 1)) b (λ v. value_small high i v)
    (λ v. value_small low (i + 1) v) read

pairs_cases : (first : Result ℕ FromHexError) (further : Result (List ℕ) FromHexError) (bytes : List ℕ)
    → ((b : ℕ) → first ≡ Ok b → b < 256) → ((bs : List ℕ) → further ≡ Ok bs → IsBytes bs)
    → (first >>= λ b. further >>= λ bs. Ok (b ∷ bs)) ≡ Ok bytes → IsBytes bytes
pairs_cases (Err e) further bytes small later read = absurd cc
pairs_cases (Ok b) (Err e) bytes small later read = absurd cc
pairs_cases (Ok b) (Ok bs) bytes small later read =
    let is : (b ∷ bs) ≡ bytes = ap (λ (r : Result (List ℕ) FromHexError). ok_list r) read in
    subst (λ (all : List ℕ). IsBytes all) is (small b refl, later bs refl)

pairs_small : (i : ℕ) (text bytes : List ℕ) → decode_pairs i text ≡ Ok bytes → IsBytes bytes
unfolding decode_pairs
pairs_small i [] bytes read =
    let is : [] ≡ bytes = ap (λ (r : Result (List ℕ) FromHexError). ok_list r) read in
    subst (λ (all : List ℕ). IsBytes all) is tt
pairs_small i (digit ∷ []) bytes read = absurd cc
pairs_small i (high ∷ low ∷ rest) bytes read =
    pairs_cases (pair_value high low i) (decode_pairs (i + 2) rest) bytes (λ b. byte_small high low i b)
    (λ bs. pairs_small (i + 2) rest bs) read

decoded_cases : (odd : Bool) (text bytes : List ℕ)
    → cond odd (Err OddLength) (decode_pairs 0 text) ≡ Ok bytes → IsBytes bytes
decoded_cases true text bytes read = absurd cc
decoded_cases false text bytes read = pairs_small 0 text bytes read

-- what digits spell are bytes
pub decoded : (text bytes : List ℕ) → decode_of text ≡ Ok bytes → IsBytes bytes
decoded text bytes read = decoded_cases (length text % 2 == 1) text bytes read
