-- The numbers that digits spell.
use Rattle.std.proofs.Common.{◌≡◌, ℕ, suc, ◌+◌, ◌-◌, ◌*◌, ◌^◌, ◌<◌, ◌≤◌, Bool, true, false, cond, ltb, List, [], ◌∷◌, length, get_or, drop, Some, None, refl, sym, ap, ◌∙◌, subst, arith, lit<, zero-mul}
use Rattle.std.specs.Prelude.{fold}
use Rattle.std.proofs.Math.Seq.{drop-cons}
use Rattle.std.proofs.lemmas.List.{drop_all}
use Rattle.std.proofs.Math.Nat.{pow-le-pow_right, one-le-pow}
use Rattle.cash_lexer.specs.Numbers.{with_digit, decimal, narrow, number_value}

-- further digits make no number less
fold_grows : (digits : List ℕ) (n : ℕ) → n ≤ fold with_digit n digits
fold_grows [] n = omega arith
fold_grows (digit ∷ digits) n = let more = fold_grows digits (with_digit n digit) in omega arith

not_less : (n m : ℕ) → m ≤ n → ltb n m ≡ false
not_less n m le = grind arith

less : (n m : ℕ) → n < m → ltb n m ≡ true
less n m lt = grind arith

fits_or : (n : ℕ) (t : Bool) → ltb n (2 ^ 128) ≡ t → cond t (Some n) None ≡ narrow n
fits_or n t is = ap (λ b. cond b (Some n) None) (sym is)

wide_none : (n : ℕ) → 2 ^ 128 ≤ n → None ≡ narrow n
wide_none n wide = fits_or n false (not_less n (2 ^ 128) wide)

small_some : (n : ℕ) → n < 2 ^ 128 → Some n ≡ narrow n
small_some n small = fits_or n true (less n (2 ^ 128) small)

none_cases : (n : ℕ) (t : Bool) → ltb n (2 ^ 128) ≡ t → None ≡ cond t (Some n) None → 2 ^ 128 ≤ n
none_cases n true is none = absurd cc
none_cases n false is none = grind arith

none_wide : (n : ℕ) → None ≡ narrow n → 2 ^ 128 ≤ n
none_wide n none = none_cases n (ltb n (2 ^ 128)) refl none

some_cases : (n v : ℕ) (t : Bool) → Some v ≡ cond t (Some n) None → v ≡ n
some_cases n v true some = cc
some_cases n v false some = absurd cc

some_is : (n v : ℕ) → Some v ≡ narrow n → v ≡ n
some_is n v some = some_cases n v (ltb n (2 ^ 128)) some

-- a number that has too many bits with the digit at a place has too many in the end
pub too_wide : (digits : List ℕ) (i value : ℕ) → i < length digits → 2 ^ 128 ≤ value * 10 + (get_or digits i 0 - 48)
    → fold with_digit value (drop i digits) ≡ decimal digits → None ≡ narrow (decimal digits)
too_wide digits i value within wide is =
    let here : fold with_digit value (drop i digits) ≡ fold with_digit (with_digit value (get_or digits i 0)) (drop (suc i) digits) = ap (fold with_digit value) (drop-cons digits i 0 within) in
    let more = fold_grows (drop (suc i) digits) (with_digit value (get_or digits i 0)) in
    wide_none (decimal digits) (omega (arith, more, sym is ∙ here, wide))

-- after the last digit
pub whole_value : (digits : List ℕ) (i value : ℕ) → length digits ≤ i → value < 2 ^ 128 → fold with_digit value (drop i digits) ≡ decimal digits → Some value ≡ narrow (decimal digits)
whole_value digits i value past small is =
    let value_is : value ≡ decimal digits = ap (fold with_digit value) (sym (drop_all i digits past)) ∙ is in
    ap Some value_is ∙ small_some (decimal digits) (subst (λ n. n < 2 ^ 128) value_is small)

-- ---- powers of ten

pub power_fits : (e : ℕ) → e ≤ 38 → 10 ^ e < 2 ^ 128
power_fits e small = let most : 10 ^ e ≤ 10 ^ 38 = pow-le-pow_right (lit< tt) small in omega (arith, most)

at_least_once : (n e : ℕ) → n ≤ n * 10 ^ e
at_least_once n e = let one : 1 ≤ 10 ^ e = one-le-pow e 10 (lit< tt) in grind (arith, one)

pub zero_value : (digits exponent : List ℕ) (v : ℕ) → Some v ≡ narrow (decimal digits) → v ≡ 0 → Some 0 ≡ narrow (number_value digits exponent)
unfolding number_value
zero_value digits exponent v some none =
    let zero_is : 0 ≡ decimal digits * 10 ^ decimal exponent = sym (ap (λ n. n * 10 ^ decimal exponent) (sym (some_is (decimal digits) v some) ∙ none) ∙ zero-mul (10 ^ decimal exponent)) in
    ap Some zero_is ∙ small_some (decimal digits * 10 ^ decimal exponent) (subst (λ n. n < 2 ^ 128) zero_is (lit< tt))

-- the power is computed, and times the digits it fits or doesn't
pub power_value : (digits exponent : List ℕ) (v e : ℕ) → Some v ≡ narrow (decimal digits) → Some e ≡ narrow (decimal exponent) → v * 10 ^ e ≡ number_value digits exponent
unfolding number_value
power_value digits exponent v e some power = ap (λ n. n * 10 ^ e) (some_is (decimal digits) v some) ∙ ap (λ n. decimal digits * 10 ^ n) (some_is (decimal exponent) e power)

-- the digits alone have too many bits
pub wide_digits : (digits exponent : List ℕ) → None ≡ narrow (decimal digits) → None ≡ narrow (number_value digits exponent)
unfolding number_value
wide_digits digits exponent none =
    let wide = none_wide (decimal digits) none in
    let more = at_least_once (decimal digits) (decimal exponent) in
    wide_none (decimal digits * 10 ^ decimal exponent) (omega (arith, wide, more))

-- ten to the power of 39 has too many bits
much : (n e : ℕ) → 1 ≤ n → 39 ≤ e → 2 ^ 128 ≤ n * 10 ^ e
much n e some large =
    let least : 10 ^ 39 ≤ 10 ^ e = pow-le-pow_right (lit< tt) large in
    let times : 10 ^ e ≤ n * 10 ^ e = grind (arith, some) in
    omega (arith, least, times)

pub wide_power : (digits exponent : List ℕ) (v e : ℕ) → Some v ≡ narrow (decimal digits) → (v ≡ 0 → ⊥) → Some e ≡ narrow (decimal exponent) → 38 < e → None ≡ narrow (number_value digits exponent)
unfolding number_value
wide_power digits exponent v e some not_zero power large =
    let v_is = some_is (decimal digits) v some in
    let e_is = some_is (decimal exponent) e power in
    wide_none (decimal digits * 10 ^ decimal exponent) (much (decimal digits) (decimal exponent) (omega (arith, v_is, not_zero)) (omega (arith, e_is, large)))

pub wider_power : (digits exponent : List ℕ) (v : ℕ) → Some v ≡ narrow (decimal digits) → (v ≡ 0 → ⊥) → None ≡ narrow (decimal exponent) → None ≡ narrow (number_value digits exponent)
unfolding number_value
wider_power digits exponent v some not_zero none =
    let v_is = some_is (decimal digits) v some in
    let wide = none_wide (decimal exponent) none in
    wide_none (decimal digits * 10 ^ decimal exponent) (much (decimal digits) (decimal exponent) (omega (arith, v_is, not_zero)) (omega (arith, wide)))
