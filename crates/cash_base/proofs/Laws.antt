-- Numbers and minimal elements stand for one another.
use Rattle.std.proofs.Common.{◌≡◌, ◌≢◌, ℕ, zero, suc, ◌+◌, ◌*◌, ◌/◌, ◌%◌, ◌^◌, ◌<◌, ◌≤◌, Bool, true, false, ◌&&◌, ◌||◌, leb, cond, List, [], ◌∷◌, length, refl, sym, ap, ◌∙◌, arith, Some, None, ℤ, pos, negsuc, lit<, ◌⊎◌, inl, inr, subst}
use Rattle.std.specs.Prelude.{unsigned_abs}
use Rattle.std.specs.Int.{is_negative}
use Rattle.std.proofs.lemmas.Bool.{and_parts, le-ltb, cases_lt, cases_eq, leb-true}
use Rattle.std.proofs.lemmas.Bool.Decides.{nat_tests}
use Rattle.cash_base.specs.Number.{magnitude, has_sign, is_minimal, number_of, signed, digits, with_sign, minimal_bytes, IsBytes}
use Rattle.cash_base.proofs.Writing.{digits_step, digits_zero, sign_in, sign_after}
use Rattle.cash_base.proofs.Reading.{number_read, below_limit}

-- ---- the element of a sign and a magnitude has them

-- an element with this sign and this magnitude, which isn't zero
pub record Spells (negative : Bool) (n : ℕ) (e : List ℕ) : Type 0 where
  pub some : 1 ≤ length e
  pub magnitude_is : magnitude e ≡ n
  pub sign_is : has_sign e ≡ negative
  pub minimal : is_minimal e ≡ true

one_byte : (negative : Bool) (n : ℕ) → 0 < n → n < 128 → Spells negative n ((n + cond negative 128 0) ∷ [])
one_byte true n h s = record { some = omega arith; magnitude_is = omega arith; sign_is = grind (arith, nat_tests); minimal = grind (arith, nat_tests) }
one_byte false n h s = record { some = omega arith; magnitude_is = omega arith; sign_is = grind (arith, nat_tests); minimal = grind (arith, nat_tests) }

two_bytes : (negative : Bool) (n : ℕ) → 128 ≤ n → n < 256 → Spells negative n (n ∷ cond negative 128 0 ∷ [])
two_bytes true n h s = record { some = omega arith; magnitude_is = omega arith; sign_is = refl; minimal = grind (arith, nat_tests) }
two_bytes false n h s = record { some = omega arith; magnitude_is = omega arith; sign_is = refl; minimal = grind (arith, nat_tests) }

minimal_after : (b c : ℕ) (bs : List ℕ) → is_minimal (c ∷ bs) ≡ true → is_minimal (b ∷ c ∷ bs) ≡ true
minimal_after b c [] h = ap (λ t. t || leb 128 b) h
minimal_after b c (d ∷ bs) h = h

more_bytes : (negative : Bool) (b n : ℕ) (e : List ℕ) → Spells negative n e → Spells negative (b + 256 * n) (b ∷ e)
more_bytes negative b n [] s = let none : 1 ≤ 0 = s.some in absurd (omega (arith, none))
more_bytes negative b n (c ∷ bs) s = record {
  some = omega arith;
  magnitude_is = ap (λ m. b + 256 * m) s.magnitude_is;
  sign_is = s.sign_is;
  minimal = minimal_after b c bs s.minimal;
}

sign_passes : (negative : Bool) (b : ℕ) (ds : List ℕ) → 1 ≤ length (with_sign negative ds) → with_sign negative (b ∷ ds) ≡ b ∷ with_sign negative ds
sign_passes negative b [] h = absurd (omega (arith, h))
sign_passes negative b (d ∷ ds) h = refl

-- so many places are enough
pub digits_spell : (negative : Bool) (places n : ℕ) → 0 < n → n < 256 ^ places → Spells negative n (with_sign negative (digits places n))
digits_spell negative zero n h fits = absurd (omega (arith, h, fits))
digits_spell negative (suc places) n h fits = by_size (cases_lt n 256) (λ p q. digits_spell negative places (n / 256) p q)
  where
    first : digits (suc places) n ≡ (n % 256) ∷ digits places (n / 256)
    first = digits_step places n (omega (arith, h))

    one_digit : n < 256 → digits (suc places) n ≡ n ∷ []
    one_digit small =
        let none : n / 256 ≡ 0 = omega (arith, small) in
        let same : n % 256 ≡ n = omega (arith, small) in
        first ∙ ap (λ ds. (n % 256) ∷ ds) (digits_zero places (n / 256) none) ∙ ap (λ d. d ∷ []) same

    at_top : n < 256 → (n < 128) ⊎ (128 ≤ n) → Spells negative n (with_sign negative (n ∷ []))
    at_top small (inl low) = subst (Spells negative n) (sym (sign_in [] n negative low)) (one_byte negative n h low)
    at_top small (inr high) = subst (Spells negative n) (sym (sign_after [] n negative high)) (two_bytes negative n high small)

    further : 256 ≤ n → Spells negative (n / 256) (with_sign negative (digits places (n / 256))) → Spells negative n (with_sign negative (digits (suc places) n))
    further large s =
        let whole : n % 256 + 256 * (n / 256) ≡ n = omega arith in
        let e : with_sign negative (digits (suc places) n) ≡ (n % 256) ∷ with_sign negative (digits places (n / 256)) = ap (with_sign negative) first ∙ sign_passes negative (n % 256) (digits places (n / 256)) s.some in
        subst (Spells negative n) (sym e) (subst (λ m. Spells negative m ((n % 256) ∷ with_sign negative (digits places (n / 256)))) whole (more_bytes negative (n % 256) (n / 256) _ s))

    by_size : (n < 256) ⊎ (256 ≤ n) → (0 < n / 256 → n / 256 < 256 ^ places → Spells negative (n / 256) (with_sign negative (digits places (n / 256)))) → Spells negative n (with_sign negative (digits (suc places) n))
    by_size (inl small) ih = subst (λ ds. Spells negative n (with_sign negative ds)) (sym (one_digit small)) (at_top small (cases_lt n 128))
    by_size (inr large) ih = further large (ih (omega (arith, large)) (omega (arith, fits)))

pub with_sign_short : (negative : Bool) (d : ℕ) (ds : List ℕ) → length (with_sign negative (d ∷ ds)) ≤ suc (suc (length ds))
with_sign_short true d [] = grind (arith, nat_tests)
with_sign_short false d [] = grind (arith, nat_tests)
with_sign_short negative d (c ∷ ds) = let ih = with_sign_short negative c ds in omega (arith, ih)

-- and so many bytes
pub digits_short : (negative : Bool) (places n : ℕ) → n < 128 * 256 ^ places → length (with_sign negative (digits (suc places) n)) ≤ suc places
digits_short negative zero n fits = by_size (cases_eq n 0)
  where
    by_size : (n ≡ 0) ⊎ (n ≡ 0 → ⊥) → length (with_sign negative (digits 1 n)) ≤ 1
    by_size (inl none) = rw (digits_zero 1 n none) (omega arith)
    by_size (inr some) =
        let low : n < 128 = omega (arith, fits) in
        let none : n / 256 ≡ 0 = omega (arith, low) in
        let same : n % 256 ≡ n = omega (arith, low) in
        let is : digits 1 n ≡ n ∷ [] = digits_step 0 n some ∙ ap (λ ds. (n % 256) ∷ ds) (digits_zero 0 (n / 256) none) ∙ ap (λ d. d ∷ []) same in
        rw (is, sign_in [] n negative low) (omega arith)
digits_short negative (suc places) n fits = by_size (cases_eq n 0) (digits_short negative places (n / 256) (omega (arith, fits)))
  where
    longer : (d : ℕ) (ds : List ℕ) → length (with_sign negative ds) ≤ suc places → length (with_sign negative (d ∷ ds)) ≤ suc (suc places)
    longer d [] h = let two = with_sign_short negative d [] in omega (arith, two)
    longer d (c ∷ ds) h = omega (arith, h)

    by_size : (n ≡ 0) ⊎ (n ≡ 0 → ⊥) → length (with_sign negative (digits (suc places) (n / 256))) ≤ suc places → length (with_sign negative (digits (suc (suc places)) n)) ≤ suc (suc places)
    by_size (inl none) ih = rw (digits_zero (suc (suc places)) n none) (omega arith)
    by_size (inr some) ih = rw (digits_step (suc places) n some) (longer (n % 256) (digits (suc places) (n / 256)) ih)

-- ---- the element of the sign and the magnitude of a minimal element is that element

minimal_tail : (a b c : ℕ) (cs : List ℕ) → is_minimal (a ∷ b ∷ c ∷ cs) ≡ true → is_minimal (b ∷ c ∷ cs) ≡ true
minimal_tail a b c cs h = h

minimal_positive : (e : List ℕ) → 1 ≤ length e → is_minimal e ≡ true → 0 < magnitude e
minimal_positive [] h m = absurd (omega (arith, h))
minimal_positive (b ∷ []) h m = grind (arith, nat_tests, m)
minimal_positive (a ∷ b ∷ []) h m = grind (arith, nat_tests, m)
minimal_positive (a ∷ b ∷ c ∷ cs) h m = let ih = minimal_positive (b ∷ c ∷ cs) (omega arith) m in omega (arith, ih)

one_again : (b : ℕ) → b < 256 → b % 128 + cond (leb 128 b) 128 0 ≡ b
one_again b s = grind (arith, nat_tests)

-- the digits of a number whose lowest is a
pub digits_from : (places a n : ℕ) → a < 256 → 0 < a + 256 * n → digits (suc places) (a + 256 * n) ≡ a ∷ digits places n
digits_from places a n s h =
    let low : (a + 256 * n) % 256 ≡ a = omega (arith, s) in
    let high : (a + 256 * n) / 256 ≡ n = omega (arith, s) in
    digits_step places (a + 256 * n) (omega (arith, h)) ∙ ap (λ d. d ∷ digits places ((a + 256 * n) / 256)) low ∙ ap (λ m. a ∷ digits places m) high

last_again : (b places : ℕ) → b < 256 → is_minimal (b ∷ []) ≡ true → with_sign (has_sign (b ∷ [])) (digits (suc places) (magnitude (b ∷ []))) ≡ b ∷ []
last_again b places s m =
    let some : b % 128 ≢ 0 = λ z. grind (arith, nat_tests, m, z) in
    let low : b % 128 < 128 = omega arith in
    let same : b % 128 % 256 ≡ b % 128 = omega arith in
    let none : b % 128 / 256 ≡ 0 = omega arith in
    let is : digits (suc places) (b % 128) ≡ (b % 128) ∷ [] =
    digits_step places (b % 128) some ∙ ap (λ ds. (b % 128 % 256) ∷ ds) (digits_zero places (b % 128 / 256) none) ∙ ap (λ d. d ∷ []) same in
    ap (with_sign (leb 128 b)) is ∙ sign_in [] (b % 128) (leb 128 b) low ∙ ap (λ x. x ∷ []) (one_again b s)

-- the sign in a byte of its own
sign_again : (a b places : ℕ) → a < 256 → b < 256 → b % 128 ≡ 0 → is_minimal (a ∷ b ∷ []) ≡ true → with_sign (leb 128 b) (a ∷ digits places 0) ≡ a ∷ b ∷ []
sign_again a b places s t z m =
    let high : 128 ≤ a = grind (arith, nat_tests, m, z) in
    let alone : cond (leb 128 b) 128 0 ≡ b = grind (arith, nat_tests, z) in
    ap (λ ds. with_sign (leb 128 b) (a ∷ ds)) (digits_zero places 0 refl) ∙ sign_after [] a (leb 128 b) high ∙ ap (λ x. a ∷ x ∷ []) alone

joined_again : (negative : Bool) (a places n : ℕ) (e : List ℕ) → a < 256 → 0 < n → 1 ≤ length e → with_sign negative (digits places n) ≡ e → with_sign negative (digits (suc places) (a + 256 * n)) ≡ a ∷ e
joined_again negative a places n e s h some again =
    let there : 1 ≤ length (with_sign negative (digits places n)) = rw again some in
    ap (with_sign negative) (digits_from places a n s (omega (arith, h))) ∙ sign_passes negative a (digits places n) there ∙ ap (λ l. a ∷ l) again

pub digits_again : (places : ℕ) (e : List ℕ) → IsBytes e → is_minimal e ≡ true → length e ≤ places → with_sign (has_sign e) (digits places (magnitude e)) ≡ e
digits_again places [] bytes m short = ap (with_sign false) (digits_zero places 0 refl)
digits_again zero (b ∷ bs) bytes m short = absurd (omega (arith, short))
digits_again (suc places) (b ∷ []) bytes m short = last_again b places bytes.0 m
digits_again (suc places) (a ∷ b ∷ []) bytes m short = by_top (cases_eq (b % 128) 0) (λ p. digits_again places (b ∷ []) bytes.1 p (omega arith))
  where
    by_top : (b % 128 ≡ 0) ⊎ (b % 128 ≡ 0 → ⊥) → (is_minimal (b ∷ []) ≡ true → with_sign (leb 128 b) (digits places (b % 128)) ≡ b ∷ []) → with_sign (leb 128 b) (digits (suc places) (a + 256 * (b % 128))) ≡ a ∷ b ∷ []
    by_top (inl z) ih =
        let high : 128 ≤ a = grind (arith, nat_tests, m, z) in
        ap (with_sign (leb 128 b)) (digits_from places a (b % 128) bytes.0 (omega (arith, high)) ∙ ap (λ n. a ∷ digits places n) z) ∙ sign_again a b places bytes.0 bytes.1.0 z m
    by_top (inr some) ih =
        let least : is_minimal (b ∷ []) ≡ true = grind (arith, nat_tests, some) in
        joined_again (leb 128 b) a places (b % 128) (b ∷ []) bytes.0 (omega (arith, some)) (omega arith) (ih least)
digits_again (suc places) (a ∷ b ∷ c ∷ cs) bytes m short =
    joined_again (has_sign (c ∷ cs)) a places (magnitude (b ∷ c ∷ cs)) (b ∷ c ∷ cs) bytes.0 (minimal_positive (b ∷ c ∷ cs) (omega arith) m) (omega arith)
    (digits_again places (b ∷ c ∷ cs) bytes.1 m (omega (arith, short)))

-- ---- the two laws

signed_magnitude : (negative : Bool) (n : ℕ) → unsigned_abs (signed negative n) ≡ n
signed_magnitude true zero = refl
signed_magnitude true (suc n) = refl
signed_magnitude false n = refl

signed_sign : (negative : Bool) (n : ℕ) → 0 < n → is_negative (signed negative n) ≡ negative
signed_sign negative zero h = absurd (omega (arith, h))
signed_sign true (suc n) h = refl
signed_sign false (suc n) h = le-ltb (suc n) 0 (omega arith)

number_from : (negative : Bool) (n : ℕ) (e : List ℕ) → length e ≤ 8 → Spells negative n e → number_of e ≡ Some (signed negative n)
number_from negative n e short s = number_read e short s.minimal ∙ ap (λ b. Some (signed b (magnitude e))) s.sign_is ∙ ap (λ m. Some (signed negative m)) s.magnitude_is

spelled_number : (negative : Bool) (n : ℕ) → 0 < n → n < 2 ^ 63 → number_of (with_sign negative (digits 8 n)) ≡ Some (signed negative n)
spelled_number negative n h fits = number_from negative n _ (digits_short negative 7 n (omega (arith, fits))) (digits_spell negative 8 n h (omega (arith, fits)))

-- the number of the minimal bytes of n is n
pub number_of-minimal_bytes : (n : ℤ) → unsigned_abs n < 2 ^ 63 → number_of (minimal_bytes n) ≡ Some n
number_of-minimal_bytes (pos zero) fits = ap (λ ds. number_of (with_sign false ds)) (digits_zero 8 0 refl)
number_of-minimal_bytes (pos (suc n)) fits = ap (λ b. number_of (with_sign b (digits 8 (suc n)))) (le-ltb (suc n) 0 (omega arith)) ∙ spelled_number false (suc n) (omega arith) fits
number_of-minimal_bytes (negsuc n) fits = spelled_number true (suc n) (omega arith) fits

bound_more : (b n k : ℕ) → b < 256 → 2 * n < 256 ^ suc k → 2 * (b + 256 * n) < 256 ^ suc (suc k)
bound_more b n k low h = omega (arith, low, h)

pub magnitude_bound : (e : List ℕ) → IsBytes e → 2 * magnitude e < 256 ^ length e
magnitude_bound [] bytes = omega arith
magnitude_bound (b ∷ []) bytes = omega arith
magnitude_bound (b ∷ c ∷ bs) bytes = bound_more b (magnitude (c ∷ bs)) (length bs) bytes.0 (magnitude_bound (c ∷ bs) bytes.1)

read_again : (e : List ℕ) → IsBytes e → length e ≤ 8 → is_minimal e ≡ true → (minimal_bytes (signed (has_sign e) (magnitude e)) ≡ e) × (unsigned_abs (signed (has_sign e) (magnitude e)) < 2 ^ 63)
read_again [] bytes short m = (ap (with_sign false) (digits_zero 8 0 refl), lit< tt)
read_again (b ∷ bs) bytes short m =
    let e = b ∷ bs in
    let n = magnitude e in
    let sign = signed_sign (has_sign e) n (minimal_positive e (omega arith) m) in
    let size = signed_magnitude (has_sign e) n in
    let below = below_limit n (length e) short (magnitude_bound e bytes) in (
      ap (λ negative. with_sign negative (digits 8 (unsigned_abs (signed (has_sign e) n)))) sign ∙ ap (λ k. with_sign (has_sign e) (digits 8 k)) size ∙ digits_again 8 e bytes m short,
      rw size below,
    )

-- the minimal bytes of the number of e are e
pub minimal_bytes-number_of : (e : List ℕ) (n : ℤ) → IsBytes e → number_of e ≡ Some n → (minimal_bytes n ≡ e) × (unsigned_abs n < 2 ^ 63)
minimal_bytes-number_of e n bytes read = by_test (leb (length e) 8 && is_minimal e) refl read
  where
    by_test : (t : Bool) → (leb (length e) 8 && is_minimal e) ≡ t → cond t (Some (signed (has_sign e) (magnitude e))) None ≡ Some n → (minimal_bytes n ≡ e) × (unsigned_abs n < 2 ^ 63)
    by_test false test none = cc
    by_test true test some =
        let parts = and_parts (leb (length e) 8) (is_minimal e) test in
        let is : signed (has_sign e) (magnitude e) ≡ n = cc in
        subst (λ k. (minimal_bytes k ≡ e) × (unsigned_abs k < 2 ^ 63)) is (read_again e bytes (leb-true (length e) 8 parts.0) parts.1)
