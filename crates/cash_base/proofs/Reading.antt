-- The definitions of numbers and truth, read from the ends of an element.
use Rattle.std.proofs.Common.{◌≡◌, ◌≢◌, ℕ, zero, suc, ◌+◌, ◌-◌, ◌*◌, ◌%◌, ◌^◌, ◌<◌, ◌≤◌, true, not, ◌&&◌, ◌||◌, leb, eqb, ltb, List, [], ◌∷◌, length, get_or, drop, refl, sym, ap, ◌∙◌, arith, Some, add-one, drop-cons, length-drop, lit<}
use native.Mathlib.Numerals.{unary_clauses}
use Rattle.std.proofs.lemmas.Bool.Decides.{nat_tests}
use Rattle.std.proofs.lemmas.Bool.{cond-true, and_from, le-leb}
use Rattle.std.proofs.Math.Nat.{pow-le-pow_right}
use Rattle.cash_base.specs.Number.{magnitude, has_sign, is_minimal, truth_of, number_of, signed}

pub magnitude_first : (e : List ℕ) → 2 ≤ length e → magnitude e ≡ get_or e 0 0 + 256 * magnitude (drop 1 e)
magnitude_first [] h = absurd (omega (arith, h))
magnitude_first (b ∷ []) h = absurd (omega (arith, h))
magnitude_first (b ∷ c ∷ bs) h = refl

pub magnitude_one : (e : List ℕ) → length e ≡ 1 → magnitude e ≡ get_or e 0 0 % 128
magnitude_one [] h = absurd (omega (arith, h))
magnitude_one (b ∷ []) h = refl
magnitude_one (b ∷ c ∷ bs) h = absurd (omega (arith, h))

pub sign_last : (e : List ℕ) → 1 ≤ length e → has_sign e ≡ leb 128 (get_or e (length e - 1) 0)
sign_last [] h = absurd (omega (arith, h))
sign_last (b ∷ []) h = refl
sign_last (b ∷ c ∷ bs) h =
    let p : 1 ≤ length (c ∷ bs) = omega arith in
    let ih = sign_last (c ∷ bs) p in
    simp unary_clauses (simp unary_clauses at ih)

minimal_at : (e : List ℕ) (i : ℕ) → length e ≡ suc (suc i) → is_minimal e ≡ (not (eqb (get_or e (suc i) 0 % 128) 0) || leb 128 (get_or e i 0))
minimal_at [] i h = absurd (omega (arith, h))
minimal_at (b ∷ []) i h = absurd (omega (arith, h))
minimal_at (a ∷ b ∷ []) zero h = refl
minimal_at (a ∷ b ∷ []) (suc i) h = absurd (omega (arith, h))
minimal_at (a ∷ b ∷ c ∷ bs) zero h = absurd (omega (arith, h))
minimal_at (a ∷ b ∷ c ∷ bs) (suc i) h = let shorter : length (b ∷ c ∷ bs) ≡ suc (suc i) = omega arith in minimal_at (b ∷ c ∷ bs) i shorter

pub minimal_last : (e : List ℕ) → 2 ≤ length e → is_minimal e ≡ (not (eqb (get_or e (length e - 1) 0 % 128) 0) || leb 128 (get_or e (length e - 2) 0))
minimal_last e h =
    let whole : length e ≡ suc (suc (length e - 2)) = omega arith in
    let last : suc (length e - 2) ≡ length e - 1 = omega arith in
    minimal_at e (length e - 2) whole ∙ ap (λ k. not (eqb (get_or e k 0 % 128) 0) || leb 128 (get_or e (length e - 2) 0)) last

zero_in_front : (x : ℕ) (xs : List ℕ) → x ≡ 0 → truth_of xs ≡ truth_of (x ∷ xs)
zero_in_front x [] z = ap (λ v. not (eqb (v % 128) 0)) (sym z)
zero_in_front x (y ∷ ys) z = ap (λ v. not (eqb v 0) || truth_of (y ∷ ys)) (sym z)

-- a byte 00 in front changes nothing
pub truth_passes : (e : List ℕ) (i : ℕ) → i < length e → get_or e i 0 ≡ 0 → truth_of (drop (i + 1) e) ≡ truth_of (drop i e)
truth_passes e i h z = rw (add-one, drop-cons e i 0) (zero_in_front (get_or e i 0) (drop (suc i) e) z)

-- another byte in front decides, but for an 80 that is the last
decided_in_front : (x : ℕ) (xs : List ℕ) → x ≢ 0 → x < 256 → truth_of (x ∷ xs) ≡ (ltb 0 (length xs) || not (eqb x 128))
decided_in_front x [] n s = grind (arith, nat_tests)
decided_in_front x (y ∷ ys) n s = grind (arith, nat_tests)

pub truth_found : (e : List ℕ) (i : ℕ) → i < length e → get_or e i 0 ≢ 0 → get_or e i 0 < 256 → truth_of (drop i e) ≡ (ltb (i + 1) (length e) || not (eqb (get_or e i 0) 128))
truth_found e i h n s =
    let after : ltb 0 (length (drop (suc i) e)) ≡ ltb (i + 1) (length e) = grind (arith, nat_tests, length-drop (suc i) e) in
    rw (drop-cons e i 0) (decided_in_front (get_or e i 0) (drop (suc i) e) n s) ∙ ap (λ b. b || not (eqb (get_or e i 0) 128)) after

pub number_read : (e : List ℕ) → length e ≤ 8 → is_minimal e ≡ true → number_of e ≡ Some (signed (has_sign e) (magnitude e))
number_read e short minimal = cond-true (leb (length e) 8 && is_minimal e) _ _ (and_from _ _ (le-leb (length e) 8 short) minimal)

pub below_limit : (m k : ℕ) → k ≤ 8 → 2 * m < 256 ^ k → m < 2 ^ 63
below_limit m k short h =
    let base : 0 < 256 = lit< tt in
    let raised : 256 ^ k ≤ 256 ^ 8 = pow-le-pow_right base short in
    omega (arith, h, raised)
