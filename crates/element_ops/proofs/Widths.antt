-- Elements as whole numbers of any width.
use Rattle.std.proofs.Common.{◌≡◌, ◌≢◌, ℕ, zero, suc, ◌+◌, ◌-◌, ◌*◌, ◌/◌, ◌%◌, ◌^◌, ◌<◌, ◌≤◌, Bool, true, false, List, [], ◌∷◌, ◌++◌, length, replicate, refl, sym, ap, ◌∙◌, arith, ◌⊎◌, inl, inr, subst, length-append, cond, eqb, leb, get_or, Fits, w8}
use Rattle.std.proofs.lemmas.List.{length-replicate}
use Rattle.std.proofs.Math.Nat.{sub-zero}
use Rattle.std.proofs.lemmas.Bool.{cases_eq, ne_eqb}
use Rattle.std.proofs.lemmas.Bool.Decides.{nat_tests}
use Rattle.cash_base.specs.Number.{is_minimal, magnitude, has_sign, digits, with_sign, IsBytes}
use Rattle.element_ops.specs.Width.{shortest, places, without_sign, digit_before, trimmed, padded, IsShortestOf, HasWidth, of_width}
use Rattle.cash_base.proofs.Writing.{digits_zero, digits_step, sign_in}
use Rattle.cash_base.proofs.Laws.{digits_from, digits_short, digits_spell, Spells, magnitude_bound}
use Rattle.cash_base.proofs.Widths.{IsBytes-digits, IsBytes-with_sign}

-- ---- the bytes without the sign

pub without_sign-append : (front : List ℕ) (b : ℕ) → without_sign (front ++ b ∷ []) ≡ front ++ (b % 128) ∷ []
without_sign-append [] b = refl
without_sign-append (x ∷ []) b = refl
without_sign-append (x ∷ y ∷ front) b = ap (λ l. x ∷ l) (without_sign-append (y ∷ front) b)

-- where the last byte is b
pub without_sign_of : (e front : List ℕ) (b : ℕ) → e ≡ front ++ b ∷ [] → without_sign e ≡ front ++ (b % 128) ∷ []
without_sign_of e front b is = ap without_sign is ∙ without_sign-append front b

pub length-without_sign : (e : List ℕ) → length (without_sign e) ≡ length e
length-without_sign [] = refl
length-without_sign (b ∷ []) = refl
length-without_sign (b ∷ c ∷ bs) = ap suc (length-without_sign (c ∷ bs))

-- the whole number of digits to the base 256
abbrev pub value : List ℕ → ℕ
value [] = 0
value (b ∷ bs) = b + 256 * value bs

value-without_sign : (e : List ℕ) → value (without_sign e) ≡ magnitude e
value-without_sign [] = refl
value-without_sign (b ∷ []) = omega arith
value-without_sign (b ∷ c ∷ bs) = ap (λ n. b + 256 * n) (value-without_sign (c ∷ bs))

IsBytes-without_sign : (e : List ℕ) → IsBytes e → IsBytes (without_sign e)
IsBytes-without_sign [] bytes = bytes
IsBytes-without_sign (b ∷ []) bytes = (omega arith, tt)
IsBytes-without_sign (b ∷ c ∷ bs) bytes = (bytes.0, IsBytes-without_sign (c ∷ bs) bytes.1)

-- ---- the shortest form

-- a zero at the end changes nothing
pub trimmed_zero : (whole front : List ℕ) (b : ℕ) → b ≡ 0 → whole ≡ front ++ b ∷ [] → trimmed whole ≡ trimmed front
trimmed_zero whole front b none is = ap trimmed is ∙ ap (λ n. trimmed (front ++ n ∷ [])) none ∙ after front
  where
    after : (bs : List ℕ) → trimmed (bs ++ 0 ∷ []) ≡ trimmed bs
    after [] = refl
    after (x ∷ bs) = ap (digit_before x) (after bs)

digit_before_some : (x : ℕ) (front : List ℕ) (b : ℕ) → digit_before x (front ++ b ∷ []) ≡ x ∷ front ++ b ∷ []
digit_before_some x [] b = refl
digit_before_some x (y ∷ front) b = refl

-- another byte at the end stays, with all before it
pub trimmed_kept : (front : List ℕ) (b : ℕ) → b ≢ 0 → trimmed (front ++ b ∷ []) ≡ front ++ b ∷ []
trimmed_kept [] b some = ap (λ t. cond t [] (b ∷ [])) (ne_eqb b 0 some)
trimmed_kept (x ∷ front) b some = ap (digit_before x) (trimmed_kept front b some) ∙ digit_before_some x front b

digit_before_zero : (b : ℕ) (bs : List ℕ) → b ≡ 0 → bs ≡ [] → digit_before b bs ≡ []
digit_before_zero b bs none empty = ap (digit_before b) empty ∙ ap (λ n. cond (eqb n 0) [] (n ∷ [])) none

digit_before_other : (b : ℕ) (bs : List ℕ) → (bs ≡ [] → b ≢ 0) → digit_before b bs ≡ b ∷ bs
digit_before_other b [] some = ap (λ t. cond t [] (b ∷ [])) (ne_eqb b 0 (some refl))
digit_before_other b (c ∷ cs) some = refl

trimmed_zeros : (bs : List ℕ) → value bs ≡ 0 → trimmed bs ≡ []
trimmed_zeros [] none = refl
trimmed_zeros (b ∷ bs) none = digit_before_zero b (trimmed bs) (omega (arith, none)) (trimmed_zeros bs (omega (arith, none)))

-- the digits of the number
digits_trimmed : (bs : List ℕ) → IsBytes bs → digits (length bs) (value bs) ≡ trimmed bs
digits_trimmed [] bytes = digits_zero 0 0 refl
digits_trimmed (b ∷ bs) bytes = by_size (cases_eq (b + 256 * value bs) 0) (digits_trimmed bs bytes.1)
  where
    none_after : value bs ≡ 0 → b ≢ 0 → digit_before b (trimmed bs) ≡ b ∷ trimmed bs
    none_after none some = digit_before_other b (trimmed bs) (λ q. some)

    some_after : (rest : List ℕ) → digits (length rest) (value rest) ≡ trimmed rest → value rest ≢ 0 → digit_before b (trimmed rest) ≡ b ∷ trimmed rest
    some_after [] is some = absurd (some refl)
    some_after (x ∷ xs) is some =
        let first : trimmed (x ∷ xs) ≡ (value (x ∷ xs) % 256) ∷ digits (length xs) (value (x ∷ xs) / 256) = sym is ∙ digits_step (length xs) (value (x ∷ xs)) some in
        ap (digit_before b) first ∙ ap (λ l. b ∷ l) (sym first)

    by_rest : digits (length bs) (value bs) ≡ trimmed bs → b + 256 * value bs ≢ 0 → (value bs ≡ 0) ⊎ (value bs ≡ 0 → ⊥) → digit_before b (trimmed bs) ≡ b ∷ trimmed bs
    by_rest ih some (inl none) = none_after none (λ z. some (omega (arith, none, z)))
    by_rest ih some (inr there) = some_after bs ih there

    by_size : (b + 256 * value bs ≡ 0) ⊎ (b + 256 * value bs ≡ 0 → ⊥) → digits (length bs) (value bs) ≡ trimmed bs → digits (suc (length bs)) (b + 256 * value bs) ≡ digit_before b (trimmed bs)
    by_size (inl none) ih = digits_zero (suc (length bs)) _ none ∙ sym (trimmed_zeros (b ∷ bs) none)
    by_size (inr some) ih =
        digits_from (length bs) b (value bs) bytes.0 (omega (arith, some)) ∙ ap (λ l. b ∷ l) ih ∙ sym (by_rest ih some (cases_eq (value bs) 0))

-- the code's steps make the shortest form
pub shortest_of : (e : List ℕ) (negative : Bool) → negative ≡ has_sign e → IsBytes e → with_sign negative (trimmed (without_sign e)) ≡ shortest e
shortest_of e negative sign bytes =
    ap (λ n. with_sign n (trimmed (without_sign e))) sign ∙ ap (with_sign (has_sign e)) (sym (digits_trimmed (without_sign e) (IsBytes-without_sign e bytes)))
    ∙ ap (λ k. with_sign (has_sign e) (digits k (value (without_sign e)))) (length-without_sign e) ∙ ap (λ n. with_sign (has_sign e) (digits (length e) n)) (value-without_sign e)

-- the items of a slice of bytes
pub IsBytes_of : (e : List ℕ) → ((i : ℕ) → Fits w8 (get_or e i 0)) → IsBytes e
IsBytes_of [] fits = tt
IsBytes_of (b ∷ bs) fits = (let first = fits 0 in omega (arith, first), IsBytes_of bs (λ i. fits (suc i)))

half_bound : (m k : ℕ) → 2 * m < 256 ^ suc k → m < 128 * 256 ^ k
half_bound m k h = omega (arith, h)

pub length-shortest : (e : List ℕ) → IsBytes e → length (shortest e) ≤ length e
length-shortest [] bytes = rw (digits_zero 0 0 refl) (omega arith)
length-shortest (b ∷ bs) bytes =
    digits_short (has_sign (b ∷ bs)) (length bs) (magnitude (b ∷ bs)) (half_bound _ _ (magnitude_bound (b ∷ bs) bytes))

pub IsBytes-shortest : (e : List ℕ) → IsBytes (shortest e)
IsBytes-shortest e = IsBytes-with_sign (has_sign e) (digits (length e) (magnitude e)) (IsBytes-digits (length e) (magnitude e))

pub length-made : (e : List ℕ) (negative : Bool) (ds : List ℕ) → ds ≡ trimmed (without_sign e) → negative ≡ has_sign e → IsBytes e → length (with_sign negative ds) ≤ length e
length-made e negative ds is sign bytes =
    let same : with_sign negative ds ≡ shortest e = ap (with_sign negative) is ∙ shortest_of e negative sign bytes in
    rw same (length-shortest e bytes)

pub magnitude-shortest : (e : List ℕ) → IsBytes e → magnitude (shortest e) ≡ magnitude e
magnitude-shortest e bytes = by_size (cases_eq (magnitude e) 0)
  where
    by_size : (magnitude e ≡ 0) ⊎ (magnitude e ≡ 0 → ⊥) → magnitude (shortest e) ≡ magnitude e
    by_size (inl none) = ap (λ ds. magnitude (with_sign (has_sign e) ds)) (digits_zero (length e) (magnitude e) none) ∙ sym none
    by_size (inr some) =
        let bound = magnitude_bound e bytes in
        (digits_spell (has_sign e) (length e) (magnitude e) (omega (arith, some)) (omega (arith, bound))).magnitude_is

-- ---- the form of so many bytes

places_none : (k : ℕ) → places k 0 ≡ replicate k 0
unfolding places
places_none zero = refl
places_none (suc k) =
    let q : 0 / 256 ≡ 0 = refl in
    ap (λ n. 0 ∷ places k n) q ∙ ap (λ l. 0 ∷ l) (places_none k)

places_from : (k a n : ℕ) → a < 256 → places (suc k) (a + 256 * n) ≡ a ∷ places k n
unfolding places
places_from k a n low =
    let digit : (a + 256 * n) % 256 ≡ a = omega (arith, low) in
    let rest : (a + 256 * n) / 256 ≡ n = omega (arith, low) in
    ap (λ d. d ∷ places k ((a + 256 * n) / 256)) digit ∙ ap (λ m. a ∷ places k m) rest

pub places-value : (k : ℕ) (bs : List ℕ) → IsBytes bs → length bs ≤ k → places k (value bs) ≡ padded k bs
places-value k [] bytes fits = places_none k ∙ ap (λ n. replicate n 0) (sym (sub-zero k))
places-value zero (b ∷ bs) bytes fits = absurd (omega (arith, fits))
places-value (suc k) (b ∷ bs) bytes fits =
    let left : suc k - suc (length bs) ≡ k - length bs = omega arith in
    places_from k b (value bs) bytes.0 ∙ ap (λ l. b ∷ l) (places-value k bs bytes.1 (omega (arith, fits))) ∙ ap (λ n. b ∷ bs ++ replicate n 0) (sym left)

IsBytes-places : (k n : ℕ) → IsBytes (places k n)
unfolding places
IsBytes-places zero n = tt
IsBytes-places (suc k) n = (omega arith, IsBytes-places k (n / 256))

value-zeros : (k : ℕ) → value (replicate k 0) ≡ 0
value-zeros zero = refl
value-zeros (suc k) = let ih = value-zeros k in omega (arith, ih)

value-padded : (k : ℕ) (bs : List ℕ) → value (bs ++ replicate k 0) ≡ value bs
value-padded k [] = value-zeros k
value-padded k (b ∷ bs) = ap (λ n. b + 256 * n) (value-padded k bs)

sign_of_zeros : (k : ℕ) → has_sign (replicate k 0) ≡ false
sign_of_zeros zero = refl
sign_of_zeros (suc zero) = refl
sign_of_zeros (suc (suc k)) = sign_of_zeros (suc k)

sign_after_zeros : (b : ℕ) (bs : List ℕ) (k : ℕ) → has_sign (b ∷ bs) ≡ false → has_sign (b ∷ bs ++ replicate k 0) ≡ false
sign_after_zeros b [] zero h = h
sign_after_zeros b [] (suc k) h = sign_of_zeros (suc k)
sign_after_zeros b (c ∷ bs) k h = sign_after_zeros c bs k h

has_sign-without_sign : (e : List ℕ) → has_sign (without_sign e) ≡ false
has_sign-without_sign [] = refl
has_sign-without_sign (b ∷ []) = grind (arith, nat_tests)
has_sign-without_sign (b ∷ c ∷ []) = grind (arith, nat_tests)
has_sign-without_sign (b ∷ c ∷ d ∷ bs) = has_sign-without_sign (c ∷ d ∷ bs)

has_sign-padded : (k : ℕ) (bs : List ℕ) → has_sign bs ≡ false → has_sign (padded k bs) ≡ false
has_sign-padded k [] h = sign_of_zeros (k - 0)
has_sign-padded k (b ∷ bs) h = sign_after_zeros b bs (k - suc (length bs)) h

-- a sign in a free bit adds no byte
length-with_sign_free : (negative : Bool) (bs : List ℕ) → has_sign bs ≡ false → length (with_sign negative bs) ≡ length bs
length-with_sign_free negative [] h = refl
length-with_sign_free negative (b ∷ []) h =
    let low : b < 128 = grind (arith, nat_tests, h) in
    ap length (sign_in [] b negative low)
length-with_sign_free negative (b ∷ c ∷ bs) h = ap suc (length-with_sign_free negative (c ∷ bs) h)

length-padded : (k : ℕ) (bs : List ℕ) → length bs ≤ k → length (padded k bs) ≡ k
length-padded k bs fits = length-append bs (replicate (k - length bs) 0) ∙ ap (λ n. length bs + n) (length-replicate (k - length bs) 0) ∙ (omega (arith, fits))

pub length-of_width : (negative : Bool) (k : ℕ) (e : List ℕ) → length e ≤ k → length (with_sign negative (padded k (without_sign e))) ≡ k
length-of_width negative k e fits =
    length-with_sign_free negative (padded k (without_sign e)) (has_sign-padded k (without_sign e) (has_sign-without_sign e))
    ∙ length-padded k (without_sign e) (rw (length-without_sign e) fits)

pub padded-without_sign : (k : ℕ) (e : List ℕ) → IsBytes e → length (shortest e) ≤ k → padded k (without_sign (shortest e)) ≡ places k (magnitude e)
padded-without_sign k e bytes fits =
    let s = shortest e in
    sym (places-value k (without_sign s) (IsBytes-without_sign s (IsBytes-shortest e)) (rw (length-without_sign s) fits))
    ∙ ap (places k) (value-without_sign s ∙ magnitude-shortest e bytes)

-- ---- the two laws

pub shortest-IsShortestOf : (e : List ℕ) → IsBytes e → IsShortestOf e (shortest e)
shortest-IsShortestOf e bytes = record {
  bytes = IsBytes-shortest e;
  magnitude_is = magnitude-shortest e bytes;
  sign_is = λ some. (spells some).sign_is;
  minimal = by_size (cases_eq (magnitude e) 0);
  shorter = length-shortest e bytes;
}
  where
    spells : 0 < magnitude e → Spells (has_sign e) (magnitude e) (shortest e)
    spells some =
        let bound = magnitude_bound e bytes in
        digits_spell (has_sign e) (length e) (magnitude e) some (omega (arith, bound))

    by_size : (magnitude e ≡ 0) ⊎ (magnitude e ≡ 0 → ⊥) → is_minimal (shortest e) ≡ true
    by_size (inl none) = ap (λ ds. is_minimal (with_sign (has_sign e) ds)) (digits_zero (length e) (magnitude e) none)
    by_size (inr some) = (spells (omega (arith, some))).minimal

-- a sign in a free bit leaves the magnitude
magnitude-with_sign_free : (negative : Bool) (bs : List ℕ) → has_sign bs ≡ false → magnitude (with_sign negative bs) ≡ value bs
magnitude-with_sign_free negative [] h = refl
magnitude-with_sign_free negative (b ∷ []) h =
    let low : b < 128 = grind (arith, nat_tests, h) in
    ap magnitude (sign_in [] b negative low) ∙ alone negative low
  where
    alone : (n : Bool) → b < 128 → (b + cond n 128 0) % 128 ≡ b + 256 * 0
    alone true low = omega (arith, low)
    alone false low = omega (arith, low)
magnitude-with_sign_free negative (b ∷ c ∷ bs) h = more (with_sign negative (c ∷ bs)) (magnitude-with_sign_free negative (c ∷ bs) h) (length-with_sign_free negative (c ∷ bs) h)
  where
    more : (rest : List ℕ) → magnitude rest ≡ value (c ∷ bs) → length rest ≡ suc (length bs) → magnitude (b ∷ rest) ≡ b + 256 * value (c ∷ bs)
    more [] is count = absurd (omega (arith, count))
    more (d ∷ ds) is count = ap (λ n. b + 256 * n) is

-- and is there, after some byte
has_sign-with_sign_free : (negative : Bool) (bs : List ℕ) → has_sign bs ≡ false → 0 < length bs → has_sign (with_sign negative bs) ≡ negative
has_sign-with_sign_free negative [] h some = absurd (omega (arith, some))
has_sign-with_sign_free negative (b ∷ []) h some =
    let low : b < 128 = grind (arith, nat_tests, h) in
    ap has_sign (sign_in [] b negative low) ∙ alone negative low
  where
    alone : (n : Bool) → b < 128 → leb 128 (b + cond n 128 0) ≡ n
    alone true low = grind (arith, nat_tests)
    alone false low = grind (arith, nat_tests)
has_sign-with_sign_free negative (b ∷ c ∷ bs) h some = more (with_sign negative (c ∷ bs)) (has_sign-with_sign_free negative (c ∷ bs) h (omega arith)) (length-with_sign_free negative (c ∷ bs) h)
  where
    more : (rest : List ℕ) → has_sign rest ≡ negative → length rest ≡ suc (length bs) → has_sign (b ∷ rest) ≡ negative
    more [] is count = absurd (omega (arith, count))
    more (d ∷ ds) is count = is

nowhere : (s : List ℕ) (k : ℕ) → k ≡ 0 → length s ≤ 0 → has_sign (with_sign (has_sign s) (padded k (without_sign s))) ≡ has_sign s
nowhere [] k none empty = ap (λ n. has_sign (with_sign false (replicate (n - 0) 0))) none
nowhere (b ∷ bs) k none empty = absurd (omega (arith, empty))

pub of_width-HasWidth : (width : ℕ) (e : List ℕ) → IsBytes e → length (shortest e) ≤ width → HasWidth width (shortest e) (of_width width e)
of_width-HasWidth width e bytes fits = subst (HasWidth width s) (ap (with_sign (has_sign s)) same) (record {
  bytes = IsBytes-with_sign (has_sign s) (padded width ds) (rw same (IsBytes-places width (magnitude e)));
  count = length-of_width (has_sign s) width s fits;
  magnitude_is = magnitude-with_sign_free (has_sign s) (padded width ds) free ∙ value-padded (width - length ds) ds ∙ value-without_sign s;
  sign_is = by_width (cases_eq width 0);
})
  where
    s : List ℕ
    s = shortest e

    ds : List ℕ
    ds = without_sign s

    same : padded width ds ≡ places width (magnitude e)
    same = padded-without_sign width e bytes fits

    free : has_sign (padded width ds) ≡ false
    free = has_sign-padded width ds (has_sign-without_sign s)

    by_width : (width ≡ 0) ⊎ (width ≡ 0 → ⊥) → has_sign (with_sign (has_sign s) (padded width ds)) ≡ has_sign s
    by_width (inl none) = nowhere s width none (omega (arith, fits, none))
    by_width (inr some) = has_sign-with_sign_free (has_sign s) (padded width ds) free (let count = length-padded width ds (rw (length-without_sign s) fits) in omega (arith, some, count))
