-- How many bytes written digits take, and that they are bytes.
use Rattle.std.proofs.Common.{◌≡◌, ℕ, zero, suc, ◌/◌, ◌%◌, ◌<◌, ◌≤◌, Bool, true, false, List, [], ◌∷◌, ◌++◌, length, sym, ap, ◌∙◌, arith, ◌⊎◌, inl, inr, subst, length-append, cond, eqb}
use Rattle.std.specs.Int.{is_negative}
use Rattle.std.specs.Prelude.{ℤ, unsigned_abs}
use Rattle.std.proofs.lemmas.Bool.{cases_lt}
use Rattle.cash_base.specs.Number.{digits, with_sign, minimal_bytes, IsBytes}
use Rattle.cash_base.specs.Element.{IsElement}
use Rattle.cash_base.proofs.Writing.{sign_in, sign_after}
use Rattle.cash_base.proofs.Laws.{with_sign_short}

pub with_sign_longer : (negative : Bool) (ds : List ℕ) → length (with_sign negative ds) ≤ suc (length ds)
with_sign_longer negative [] = omega arith
with_sign_longer negative (d ∷ ds) = with_sign_short negative d ds

pub IsBytes-digits : (k n : ℕ) → IsBytes (digits k n)
unfolding digits
IsBytes-digits zero n = tt
IsBytes-digits (suc k) n = by_size (eqb n 0) (IsBytes-digits k (n / 256))
  where
    by_size : (t : Bool) → IsBytes (digits k (n / 256)) → IsBytes (cond t [] ((n % 256) ∷ digits k (n / 256)))
    by_size true ih = tt
    by_size false ih = (omega arith, ih)

pub IsBytes-with_sign : (negative : Bool) (ds : List ℕ) → IsBytes ds → IsBytes (with_sign negative ds)
IsBytes-with_sign negative [] bytes = bytes
IsBytes-with_sign negative (d ∷ []) bytes = by_size negative (cases_lt d 128)
  where
    by_size : (n : Bool) → (d < 128) ⊎ (128 ≤ d) → IsBytes (with_sign n (d ∷ []))
    by_size true (inl low) = subst IsBytes (sym (sign_in [] d true low)) (omega (arith, low), tt)
    by_size false (inl low) = subst IsBytes (sym (sign_in [] d false low)) (omega (arith, low), tt)
    by_size true (inr high) = subst IsBytes (sym (sign_after [] d true high)) (bytes.0, (omega arith, tt))
    by_size false (inr high) = subst IsBytes (sym (sign_after [] d false high)) (bytes.0, (omega arith, tt))
IsBytes-with_sign negative (d ∷ c ∷ ds) bytes = (bytes.0, IsBytes-with_sign negative (c ∷ ds) bytes.1)

-- where the sign stands in a byte of its own
pub room_after : (negative : Bool) (ds front : List ℕ) (top : ℕ) → ds ≡ front ++ top ∷ [] → 128 ≤ top → length (with_sign negative ds) ≤ 520 → length front ≤ 518
room_after negative ds front top is high fits =
    let e : length (with_sign negative ds) ≡ length (front ++ top ∷ cond negative 128 0 ∷ []) = ap (λ l. length (with_sign negative l)) is ∙ ap length (sign_after front top negative high) in
    omega (arith, fits, e, length-append front (top ∷ cond negative 128 0 ∷ []))

length-digits : (k n : ℕ) → length (digits k n) ≤ k
unfolding digits
length-digits zero n = omega arith
length-digits (suc k) n = by_size (eqb n 0) (length-digits k (n / 256))
  where
    by_size : (t : Bool) → length (digits k (n / 256)) ≤ k → length (cond t [] ((n % 256) ∷ digits k (n / 256))) ≤ suc k
    by_size true ih = omega arith
    by_size false ih = omega (arith, ih)

pub minimal_bytes-IsElement : (n : ℤ) → IsElement (minimal_bytes n)
minimal_bytes-IsElement n =
    let ds : List ℕ = digits 8 (unsigned_abs n) in
    let few = length-digits 8 (unsigned_abs n) in
    let short = with_sign_longer (is_negative n) ds in
    record {
      size = omega (arith, few, short);
      bytes = IsBytes-with_sign (is_negative n) ds (IsBytes-digits 8 (unsigned_abs n));
    }
