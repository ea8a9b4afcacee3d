-- The sign, at the end of the digits.
use Rattle.std.proofs.Common.{◌≡◌, ℕ, ◌+◌, ◌<◌, ◌≤◌, Bool, cond, eqb, suc, zero, ◌-◌, ◌/◌, ◌%◌, ◌≢◌, List, [], ◌∷◌, ◌++◌, refl, sym, ◌∙◌, ap, arith, append_assoc, append-nil}
use Rattle.std.proofs.lemmas.Bool.{lt-ltb, le-ltb, ne_eqb, cond-false}
use Rattle.cash_base.specs.Number.{with_sign, digits}

-- a digit more
pub digits_step : (places n : ℕ) → n ≢ 0 → digits (suc places) n ≡ (n % 256) ∷ digits places (n / 256)
unfolding digits
digits_step places n h = cond-false (eqb n 0) [] _ (ne_eqb n 0 h)

-- none is left, or no place
pub digits_ended : (front whole : List ℕ) (places n : ℕ) → digits places n ≡ [] → front ++ digits places n ≡ whole → front ≡ whole
digits_ended front whole places n none left = sym (append-nil front) ∙ ap (λ l. front ++ l) (sym none) ∙ left

pub digits_zero : (places n : ℕ) → n ≡ 0 → digits places n ≡ []
unfolding digits
digits_zero zero n h = refl
digits_zero (suc places) n h = ap (λ m. cond (eqb m 0) [] ((m % 256) ∷ digits places (m / 256))) h

pub digits_nowhere : (places n : ℕ) → places ≡ 0 → digits places n ≡ []
unfolding digits
digits_nowhere zero n h = refl
digits_nowhere (suc places) n h = absurd (omega (arith, h))

pub digits_pushed : (front new whole : List ℕ) (i n : ℕ) → i < 8 → n ≢ 0 → new ≡ front ++ (n % 256) ∷ [] → front ++ digits (8 - i) n ≡ whole → new ++ digits (8 - (i + 1)) (n / 256) ≡ whole
digits_pushed front new whole i n within h pushed left =
    let places : 8 - i ≡ suc (8 - (i + 1)) = omega arith in
    let step = ap (λ p. digits p n) places ∙ digits_step (8 - (i + 1)) n h in
    ap (λ l. l ++ digits (8 - (i + 1)) (n / 256)) pushed ∙ append_assoc front _ _ ∙ ap (λ l. front ++ l) (sym step) ∙ left

pub sign_in : (front : List ℕ) (top : ℕ) (negative : Bool) → top < 128 → with_sign negative (front ++ top ∷ []) ≡ front ++ (top + cond negative 128 0) ∷ []
sign_in [] top negative h = ap (λ b. cond b ((top + cond negative 128 0) ∷ []) (top ∷ cond negative 128 0 ∷ [])) (lt-ltb top 128 h)
sign_in (x ∷ []) top negative h = ap (λ l. x ∷ l) (sign_in [] top negative h)
sign_in (x ∷ y ∷ front) top negative h = ap (λ l. x ∷ l) (sign_in (y ∷ front) top negative h)

pub sign_after : (front : List ℕ) (top : ℕ) (negative : Bool) → 128 ≤ top → with_sign negative (front ++ top ∷ []) ≡ front ++ top ∷ cond negative 128 0 ∷ []
sign_after [] top negative h = ap (λ b. cond b ((top + cond negative 128 0) ∷ []) (top ∷ cond negative 128 0 ∷ [])) (le-ltb top 128 h)
sign_after (x ∷ []) top negative h = ap (λ l. x ∷ l) (sign_after [] top negative h)
sign_after (x ∷ y ∷ front) top negative h = ap (λ l. x ∷ l) (sign_after (y ∷ front) top negative h)

-- where the last of the digits is known
pub sign_in_top : (digits front : List ℕ) (top sign : ℕ) (negative : Bool) → digits ≡ front ++ top ∷ [] → top < 128 → sign ≡ cond negative 128 0 → front ++ (top + sign) ∷ [] ≡ with_sign negative digits
sign_in_top digits front top sign negative is low bit = ap (λ s. front ++ (top + s) ∷ []) bit ∙ sym (ap (with_sign negative) is ∙ sign_in front top negative low)

pub sign_after_top : (digits front : List ℕ) (top sign : ℕ) (negative : Bool) → digits ≡ front ++ top ∷ [] → 128 ≤ top → sign ≡ cond negative 128 0 → (front ++ top ∷ []) ++ sign ∷ [] ≡ with_sign negative digits
sign_after_top digits front top sign negative is high bit =
    append_assoc front (top ∷ []) (sign ∷ []) ∙ ap (λ s. front ++ top ∷ s ∷ []) bit ∙ sym (ap (with_sign negative) is ∙ sign_after front top negative high)
