-- A text is bytes.
use Rattle.std.proofs.Common.{ℕ, ◌<◌, ◌≤◌, ◌≡◌, ◌⊎◌, true, List, [], ◌∷◌, ◌++◌, inl, inr, subst, arith}
use Rattle.std.specs.Str.{IsUtf8}
use Rattle.std.proofs.lemmas.Bool.{ltb-true, and_parts, cond_both}
use lib.Dec.{ltb}
use lib.Utf8.{scalar, scalars, encode, encodes, scalar_cases}
use Rattle.cash_base.specs.Number.{IsBytes}

both : (xs ys : List ℕ) → IsBytes xs → IsBytes ys → IsBytes (xs ++ ys)
both [] ys h k = k
both (x ∷ xs) ys h k = (h.0, both xs ys h.1 k)

low : (c : ℕ) → (c < 55296) ⊎ ((57344 ≤ c) × (c < 1114112)) → c < 1114112
low c (inl h) = omega (arith, h)
low c (inr h) = h.1

-- the bytes of a character
encoded : (c : ℕ) → c < 1114112 → IsBytes (encode c)
unfolding encode
encoded c below =
    cond_both (ltb c 128) _ _ IsBytes (λ e. let h = ltb-true c 128 e in (omega (arith, h), tt)) (λ e.
    cond_both (ltb c 2048) _ _ IsBytes (λ e. let h = ltb-true c 2048 e in (omega (arith, h), (omega arith, tt))) (λ e.
    cond_both (ltb c 65536) _ _ IsBytes (λ e. let h = ltb-true c 65536 e in (omega (arith, h), (omega arith, (omega arith, tt)))) (λ e.
    (omega (arith, below), (omega arith, (omega arith, (omega arith, tt)))))))

all_encoded : (cs : List ℕ) → scalars cs ≡ true → IsBytes (encodes cs)
all_encoded [] is = tt
all_encoded (c ∷ cs) is =
    let parts = and_parts (scalar c) (scalars cs) is in
    both (encode c) (encodes cs) (encoded c (low c (scalar_cases c parts.0))) (all_encoded cs parts.1)

pub text_is_bytes : (source : List ℕ) → IsUtf8 source → IsBytes source
text_is_bytes source h = subst IsBytes h.1.1 (all_encoded h.0 h.1.0)
