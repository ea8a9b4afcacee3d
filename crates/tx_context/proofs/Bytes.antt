-- Bytes, by a test and as a fact of each.
use Rattle.std.proofs.Common.{◌≡◌, ℕ, suc, true, List, [], ◌∷◌, get_or, refl, Fits, w8, arith}
use Rattle.std.proofs.lemmas.Bool.{and_parts}
use Rattle.std.proofs.lemmas.Bool.Decides.{nat_tests}
use Rattle.std.specs.Prelude.{nat_lt}
use Rattle.cash_base.specs.Number.{IsBytes}
use Rattle.tx_context.specs.Bytes.{are_bytes}

-- the items of a slice of bytes
pub are_bytes_of : (bytes : List ℕ) → ((i : ℕ) → Fits w8 (get_or bytes i 0)) → are_bytes bytes ≡ true
are_bytes_of [] fits = refl
are_bytes_of (b ∷ bs) fits =
    let first = fits 0 in
    let rest = are_bytes_of bs (λ i. fits (suc i)) in
    grind (arith, nat_tests, first, rest)

pub IsBytes-from_test : (bytes : List ℕ) → are_bytes bytes ≡ true → IsBytes bytes
IsBytes-from_test [] h = tt
IsBytes-from_test (b ∷ bs) h =
    let parts : (nat_lt b 256 ≡ true) × (are_bytes bs ≡ true) = and_parts _ _ h in
    (grind (arith, nat_tests, parts.0), IsBytes-from_test bs parts.1)

pub test-from_IsBytes : (bytes : List ℕ) → IsBytes bytes → are_bytes bytes ≡ true
test-from_IsBytes [] h = refl
test-from_IsBytes (b ∷ bs) h =
    let rest = test-from_IsBytes bs h.1 in
    grind (arith, nat_tests, h.0, rest)
