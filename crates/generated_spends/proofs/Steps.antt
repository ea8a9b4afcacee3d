-- A statement by its choice, and what the first of several adds.
use Rattle.std.proofs.Common.{◌≡◌, ℕ, zero, suc, ◌-◌, false, List, [], ◌∷◌, ◌++◌, map, Vec, Global, refl, ap, ◌∙◌, codes, append_assoc, arith}
use Rattle.std.proofs.lemmas.Bool.{cond-false}
use Rattle.std.specs.Prelude.{◌==◌}
use Rattle.std.specs.Fmt.{decimal}
use Rattle.generated_spends.specs.Generated.{numbered, piece, pieces, spend, spends}

pub check_is : (choice number : ℕ) → (choice == 2) ≡ false → (choice == 3) ≡ false
    → numbered choice number ≡ codes "require(r != " ++ decimal number ++ codes "); "
unfolding numbered
check_is choice number two three = cond-false (choice == 2) _ _ two ∙ cond-false (choice == 3) _ _ three

pub choice_is : (number : ℕ) → numbered 3 number
    ≡ codes "if (b < c) { r = r + " ++ decimal number ++ codes "; } else { r = r - " ++ decimal number ++ codes "; } "
unfolding numbered
choice_is number = refl

pub pieces_more : (count x s : ℕ) (old mid new : List ℕ) → (count ≡ 0 → ⊥) → mid ≡ old ++ (piece x).value → s ≡ (piece x).state
    → new ≡ mid ++ (pieces (count - 1) s).value → new ≡ old ++ (pieces count x).value
unfolding pieces
pieces_more zero x s old mid new e m i n = absurd (e refl)
pieces_more (suc k) x s old mid new e m i n =
    let j : suc k - 1 ≡ k = omega arith in
    n ∙ ap (λ t. mid ++ (pieces t s).value) j ∙ ap (λ t. t ++ (pieces k s).value) m ∙ ap (λ t. (old ++ (piece x).value) ++ (pieces k t).value) i
    ∙ append_assoc old (piece x).value (pieces k (piece x).state).value

abbrev pub texts_of : List (Vec ℕ Global) → List (List ℕ)
texts_of spends = map (λ (text : Vec ℕ Global). text.items) spends

pub spends_more : (count x s : ℕ) (old mid new : List (List ℕ)) (text : List ℕ) → (count ≡ 0 → ⊥) → text ≡ (spend x).value → s ≡ (spend x).state
    → mid ≡ old ++ text ∷ [] → new ≡ mid ++ spends (count - 1) s → new ≡ old ++ spends count x
unfolding spends
spends_more zero x s old mid new text e t i m n = absurd (e refl)
spends_more (suc k) x s old mid new text e t i m n =
    let j : suc k - 1 ≡ k = omega arith in
    n ∙ ap (λ l. mid ++ spends l s) j ∙ ap (λ l. l ++ spends k s) m ∙ ap (λ l. (old ++ l ∷ []) ++ spends k s) t ∙ ap (λ l. (old ++ (spend x).value ∷ []) ++ spends k l) i
    ∙ append_assoc old ((spend x).value ∷ []) (spends k (spend x).state)
