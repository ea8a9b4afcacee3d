-- Lists that grow at their end, and lengths.
use Rattle.std.proofs.Common.{◌≡◌, ◌∙◌, ap, refl, ℕ, suc, ◌+◌, List, [], ◌∷◌, ◌++◌, map, length}
use Rattle.std.proofs.lemmas.List.{length-append}

pub grown : {A : Type 0} (xs : List A) (x : A) (at : ℕ) → length xs ≡ at → length (xs ++ x ∷ []) ≡ at + 1
grown xs x at here = length-append xs (x ∷ []) ∙ ap (λ n. n + 1) here

pub mapped : {A B : Type 0} (f : A → B) (xs : List A) → length (map f xs) ≡ length xs
mapped f [] = refl
mapped f (x ∷ xs) = ap suc (mapped f xs)
