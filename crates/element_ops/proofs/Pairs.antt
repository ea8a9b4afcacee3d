-- Elements byte by byte.
use Rattle.std.proofs.Common.{◌≡◌, ℕ, suc, ◌+◌, ◌<◌, ◌≤◌, List, [], ◌∷◌, ◌++◌, length, drop, get_or, refl, sym, ap, ◌∙◌, add-one, drop-cons, append_assoc, append-nil}
use Rattle.std.proofs.lemmas.List.{drop_all}
use Rattle.element_ops.specs.Operation.{pairwise}

-- one byte of each more
pub pairwise_more : (f : ℕ → ℕ → ℕ) (a b front whole : List ℕ) (i : ℕ) → i < length a → i < length b → front ++ pairwise f (drop i a) (drop i b) ≡ whole → (front ++ f (get_or a i 0) (get_or b i 0) ∷ []) ++ pairwise f (drop (i + 1) a) (drop (i + 1) b) ≡ whole
pairwise_more f a b front whole i in_a in_b left =
    let step : pairwise f (drop i a) (drop i b) ≡ f (get_or a i 0) (get_or b i 0) ∷ pairwise f (drop (suc i) a) (drop (suc i) b) = rw (drop-cons a i 0, drop-cons b i 0) refl in
    rw add-one (append_assoc front _ _ ∙ ap (λ l. front ++ l) (sym step) ∙ left)

-- none is left
pub pairwise_ended : (f : ℕ → ℕ → ℕ) (a b front whole : List ℕ) (i : ℕ) → length a ≤ i → front ++ pairwise f (drop i a) (drop i b) ≡ whole → front ≡ whole
pairwise_ended f a b front whole i end left =
    let none : drop i a ≡ [] = drop_all i a end in
    sym (append-nil front) ∙ ap (λ l. front ++ pairwise f l (drop i b)) (sym none) ∙ left
