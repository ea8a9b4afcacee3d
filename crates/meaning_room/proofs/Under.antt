-- What lies under the latest values of a stack.
use Rattle.std.proofs.Common.{◌≡◌, ℕ, ◌+◌, List, length, map, take, drop, sym, ap, ◌∙◌, arith}
use Rattle.std.specs.Prelude.{reverse}
use Rattle.std.proofs.lemmas.List.{reverse-append, length-reverse, length-map, map-append, drop_at, length-drop, take-append-drop}

turned_count : {A : Type 0} (f : A → List ℕ) (xs : List A) (n : ℕ) → length xs ≡ n → length (reverse (map f xs)) ≡ n
turned_count f xs n is = length-reverse (map f xs) ∙ length-map xs f ∙ is

-- what lies under the latest values
pub under_all : {A : Type 0} (f : A → List ℕ) (items : List A) (n k : ℕ) → n + k ≡ length items → reverse (map f (take n items)) ≡ drop k (reverse (map f items))
under_all f items n k is =
    let count : length (drop n items) ≡ k = omega (arith, length-drop n items, is) in
    sym (ap (λ l. drop k (reverse (map f l))) (sym (take-append-drop n items))
    ∙ ap (λ l. drop k (reverse l)) (map-append f (take n items) (drop n items))
    ∙ ap (drop k) (reverse-append (map f (take n items)) (map f (drop n items)))
    ∙ drop_at (reverse (map f (drop n items))) (reverse (map f (take n items))) k (turned_count f (drop n items) k count))
