-- The first place in two lists, one after the other.
use Rattle.std.proofs.Common.{◌≡◌, ℕ, ◌+◌, Bool, List, [], ◌∷◌, ◌++◌, length, map, Some, None, arith}
use Rattle.std.specs.List.{position_from}

-- one in the first list is that of both
pub place_ahead : {A : Type 0} (p : A → Bool) (n : ℕ) (xs ys : List A) (i : ℕ) → position_from p n xs ≡ Some i →
    position_from p n (xs ++ ys) ≡ Some i
place_ahead p n [] ys i h = grind arith
place_ahead p n (x ∷ xs) ys i h = grind (arith, place_ahead p (n + 1) xs ys i)

-- where the first list has none, one of the second is counted after the first
pub counted_after : {X A : Type 0} (p : A → Bool) (f : X → A) (n : ℕ) (xs : List X) (ys : List A) →
    position_from p n (map f xs) ≡ None → position_from p n (map f xs ++ ys) ≡ position_from p (n + length xs) ys
counted_after p f n [] ys h = grind arith
counted_after p f n (x ∷ xs) ys h = grind (arith, counted_after p f (n + 1) xs ys)

pub place_after : {X A : Type 0} (p : A → Bool) (f : X → A) (xs : List X) (ys : List A) →
    position_from p 0 (map f xs) ≡ None → position_from p 0 (map f xs ++ ys) ≡ position_from p (length xs) ys
place_after p f xs ys h = grind (arith, counted_after p f 0 xs ys)
