-- A list with the last first.
use Rattle.std.proofs.Common.{◌≡◌, List, [], ◌∷◌, ◌++◌, length, map, refl}
use Rattle.std.specs.Prelude.{reverse}
use Rattle.std.proofs.lemmas.List.{reverse-append, length-reverse, length-map, map-append}

pub turned : {A B : Type 0} (f : A → B) (xs rest : List A) (x : A) → xs ≡ rest ++ x ∷ [] →
    reverse (map f xs) ≡ f x ∷ reverse (map f rest)
turned f xs rest x h = rw (h, map-append, reverse-append) refl

pub length_turned : {A B : Type 0} (f : A → B) (xs : List A) → length (reverse (map f xs)) ≡ length xs
length_turned f xs = rw (length-reverse, length-map) refl
