-- Lists with some left out.
use Rattle.std.proofs.Common.{List, [], ◌∷◌, ◌++◌, map, inl, inr, refl, subst}
use Rattle.peephole.specs.Sublists.{Sublist}

pub sub_all : {A : Type 0} → (xs : List A) → Sublist xs xs
sub_all [] = refl
sub_all (x ∷ xs) = inr (xs, refl, sub_all xs)

sub_kept : {A : Type 0} → (z : A) (xs rest zs : List A) → ((us vs : List A) → Sublist us vs → Sublist vs zs → Sublist us zs) → Sublist xs (z ∷ rest) → Sublist rest zs → Sublist xs (z ∷ zs)
sub_kept z xs rest zs ih (inl s) k = inl (ih xs rest s k)
sub_kept z xs rest zs ih (inr s) k = inr (s.0, s.1, ih s.0 rest s.2 k)

sub_step : {A : Type 0} → (z : A) (xs ys zs : List A) → ((us vs : List A) → Sublist us vs → Sublist vs zs → Sublist us zs) → Sublist xs ys → Sublist ys (z ∷ zs) → Sublist xs (z ∷ zs)
sub_step z xs ys zs ih s (inl h) = inl (ih xs ys s h)
sub_step z xs ys zs ih s (inr h) = sub_kept z xs h.0 zs ih (subst (Sublist xs) h.1 s) h.2

pub sub_then : {A : Type 0} → (xs ys zs : List A) → Sublist xs ys → Sublist ys zs → Sublist xs zs
sub_then xs ys [] s h = subst (Sublist xs) h s
sub_then xs ys (z ∷ zs) s h = sub_step z xs ys zs (λ us vs. sub_then us vs zs) s h

pub sub_map_front : {A B : Type 0} → (f : A → B) (front xs ys : List A) → Sublist (map f xs) (map f ys) → Sublist (map f (front ++ xs)) (map f (front ++ ys))
sub_map_front f [] xs ys s = s
sub_map_front f (x ∷ front) xs ys s = inr (map f (front ++ xs), refl, sub_map_front f front xs ys s)

pub sub_map_skip : {A B : Type 0} → (f : A → B) (front xs : List A) → Sublist (map f xs) (map f (front ++ xs))
sub_map_skip f [] xs = sub_all (map f xs)
sub_map_skip f (x ∷ front) xs = inl (sub_map_skip f front xs)

pub sub_front : {A : Type 0} → (front xs ys : List A) → Sublist xs ys → Sublist (front ++ xs) (front ++ ys)
sub_front [] xs ys s = s
sub_front (x ∷ front) xs ys s = inr (front ++ xs, refl, sub_front front xs ys s)

pub sub_skip : {A : Type 0} → (front xs : List A) → Sublist xs (front ++ xs)
sub_skip [] xs = sub_all xs
sub_skip (x ∷ front) xs = inl (sub_skip front xs)

pub sub_none : {A : Type 0} → (ys : List A) → Sublist [] ys
sub_none [] = refl
sub_none (y ∷ ys) = inl (sub_none ys)
