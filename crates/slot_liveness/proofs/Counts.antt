-- How often a slot stands in a list.
use Rattle.std.proofs.Common.{◌≡◌, ℕ, suc, ◌+◌, ◌<◌, ◌≤◌, Bool, true, false, cond, not, List, [], ◌∷◌, ◌++◌, length, Some, None, IsSome, refl, sym, ap, ◌∙◌, subst, arith}
use Rattle.std.specs.Prelude.{◌==◌, ◌||◌, remove, filter, nat_lt}
use Rattle.std.specs.List.{position_or_len}
use Rattle.std.proofs.lemmas.Bool.{eqb-true, eq-eqb, false≢true, ltb-true, lt-ltb}
use Rattle.cash_base.specs.declared.place.Slot.{Slot}
use Rattle.slot_code.specs.Shape.{has, without}
use Rattle.slot_liveness.specs.Counts.{is_slot, count_of, place_of, less, IsOnce}

pub same_slot : (slot other : Slot) → is_slot slot other ≡ true → other ≡ slot
same_slot slot other e = ap (λ n. record { 0 = n }) (eqb-true other.0 slot.0 e)

pub is_itself : (slot : Slot) → is_slot slot slot ≡ true
is_itself slot = eq-eqb slot.0 slot.0 refl

-- what holds of a slot, and of each other
pub by_slot : (P : Slot → Type 0) (slot : Slot) → P slot → ((s : Slot) → is_slot slot s ≡ false → P s) → (s : Slot) → P s
by_slot P slot here there s = by (is_slot slot s) refl
  where
    by : (b : Bool) → is_slot slot s ≡ b → P s
    by true e = subst P (sym (same_slot slot s e)) here
    by false e = there s e

pub is_sym : (a b : Slot) → is_slot a b ≡ false → is_slot b a ≡ false
is_sym a b e = by (is_slot b a) refl
  where
    by : (c : Bool) → is_slot b a ≡ c → is_slot b a ≡ false
    by false k = k
    by true k = absurd (false≢true (sym e ∙ ap (λ n. n == a.0) (sym (eqb-true a.0 b.0 k)) ∙ is_itself a))

-- a slot that stands in a list has a place there
within : (b : Bool) (n m : ℕ) (k : Bool) → (k ≡ true → n < m) → (b || k) ≡ true → cond (not b) (1 + n) 0 < suc m
within true n m k h e = omega arith
within false n m k h e = let lt : n < m = h e in omega (arith, lt)

placed_below : (slot : Slot) (slots : List Slot) → has slot slots ≡ true → position_or_len (is_slot slot) slots < length slots
placed_below slot [] h = absurd (false≢true h)
placed_below slot (x ∷ xs) h =
    within (is_slot slot x) (position_or_len (is_slot slot) xs) (length xs) (has slot xs) (placed_below slot xs) h

pub placed : (slot : Slot) (slots : List Slot) → has slot slots ≡ true → IsSome (place_of slot slots)
placed slot slots h =
    let e = lt-ltb (position_or_len (is_slot slot) slots) (length slots) (placed_below slot slots h) in
    subst (λ b. IsSome (cond b (Some (position_or_len (is_slot slot) slots)) None)) (sym e) refl

remove_step : (b : Bool) (x : Slot) (xs ys : List Slot) (n : ℕ) → cond (not b) (1 + n) 0 < length (x ∷ xs) → (n < length xs → remove xs n ≡ ys) → remove (x ∷ xs) (cond (not b) (1 + n) 0) ≡ cond b xs (x ∷ ys)
remove_step true x xs ys n lt h = refl
remove_step false x xs ys n lt h =
    let e : 1 + n ≡ suc n = omega arith in
    ap (remove (x ∷ xs)) e ∙ ap (λ l. x ∷ l) (h (omega (arith, lt)))

remove_first : (slot : Slot) (slots : List Slot) → position_or_len (is_slot slot) slots < length slots → remove slots (position_or_len (is_slot slot) slots) ≡ less slot slots
remove_first slot [] lt = absurd (omega (arith, lt))
remove_first slot (x ∷ xs) lt = remove_step (is_slot slot x) x xs (less slot xs) (position_or_len (is_slot slot) xs) lt (remove_first slot xs)

pub found_at : (b : Bool) (n i : ℕ) → cond b (Some n) None ≡ Some i → (b ≡ true) × (n ≡ i)
found_at true n i e = (refl, cc)
found_at false n i e = cc

pub removed : (slot : Slot) (slots : List Slot) (i : ℕ) → place_of slot slots ≡ Some i → remove slots i ≡ less slot slots
removed slot slots i e =
    let n = position_or_len (is_slot slot) slots in
    let f = found_at (nat_lt n (length slots)) n i e in
    ap (remove slots) (sym f.1) ∙ remove_first slot slots (ltb-true n (length slots) f.0)

-- lists less a slot
pub less_none : (slot : Slot) (slots : List Slot) → has slot slots ≡ false → less slot slots ≡ slots
less_none slot [] h = refl
less_none slot (x ∷ xs) h = by (is_slot slot x) (less_none slot xs) h
  where
    by : (b : Bool) → (has slot xs ≡ false → less slot xs ≡ xs) → (b || has slot xs) ≡ false → cond b xs (x ∷ less slot xs) ≡ x ∷ xs
    by true ih e = absurd (false≢true (sym e))
    by false ih e = ap (λ l. x ∷ l) (ih e)

pub less_append : (slot : Slot) (a b : List Slot) → has slot a ≡ true → less slot (a ++ b) ≡ less slot a ++ b
less_append slot [] b h = absurd (false≢true h)
less_append slot (x ∷ xs) b h = by (is_slot slot x) (less_append slot xs b) h
  where
    by : (c : Bool) → (has slot xs ≡ true → less slot (xs ++ b) ≡ less slot xs ++ b) → (c || has slot xs) ≡ true → cond c (xs ++ b) (x ∷ less slot (xs ++ b)) ≡ cond c xs (x ∷ less slot xs) ++ b
    by true ih e = refl
    by false ih e = ap (λ l. x ∷ l) (ih e)

-- the first of its kind behind those less it
pub less_past : (slot : Slot) (a b : List Slot) → has slot a ≡ false → less slot (a ++ slot ∷ b) ≡ a ++ b
less_past slot [] b h = ap (λ t. cond t b (slot ∷ less slot b)) (is_itself slot)
less_past slot (x ∷ xs) b h = by (is_slot slot x) (less_past slot xs b) h
  where
    by : (c : Bool) → (has slot xs ≡ false → less slot (xs ++ slot ∷ b) ≡ xs ++ b) → (c || has slot xs) ≡ false → cond c (xs ++ slot ∷ b) (x ∷ less slot (xs ++ slot ∷ b)) ≡ x ∷ (xs ++ b)
    by true ih e = absurd (false≢true (sym e))
    by false ih e = ap (λ l. x ∷ l) (ih e)

-- counts
pub count_append : (s : Slot) (a b : List Slot) → count_of s (a ++ b) ≡ count_of s a + count_of s b
count_append s [] b = omega arith
count_append s (x ∷ a) b = let e = count_append s a b in omega (arith, e)

pub count_none : (s : Slot) (slots : List Slot) → has s slots ≡ false → count_of s slots ≡ 0
count_none s [] h = refl
count_none s (x ∷ xs) h = by (is_slot s x) (count_none s xs) h
  where
    by : (b : Bool) → (has s xs ≡ false → count_of s xs ≡ 0) → (b || has s xs) ≡ false → cond b 1 0 + count_of s xs ≡ 0
    by true ih e = absurd (false≢true (sym e))
    by false ih e = let k = ih e in omega (arith, k)

pub count_some : (s : Slot) (slots : List Slot) → has s slots ≡ true → 1 ≤ count_of s slots
count_some s [] h = absurd (false≢true h)
count_some s (x ∷ xs) h = by (is_slot s x) (count_some s xs) h
  where
    by : (b : Bool) → (has s xs ≡ true → 1 ≤ count_of s xs) → (b || has s xs) ≡ true → 1 ≤ cond b 1 0 + count_of s xs
    by true ih e = omega arith
    by false ih e = let k = ih e in omega (arith, k)

pub has_by_count : (s : Slot) (slots : List Slot) → 1 ≤ count_of s slots → has s slots ≡ true
has_by_count s slots h = by (has s slots) refl
  where
    by : (b : Bool) → has s slots ≡ b → has s slots ≡ true
    by true e = e
    by false e = absurd (omega (arith, h, count_none s slots e))

pub has_not : (s : Slot) (slots : List Slot) → count_of s slots ≡ 0 → has s slots ≡ false
has_not s slots h = by (has s slots) refl
  where
    by : (b : Bool) → has s slots ≡ b → has s slots ≡ false
    by false e = e
    by true e = absurd (omega (arith, h, count_some s slots e))

pub count_less : (slot : Slot) (slots : List Slot) → has slot slots ≡ true → count_of slot slots ≡ 1 + count_of slot (less slot slots)
count_less slot [] h = absurd (false≢true h)
count_less slot (x ∷ xs) h = by (is_slot slot x) refl (count_less slot xs) h
  where
    by : (b : Bool) → is_slot slot x ≡ b → (has slot xs ≡ true → count_of slot xs ≡ 1 + count_of slot (less slot xs)) → (b || has slot xs) ≡ true → cond b 1 0 + count_of slot xs ≡ 1 + count_of slot (cond b xs (x ∷ less slot xs))
    by true k ih e = refl
    by false k ih e =
        let f : count_of slot (x ∷ less slot xs) ≡ 0 + count_of slot (less slot xs) = ap (λ c. cond c 1 0 + count_of slot (less slot xs)) k in
        omega (arith, ih e, f)

pub count_others : (slot s : Slot) (slots : List Slot) → is_slot slot s ≡ false → count_of s (less slot slots) ≡ count_of s slots
count_others slot s [] ne = refl
count_others slot s (x ∷ xs) ne = by (is_slot slot x) refl (count_others slot s xs ne)
  where
    by : (b : Bool) → is_slot slot x ≡ b → count_of s (less slot xs) ≡ count_of s xs → count_of s (cond b xs (x ∷ less slot xs)) ≡ cond (is_slot s x) 1 0 + count_of s xs
    by true k ih =
        let f : is_slot s x ≡ false = ap (is_slot s) (same_slot slot x k) ∙ is_sym slot s ne in
        let g : ◌≡◌ {A = ℕ} (cond (is_slot s x) 1 0) 0 = ap (λ c. cond c 1 0) f in
        omega (arith, g)
    by false k ih = ap (λ n. cond (is_slot s x) 1 0 + n) ih

pub count_filter : (p : Slot → Bool) (s : Slot) (slots : List Slot) → count_of s (filter p slots) ≡ cond (p s) (count_of s slots) 0
count_filter p s [] = by (p s)
  where
    by : (b : Bool) → ◌≡◌ {A = ℕ} 0 (cond b 0 0)
    by true = refl
    by false = refl
count_filter p s (x ∷ xs) =
    by (is_slot s x) (p x) (p s) (λ e. ap p (same_slot s x e)) (count_filter p s xs) refl
  where
    by : (b c d : Bool) → (b ≡ true → c ≡ d) → count_of s (filter p xs) ≡ cond d (count_of s xs) 0 → is_slot s x ≡ b → count_of s (cond c (x ∷ filter p xs) (filter p xs)) ≡ cond d (cond (is_slot s x) 1 0 + count_of s xs) 0
    by true true true f ih e = ap (λ n. cond (is_slot s x) 1 0 + n) ih
    by true true false f ih e = absurd (false≢true (sym (f refl)))
    by true false true f ih e = absurd (false≢true (f refl))
    by true false false f ih e = ih
    by false true true f ih e = ap (λ n. cond (is_slot s x) 1 0 + n) ih
    by false true false f ih e =
        let k : ◌≡◌ {A = ℕ} (cond (is_slot s x) 1 0) 0 = ap (λ c. cond c 1 0) e in
        omega (arith, k, ih)
    by false false true f ih e =
        let k : ◌≡◌ {A = ℕ} (cond (is_slot s x) 1 0) 0 = ap (λ c. cond c 1 0) e in
        omega (arith, k, ih)
    by false false false f ih e = ih

pub gone : (slot : Slot) (slots : List Slot) → has slot slots ≡ true → count_of slot slots ≤ 1 → has slot (less slot slots) ≡ false
gone slot slots h once = has_not slot (less slot slots) (omega (arith, once, count_less slot slots h))

pub length_less : (slot : Slot) (slots : List Slot) → has slot slots ≡ true → length slots ≡ suc (length (less slot slots))
length_less slot [] h = absurd (false≢true h)
length_less slot (x ∷ xs) h = by (is_slot slot x) (length_less slot xs) h
  where
    by : (b : Bool) → (has slot xs ≡ true → length xs ≡ suc (length (less slot xs))) → (b || has slot xs) ≡ true → length (x ∷ xs) ≡ suc (length (cond b xs (x ∷ less slot xs)))
    by true ih e = refl
    by false ih e = ap suc (ih e)

-- where a slot stands at most once, one less is none
pub less_is : (slot : Slot) (slots : List Slot) → count_of slot slots ≤ 1 → less slot slots ≡ without slot slots
less_is slot [] h = refl
less_is slot (x ∷ xs) h = by (is_slot slot x) refl (less_is slot xs) h
  where
    none : (xs : List Slot) → count_of slot xs ≡ 0 → without slot xs ≡ xs
    none [] e = refl
    none (y ∷ ys) e = at (is_slot slot y) (none ys) e
      where
        at : (b : Bool) → (count_of slot ys ≡ 0 → without slot ys ≡ ys) → cond b 1 0 + count_of slot ys ≡ 0
            → cond (not b) (y ∷ without slot ys) (without slot ys) ≡ y ∷ ys
        at true ih f = absurd (omega (arith, f))
        at false ih f = ap (λ l. y ∷ l) (ih (omega (arith, f)))

    by : (b : Bool) → is_slot slot x ≡ b → (count_of slot xs ≤ 1 → less slot xs ≡ without slot xs) → cond b 1 0 + count_of slot xs ≤ 1
        → cond b xs (x ∷ less slot xs) ≡ cond (not b) (x ∷ without slot xs) (without slot xs)
    by true e ih f = sym (none xs (omega (arith, f)))
    by false e ih f = ap (λ l. x ∷ l) (ih (omega (arith, f)))
