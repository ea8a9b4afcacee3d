-- Slots in lists, and how often.
use Rattle.std.proofs.Common.{◌≡◌, ℕ, suc, ◌+◌, ◌<◌, ◌≤◌, Bool, true, false, cond, not, List, [], ◌∷◌, ◌++◌, length, take, drop, Some, None, IsSome, refl, sym, ap, ◌∙◌, subst, get_or, drop-cons, arith}
use Rattle.std.specs.Prelude.{◌||◌, ◌&&◌, filter}
use Rattle.std.specs.List.{list_all, position_or_len}
use Rattle.std.proofs.lemmas.Bool.{eqb-true, eq-eqb, false≢true, lt-ltb, and_parts}
use Rattle.std.proofs.lemmas.List.{take-append-drop}
use Rattle.std.proofs.lemmas.List.Quantifiers.{position-Some}
use Rattle.cash_base.specs.declared.place.Slot.{Slot}
use Rattle.branch_layout.specs.Slots.{is_slot, has, are_distinct, all_stand_in, kept_of, count_of, place_of}

pub same_slot : (slot other : Slot) → is_slot slot other ≡ true → other ≡ slot
same_slot slot other e = ap (λ n. record { 0 = n }) (eqb-true other.0 slot.0 e)

pub is_itself : (slot : Slot) → is_slot slot slot ≡ true
is_itself slot = eq-eqb slot.0 slot.0 refl

-- ---- the place of a slot

within : (b : Bool) (n m : ℕ) (k : Bool) → (k ≡ true → n < m) → (b || k) ≡ true → cond (not b) (1 + n) 0 < suc m
within true n m k h e = omega arith
within false n m k h e = let lt : n < m = h e in omega (arith, lt)

placed_below : (slot : Slot) (slots : List Slot) → has slots slot ≡ true
    → position_or_len (is_slot slot) slots < length slots
placed_below slot [] h = absurd (false≢true h)
placed_below slot (x ∷ xs) h =
    within (is_slot slot x) (position_or_len (is_slot slot) xs) (length xs) (has xs slot) (placed_below slot xs) h

pub placed : (slot : Slot) (slots : List Slot) → has slots slot ≡ true → IsSome (place_of slot slots)
placed slot slots h =
    let e = lt-ltb (position_or_len (is_slot slot) slots) (length slots) (placed_below slot slots h) in
    subst (λ b. IsSome (cond b (Some (position_or_len (is_slot slot) slots)) None)) (sym e) refl

-- what a place says of its list
pub record IsPlace (slot : Slot) (slots : List Slot) (at : ℕ) : Type 0 where
  pub inside : at < length slots
  pub split : slots ≡ take at slots ++ slot ∷ drop (suc at) slots

pub at_place : (slot : Slot) (slots : List Slot) (at : ℕ) → place_of slot slots ≡ Some at → IsPlace slot slots at
at_place slot slots at e =
    let f = position-Some (is_slot slot) slots at slot e in
    let here : get_or slots at slot ≡ slot = same_slot slot (get_or slots at slot) f.1 in
    record {
      inside = f.0;
      split = sym (take-append-drop at slots) ∙ ap (λ l. take at slots ++ l) (drop-cons slots at slot f.0)
          ∙ ap (λ x. take at slots ++ x ∷ drop (suc at) slots) here;
    }

-- ---- counts

pub count_append : (s : Slot) (a b : List Slot) → count_of s (a ++ b) ≡ count_of s a + count_of s b
count_append s [] b = omega arith
count_append s (x ∷ a) b = let e = count_append s a b in omega (arith, e)

pub count_none : (s : Slot) (slots : List Slot) → has slots s ≡ false → count_of s slots ≡ 0
count_none s [] h = refl
count_none s (x ∷ xs) h = by (is_slot s x) (count_none s xs) h
  where
    by : (b : Bool) → (has xs s ≡ false → count_of s xs ≡ 0) → (b || has xs s) ≡ false → cond b 1 0 + count_of s xs ≡ 0
    by true ih e = absurd (false≢true (sym e))
    by false ih e = let k = ih e in omega (arith, k)

pub has_by_count : (s : Slot) (slots : List Slot) → 1 ≤ count_of s slots → has slots s ≡ true
has_by_count s slots h = by (has slots s) refl
  where
    by : (b : Bool) → has slots s ≡ b → has slots s ≡ true
    by true e = e
    by false e = absurd (omega (arith, h, count_none s slots e))

pub none_counted : (slots : List Slot) → ((s : Slot) → count_of s slots ≡ 0) → slots ≡ []
none_counted [] h = refl
none_counted (x ∷ xs) h =
    let k : ◌≡◌ {A = ℕ} (cond (is_slot x x) 1 0) 1 = ap (λ b. cond b 1 0) (is_itself x) in
    absurd (omega (arith, k, h x))

-- a slot of a list in which none stands twice stands there once
pub count_distinct : (s : Slot) (slots : List Slot) → are_distinct slots ≡ true → count_of s slots ≡ cond (has slots s) 1 0
count_distinct s [] d = refl
count_distinct s (x ∷ xs) d =
    let parts = and_parts (not (has xs x)) (are_distinct xs) d in
    by (is_slot s x) refl (has xs s) refl parts.0 (count_distinct s xs parts.1)
  where
    by : (b : Bool) → is_slot s x ≡ b → (h : Bool) → has xs s ≡ h → not (has xs x) ≡ true → count_of s xs ≡ cond (has xs s) 1 0
        → cond b 1 0 + count_of s xs ≡ cond (b || has xs s) 1 0
    by true e true h new ih =
        absurd (false≢true (sym (ap not (ap (has xs) (same_slot s x e) ∙ h)) ∙ new))
    by true e false h new ih =
        let none = count_none s xs h in omega (arith, none)
    by false e k h new ih = omega (arith, ih)

-- ---- what is kept

pub has_filter : (p : Slot → Bool) (slots : List Slot) (s : Slot) → has (filter p slots) s ≡ (p s && has slots s)
has_filter p [] s = by (p s)
  where
    by : (b : Bool) → false ≡ (b && false)
    by true = refl
    by false = refl
has_filter p (x ∷ xs) s = by (is_slot s x) refl (p x) refl (p s) refl (has_filter p xs s)
  where
    by : (b : Bool) → is_slot s x ≡ b → (c : Bool) → p x ≡ c → (d : Bool) → p s ≡ d → has (filter p xs) s ≡ (d && has xs s)
        → has (cond c (x ∷ filter p xs) (filter p xs)) s ≡ (d && (b || has xs s))
    by true e true f true g ih = ap (λ t. t || has (filter p xs) s) e
    by true e true f false g ih = absurd (false≢true (sym g ∙ ap p (sym (same_slot s x e)) ∙ f))
    by true e false f true g ih = absurd (false≢true (sym f ∙ ap p (same_slot s x e) ∙ g))
    by true e false f false g ih = ih
    by false e true f d g ih = ap (λ t. t || has (filter p xs) s) e ∙ ih
    by false e false f d g ih = ih

pub distinct_filter : (p : Slot → Bool) (slots : List Slot) → are_distinct slots ≡ true
    → are_distinct (filter p slots) ≡ true
distinct_filter p [] d = refl
distinct_filter p (x ∷ xs) d =
    let parts = and_parts (not (has xs x)) (are_distinct xs) d in
    by (p x) (has xs x) refl parts.0 (distinct_filter p xs parts.1)
  where
    none : (b : Bool) → false ≡ (b && false)
    none true = refl
    none false = refl

    by : (c : Bool) (h : Bool) → has xs x ≡ h → not (has xs x) ≡ true → are_distinct (filter p xs) ≡ true
        → are_distinct (cond c (x ∷ filter p xs) (filter p xs)) ≡ true
    by true true h new ih = absurd (false≢true (sym (ap not h) ∙ new))
    by true false h new ih =
        ap (λ t. not t && are_distinct (filter p xs)) (has_filter p xs x ∙ ap (λ t. p x && t) h ∙ sym (none (p x))) ∙ ih
    by false k h new ih = ih

stands : (p : Slot → Bool) (slots : List Slot) (s : Slot) → list_all p slots ≡ true → has slots s ≡ true → p s ≡ true
stands p [] s all h = absurd (false≢true h)
stands p (x ∷ xs) s all h =
    let parts = and_parts (p x) (list_all p xs) all in
    by (is_slot s x) refl parts.0 (stands p xs s parts.1) h
  where
    by : (b : Bool) → is_slot s x ≡ b → p x ≡ true → (has xs s ≡ true → p s ≡ true) → (b || has xs s) ≡ true → p s ≡ true
    by true e here rest h = ap p (sym (same_slot s x e)) ∙ here
    by false e here rest h = rest h

-- exactly the slots that are kept are left
pub has_kept : (keep layout : List Slot) → all_stand_in keep layout ≡ true → (s : Slot)
    → has (kept_of keep layout) s ≡ has keep s
has_kept keep layout all s = has_filter (has keep) layout s ∙ by (has keep s) (stands (has layout) keep s all)
  where
    by : (b : Bool) → (b ≡ true → has layout s ≡ true) → (b && has layout s) ≡ b
    by true h = h refl
    by false h = refl

-- two layouts keep each slot as often
pub same_counts : (keep a b : List Slot) → are_distinct a ≡ true → are_distinct b ≡ true → all_stand_in keep a ≡ true
    → all_stand_in keep b ≡ true → (s : Slot) → count_of s (kept_of keep b) ≡ count_of s (kept_of keep a)
same_counts keep a b da db ka kb s =
    count_distinct s (kept_of keep b) (distinct_filter (has keep) b db)
    ∙ ap (λ t. cond t 1 0) (has_kept keep b kb s ∙ sym (has_kept keep a ka s))
    ∙ sym (count_distinct s (kept_of keep a) (distinct_filter (has keep) a da))
