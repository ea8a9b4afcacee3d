-- The places of names.
use Rattle.std.proofs.Common.{◌≡◌, ℕ, zero, suc, Bool, true, false, cond, eqb, ◌<◌, List, [], ◌∷◌, length, map, set, replicate, get_or, Some, None, refl, sym, ap, ◌∙◌, arith, inl, inr}
use Rattle.std.specs.Prelude.{if◌then◌else◌, ◌&&◌, nat_lt, is_some}
use Rattle.std.proofs.Math.Path.{fun_ext}
use Rattle.std.proofs.lemmas.List.{get_or-set_same, get_or-set_other, get_or_past}
use Rattle.std.proofs.lemmas.Bool.{cond-true, cond-false, eq-eqb, ne_eqb, lt-ltb, le-ltb, cases_eq, cases_lt}
use Rattle.cash_base.specs.declared.place.Slot.{Slot}
use Rattle.meaning_room.specs.Meaning.{Env, no_values, with_value, outside}
use Rattle.meaning_room.specs.Names.{Held, has_element, env_of}

no_place : (n i : ℕ) → get_or (replicate n false) i false ≡ false
no_place zero i = refl
no_place (suc n) zero = refl
no_place (suc n) (suc i) = no_place n i

-- no name has an element
pub none_known : (n : ℕ) (elements : List (List ℕ)) → env_of (replicate n false, elements) ≡ no_values
unfolding env_of has_element
none_known n elements = fun_ext (λ slot. ap (λ b. cond b (Some (get_or elements slot.0 [])) None) (no_place n slot.0))

same_map : {A : Type 0} (f : A → List ℕ) (xs : List A) (i : ℕ) (y : A) → map f (set xs i y) ≡ set (map f xs) i (f y)
same_map f [] i y = refl
same_map f (x ∷ xs) zero y = refl
same_map f (x ∷ xs) (suc i) y = ap (λ l. f x ∷ l) (same_map f xs i y)

given_at : (known : List Bool) (elements : List (List ℕ)) (i : ℕ) (slot : Slot) (e : List ℕ) → i ≡ slot.0 → i < length known → i < length elements → (other : Slot)
    → env_of (set known i true, set elements i e) other ≡ with_value slot e (env_of (known, elements)) other
unfolding env_of has_element
given_at known elements i slot e is within inside other = elim (cases_eq other.0 i) [
  | inl same ↦
      ap (λ k. cond (get_or (set known i true) k false) (Some (get_or (set elements i e) k [])) None) same
      ∙ ap (λ b. cond b (Some (get_or (set elements i e) i [])) None) (get_or-set_same known i true false within)
      ∙ ap Some (get_or-set_same elements i e [] inside)
      ∙ sym (cond-true (eqb other.0 slot.0) (Some e) (env_of (known, elements) other) (eq-eqb other.0 slot.0 (same ∙ is)))
  | inr differs ↦
      ap (λ b. cond b (Some (get_or (set elements i e) other.0 [])) None) (get_or-set_other known i other.0 true false differs)
      ∙ ap (λ x. cond (get_or known other.0 false) (Some x) None) (get_or-set_other elements i other.0 e [] differs)
      ∙ sym (cond-false (eqb other.0 slot.0) (Some e) (env_of (known, elements) other) (ne_eqb other.0 slot.0 (λ q. differs (q ∙ sym is))))
]

-- one name is given an element
pub one_given : {A : Type 0} (f : A → List ℕ) (known : List Bool) (elements : List A) (i : ℕ) (slot : Slot) (e : A) → i ≡ slot.0 → i < length known → i < length (map f elements)
    → env_of (set known i true, map f (set elements i e)) ≡ with_value slot (f e) (env_of (known, map f elements))
one_given f known elements i slot e is within inside =
    ap (λ l. env_of (set known i true, l)) (same_map f elements i e) ∙ fun_ext (given_at known (map f elements) i slot (f e) is within inside)

is_marked : (known : Bool) (e : List ℕ) (A : Type 0) (x y : A) → cond (is_some (cond known (Some e) None)) x y ≡ cond known x y
is_marked true e A x y = refl
is_marked false e A x y = refl

-- a mark tells which names had an element
pub outside_marked : (held : Held) (after : Env) → outside (env_of held) after ≡ (λ slot. if has_element held.0 slot then after slot else None)
unfolding env_of
outside_marked held after = fun_ext (λ slot. is_marked (has_element held.0 slot) (get_or held.1 slot.0 []) _ (after slot) None)

-- ---- a cut

-- a place of a list that is cut by another up to this one
abbrev pub cut_at : ℕ → List Bool → List Bool → ℕ → Bool
cut_at place known mark j = if nat_lt j place then get_or known j false && get_or mark j false else get_or known j false

both_cut : (known mark : Bool) (e : List ℕ) → cond (known && mark) (Some e) None ≡ cond mark (cond known (Some e) None) None
both_cut true true e = refl
both_cut true false e = refl
both_cut false true e = refl
both_cut false false e = refl

-- all places are cut
pub cut_whole : (known before mark : List Bool) (elements : List (List ℕ)) → length before ≡ 160 → length mark ≡ 160 → ((j : ℕ) → get_or known j false ≡ cut_at 160 before mark j)
    → env_of (known, elements) ≡ (λ slot. if has_element mark slot then env_of (before, elements) slot else None)
unfolding env_of has_element
cut_whole known before mark elements count same are = fun_ext (λ slot. elim (cases_lt slot.0 160) [
  | inl less ↦
      ap (λ b. cond b (Some (get_or elements slot.0 [])) None) (are slot.0 ∙ cond-true (nat_lt slot.0 160) _ (get_or before slot.0 false) (lt-ltb slot.0 160 less))
      ∙ both_cut (get_or before slot.0 false) (get_or mark slot.0 false) (get_or elements slot.0 [])
  | inr more ↦
      ap (λ b. cond b (Some (get_or elements slot.0 [])) None) (are slot.0 ∙ cond-false (nat_lt slot.0 160) _ (get_or before slot.0 false) (le-ltb slot.0 160 more) ∙ get_or_past before slot.0 false (omega (arith, count, more)))
      ∙ sym (ap (λ b. cond b (cond (get_or before slot.0 false) (Some (get_or elements slot.0 [])) None) None) (get_or_past mark slot.0 false (omega (arith, same, more))))
])
