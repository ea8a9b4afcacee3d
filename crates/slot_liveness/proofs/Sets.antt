-- Layouts that have the kept names in scope.
use Rattle.std.proofs.Common.{◌≡◌, ℕ, ◌+◌, ◌≤◌, Bool, true, false, cond, not, List, [], ◌∷◌, ◌++◌, length, refl, sym, ap, ◌∙◌, subst, arith}
use Rattle.std.specs.Prelude.{◌||◌, ◌&&◌, filter}
use Rattle.std.proofs.lemmas.Bool.{false≢true, ltb-true, lt-ltb}
use Rattle.cash_base.specs.declared.place.Slot.{Slot}
use Rattle.slot_code.specs.Shape.{has}
use Rattle.slot_liveness.specs.Live.{Slots, kept, either, all_later, kept_count}
use Rattle.slot_liveness.specs.Counts.{is_slot, count_of, less, IsOnce, IsTight}
use Rattle.slot_liveness.proofs.Counts.{length_less, is_itself, same_slot, is_sym, by_slot, less_none, count_append, count_none, count_some, has_by_count, has_not, count_less, count_others, count_filter}

pub at_itself : (slot : Slot) (rest : List Slot) → count_of slot (slot ∷ rest) ≡ 1 + count_of slot rest
at_itself slot rest = ap (λ b. cond b 1 0 + count_of slot rest) (is_itself slot)

pub at_other : (slot s : Slot) (rest : List Slot) → is_slot slot s ≡ false → count_of s (slot ∷ rest) ≡ count_of s rest
at_other slot s rest ne =
    let e : count_of s (slot ∷ rest) ≡ 0 + count_of s rest = ap (λ b. cond b 1 0 + count_of s rest) (is_sym slot s ne) in
    omega (arith, e)

-- a list has no more than another, where it has none more often
pub fits : (a b : List Slot) → ((s : Slot) → count_of s a ≤ count_of s b) → length a ≤ length b
fits [] b h = omega arith
fits (x ∷ a) b h =
    let k = has_by_count x b (omega (arith, h x, at_itself x a)) in
    let ih = fits a (less x b) (by_slot (λ s. count_of s a ≤ count_of s (less x b)) x
    (omega (arith, h x, at_itself x a, count_less x b k))
    (λ s ne. omega (arith, h s, at_other x s a ne, count_others x s b ne))) in
    omega (arith, ih, length_less x b k)

pub gated : (b : Bool) (n : ℕ) → cond b n 0 ≤ n
gated true n = omega arith
gated false n = omega arith

pub tight_within : (keeps : Slots) (scope layout : List Slot) → IsTight keeps scope layout → (s : Slot) → count_of s layout ≤ count_of s scope
tight_within keeps scope layout t s = omega (arith, t s, gated (keeps s) (count_of s scope))

pub tight_once : (keeps : Slots) (scope layout : List Slot) → IsTight keeps scope layout → IsOnce scope → IsOnce layout
tight_once keeps scope layout t once s = omega (arith, tight_within keeps scope layout t s, once s)

pub tight_has : (keeps : Slots) (scope layout : List Slot) (s : Slot) → IsTight keeps scope layout → keeps s ≡ true → has s scope ≡ true → has s layout ≡ true
tight_has keeps scope layout s t k h =
    has_by_count s layout (omega (arith, t s, ap (λ b. cond b (count_of s scope) 0) k, count_some s scope h))

pub tight_not : (keeps : Slots) (scope layout : List Slot) (s : Slot) → IsTight keeps scope layout → has s scope ≡ false → has s layout ≡ false
tight_not keeps scope layout s t h =
    has_not s layout (omega (arith, tight_within keeps scope layout t s, count_none s scope h))

-- what is less a slot
less_count : (slot : Slot) (slots : List Slot) → count_of slot slots ≤ 1 → count_of slot (less slot slots) ≡ 0
less_count slot slots once = by (has slot slots) refl
  where
    by : (b : Bool) → has slot slots ≡ b → count_of slot (less slot slots) ≡ 0
    by true h = omega (arith, once, count_less slot slots h)
    by false h = ap (count_of slot) (less_none slot slots h) ∙ count_none slot slots h

pub once_less : (slot : Slot) (slots : List Slot) → IsOnce slots → IsOnce (less slot slots)
once_less slot slots once =
    by_slot (λ s. count_of s (less slot slots) ≤ 1) slot (omega (arith, less_count slot slots (once slot)))
    (λ s ne. omega (arith, count_others slot s slots ne, once s))

pub once_more : (slot : Slot) (slots : List Slot) → IsOnce slots → has slot slots ≡ false → IsOnce (slots ++ slot ∷ [])
once_more slot slots once none =
    by_slot (λ s. count_of s (slots ++ slot ∷ []) ≤ 1) slot
    (omega (arith, count_append slot slots (slot ∷ []), at_itself slot [], count_none slot slots none))
    (λ s ne. omega (arith, count_append s slots (slot ∷ []), at_other slot s [] ne, once s))

-- a read
pub tight_get : (slot : Slot) (reads later hold : Slots) (scope layout next : List Slot) (b : Bool) → reads slot ≡ true → ((s : Slot) → is_slot slot s ≡ false → reads s ≡ false) → IsTight (kept (either reads later) hold) scope layout → IsOnce scope → b ≡ kept later hold slot → next ≡ cond b layout (less slot layout) → IsTight (kept later hold) scope next
tight_get slot reads later hold scope layout next b r r' t once eb e =
    by_slot (λ s. count_of s next ≡ cond (kept later hold s) (count_of s scope) 0) slot (here b eb e) (λ s ne. ap (count_of s) e ∙ there s ne b ∙ t s ∙ ap (λ x. cond ((x || later s) || hold s) (count_of s scope) 0) (r' s ne))
  where
    n : ℕ
    n = count_of slot scope

    all : count_of slot layout ≡ n
    all = t slot ∙ ap (λ x. cond ((x || later slot) || hold slot) n 0) r

    here : (b : Bool) → b ≡ kept later hold slot → next ≡ cond b layout (less slot layout) → count_of slot next ≡ cond (kept later hold slot) n 0
    here true k f = ap (count_of slot) f ∙ all ∙ ap (λ x. cond x n 0) k
    here false k f =
        ap (count_of slot) f ∙ less_count slot layout (omega (arith, all, once slot)) ∙ ap (λ x. cond x n 0) k

    there : (s : Slot) → is_slot slot s ≡ false → (b : Bool) → count_of s (cond b layout (less slot layout)) ≡ count_of s layout
    there s ne true = refl
    there s ne false = count_others slot s layout ne

-- a definition
pub tight_define : (slot : Slot) (later hold : Slots) (scope layout next : List Slot) (b : Bool) → IsTight (kept later hold) scope layout → has slot scope ≡ false → b ≡ kept later hold slot → next ≡ cond b (slot ∷ layout) layout → IsTight (kept later hold) (scope ++ slot ∷ []) next
tight_define slot later hold scope layout next b t none eb e =
    by_slot (λ s. count_of s next ≡ cond (kept later hold s) (count_of s (scope ++ slot ∷ [])) 0) slot
    (ap (count_of slot) e ∙ here b ∙ ap (λ x. cond x (count_of slot (scope ++ slot ∷ [])) 0) eb)
    (λ s ne. ap (count_of s) e ∙ there s ne b ∙ t s ∙ ap (λ n. cond (kept later hold s) n 0) (sym (count_append s scope (slot ∷ []) ∙ more s ne (count_of s scope))))
  where
    more : (s : Slot) → is_slot slot s ≡ false → (n : ℕ) → n + count_of s (slot ∷ []) ≡ n
    more s ne n = omega (arith, at_other slot s [] ne)

    nothing : count_of slot layout ≡ 0
    nothing = count_none slot layout (tight_not (kept later hold) scope layout slot t none)

    here : (b : Bool) → count_of slot (cond b (slot ∷ layout) layout) ≡ cond b (count_of slot (scope ++ slot ∷ [])) 0
    here true = omega (arith, at_itself slot layout, at_itself slot [], count_append slot scope (slot ∷ []), nothing, count_none slot scope none)
    here false = nothing

    there : (s : Slot) → is_slot slot s ≡ false → (b : Bool) → count_of s (cond b (slot ∷ layout) layout) ≡ count_of s layout
    there s ne true = at_other slot s layout ne
    there s ne false = refl

-- an assignment
pub tight_assign : (slot : Slot) (keeps : Slots) (scope layout next : List Slot) (b : Bool) → IsTight keeps scope layout → (b ≡ true → has slot layout ≡ true) → next ≡ cond b (slot ∷ less slot layout) layout → IsTight keeps scope next
tight_assign slot keeps scope layout next b t h e = λ s. ap (count_of s) e ∙ by b h s ∙ t s
  where
    by : (b : Bool) → (b ≡ true → has slot layout ≡ true) → (s : Slot) → count_of s (cond b (slot ∷ less slot layout) layout) ≡ count_of s layout
    by false k = λ s. refl
    by true k = by_slot (λ s. count_of s (slot ∷ less slot layout) ≡ count_of s layout) slot
        (omega (arith, at_itself slot (less slot layout), count_less slot layout (k refl)))
        (λ s ne. omega (arith, at_other slot s (less slot layout) ne, count_others slot s layout ne))

-- the end of a name
pub tight_end : (slot : Slot) (keeps : Slots) (scope layout : List Slot) → IsTight keeps scope layout → IsOnce scope → IsTight keeps (less slot scope) (less slot layout)
tight_end slot keeps scope layout t once =
    by_slot (λ s. count_of s (less slot layout) ≡ cond (keeps s) (count_of s (less slot scope)) 0) slot
    (less_count slot layout (tight_once keeps scope layout t once slot) ∙ sym (zero (keeps slot) (count_of slot (less slot scope)) (less_count slot scope (once slot))))
    (λ s ne. count_others slot s layout ne ∙ t s ∙ ap (λ n. cond (keeps s) n 0) (sym (count_others slot s scope ne)))
  where
    zero : (b : Bool) (n : ℕ) → n ≡ 0 → cond b n 0 ≡ 0
    zero true n e = e
    zero false n e = refl

-- membership in what is joined and filtered
pub has_append : (s : Slot) (a b : List Slot) → has s (a ++ b) ≡ (has s a || has s b)
has_append s [] b = refl
has_append s (x ∷ a) b = by (is_slot s x) (has_append s a b)
  where
    by : (c : Bool) → has s (a ++ b) ≡ (has s a || has s b) → (c || has s (a ++ b)) ≡ ((c || has s a) || has s b)
    by true e = refl
    by false e = e

pub has_filter : (p : Slots) (s : Slot) (slots : List Slot) → has s slots ≡ true → has s (filter p slots) ≡ p s
has_filter p s slots h = by (p s) refl
  where
    by : (b : Bool) → p s ≡ b → has s (filter p slots) ≡ b
    by true e = has_by_count s (filter p slots) (omega (arith, count_filter p s slots, ap (λ b. cond b (count_of s slots) 0) e, count_some s slots h))
    by false e = has_not s (filter p slots) (omega (arith, count_filter p s slots, ap (λ b. cond b (count_of s slots) 0) e))

pub has_less : (slot s : Slot) (slots : List Slot) → has s (less slot slots) ≡ true → has s slots ≡ true
has_less slot s slots h = has_by_count s slots (by (is_slot slot s) refl)
  where
    by : (b : Bool) → is_slot slot s ≡ b → 1 ≤ count_of s slots
    by false ne = omega (arith, count_others slot s slots ne, count_some s (less slot slots) h)
    by true e = subst (λ x. 1 ≤ count_of x slots) (sym (same_slot slot s e)) (some (has slot slots) refl)
      where
        some : (b : Bool) → has slot slots ≡ b → 1 ≤ count_of slot slots
        some true k = count_some slot slots k
        some false k = absurd (false≢true (sym k ∙ ap (λ x. has x slots) (sym (same_slot slot s e)) ∙ ap (has s) (sym (less_none slot slots k)) ∙ h))

pub later_split : (reads : List Slots) (s : Slot) (b : Bool) → all_later reads s b ≡ (all_later reads s false || b)
later_split [] s b = refl
later_split (r ∷ reads) s b = by (r s) (later_split reads s b)
  where
    by : (c : Bool) → all_later reads s b ≡ (all_later reads s false || b) → (c || all_later reads s b) ≡ ((c || all_later reads s false) || b)
    by true e = refl
    by false e = e

-- the layout at the head of a block
module _ (own other reads later : Slots) (held scope : List Slot) (never : Slots) where
  abbrev pub around : List Slot
  around = held ++ filter (λ s. other s && not (own s)) scope

  abbrev pub outer : Slots
  outer s = has s held || never s

  abbrev pub inner : Slots
  inner s = has s around || never s

  abbrev pub after : List Slot
  after = filter later scope

  inner_is : (s : Slot) → has s scope ≡ true → inner s ≡ ((has s held || (other s && not (own s))) || never s)
  inner_is s h = ap (λ b. b || never s) (has_append s held (filter (λ s. other s && not (own s)) scope) ∙ ap (λ b. has s held || b) (has_filter (λ s. other s && not (own s)) s scope h))

  head_test : (w o l h n : Bool) → (((w || o) || l) || (h || n)) ≡ ((w || l) || ((h || (o && not w)) || n))
  head_test true o l h n = refl
  head_test false true true h n = refl
  head_test false true false true n = refl
  head_test false true false false n = refl
  head_test false false true h n = refl
  head_test false false false true n = refl
  head_test false false false false n = refl

  pub tight_head : (layout : List Slot) → ((s : Slot) → reads s ≡ (own s || other s)) → IsTight (kept (either reads later) outer) scope layout → IsTight (kept (λ s. own s || has s after) inner) scope layout
  tight_head layout r t s = by (has s scope) refl
    where
      n : ℕ
      n = count_of s scope

      by : (b : Bool) → has s scope ≡ b → count_of s layout ≡ cond ((own s || has s after) || inner s) n 0
      by true h = t s ∙ ap (λ b. cond b n 0) (ap (λ x. (x || later s) || outer s) (r s) ∙ head_test (own s) (other s) (later s) (has s held) (never s) ∙ sym (ap (λ x. (own s || x) || inner s) (has_filter later s scope h) ∙ ap (λ x. (own s || later s) || x) (inner_is s h)))
      by false h = omega (arith, tight_within (kept (either reads later) outer) scope layout t s, count_none s scope h, gated ((own s || has s after) || inner s) n)

  -- and what the join keeps of it at the end
  tail_test : (k l h o w n : Bool) (m : ℕ) → k ≡ (l || (h || n)) → cond k (cond (l || ((h || (o && not w)) || n)) m 0) 0 ≡ cond k m 0
  tail_test true true h o w n m e = refl
  tail_test true false true o w n m e = refl
  tail_test true false false true false n m e = refl
  tail_test true false false true true true m e = refl
  tail_test true false false true true false m e = absurd (false≢true (sym e))
  tail_test true false false false w true m e = refl
  tail_test true false false false w false m e = absurd (false≢true (sym e))
  tail_test false l h o w n m e = refl

  pub tight_tail : (layout target : List Slot) → IsTight (kept (λ s. has s after) inner) scope layout → target ≡ filter (kept later outer) layout → IsTight (kept later outer) scope target
  tight_tail layout target t e s =
      ap (count_of s) e ∙ count_filter (kept later outer) s layout ∙ ap (λ n. cond (kept later outer s) n 0) (t s) ∙ by (has s scope) refl
    where
      m : ℕ
      m = count_of s scope

      by : (b : Bool) → has s scope ≡ b → cond (kept later outer s) (cond (has s after || inner s) m 0) 0 ≡ cond (kept later outer s) m 0
      by true h = ap (λ b. cond (kept later outer s) (cond b m 0) 0) (ap (λ x. x || inner s) (has_filter later s scope h) ∙ ap (λ x. later s || x) (inner_is s h)) ∙ tail_test (kept later outer s) (later s) (has s held) (other s) (own s) (never s) m refl
      by false h = ap (λ n. cond (kept later outer s) (cond (has s after || inner s) n 0) 0) (count_none s scope h) ∙ none (kept later outer s) (has s after || inner s) ∙ sym (ap (λ n. cond (kept later outer s) n 0) (count_none s scope h))
        where
          none : (a b : Bool) → ◌≡◌ {A = ℕ} (cond a (cond b 0 0) 0) (cond a 0 0)
          none true true = refl
          none true false = refl
          none false b = refl

pub filter_within : (p : Slots) (slots target : List Slot) → target ≡ filter p slots → (s : Slot) → count_of s target ≤ count_of s slots
filter_within p slots target e s = omega (arith, ap (count_of s) e, count_filter p s slots, gated (p s) (count_of s slots))

-- a layout that has the kept names is no longer than their number
pub kept_fits : (keeps : Slots) (scope layout : List Slot) → IsTight keeps scope layout → length layout ≤ kept_count scope keeps
kept_fits keeps scope layout t = fits layout (filter keeps scope) (λ s. omega (arith, t s, count_filter keeps s scope))
