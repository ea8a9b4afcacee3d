-- Layouts whose slots are counted, as a join wants them.
use Rattle.std.proofs.Common.{◌≡◌, ℕ, ◌≤◌, Bool, true, not, List, [], ◌∷◌, length, refl, ap, ◌∙◌, arith}
use Rattle.std.specs.Prelude.{filter}
use Rattle.std.proofs.lemmas.Bool.{and_from}
use Rattle.cash_base.specs.declared.place.Slot.{Slot}
use Rattle.branch_layout.specs.Slots.{are_distinct, all_stand_in}
use Rattle.slot_code.specs.Shape.{has}
use Rattle.slot_liveness.specs.Counts.{count_of, IsOnce}
use Rattle.slot_liveness.proofs.Counts.{has_not, has_by_count}
use Rattle.slot_liveness.proofs.Sets.{at_itself, fits, filter_within}

pub once_distinct : (slots : List Slot) → IsOnce slots → are_distinct slots ≡ true
once_distinct [] once = refl
once_distinct (x ∷ xs) once =
    let first = once x in
    let a = at_itself x xs in
    let none : count_of x xs ≡ 0 = omega (arith, first, a) in
    and_from (not (has x xs)) (are_distinct xs) (ap not (has_not x xs none))
    (once_distinct xs (λ s. let h = once s in omega (arith, h)))

pub within_stand : (target slots : List Slot) → ((s : Slot) → count_of s target ≤ count_of s slots) → all_stand_in target slots ≡ true
within_stand [] slots h = refl
within_stand (x ∷ xs) slots h =
    let k = h x in
    let a = at_itself x xs in
    and_from (has x slots) (all_stand_in xs slots) (has_by_count x slots (omega (arith, k, a)))
    (within_stand xs slots (λ s. let g = h s in omega (arith, g)))

-- ---- what of a layout is left

module _ (p : Slot → Bool) (layout slots target slice : List Slot) (a : slots ≡ layout) (b : target ≡ filter p slots) (c : slice ≡ target) where
  slice_is : slice ≡ filter p layout
  slice_is = c ∙ b ∙ ap (filter p) a

  counts : (s : Slot) → count_of s slice ≤ count_of s layout
  counts = filter_within p layout slice slice_is

  pub left_few : (n : ℕ) → length layout ≤ n → length slice ≤ n
  left_few n few = let size = fits slice layout counts in omega (arith, few, size)

  pub left_distinct : IsOnce layout → are_distinct slice ≡ true
  left_distinct once = once_distinct slice (λ s. let one = once s in let fewer = counts s in omega (arith, one, fewer))

  pub left_stand : all_stand_in slice layout ≡ true
  left_stand = within_stand slice layout counts
