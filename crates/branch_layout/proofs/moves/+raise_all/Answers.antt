use Rattle.std.proofs.Common.{◌≡◌, ◌≤◌, ◌-◌, true, List, [], ◌∷◌, length, take, drop, sym, ap, ◌∙◌, subst, arith}
use Rattle.std.specs.Prelude.{slice_index_or}
use Rattle.std.proofs.lemmas.List.{take_all}
use Rattle.cash_base.specs.declared.place.Slot.{Slot}
use Rattle.branch_layout.specs.Slots.{has, count_of, place_of}
use Rattle.branch_layout.specs.Arms.{Raises}
use Rattle.branch_layout.proofs.Raised.{is_left, one_raised}
use Rattle.branch_layout.proofs.moves.+raise_all.Goals as goal

first_of : (slots : List Slot) (d : Slot) → 1 ≤ length slots
    → slots ≡ slice_index_or slots 0 d ∷ take (length slots - 1) (drop 1 slots)
first_of [] d h = absurd (omega (arith, h))
first_of (x ∷ xs) d h = ap (λ l. x ∷ l) (sym (take_all (length (x ∷ xs) - 1) xs (omega arith)))

pub place-at-requires : goal.place-at-requires
place-at-requires t c =
    let first = first_of c.args.target.now (record { 0 = 0 }) c.in-len1-up.len_at_least in
    subst (λ l. has l (slice_index_or c.args.target.now 0 (record { 0 = 0 })) ≡ true) (sym c.as_slice.ensures.value)
    (is_left _ _ _ _ _ _ c.in_ok-raise_all.ensures
    (λ s. subst (λ l. count_of s l ≤ count_of s c.args.left.now.items) first (c.requires.within s)))

pub returns : goal.returns
returns t c =
    let first = first_of c.args.target.now (record { 0 = 0 }) c.in-len1-up.len_at_least in
    subst (λ l. Raises l c.args.left.now.items c.remove.new.self.items c.args.moves.now.items c.raise.new.moves.items) (sym first)
    (subst (λ l. Raises (slice_index_or c.args.target.now 0 (record { 0 = 0 }) ∷ take (length c.args.target.now - 1) (drop 1 c.args.target.now)) c.args.left.now.items l
    c.args.moves.now.items c.raise.new.moves.items) (sym c.remove.ensures.items)
    (one_raised _ _ _ _ _ _ _ c.place-at.result c.in_ok-raise_all.ensures
    (ap (place_of (slice_index_or c.args.target.now 0 (record { 0 = 0 }))) (sym c.as_slice.ensures.value) ∙ c.place-at.ensures)
    c.requires.room c.in_ok-raise.ensures))
