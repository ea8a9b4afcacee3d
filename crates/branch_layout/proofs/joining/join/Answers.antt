use Rattle.std.proofs.Common.{◌≡◌, ◌≤◌, true, length, sym, ap, ◌∙◌, subst}
use Rattle.branch_layout.specs.Slots.{has, are_distinct, kept_of, count_of}
use Rattle.branch_layout.proofs.Counts.{distinct_filter, has_kept, same_counts}
use Rattle.branch_layout.proofs.Joined.{left_small, dropping_arm, arranging_arm, arm_along, arranges_along}
use Rattle.branch_layout.proofs.joining.join.Goals as goal

pub arrange-requires-clause-same : goal.arrange-requires-clause-same
arrange-requires-clause-same c = λ s.
    ap (count_of s) (c.in_ok-second.ensures.left_is ∙ ap (kept_of c.args.keep.now) c.slots-2.ensures.slots)
    ∙ same_counts c.args.keep.now c.args.a.now c.args.b.now c.slots.ensures.distinct c.slots-2.ensures.distinct c.requires.in_a c.requires.in_b s
    ∙ ap (count_of s) (sym (c.as_slice.ensures.value ∙ c.in_ok-first.ensures.left_is ∙ ap (kept_of c.args.keep.now) c.slots.ensures.slots))

pub arrange-requires-clause-room : goal.arrange-requires-clause-room
arrange-requires-clause-room c =
    left_small _ _ _ _ c.in_ok-second.ensures (subst (λ l. length l ≤ 160) (sym c.slots-2.ensures.slots) c.requires.b_size)

pub of_distinct-requires : goal.of_distinct-requires
of_distinct-requires c =
    subst (λ l. are_distinct l ≡ true) (sym (c.in_ok-first.ensures.left_is ∙ ap (kept_of c.args.keep.now) c.slots.ensures.slots))
    (distinct_filter (has c.args.keep.now) c.args.a.now c.slots.ensures.distinct)

pub returns-clause-same_slots : goal.returns-clause-same_slots
returns-clause-same_slots c = λ s.
    ap (λ l. has l s) (c.of_distinct.ensures ∙ c.in_ok-first.ensures.left_is ∙ ap (kept_of c.args.keep.now) c.slots.ensures.slots)
    ∙ has_kept c.args.keep.now c.args.a.now c.requires.in_a s

pub returns-clause-then_arm : goal.returns-clause-then_arm
returns-clause-then_arm c =
    arm_along _ _ _ _ _ c.slots.ensures.slots (sym c.of_distinct.ensures) (dropping_arm _ _ _ _ c.in_ok-first.ensures)

pub returns-clause-else_arm : goal.returns-clause-else_arm
returns-clause-else_arm c =
    arm_along _ _ _ _ _ c.slots-2.ensures.slots (sym c.of_distinct.ensures)
    (arranging_arm _ _ _ _ _ _ c.in_ok-second.ensures (arranges_along _ _ _ _ _ c.as_slice.ensures.value c.in_ok-arrange.ensures.arranges))
