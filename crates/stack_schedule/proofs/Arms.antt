-- The arms of a choice that ends no path.
use Rattle.std.proofs.Common.{◌≡◌, ◌≤◌, Bool, true, false, cond, List, ◌++◌, length, map, IsSome, Result, Ok, Err, refl, sym, ap, ◌∙◌, subst, arith}
use Rattle.std.specs.Prelude.{◌||◌, filter}
use Rattle.std.proofs.lemmas.Bool.{and_parts, and_from}
use Rattle.cash_base.specs.declared.place.Slot.{Slot}
use Rattle.source_meaning.specs.declared.outcome.Failure.{Failure}
use Rattle.slot_code.specs.declared.slots.SlotInstr.{SlotInstr}
use Rattle.slot_code.specs.Meaning.{State, state}
use Rattle.slot_code.specs.Shape.{Shape, has, most_slots}
use Rattle.slot_liveness.specs.Live.{Slots, reads_of, all_later, read_in, only_other, either, kept, live}
use Rattle.slot_liveness.specs.Counts.{count_of, IsTight, IsOnce}
use Rattle.slot_liveness.proofs.Counts.{count_filter}
use Rattle.slot_liveness.proofs.Sets.{gated, tight_once, tight_head, tight_tail, has_filter, later_split}
use Rattle.stack_emitter.specs.Correct.{nothing, then_deed}
use Rattle.stack_steps.specs.declared.low.Low.{Low}
use Rattle.stack_steps.specs.Lower.{Same, SameEnd, place_of, Ready}
use Rattle.stack_steps.proofs.Same.{same_arm}
use Rattle.stack_schedule.proofs.Blocks.{ReadyAll, DoesAll, shape_of_all, deed_of_all}
use Rattle.cash_base.specs.Failing.{◌>>=◌}

tight_as : (a b : Slots) (scope layout : List Slot) → ((s : Slot) → a s ≡ b s) → IsTight a scope layout → IsTight b scope layout
tight_as a b scope layout e t s = t s ∙ ap (λ x. cond x (count_of s scope) 0) (e s)

module _ (own other : List SlotInstr) (reads later : Slots) (held scope : List Slot) (never : Slots) (reads_is : (s : Slot) → reads s ≡ (read_in own s || read_in other s)) where
  abbrev pub outside : Slots
  outside s = has s held || never s

  abbrev pub around : List Slot
  around = held ++ filter (only_other own other) scope

  abbrev pub inside : Slots
  inside s = has s around || never s

  abbrev pub after : List Slot
  after = filter later scope

  -- an arm begins with the layout before the choice
  pub arm_begins : (shape : Shape) (a : Low) (layout : List Slot) → IsTight (kept (either reads later) outside) scope layout → IsOnce scope → length scope ≤ most_slots
      → IsSome (shape (place_of a)) → a.emitter.place.slots ≡ layout → a.scope ≡ scope → Ready shape (λ s. all_later (map reads_of own) s (has s after)) inside a
  arm_begins shape a layout t once few well same in_a = record {
    well = well;
    tight = subst (λ l. IsTight (kept (λ s. all_later (map reads_of own) s (has s after)) inside) l a.emitter.place.slots) (sym in_a)
        (subst (λ l. IsTight (kept (λ s. all_later (map reads_of own) s (has s after)) inside) scope l) (sym same)
        (tight_as (kept (λ s. read_in own s || has s after) inside) (kept (λ s. all_later (map reads_of own) s (has s after)) inside) scope layout
        (λ s. ap (λ b. b || inside s) (sym (later_split (map reads_of own) s (has s after))))
        (tight_head (read_in own) (read_in other) reads later held scope never layout reads_is t)));
    once = subst IsOnce (sym in_a) once;
    few = subst (λ l. length l ≤ most_slots) (sym in_a) few;
  }

  pub arm_ready : (a : Low) (layout : List Slot) → IsTight (kept (either reads later) outside) scope layout → IsOnce scope → length scope ≤ most_slots
      → IsSome (shape_of_all own (place_of a)) → a.emitter.place.slots ≡ layout → a.scope ≡ scope → ReadyAll own after inside a
  arm_ready a layout t once few well same in_a = arm_begins (shape_of_all own) a layout t once few well same in_a

  -- what is live in an arm is live before the choice
  pub arm_lives : (s : Slot) → live scope (λ s. all_later (map reads_of own) s (has s after)) s ≡ true → live scope (either reads later) s ≡ true
  arm_lives s h =
      let k = and_parts (has s scope) (all_later (map reads_of own) s (has s after)) h in
      and_from (has s scope) (reads s || later s) k.0
      (ap (λ b. b || later s) (reads_is s)
      ∙ more (read_in own s) (read_in other s) (later s)
      (ap (λ b. read_in own s || b) (sym (has_filter later s scope k.0)) ∙ sym (later_split (map reads_of own) s (has s after)) ∙ k.1))
    where
      more : (o p l : Bool) → (o || l) ≡ true → ((o || p) || l) ≡ true
      more true p l h = refl
      more false true l h = refl
      more false false l h = h

  module _ (a b : Low) (in_a : a.scope ≡ scope) (in_b : b.scope ≡ scope) (d : DoesAll own after inside a b) where
    arm_tight : IsTight (kept (λ s. has s after) inside) scope b.emitter.place.slots
    arm_tight = subst (λ l. IsTight (kept (λ s. has s after) inside) l b.emitter.place.slots) in_b d.tight

    pub arm_once : IsOnce b.emitter.place.slots
    arm_once = tight_once (kept (λ s. has s after) inside) b.scope b.emitter.place.slots d.tight d.once

    -- what the join keeps of it
    pub arm_kept : (target : List Slot) → target ≡ filter (kept later outside) b.emitter.place.slots → IsTight (kept later outside) scope target
    arm_kept target e =
        tight_tail (read_in own) (read_in other) reads later held scope never b.emitter.place.slots target arm_tight e

    pub arm_within : (target : List Slot) → IsTight (kept later outside) scope target → (s : Slot) → count_of s target ≤ count_of s b.emitter.place.slots
    arm_within target t s =
        omega (arith, t s, arm_kept (filter (kept later outside) b.emitter.place.slots) refl s, count_filter (kept later outside) s b.emitter.place.slots, gated (kept later outside s) (count_of s b.emitter.place.slots))

    same_done : (live : Slots) (o r : Result State Failure) → SameEnd live o r → SameEnd live o (r >>= λ s. Ok s)
    same_done live (Ok s) (Ok t) h = h
    same_done live (Ok s) (Err e) h = h
    same_done live (Err e) (Ok t) h = h
    same_done live (Err e) (Err f) h = h

    pub arm_same : ((s : Slot) → read_in own s ≡ true → reads s ≡ true)
        → Same (live scope (either reads later)) (live scope later) (deed_of_all own) (then_deed d.lowers.did nothing)
    arm_same inner_reads =
        same_arm (map reads_of own) (read_in own) reads later scope (deed_of_all own) (then_deed d.lowers.did nothing) (λ s. refl) inner_reads
        (record { ends = λ world s env h. same_done (live scope (λ s. has s after)) (deed_of_all own world s) (d.lowers.did world (state s.operands env)) (inner.ends world s env h) })
      where
        inner : Same (live scope (λ s. all_later (map reads_of own) s (has s after))) (live scope (λ s. has s after)) (deed_of_all own) d.lowers.did
        inner =
            subst (λ l. Same (live l (λ s. all_later (map reads_of own) s (has s after))) (live scope (λ s. has s after)) (deed_of_all own) d.lowers.did) in_a
            (subst (λ l. Same (live a.scope (λ s. all_later (map reads_of own) s (has s after))) (live l (λ s. has s after)) (deed_of_all own) d.lowers.did) in_b d.lowers.same)

or_swap : (a b : Bool) → (a || b) ≡ (b || a)
or_swap true true = refl
or_swap true false = refl
or_swap false true = refl
or_swap false false = refl

pub swapped : (ys ns : List SlotInstr) (s : Slot) → (read_in ys s || read_in ns s) ≡ (read_in ns s || read_in ys s)
swapped ys ns s = or_swap (read_in ys s) (read_in ns s)

pub or_left : (a b : Bool) → a ≡ true → (a || b) ≡ true
or_left a b h = ap (λ x. x || b) h

pub or_right : (a b : Bool) → b ≡ true → (a || b) ≡ true
or_right true b h = refl
or_right false b h = h
