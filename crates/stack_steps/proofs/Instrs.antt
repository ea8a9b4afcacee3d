-- What each kind of instruction does, as far as the live slots go.
use Rattle.std.proofs.Common.{◌≡◌, ◌≤◌, Bool, true, false, cond, not, List, [], ◌∷◌, ◌++◌, length, Option, Some, None, IsSome, refl, sym, ap, ◌∙◌, subst}
use Rattle.std.specs.Prelude.{◌==◌, ◌||◌, ◌&&◌, option_and_then}
use Rattle.std.proofs.lemmas.Bool.{false≢true}
use Rattle.cash_base.specs.declared.place.Slot.{Slot}
use Rattle.cash_base.specs.declared.place.Span.{Span}
use Rattle.slot_code.specs.declared.slots.SlotInstr.{SlotInstr}
use Rattle.slot_code.specs.Meaning.{act_of}
use Rattle.slot_code.specs.Shape.{Place, Shape, Shapes, Operand, shapes_of, begins, has_span, only_if, with_operands, with_seen, then_shape, most_slots}
use Rattle.slot_liveness.specs.Live.{Slots, reads_of, either, kept, live}
use Rattle.slot_liveness.specs.Counts.{count_of, IsOnce, IsTight}
use Rattle.stack_emitter.specs.declared.emit.Emitter.{Emitter}
use Rattle.stack_emitter.specs.Places.{Spot, spot}
use Rattle.stack_emitter.specs.Correct.{Deed, Emits}
use Rattle.stack_steps.specs.declared.low.Low.{Low}
use Rattle.stack_steps.specs.Lower.{Same, statements_of, place_of, Ready, Does}
use Rattle.stack_steps.specs.Operations.{Marks}
use Rattle.stack_steps.proofs.Same.{same_as}
use Rattle.stack_steps.proofs.AtKinds.{At}

abbrev pub place : List Operand → List Slot → List Slot → List Span → Place
place operands slots outer seen = record { operands = operands; slots = slots; outer = outer; seen = seen }

-- where the test holds
pub only_true : (b : Bool) (p : Place) → IsSome (only_if b p) → b ≡ true
only_true true p h = refl
only_true false p h = absurd (false≢true h)

some_first : (o : Option Place) (f : Shape) → IsSome (option_and_then f o) → IsSome o
some_first (Some p) f h = refl
some_first None f h = h

same_place : (low : Low) (operands : List Operand) (slots outer : List Slot) (seen : List Span) → operands ≡ low.emitter.place.operands → slots ≡ low.scope
    → outer ≡ low.outer → seen ≡ statements_of low.marks.items → place operands slots outer seen ≡ place_of low
same_place low operands slots outer seen a b c d =
    ap (λ o. place o slots outer seen) a ∙ ap (λ s. place low.emitter.place.operands s outer seen) b
    ∙ ap (λ t. place low.emitter.place.operands low.scope t seen) c ∙ ap (place low.emitter.place.operands low.scope low.outer) d

-- a statement that has begun
module _ (span : Span) (is_end : Bool) (old marked : Low) (m : Marks span old marked) (f : Shape) (well : IsSome (then_shape (begins span is_end) f (place_of old))) where
  begun : begins span is_end (place_of old) ≡ Some (place_of marked)
  begun = by (has_span span (statements_of old.marks.items)) refl (some_first (begins span is_end (place_of old)) f well)
    where
      at : (seen : List Span) → seen ≡ statements_of marked.marks.items
          → place old.emitter.place.operands old.scope old.outer seen ≡ place_of marked
      at seen e =
          same_place marked old.emitter.place.operands old.scope old.outer seen (ap (λ e. e.place.operands) (sym m.emitter)) (sym m.scope) (sym m.outer) e

      by : (b : Bool) → has_span span (statements_of old.marks.items) ≡ b
          → IsSome (cond b (Some (place_of old)) (only_if (length old.emitter.place.operands == 0 && not is_end) (with_seen (statements_of old.marks.items ++ span ∷ []) (place_of old))))
          → cond (has_span span (statements_of old.marks.items)) (Some (place_of old)) (only_if (length old.emitter.place.operands == 0 && not is_end) (with_seen (statements_of old.marks.items ++ span ∷ []) (place_of old)))
          ≡ Some (place_of marked)
      by true e h =
          ap (λ b. cond b (Some (place_of old)) (only_if (length old.emitter.place.operands == 0 && not is_end) (with_seen (statements_of old.marks.items ++ span ∷ []) (place_of old)))) e
          ∙ ap Some (at (statements_of old.marks.items) (sym (m.seen ∙ ap (λ b. cond b (statements_of old.marks.items) (statements_of old.marks.items ++ span ∷ [])) e)))
      by false e h =
          ap (λ b. cond b (Some (place_of old)) (only_if (length old.emitter.place.operands == 0 && not is_end) (with_seen (statements_of old.marks.items ++ span ∷ []) (place_of old)))) e
          ∙ ap (λ b. only_if b (with_seen (statements_of old.marks.items ++ span ∷ []) (place_of old))) (only_true (length old.emitter.place.operands == 0 && not is_end) (with_seen (statements_of old.marks.items ++ span ∷ []) (place_of old)) h)
          ∙ ap Some (at (statements_of old.marks.items ++ span ∷ []) (sym (m.seen ∙ ap (λ b. cond b (statements_of old.marks.items) (statements_of old.marks.items ++ span ∷ [])) e)))

  -- what follows in the shape
  pub shape_from : then_shape (begins span is_end) f (place_of old) ≡ f (place_of marked)
  shape_from = ap (option_and_then f) begun

  pub well_from : IsSome (f (place_of marked))
  well_from = subst (λ o. IsSome (option_and_then f o)) begun well

abbrev pub low_of : Emitter → Low → Low
low_of emitter low = record { emitter = emitter; scope = low.scope; outer = low.outer; marks = low.marks }

module _ (instr : SlotInstr) (later hold : Slots) (old marked : Low) (m : Marks instr.checking old marked) (ready : Ready (shapes_of instr).inner (either (reads_of instr) later) hold old) (deed : Deed) (shapes : Shapes) (reads : Slots) (at : At instr deed shapes reads) where
  pub inner_is : (shapes_of instr).inner ≡ then_shape (begins instr.checking shapes.is_end) shapes.inner
  inner_is = ap (λ (x : Shapes). x.inner) at.shapes_is

  well : IsSome (then_shape (begins instr.checking shapes.is_end) shapes.inner (place_of old))
  well = subst (λ f. IsSome (f (place_of old))) inner_is ready.well

  -- the instruction is well formed where its statement has begun
  pub kind_well : IsSome (shapes.inner (place_of marked))
  kind_well = well_from instr.checking shapes.is_end old marked m shapes.inner well

  pub kind_tight : IsTight (kept (either reads later) hold) old.scope old.emitter.place.slots
  kind_tight = subst (λ r. IsTight (kept (either r later) hold) old.scope old.emitter.place.slots) at.reads_is ready.tight

  pub does_kind : (new : Low) (did : Deed) → Emits marked.emitter new.emitter did → Same (live old.scope (either reads later)) (live new.scope later) deed did
      → shapes.inner (place_of marked) ≡ Some (place_of new) → IsTight (kept later hold) new.scope new.emitter.place.slots → IsOnce new.scope
      → length new.scope ≤ most_slots
      → Does (λ world. act_of world instr) (shapes_of instr).inner (either (reads_of instr) later) later hold old new
  does_kind new did emits same place_is tight once few = record {
    place = ap (λ f. f (place_of old)) inner_is ∙ shape_from instr.checking shapes.is_end old marked m shapes.inner well ∙ place_is;
    lowers = record {
      did = did;
      emits = subst (λ e. Emits e new.emitter did) m.emitter emits;
      same = subst (λ r. Same (live old.scope (either r later)) (live new.scope later) (λ world. act_of world instr) did) (sym at.reads_is)
          (same_as (live old.scope (either reads later)) (live new.scope later) (λ world. act_of world instr) deed did at.act_is same);
    };
    tight = tight;
    once = once;
    few = few;
  }

  -- operands alone are changed
  module _ (none : (s : Slot) → reads s ≡ false) (test : Bool) (operands : List Operand) (inner_at : shapes.inner (place_of marked) ≡ only_if test (with_operands operands (place_of marked))) where
    pub operation_test : test ≡ true
    operation_test = only_true test (with_operands operands (place_of marked)) (subst IsSome inner_at kind_well)

    still_tight : IsTight (kept later hold) old.scope old.emitter.place.slots
    still_tight s = kind_tight s ∙ ap (λ r. cond ((r || later s) || hold s) (count_of s old.scope) 0) (none s)

    pub does_operation : (emitter : Emitter) (did : Deed) → Emits marked.emitter emitter did
        → Same (live old.scope (either reads later)) (live old.scope later) deed did → emitter.place ≡ spot operands marked.emitter.place.slots
        → Does (λ world. act_of world instr) (shapes_of instr).inner (either (reads_of instr) later) later hold old (low_of emitter marked)
    does_operation emitter did emits same place_is =
        does_kind (low_of emitter marked) did emits (subst (λ l. Same (live old.scope (either reads later)) (live l later) deed did) (sym m.scope) same)
        (inner_at ∙ ap (λ b. only_if b (with_operands operands (place_of marked))) operation_test
        ∙ ap (λ o. Some (place o marked.scope marked.outer (statements_of marked.marks.items))) (ap (λ (p : Spot). p.operands) (sym place_is)))
        (λ s. ap (λ (p : Spot). count_of s p.slots) place_is
        ∙ ap (λ (e : Emitter). count_of s e.place.slots) m.emitter ∙ still_tight s
        ∙ ap (λ l. cond (kept later hold s) (count_of s l) 0) (sym m.scope))
        (subst IsOnce (sym m.scope) ready.once) (subst (λ l. length l ≤ most_slots) (sym m.scope) ready.few)
