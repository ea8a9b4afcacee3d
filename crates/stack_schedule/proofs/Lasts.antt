-- The last instruction of a path that is no choice.
use Rattle.std.proofs.Common.{◌≡◌, Bool, true, false, List, [], ◌∷◌, length, Option, Some, None, IsSome, Result, Ok, Err, refl, sym, ap, ◌∙◌, subst}
use Rattle.std.specs.Prelude.{◌==◌, option_and_then}
use Rattle.std.proofs.lemmas.Bool.{eqb-true}
use Rattle.cash_base.specs.declared.place.Slot.{Slot}
use Rattle.cash_base.specs.declared.place.Span.{Span}
use Rattle.cash_base.specs.Failing.{◌>>=◌}
use Rattle.source_meaning.specs.declared.outcome.Failure.{Failure}
use Rattle.slot_code.specs.declared.slots.SlotInstr.{SlotInstr}
use Rattle.slot_code.specs.declared.slots.SlotKind.TheVariants as SlotKind
use Rattle.slot_code.specs.declared.slots.SlotKind.TheOpen.{SlotKind-F}
use Rattle.slot_code.specs.Meaning.{State, act_of, kind_act}
use Rattle.slot_code.specs.Shape.{Place, shapes_of, with_operands, takes_all, only_if}
use Rattle.slot_liveness.specs.Live.{Slots, reads_of, later, either, live}
use Rattle.stack_emitter.specs.declared.emit.Emitter.{Emitter}
use Rattle.stack_emitter.specs.Correct.{Ends, nothing, check_deed}
use Rattle.stack_steps.specs.declared.low.Low.{Low}
use Rattle.stack_steps.specs.Lower.{IsNoChoice, statements_of, place_of, Ready, Does}
use Rattle.stack_steps.specs.Operations.{Marks}
use Rattle.stack_steps.proofs.Same.{same_as, same_none, same_check}
use Rattle.stack_steps.proofs.AtKinds.{at_require}
use Rattle.stack_steps.proofs.Instrs.{only_true, inner_is, shape_from, kind_well}
use Rattle.stack_schedule.specs.Endings.{PathEnds, SeenAt, MayEnd, last_meant}
use Rattle.stack_schedule.proofs.Inverse.{no_choice_last}
use Rattle.stack_schedule.proofs.PathEndings.{finishes_by, finish_then, finishes_as}
use Rattle.stack_schedule.proofs.Ways.{FinishesOne}

ok_then : (o : Result State Failure) → (o >>= λ s. Ok s) ≡ o
ok_then (Ok s) = refl
ok_then (Err e) = refl

some_then : (o : Option Place) → option_and_then (λ (p : Place). Some p) o ≡ o
some_then (Some p) = refl
some_then None = refl

module _ (instr : SlotInstr) (rest : List SlotInstr) (after : List Slot) (hold : Slots) (old : Low) (other : IsNoChoice instr) (may : MayEnd (shapes_of instr).last (either (reads_of instr) (later rest after)) hold old) where
  pub last_ready : Ready (shapes_of instr).inner (either (reads_of instr) (later rest after)) hold old
  last_ready = subst (λ f. Ready f (either (reads_of instr) (later rest after)) hold old) (no_choice_last instr other) may.ready

  -- ---- one true element is left

  module _ (mid : Low) (d : Does (λ world. act_of world instr) (shapes_of instr).inner (either (reads_of instr) (later rest after)) (later rest after) hold old mid) where
    pub last_closed : mid.emitter.place.operands ≡ []
    last_closed = may.closed (place_of mid) (ap (λ f. f (place_of old)) (no_choice_last instr other) ∙ d.place)

    pub true_finishes : (final : Low) → Ends instr.checking mid.emitter final.emitter nothing → statements_of mid.marks.items ≡ statements_of final.marks.items
        → FinishesOne instr rest after old final
    true_finishes final x marks =
        finishes_as (λ world s. act_of world instr s >>= λ t. Ok t) (λ world. act_of world instr) (last_meant instr) (λ p. option_and_then (λ (q : Place). Some q) ((shapes_of instr).inner p)) (shapes_of instr).last
        (either (reads_of instr) (later rest after)) old final (λ world s. ok_then (act_of world instr s))
        (some_then ((shapes_of instr).inner (place_of old)) ∙ ap (λ f. f (place_of old)) (sym (no_choice_last instr other)))
        (finish_then (λ world. act_of world instr) nothing (shapes_of instr).inner (λ (q : Place). Some q) (either (reads_of instr) (later rest after)) (later rest after) hold
        (λ world s span. span ≡ instr.checking) (last_meant instr) old mid final d
        (finishes_by nothing nothing (λ world s span. span ≡ instr.checking) (λ (q : Place). Some q) (later rest after) (live mid.scope (later rest after)) mid final
        (same_none (live mid.scope (later rest after))) instr.checking x (λ world s. refl) marks)
        (λ world s t span ran is around others over. subst (λ c. PathEnds world around (instr ∷ others) s c) (sym is) (PathEnds.last around instr others s over other)))

  -- ---- the value of a check is left

  module _ (marked : Low) (m : Marks instr.checking old marked) (e : instr.kind ≡ SlotKind.Require) where
    test : (length marked.emitter.place.operands == 1) ≡ true
    test =
        only_true (length marked.emitter.place.operands == 1) (with_operands [] (place_of marked))
        (kind_well instr (later rest after) hold old marked m last_ready _ _ _ (at_require instr e))

    pub check_operand : length marked.emitter.place.operands ≡ 1
    check_operand = eqb-true (length marked.emitter.place.operands) 1 test

    shape_is : (shapes_of instr).last (place_of old) ≡ only_if (length marked.emitter.place.operands == 1) (with_operands [] (place_of marked))
    shape_is =
        ap (λ f. f (place_of old)) (no_choice_last instr other ∙ inner_is instr (later rest after) hold old marked m last_ready _ _ _ (at_require instr e))
        ∙ shape_from instr.checking false old marked m (takes_all 1)
        (subst (λ f. IsSome (f (place_of old))) (inner_is instr (later rest after) hold old marked m last_ready _ _ _ (at_require instr e)) last_ready.well)

    seen_by : (spans : List Span) → statements_of marked.marks.items ≡ spans → (b : Bool) → SeenAt (only_if b (with_operands [] (place_of marked))) spans
    seen_by spans h true = h
    seen_by spans h false = tt

    pub check_finishes : (final : Low) → ((doing : Span) → Ends instr.checking marked.emitter final.emitter (check_deed doing instr.checking))
        → statements_of marked.marks.items ≡ statements_of final.marks.items → FinishesOne instr rest after old final
    check_finishes final x marks =
        finishes_by (λ world. act_of world instr) (check_deed instr.doing instr.checking) (last_meant instr) (shapes_of instr).last (either (reads_of instr) (later rest after))
        (live old.scope (either (reads_of instr) (later rest after))) old final
        (same_as (live old.scope (either (reads_of instr) (later rest after))) (live old.scope (either (reads_of instr) (later rest after))) (λ world. act_of world instr)
        (λ world. kind_act world SlotKind-F.Require instr.doing instr.checking) (check_deed instr.doing instr.checking) (at_require instr e).act_is
        (same_check (live old.scope (either (reads_of instr) (later rest after))) instr.doing instr.checking))
        instr.checking (subst (λ (t : Emitter). Ends instr.checking t final.emitter (check_deed instr.doing instr.checking)) m.emitter (x instr.doing))
        (λ world s around others over. PathEnds.last around instr others s over other)
        (subst (λ o. SeenAt o (statements_of final.marks.items)) (sym shape_is)
        (seen_by (statements_of final.marks.items) marks (length marked.emitter.place.operands == 1)))
