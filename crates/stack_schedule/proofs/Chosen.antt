-- A choice that ends no path, as the code comes to it.
use Rattle.std.proofs.Common.{◌≡◌, ◌≤◌, Bool, true, false, cond, List, [], ◌∷◌, ◌++◌, length, map, Option, Some, IsSome, refl, sym, ap, ◌∙◌, subst, arith}
use Rattle.std.specs.Prelude.{◌||◌, ◌==◌, filter, option_and_then}
use Rattle.std.proofs.lemmas.Bool.{false≢true, eqb-true}
use Rattle.cash_base.specs.declared.place.Slot.{Slot}
use Rattle.cash_base.specs.declared.place.Span.{Span}
use Rattle.cash_base.specs.Number.{truth_of}
use Rattle.std.specs.Global.{Vec}
use Rattle.script_codec.specs.declared.spans.Spanned.{Spanned}
use Rattle.script_codec.specs.declared.spans.Mark.{Mark}
use Rattle.slot_code.specs.declared.slots.SlotInstr.{SlotInstr}
use Rattle.slot_code.specs.declared.slots.SlotKind.TheVariants as SlotKind
use Rattle.slot_code.specs.declared.slots.SlotKind.TheOpen.{SlotKind-F}
use Rattle.slot_code.specs.Meaning.{state, act_of, kind_act, on_one}
use Rattle.slot_code.specs.Shape.{Place, Operand, shapes_of, only_if, with_operands, with_seen, inside, has, most_slots, choice_shape}
use Rattle.slot_liveness.specs.Live.{Slots, reads_of, kind_reads, read_in, only_other, either, kept, live}
use Rattle.slot_liveness.specs.Counts.{count_of, IsTight, IsOnce}
use Rattle.stack_emitter.specs.declared.emit.Emitter.{Emitter}
use Rattle.stack_emitter.specs.Places.{Spot, spot}
use Rattle.stack_emitter.specs.Correct.{Deed, Emits, nothing, then_deed}
use Rattle.stack_emitter.proofs.Steps.{emits_then}
use Rattle.stack_emitter.proofs.Choose.{opens, flips, closes, emits_choice}
use Rattle.stack_steps.specs.declared.low.Low.{Low}
use Rattle.stack_steps.specs.Lower.{Same, statements_of, place_of, Ready, Does}
use Rattle.stack_steps.specs.Operations.{Marks}
use Rattle.stack_steps.proofs.Same.{same_lists}
use Rattle.stack_steps.proofs.AtKinds.{at_if}
use Rattle.stack_steps.proofs.Instrs.{place, kind_well, kind_tight, does_kind}
use Rattle.stack_schedule.proofs.Blocks.{ReadyAll, DoesAll, shape_of_all}
use Rattle.stack_schedule.proofs.ChoicePlaces.{Back, yes_some, yes_back, no_some, no_back, choice_is}
use Rattle.stack_schedule.proofs.Arms.{arm_ready, arm_once, arm_kept, arm_within, arm_same, swapped, or_left, or_right}

-- a block begins with no operands, the layout and the names before the choice, and some that may not be ended there
pub record Enters (opcode_row : Span → Span → Spanned) (instr : SlotInstr) (layout scope outer : List Slot) (old new : Low) : Type 0 where
  pub code : new.emitter.code.items ≡ old.emitter.code.items ++ opcode_row instr.doing instr.checking ∷ []
  pub place_is : new.emitter.place ≡ spot [] layout
  pub scope_is : new.scope ≡ scope
  pub outer_is : new.outer ≡ outer
  pub marks_are : new.marks ≡ old.marks

pub then_test : (a : Bool) (f : Place → Option Place) (p : Place) → IsSome (option_and_then f (only_if a p)) → (a ≡ true) × IsSome (f p)
then_test true f p h = (refl, h)
then_test false f p h = absurd (false≢true h)

pub one_known : (operands : List Operand) → (length operands == 1) ≡ true → (k : Operand) × (operands ≡ k ∷ [])
one_known [] h = absurd (false≢true h)
one_known (k ∷ []) h = (k, refl)
one_known (k ∷ l ∷ operands) h = let e = eqb-true (length (k ∷ l ∷ operands)) 1 h in absurd (omega (arith, e))

module _ (instr : SlotInstr) (ys ns : List SlotInstr) (later : Slots) (held : List Slot) (never : Slots) (old marked : Low) (m : Marks instr.checking old marked) (e : instr.kind ≡ SlotKind.If ys ns) (ready : Ready (shapes_of instr).inner (either (reads_of instr) later) (λ s. has s held || never s) old) where
  abbrev hold : Slots
  hold s = has s held || never s

  abbrev reads : Slots
  reads = kind_reads (SlotKind-F.If (map reads_of ys) (map reads_of ns))

  -- behind the test
  abbrev pub tested : Place
  tested = place [] marked.scope marked.outer (statements_of marked.marks.items)

  if_tests : ((length marked.emitter.place.operands == 1) ≡ true) × IsSome (choice_shape (map shapes_of ys) (map shapes_of ns) tested)
  if_tests =
      then_test (length marked.emitter.place.operands == 1) (choice_shape (map shapes_of ys) (map shapes_of ns)) (with_operands [] (place_of marked))
      (kind_well instr later hold old marked m ready _ _ _ (at_if instr ys ns e))

  pub if_operand : (k : Operand) × (marked.emitter.place.operands ≡ k ∷ [])
  if_operand = one_known marked.emitter.place.operands if_tests.0

  if_tight : IsTight (kept (either reads later) hold) old.scope old.emitter.place.slots
  if_tight = kind_tight instr later hold old marked m ready _ _ _ (at_if instr ys ns e)

  same_layout : marked.emitter.place.slots ≡ old.emitter.place.slots
  same_layout = ap (λ (e : Emitter). e.place.slots) m.emitter

  abbrev after_if : List Slot
  after_if = filter later old.scope

  abbrev hold_yes : Slots
  hold_yes s = has s (held ++ filter (only_other ys ns) old.scope) || never s

  abbrev hold_no : Slots
  hold_no s = has s (held ++ filter (only_other ns ys) old.scope) || never s

  entered : (low : Low) (layout : List Slot) (seen : List Span) → low.emitter.place ≡ spot [] layout → low.scope ≡ marked.scope → low.outer ≡ marked.scope
      → statements_of low.marks.items ≡ seen → place_of low ≡ place [] marked.scope marked.scope seen
  entered low layout seen a b c d =
      ap (λ (p : Spot). place p.operands low.scope low.outer (statements_of low.marks.items)) a
      ∙ ap (λ l. place [] l low.outer (statements_of low.marks.items)) b ∙ ap (λ l. place [] marked.scope l (statements_of low.marks.items)) c
      ∙ ap (place [] marked.scope marked.scope) d

  module _ (a : Low) (in_a : Enters opens instr marked.emitter.place.slots marked.scope marked.scope marked a) where
    at_a : place_of a ≡ inside marked.scope tested
    at_a = entered a marked.emitter.place.slots (statements_of marked.marks.items) in_a.place_is in_a.scope_is in_a.outer_is (ap (λ (l : Vec Mark). statements_of l.items) in_a.marks_are)

    pub yes_begins : ReadyAll ys after_if hold_yes a
    yes_begins =
        arm_ready ys ns reads later held old.scope never (λ s. refl) a old.emitter.place.slots if_tight ready.once ready.few
        (subst (λ p. IsSome (shape_of_all ys p)) (sym at_a) (yes_some ys ns tested if_tests.1))
        (ap (λ (p : Spot). p.slots) in_a.place_is ∙ same_layout) (in_a.scope_is ∙ m.scope)

    module _ (b : Low) (y : DoesAll ys after_if hold_yes a b) where
      b_is : shape_of_all ys (inside marked.scope tested) ≡ Some (place_of b)
      b_is = ap (shape_of_all ys) (sym at_a) ∙ y.place

      b_back : Back marked.scope (place_of b)
      b_back = yes_back ys ns tested if_tests.1 (place_of b) b_is

      pub yes_ends : b.emitter.place.operands ≡ []
      yes_ends = b_back.operands

      pub yes_scope : b.scope ≡ old.scope
      yes_scope = b_back.slots_are ∙ m.scope

      pub yes_once : IsOnce b.emitter.place.slots
      yes_once = arm_once ys ns reads later held old.scope never (λ s. refl) a b (in_a.scope_is ∙ m.scope) yes_scope y

      module _ (target : List Slot) (target_is : target ≡ filter (kept later hold) b.emitter.place.slots) where
        target_tight : IsTight (kept later hold) old.scope target
        target_tight = arm_kept ys ns reads later held old.scope never (λ s. refl) a b (in_a.scope_is ∙ m.scope) yes_scope y target target_is

        module _ (j c : Low) (settled : Emits b.emitter j.emitter nothing) (at_j : j.emitter.place ≡ spot [] target) (same_marks : j.marks ≡ b.marks) (in_c : Enters flips instr marked.emitter.place.slots marked.scope marked.scope j c) where
          at_c : place_of c ≡ inside marked.scope (with_seen (place_of b).seen tested)
          at_c = entered c marked.emitter.place.slots (statements_of b.marks.items) in_c.place_is in_c.scope_is in_c.outer_is
              (ap (λ (l : Vec Mark). statements_of l.items) (in_c.marks_are ∙ same_marks))

          pub no_begins : ReadyAll ns after_if hold_no c
          no_begins =
              arm_ready ns ys reads later held old.scope never (swapped ys ns) c old.emitter.place.slots if_tight ready.once ready.few
              (subst (λ p. IsSome (shape_of_all ns p)) (sym at_c) (no_some ys ns tested if_tests.1 (place_of b) b_is))
              (ap (λ (p : Spot). p.slots) in_c.place_is ∙ same_layout) (in_c.scope_is ∙ m.scope)

          module _ (d : Low) (z : DoesAll ns after_if hold_no c d) where
            d_is : shape_of_all ns (inside marked.scope (with_seen (place_of b).seen tested)) ≡ Some (place_of d)
            d_is = ap (shape_of_all ns) (sym at_c) ∙ z.place

            d_back : Back marked.scope (place_of d)
            d_back = no_back ys ns tested if_tests.1 (place_of b) b_is (place_of d) d_is

            pub no_ends : d.emitter.place.operands ≡ []
            no_ends = d_back.operands

            pub no_scope : d.scope ≡ old.scope
            no_scope = d_back.slots_are ∙ m.scope

            pub no_once : IsOnce d.emitter.place.slots
            no_once = arm_once ns ys reads later held old.scope never (swapped ys ns) c d (in_c.scope_is ∙ m.scope) no_scope z

            pub target_within : (s : Slot) → count_of s target ≤ count_of s d.emitter.place.slots
            target_within = arm_within ns ys reads later held old.scope never (swapped ys ns) c d (in_c.scope_is ∙ m.scope) no_scope z target target_tight

            abbrev yes_did : Deed
            yes_did = then_deed y.lowers.did nothing

            abbrev no_did : Deed
            no_did = then_deed z.lowers.did nothing

            pub does_choice : (d' new : Low) → Emits d.emitter d'.emitter nothing → d'.emitter.place ≡ spot [] target
                → new.emitter.code.items ≡ d'.emitter.code.items ++ closes instr.doing instr.checking ∷ [] → new.emitter.place ≡ d'.emitter.place
                → new.scope ≡ d.scope → new.outer ≡ marked.outer → new.marks ≡ d.marks
                → Does (λ world. act_of world instr) (shapes_of instr).inner (either (reads_of instr) later) later hold old new
            does_choice d' new settled' at_d' code3 at_new in_new out_new marks_new =
                let at : new.emitter.place ≡ spot [] target = at_new ∙ at_d' in
                let scope_is : new.scope ≡ old.scope = in_new ∙ no_scope in
                let whole : Deed = λ world s. on_one instr.doing s.operands (λ x more. cond (truth_of x) (yes_did world) (no_did world) (state more s.env)) in
                does_kind instr later hold old marked m ready _ _ _ (at_if instr ys ns e) new whole
                (emits_choice marked.emitter a.emitter j.emitter c.emitter d'.emitter new.emitter yes_did no_did instr.doing instr.checking if_operand.0 if_operand.1 in_a.code in_a.place_is
                (emits_then a.emitter b.emitter j.emitter y.lowers.did nothing y.lowers.emits settled) in_c.code in_c.place_is
                (emits_then c.emitter d.emitter d'.emitter z.lowers.did nothing z.lowers.emits settled') (at_d' ∙ sym at_j) code3 at_new)
                (subst (λ l. Same (live old.scope (either reads later)) (live l later) (λ world. kind_act world (SlotKind-F.If (map (act_of world) ys) (map (act_of world) ns)) instr.doing instr.checking) whole) (sym scope_is)
                (same_lists (live old.scope (either reads later)) (live old.scope later) (λ world. map (act_of world) ys) (λ world. map (act_of world) ns) yes_did no_did instr.doing
                (arm_same ys ns reads later held old.scope never (λ s. refl) a b (in_a.scope_is ∙ m.scope) yes_scope y (λ s h. or_left (read_in ys s) (read_in ns s) h))
                (arm_same ns ys reads later held old.scope never (swapped ys ns) c d (in_c.scope_is ∙ m.scope) no_scope z (λ s h. or_right (read_in ys s) (read_in ns s) h))))
                (ap (λ t. option_and_then (choice_shape (map shapes_of ys) (map shapes_of ns)) (only_if t (with_operands [] (place_of marked)))) if_tests.0
                ∙ choice_is ys ns tested if_tests.1 (place_of b) b_is (place_of d) d_is
                ∙ ap Some (sym (ap (λ (p : Spot). place p.operands new.scope new.outer (statements_of new.marks.items)) at
                ∙ ap (λ l. place [] l new.outer (statements_of new.marks.items)) (in_new ∙ d_back.slots_are)
                ∙ ap (λ l. place [] marked.scope l (statements_of new.marks.items)) out_new
                ∙ ap (λ (l : Vec Mark). place [] marked.scope marked.outer (statements_of l.items)) marks_new)))
                (subst (λ l. IsTight (kept later hold) l new.emitter.place.slots) (sym scope_is)
                (subst (λ l. IsTight (kept later hold) old.scope l) (sym (ap (λ (p : Spot). p.slots) at)) target_tight))
                (subst IsOnce (sym scope_is) ready.once) (subst (λ l. length l ≤ most_slots) (sym scope_is) ready.few)
