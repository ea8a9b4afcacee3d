-- The kinds of instructions that name slots.
use Rattle.std.proofs.Common.{◌≡◌, ℕ, ◌+◌, ◌<◌, ◌≤◌, Bool, true, false, cond, not, List, [], ◌∷◌, ◌++◌, length, Option, Some, None, IsSome, refl, sym, ap, ◌∙◌, subst, arith}
use Rattle.std.specs.Prelude.{◌==◌, ◌||◌, ◌&&◌, nat_le, option_and_then}
use Rattle.std.proofs.lemmas.Bool.{false≢true, and_parts, eqb-true, leb-true, not-true}
use Rattle.cash_base.specs.declared.place.Slot.{Slot}
use Rattle.cash_base.specs.declared.place.Span.{Span}
use Rattle.std.specs.Global.{Vec}
use Rattle.script_codec.specs.declared.spans.Mark.{Mark}
use Rattle.slot_code.specs.declared.slots.SlotInstr.{SlotInstr}
use Rattle.slot_code.specs.declared.slots.SlotKind.TheVariants as SlotKind
use Rattle.slot_code.specs.declared.slots.SlotKind.TheOpen.{SlotKind-F}
use Rattle.slot_code.specs.Meaning.{act_of, kind_act}
use Rattle.slot_code.specs.Shape.{Place, Operand, shapes_of, kind_shapes, only_if, with_operands, has, without, most_slots, most_operands}
use Rattle.slot_liveness.specs.Live.{Slots, reads_of, kind_reads, either, kept, live}
use Rattle.slot_liveness.specs.Counts.{is_slot, count_of, less, IsOnce, IsTight}
use Rattle.slot_liveness.proofs.Counts.{is_itself, is_sym, has_by_count, count_filter, count_some, less_is}
use Rattle.slot_liveness.proofs.Sets.{fits, tight_within, tight_has, tight_not, tight_get, tight_define, tight_assign, tight_end, once_more, once_less, has_append}
use Rattle.stack_emitter.specs.declared.emit.Emitter.{Emitter}
use Rattle.stack_emitter.specs.Places.{Spot, spot}
use Rattle.stack_emitter.specs.Correct.{Emits, Adds, nothing, lit_deed, get_deed, store_deed}
use Rattle.stack_steps.specs.declared.low.Low.{Low}
use Rattle.stack_steps.specs.Lower.{Same, place_of, statements_of, Ready, Does}
use Rattle.stack_steps.specs.Operations.{Marks, Operates}
use Rattle.stack_steps.proofs.Same.{same_lit, same_get, same_store, same_forget}
use Rattle.stack_steps.proofs.AtKinds.{at_lit, at_get, at_define, at_assign, at_end}
use Rattle.stack_steps.proofs.Instrs.{place, only_true, low_of, kind_well, kind_tight, does_kind}
use Rattle.stack_steps.proofs.Operations.{operates}
use Rattle.script_codec.specs.Reading.{push}
use Rattle.script_codec.specs.Spelling.{minimal_push}
use Rattle.row_runs.specs.Rows.{row}
use Rattle.slot_code.specs.Weight.{Weighs}
use Rattle.stack_emitter.specs.Correct.{Costs}
use Rattle.stack_steps.proofs.Weighing.{weighs_lit}
use Rattle.stack_steps.proofs.PlacesAt.{places_lit}
use Rattle.stack_steps.proofs.Adding.{plain_told, adds_keys, adds_spends, top_none}

-- ---- a literal

module _ (instr : SlotInstr) (bytes : List ℕ) (e : instr.kind ≡ SlotKind.Lit (record { items = bytes })) where
  pub does_lit : (now : Low) (emitter : Emitter) → Adds instr.doing instr.checking now.emitter emitter (lit_deed bytes)
      → emitter.code.items ≡ now.emitter.code.items ++ row (push bytes) instr.doing instr.checking ∷ []
      → Costs now.emitter emitter (length (minimal_push bytes)) 0
      → emitter.place ≡ spot (Some bytes ∷ now.emitter.place.operands) now.emitter.place.slots → Operates instr now (low_of emitter now)
  does_lit now emitter x code costs place_is =
      operates instr _ _ _ (at_lit instr bytes e) (λ s. refl) (λ o. nat_le (length (Some bytes ∷ o)) most_operands) (λ o. Some bytes ∷ o) (λ p. refl)
      now emitter true (length (minimal_push bytes)) 0 (record {
        emits = x.emits;
        place = place_is;
        told = plain_told instr.doing instr.checking x.emits.rows x.plain;
        keys = adds_keys instr.doing instr.checking now.emitter emitter (lit_deed bytes) x
            (top_none emitter (Some bytes ∷ now.emitter.place.operands) (ap (λ (p : Spot). p.operands) place_is)
            (record { before = now.emitter.code.items; pusher = row (push bytes) instr.doing instr.checking; rows_are = code; pushes = refl }));
        spends = λ k. adds_spends instr.doing instr.checking now.emitter emitter (lit_deed bytes) (length (minimal_push bytes)) 0 x costs;
        weighs = ap (λ (w : Weighs). w.inner) (weighs_lit instr bytes e);
        places = places_lit instr bytes e;
      }) (λ a. same_lit a bytes)

-- ---- tests in turn

both_tests : (a b : Bool) (p : Place) → IsSome (cond a (only_if b p) None) → (a ≡ true) × (b ≡ true)
both_tests true b p h = (refl, only_true b p h)
both_tests false b p h = absurd (false≢true h)

pub then_test : (a : Bool) (f : Place → Option Place) (p : Place) → IsSome (option_and_then f (only_if a p)) → (a ≡ true) × IsSome (f p)
then_test true f p h = (refl, h)
then_test false f p h = absurd (false≢true h)

pub then_true : (a : Bool) (f : Place → Option Place) (p : Place) → a ≡ true → option_and_then f (only_if a p) ≡ f p
then_true a f p h = ap (λ t. option_and_then f (only_if t p)) h

-- what stands before an instruction whose statement begins here or before
module _ (instr : SlotInstr) (later hold : Slots) (old marked : Low) (m : Marks instr.checking old marked) (ready : Ready (shapes_of instr).inner (either (reads_of instr) later) hold old) where
  pub same_slots : marked.emitter.place.slots ≡ old.emitter.place.slots
  same_slots = ap (λ (e : Emitter). e.place.slots) m.emitter

  pub scope_has : (s : Slot) (b : Bool) → has s marked.scope ≡ b → has s old.scope ≡ b
  scope_has s b h = ap (has s) (sym m.scope) ∙ h

  -- the layout is no longer than the names in scope
  pub layout_few : (keeps : Slots) → IsTight keeps old.scope old.emitter.place.slots → length marked.emitter.place.slots ≤ most_slots
  layout_few keeps t =
      let a = fits old.emitter.place.slots old.scope (tight_within keeps old.scope old.emitter.place.slots t) in
      let b = ap length same_slots in
      let c = ready.few in
      omega (arith, a, b, c)

  module _ (slot : Slot) (e : instr.kind ≡ SlotKind.Get slot) where
    get_well : IsSome (cond (has slot marked.scope) (only_if (nat_le (length (None ∷ marked.emitter.place.operands)) most_operands) (with_operands (None ∷ marked.emitter.place.operands) (place_of marked))) None)
    get_well = kind_well instr later hold old marked m ready _ _ _ (at_get instr slot e)

    get_tests : (has slot marked.scope ≡ true) × (nat_le (length (None ∷ marked.emitter.place.operands)) most_operands ≡ true)
    get_tests = both_tests (has slot marked.scope) _ (with_operands (None ∷ marked.emitter.place.operands) (place_of marked)) get_well

    get_tight : IsTight (kept (either (kind_reads (SlotKind-F.Get slot)) later) hold) old.scope old.emitter.place.slots
    get_tight = kind_tight instr later hold old marked m ready _ _ _ (at_get instr slot e)

    pub get_room : length marked.emitter.place.operands + length marked.emitter.place.slots < 32768
    get_room =
        let a = leb-true (length (None ∷ marked.emitter.place.operands)) most_operands get_tests.1 in
        let b = layout_few _ get_tight in
        omega (arith, a, b)

    or_first : (a b c : Bool) → a ≡ true → ((a || b) || c) ≡ true
    or_first a b c h = ap (λ x. (x || b) || c) h

    pub get_has : has slot marked.emitter.place.slots ≡ true
    get_has =
        ap (has slot) same_slots
        ∙ tight_has (kept (either (kind_reads (SlotKind-F.Get slot)) later) hold) old.scope old.emitter.place.slots slot get_tight
        (or_first (slot.0 == slot.0) (later slot) (hold slot) (is_itself slot)) (scope_has slot true get_tests.0)

    pub does_get : (emitter : Emitter) (b : Bool) → b ≡ kept later hold slot → Emits marked.emitter emitter (get_deed slot)
        → emitter.place ≡ spot (None ∷ marked.emitter.place.operands) (cond b marked.emitter.place.slots (less slot marked.emitter.place.slots))
        → Does (λ world. act_of world instr) (shapes_of instr).inner (either (reads_of instr) later) later hold old (low_of emitter marked)
    does_get emitter b k x place_is =
        does_kind instr later hold old marked m ready _ _ _ (at_get instr slot e) (low_of emitter marked) (get_deed slot) x
        (subst (λ l. Same (live old.scope (either (kind_reads (SlotKind-F.Get slot)) later)) (live l later) (get_deed slot) (get_deed slot)) (sym m.scope)
        (same_get old.scope later (kind_reads (SlotKind-F.Get slot)) slot (is_itself slot) (scope_has slot true get_tests.0)))
        (ap (λ a. cond a (only_if (nat_le (length (None ∷ marked.emitter.place.operands)) most_operands) (with_operands (None ∷ marked.emitter.place.operands) (place_of marked))) None) get_tests.0
        ∙ ap (λ b. only_if b (with_operands (None ∷ marked.emitter.place.operands) (place_of marked))) get_tests.1
        ∙ ap (λ o. Some (place o marked.scope marked.outer (statements_of marked.marks.items))) (ap (λ (p : Spot). p.operands) (sym place_is)))
        (subst (λ l. IsTight (kept later hold) l emitter.place.slots) (sym m.scope)
        (tight_get slot (kind_reads (SlotKind-F.Get slot)) later hold old.scope old.emitter.place.slots emitter.place.slots b (is_itself slot) (λ s ne. is_sym slot s ne) get_tight ready.once k
        (ap (λ (p : Spot). p.slots) place_is ∙ ap (λ l. cond b l (less slot l)) same_slots)))
        (subst IsOnce (sym m.scope) ready.once) (subst (λ l. length l ≤ most_slots) (sym m.scope) ready.few)

  module _ (slot : Slot) (e : instr.kind ≡ SlotKind.Define slot) where
    abbrev defined : List Slot
    defined = marked.scope ++ slot ∷ []

    define_well : IsSome ((kind_shapes (SlotKind-F.Define slot)).inner (place_of marked))
    define_well = kind_well instr later hold old marked m ready _ _ _ (at_define instr slot e)

    define_tests : (length marked.emitter.place.operands == 1 ≡ true) × IsSome (only_if (not (has slot marked.scope) && nat_le (length defined) most_slots) (place [] defined marked.outer (statements_of marked.marks.items)))
    define_tests = then_test (length marked.emitter.place.operands == 1) _ (with_operands [] (place_of marked)) define_well

    define_test : (not (has slot marked.scope) && nat_le (length defined) most_slots) ≡ true
    define_test = only_true (not (has slot marked.scope) && nat_le (length defined) most_slots) _ define_tests.1

    pub define_one : length marked.emitter.place.operands ≡ 1
    define_one = eqb-true (length marked.emitter.place.operands) 1 define_tests.0

    define_new : has slot old.scope ≡ false
    define_new =
        scope_has slot false (not-true (has slot marked.scope) (and_parts (not (has slot marked.scope)) (nat_le (length defined) most_slots) define_test).0)

    define_tight : IsTight (kept later hold) old.scope old.emitter.place.slots
    define_tight = kind_tight instr later hold old marked m ready _ _ _ (at_define instr slot e)

    pub define_fresh : has slot marked.emitter.place.slots ≡ false
    define_fresh =
        ap (has slot) same_slots ∙ tight_not (kept later hold) old.scope old.emitter.place.slots slot define_tight define_new

    or_left : (a b : Bool) → a ≡ true → (a || b) ≡ true
    or_left a b h = ap (λ x. x || b) h

    grown : (t : Slot) → is_slot slot t ≡ false → live (old.scope ++ slot ∷ []) later t ≡ true → live old.scope later t ≡ true
    grown t ne h =
        let there : has t (old.scope ++ slot ∷ []) ≡ has t old.scope = has_append t old.scope (slot ∷ []) ∙ ap (λ b. has t old.scope || (b || false)) (is_sym slot t ne) ∙ or_none (has t old.scope) in
        ap (λ b. b && later t) (sym there) ∙ h
      where
        or_none : (b : Bool) → (b || false) ≡ b
        or_none true = refl
        or_none false = refl

    pub does_define : (emitter : Emitter) (new : Low) (b : Bool) → b ≡ kept later hold slot → ((doing : Span) → Adds instr.checking instr.checking marked.emitter emitter (store_deed b slot doing))
        → emitter.place ≡ spot [] (cond b (slot ∷ marked.emitter.place.slots) marked.emitter.place.slots) → new.emitter ≡ emitter → new.scope ≡ marked.scope ++ slot ∷ []
        → new.outer ≡ marked.outer → new.marks ≡ marked.marks
        → Does (λ world. act_of world instr) (shapes_of instr).inner (either (reads_of instr) later) later hold old new
    does_define emitter new b k x place_is e1 e2 e3 e4 =
        let scope_is : new.scope ≡ old.scope ++ slot ∷ [] = e2 ∙ ap (λ l. l ++ slot ∷ []) m.scope in
        let at : new.emitter.place ≡ spot [] (cond b (slot ∷ marked.emitter.place.slots) marked.emitter.place.slots) = ap (λ (e : Emitter). e.place) e1 ∙ place_is in
        does_kind instr later hold old marked m ready _ _ _ (at_define instr slot e) new (store_deed b slot instr.doing)
        (subst (λ e. Emits marked.emitter e (store_deed b slot instr.doing)) (sym e1) (x instr.doing).emits)
        (subst (λ l. Same (live old.scope later) (live l later) (λ world. kind_act world (SlotKind-F.Define slot) instr.doing instr.checking) (store_deed b slot instr.doing)) (sym scope_is)
        (same_store (live old.scope later) (live (old.scope ++ slot ∷ []) later) slot b
        (λ h. k ∙ or_left (later slot) (hold slot) (and_parts (has slot (old.scope ++ slot ∷ [])) (later slot) h).1) grown instr.doing))
        (then_true (length marked.emitter.place.operands == 1) _ (with_operands [] (place_of marked)) define_tests.0
        ∙ ap (λ b. only_if b (place [] defined marked.outer (statements_of marked.marks.items))) define_test
        ∙ ap (λ o. Some (place o defined marked.outer (statements_of marked.marks.items))) (sym (ap (λ (p : Spot). p.operands) at))
        ∙ ap (λ l. Some (place new.emitter.place.operands l marked.outer (statements_of marked.marks.items))) (sym e2)
        ∙ ap (λ l. Some (place new.emitter.place.operands new.scope l (statements_of marked.marks.items))) (sym e3)
        ∙ ap (λ (l : Vec Mark). Some (place new.emitter.place.operands new.scope new.outer (statements_of l.items))) (sym e4))
        (subst (λ l. IsTight (kept later hold) l new.emitter.place.slots) (sym scope_is)
        (tight_define slot later hold old.scope old.emitter.place.slots new.emitter.place.slots b define_tight define_new k
        (ap (λ (p : Spot). p.slots) at ∙ ap (λ l. cond b (slot ∷ l) l) same_slots)))
        (subst IsOnce (sym scope_is) (once_more slot old.scope ready.once define_new))
        (subst (λ l. length l ≤ most_slots) (sym e2) (leb-true (length defined) most_slots (and_parts (not (has slot marked.scope)) (nat_le (length defined) most_slots) define_test).1))

  module _ (slot : Slot) (e : instr.kind ≡ SlotKind.Assign slot) where
    assign_well : IsSome ((kind_shapes (SlotKind-F.Assign slot)).inner (place_of marked))
    assign_well = kind_well instr later hold old marked m ready _ _ _ (at_assign instr slot e)

    assign_tests : (length marked.emitter.place.operands == 1 ≡ true) × IsSome (only_if (has slot marked.scope) (with_operands [] (place_of marked)))
    assign_tests = then_test (length marked.emitter.place.operands == 1) _ (with_operands [] (place_of marked)) assign_well

    assign_test : has slot marked.scope ≡ true
    assign_test = only_true (has slot marked.scope) (with_operands [] (place_of marked)) assign_tests.1

    pub assign_one : length marked.emitter.place.operands ≡ 1
    assign_one = eqb-true (length marked.emitter.place.operands) 1 assign_tests.0

    assign_tight : IsTight (kept later hold) old.scope old.emitter.place.slots
    assign_tight = kind_tight instr later hold old marked m ready _ _ _ (at_assign instr slot e)

    pub assign_few : length marked.emitter.place.slots ≤ 160
    assign_few = layout_few _ assign_tight

    pub assign_once : count_of slot marked.emitter.place.slots ≤ 1
    assign_once =
        let a = tight_within (kept later hold) old.scope old.emitter.place.slots assign_tight slot in
        let b = ready.once slot in
        let c = ap (count_of slot) same_slots in
        omega (arith, a, b, c)

    first_of : (a b : Bool) → a ≡ true → (a || b) ≡ true
    first_of a b h = ap (λ x. x || b) h

    pub assign_has : (b : Bool) → b ≡ later slot → b ≡ true → has slot marked.emitter.place.slots ≡ true
    assign_has b k h =
        ap (has slot) same_slots
        ∙ tight_has (kept later hold) old.scope old.emitter.place.slots slot assign_tight (first_of (later slot) (hold slot) (sym k ∙ h)) (scope_has slot true assign_test)

    pub does_assign : (emitter : Emitter) (b : Bool) → b ≡ later slot → ((doing : Span) → Adds instr.checking instr.checking marked.emitter emitter (store_deed b slot doing))
        → emitter.place ≡ spot [] (cond b (slot ∷ less slot marked.emitter.place.slots) marked.emitter.place.slots)
        → Does (λ world. act_of world instr) (shapes_of instr).inner (either (reads_of instr) later) later hold old (low_of emitter marked)
    does_assign emitter b k x place_is =
        does_kind instr later hold old marked m ready _ _ _ (at_assign instr slot e) (low_of emitter marked) (store_deed b slot instr.doing) (x instr.doing).emits
        (subst (λ l. Same (live old.scope later) (live l later) (λ world. kind_act world (SlotKind-F.Assign slot) instr.doing instr.checking) (store_deed b slot instr.doing)) (sym m.scope)
        (same_store (live old.scope later) (live old.scope later) slot b (λ h. k ∙ (and_parts (has slot old.scope) (later slot) h).1) (λ t ne h. h) instr.doing))
        (then_true (length marked.emitter.place.operands == 1) _ (with_operands [] (place_of marked)) assign_tests.0
        ∙ ap (λ b. only_if b (with_operands [] (place_of marked))) assign_test
        ∙ ap (λ o. Some (place o marked.scope marked.outer (statements_of marked.marks.items))) (ap (λ (p : Spot). p.operands) (sym place_is)))
        (subst (λ l. IsTight (kept later hold) l emitter.place.slots) (sym m.scope)
        (tight_assign slot (kept later hold) old.scope old.emitter.place.slots emitter.place.slots b assign_tight
        (λ h. ap (has slot) (sym same_slots) ∙ assign_has b k h) (ap (λ (p : Spot). p.slots) place_is ∙ ap (λ l. cond b (slot ∷ less slot l) l) same_slots)))
        (subst IsOnce (sym m.scope) ready.once) (subst (λ l. length l ≤ most_slots) (sym m.scope) ready.few)

  module _ (slot : Slot) (e : instr.kind ≡ SlotKind.End slot) where
    abbrev left : List Slot
    left = without slot marked.scope

    end_well : IsSome ((kind_shapes (SlotKind-F.End slot)).inner (place_of marked))
    end_well = kind_well instr later hold old marked m ready _ _ _ (at_end instr slot e)

    end_tests : ((length marked.emitter.place.operands == 0) ≡ true) × IsSome (only_if (has slot marked.scope && not (has slot marked.outer)) (place [] left marked.outer (statements_of marked.marks.items)))
    end_tests = then_test (length marked.emitter.place.operands == 0) _ (with_operands [] (place_of marked)) end_well

    end_test : (has slot marked.scope && not (has slot marked.outer)) ≡ true
    end_test = only_true (has slot marked.scope && not (has slot marked.outer)) _ end_tests.1

    pub end_has : has slot marked.scope ≡ true
    end_has = (and_parts (has slot marked.scope) (not (has slot marked.outer)) end_test).0

    pub end_once : count_of slot marked.scope ≤ 1
    end_once = subst (λ l. count_of slot l ≤ 1) (sym m.scope) (ready.once slot)

    no_operands : length marked.emitter.place.operands ≡ 0
    no_operands = eqb-true (length marked.emitter.place.operands) 0 end_tests.0

    pub end_none : marked.emitter.place.operands ≡ []
    end_none = none_left marked.emitter.place.operands no_operands
      where
        none_left : (operands : List Operand) → length operands ≡ 0 → operands ≡ []
        none_left [] h = refl
        none_left (k ∷ operands) h = absurd (omega (arith, h))

    end_tight : IsTight (kept later hold) old.scope old.emitter.place.slots
    end_tight = kind_tight instr later hold old marked m ready _ _ _ (at_end instr slot e)

    pub end_room : length marked.emitter.place.operands + length marked.emitter.place.slots < 32768
    end_room = let a = no_operands in let b = layout_few _ end_tight in omega (arith, a, b)

    shorter : (slots : List Slot) → length (without slot slots) ≤ length slots
    shorter [] = omega arith
    shorter (x ∷ xs) = by (is_slot slot x) (shorter xs)
      where
        by : (b : Bool) → length (without slot xs) ≤ length xs → length (cond (not b) (x ∷ without slot xs) (without slot xs)) ≤ length (x ∷ xs)
        by true h = omega (arith, h)
        by false h = omega (arith, h)

    fewer : (t : Slot) → has t (without slot old.scope) ≡ true → (is_slot slot t ≡ false) × (has t old.scope ≡ true)
    fewer t h = by (is_slot slot t) refl (count_filter (λ s. not (is_slot slot s)) t old.scope)
      where
        some : 1 ≤ count_of t (without slot old.scope)
        some = count_some t (without slot old.scope) h

        by : (b : Bool) → is_slot slot t ≡ b → count_of t (without slot old.scope) ≡ cond (not b) (count_of t old.scope) 0 → (is_slot slot t ≡ false) × (has t old.scope ≡ true)
        by true k f = absurd (omega (arith, some, f))
        by false k f = (k, has_by_count t old.scope (omega (arith, some, f)))

    scope_less : less slot old.scope ≡ without slot old.scope
    scope_less = less_is slot old.scope (ready.once slot)

    pub does_end : (emitter : Emitter) (new : Low) → Adds instr.checking instr.checking marked.emitter emitter nothing
        → emitter.place ≡ spot marked.emitter.place.operands (less slot marked.emitter.place.slots) → new.emitter ≡ emitter → new.scope ≡ without slot marked.scope
        → new.outer ≡ marked.outer → new.marks ≡ marked.marks
        → Does (λ world. act_of world instr) (shapes_of instr).inner (either (reads_of instr) later) later hold old new
    does_end emitter new x place_is e1 e2 e3 e4 =
        let scope_is : new.scope ≡ without slot old.scope = e2 ∙ ap (without slot) m.scope in
        let at : new.emitter.place ≡ spot marked.emitter.place.operands (less slot marked.emitter.place.slots) = ap (λ (e : Emitter). e.place) e1 ∙ place_is in
        let layout_is : new.emitter.place.slots ≡ less slot old.emitter.place.slots = ap (λ (p : Spot). p.slots) at ∙ ap (less slot) same_slots in
        does_kind instr later hold old marked m ready _ _ _ (at_end instr slot e) new nothing
        (subst (λ e. Emits marked.emitter e nothing) (sym e1) x.emits)
        (subst (λ l. Same (live old.scope later) (live l later) (λ world. kind_act world (SlotKind-F.End slot) instr.doing instr.checking) nothing) (sym scope_is)
        (same_forget slot old.scope (without slot old.scope) later fewer))
        (then_true (length marked.emitter.place.operands == 0) _ (with_operands [] (place_of marked)) end_tests.0
        ∙ ap (λ b. only_if b (place [] left marked.outer (statements_of marked.marks.items))) end_test
        ∙ ap (λ o. Some (place o left marked.outer (statements_of marked.marks.items))) (sym (ap (λ (p : Spot). p.operands) at ∙ none_left marked.emitter.place.operands no_operands))
        ∙ ap (λ l. Some (place new.emitter.place.operands l marked.outer (statements_of marked.marks.items))) (sym e2)
        ∙ ap (λ l. Some (place new.emitter.place.operands new.scope l (statements_of marked.marks.items))) (sym e3)
        ∙ ap (λ (l : Vec Mark). Some (place new.emitter.place.operands new.scope new.outer (statements_of l.items))) (sym e4))
        (subst (λ l. IsTight (kept later hold) l new.emitter.place.slots) (sym scope_is)
        (subst (λ l. IsTight (kept later hold) (without slot old.scope) l) (sym layout_is)
        (subst (λ l. IsTight (kept later hold) l (less slot old.emitter.place.slots)) scope_less (tight_end slot (kept later hold) old.scope old.emitter.place.slots end_tight ready.once))))
        (subst IsOnce (sym scope_is) (subst IsOnce scope_less (once_less slot old.scope ready.once)))
        (subst (λ l. length l ≤ most_slots) (sym scope_is) (let a = shorter old.scope in let b = ready.few in omega (arith, a, b)))
      where
        none_left : (operands : List Operand) → length operands ≡ 0 → operands ≡ []
        none_left [] h = refl
        none_left (k ∷ operands) h = absurd (omega (arith, h))
