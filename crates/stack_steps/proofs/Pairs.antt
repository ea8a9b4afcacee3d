-- Two names from both parts of a split.
use Rattle.std.proofs.Common.{◌≡◌, ℕ, ◌≤◌, Bool, true, false, cond, not, List, [], ◌∷◌, ◌++◌, length, Some, IsSome, Ok, refl, sym, ap, ◌∙◌, subst}
use Rattle.std.specs.Prelude.{◌==◌, ◌||◌, ◌&&◌, nat_le, option_and_then}
use Rattle.std.proofs.lemmas.Bool.{false≢true, and_parts, eqb-true, leb-true, not-true}
use Rattle.cash_base.specs.declared.place.Slot.{Slot}
use Rattle.cash_base.specs.declared.place.Span.{Span}
use Rattle.std.specs.Global.{Vec}
use Rattle.script_codec.specs.declared.spans.Mark.{Mark}
use Rattle.tx_context.specs.World.{World}
use Rattle.source_meaning.specs.Meaning.{Env, with_value}
use Rattle.slot_code.specs.declared.slots.SlotInstr.{SlotInstr}
use Rattle.slot_code.specs.declared.slots.SlotKind.TheVariants as SlotKind
use Rattle.slot_code.specs.declared.slots.SlotKind.TheOpen.{SlotKind-F}
use Rattle.slot_code.specs.Meaning.{state, act_of, kind_act, on_two}
use Rattle.slot_code.specs.Shape.{Place, shapes_of, kind_shapes, only_if, with_operands, defines, then_shape, has, most_slots}
use Rattle.slot_liveness.specs.Live.{Slots, reads_of, either, kept, live}
use Rattle.slot_liveness.specs.Counts.{is_slot, IsOnce, IsTight}
use Rattle.slot_liveness.proofs.Counts.{is_sym}
use Rattle.slot_liveness.proofs.Sets.{tight_not, tight_define, once_more, has_append}
use Rattle.stack_emitter.specs.declared.emit.Emitter.{Emitter}
use Rattle.stack_emitter.specs.Places.{Spot, spot}
use Rattle.stack_emitter.specs.Correct.{Emits, Adds, pair_deed}
use Rattle.stack_steps.specs.declared.low.Low.{Low}
use Rattle.stack_steps.specs.Lower.{AgreeOn, SameEnd, Same, place_of, statements_of, Ready, Does}
use Rattle.stack_steps.specs.Operations.{Marks}
use Rattle.stack_steps.proofs.Same.{stored_agree, dropped_agree}
use Rattle.stack_steps.proofs.AtKinds.{at_define_pair}
use Rattle.stack_steps.proofs.Instrs.{place, only_true, kind_well, kind_tight, does_kind}
use Rattle.stack_steps.proofs.Names.{same_slots, scope_has, then_test, then_true}

or_none : (b : Bool) → (b || false) ≡ b
or_none true = refl
or_none false = refl

-- what is live with a name more was live before it, but for the name
live_before : (scope : List Slot) (slot : Slot) (later : Slots) (t : Slot) → is_slot slot t ≡ false → live (scope ++ slot ∷ []) later t ≡ true → live scope later t ≡ true
live_before scope slot later t ne h =
    let there : has t (scope ++ slot ∷ []) ≡ has t scope = has_append t scope (slot ∷ []) ∙ ap (λ b. has t scope || (b || false)) (is_sym slot t ne) ∙ or_none (has t scope) in
    ap (λ b. b && later t) (sym there) ∙ h

abbrev put_value : Bool → Slot → List ℕ → Env → Env
put_value true slot x env = with_value slot x env
put_value false slot x env = env

put_agree : (before after : Slots) (slot : Slot) (keep : Bool) → (after slot ≡ true → keep ≡ true)
    → ((t : Slot) → is_slot slot t ≡ false → after t ≡ true → before t ≡ true) → (x : List ℕ) (env env' : Env) → AgreeOn before env env'
    → AgreeOn after (with_value slot x env) (put_value keep slot x env')
put_agree before after slot true needed others x env env' h = λ t k. stored_agree before after slot true needed others x env env' h t (is_slot slot t) refl k
put_agree before after slot false needed others x env env' h = λ t k. dropped_agree before after slot false needed others refl x env env' h t (is_slot slot t) refl k

module _ (a b c : Slots) (left right : Slot) (lk rk : Bool) (needed : b left ≡ true → lk ≡ true) (needed' : c right ≡ true → rk ≡ true) (others : (t : Slot) → is_slot left t ≡ false → b t ≡ true → a t ≡ true) (others' : (t : Slot) → is_slot right t ≡ false → c t ≡ true → b t ≡ true) where
  both : (l r : Bool) → lk ≡ l → rk ≡ r → (x y : List ℕ) (env env' : Env) → AgreeOn a env env'
      → AgreeOn c (with_value right y (with_value left x env)) (put_value r right y (put_value l left x env'))
  both l r e f x y env env' h =
      put_agree b c right r (λ k. sym f ∙ needed' k) others' y (with_value left x env) (put_value l left x env')
      (put_agree a b left l (λ k. sym e ∙ needed k) others x env env' h)

  pair_ends : (d : Span) (world : World) (l r : Bool) → lk ≡ l → rk ≡ r → (operands : List (List ℕ)) (env env' : Env) → AgreeOn a env env'
      → SameEnd c (on_two d operands (λ x y rest. Ok (state rest (with_value right y (with_value left x env))))) (pair_deed l r left right d world (state operands env'))
  pair_ends d world true true e f [] env env' h = refl
  pair_ends d world true false e f [] env env' h = refl
  pair_ends d world false true e f [] env env' h = refl
  pair_ends d world false false e f [] env env' h = refl
  pair_ends d world true true e f (x ∷ []) env env' h = refl
  pair_ends d world true false e f (x ∷ []) env env' h = refl
  pair_ends d world false true e f (x ∷ []) env env' h = refl
  pair_ends d world false false e f (x ∷ []) env env' h = refl
  pair_ends d world true true e f (y ∷ x ∷ rest) env env' h = (refl, both true true e f x y env env' h)
  pair_ends d world true false e f (y ∷ x ∷ rest) env env' h = (refl, both true false e f x y env env' h)
  pair_ends d world false true e f (y ∷ x ∷ rest) env env' h = (refl, both false true e f x y env env' h)
  pair_ends d world false false e f (y ∷ x ∷ rest) env env' h = (refl, both false false e f x y env env' h)

  pub same_pair : (d : Span) → Same a c (λ world s. on_two d s.operands (λ x y rest. Ok (state rest (with_value right y (with_value left x s.env))))) (pair_deed lk rk left right d)
  same_pair d = record { ends = λ world s env h. pair_ends d world lk rk refl refl s.operands s.env env h }

module _ (instr : SlotInstr) (later hold : Slots) (old marked : Low) (m : Marks instr.checking old marked) (ready : Ready (shapes_of instr).inner (either (reads_of instr) later) hold old) (left right : Slot) (e : instr.kind ≡ SlotKind.DefinePair left right) where
  abbrev first : List Slot
  first = marked.scope ++ left ∷ []

  abbrev second : List Slot
  second = first ++ right ∷ []

  abbrev at_seen : List Slot → Place
  at_seen slots = place [] slots marked.outer (statements_of marked.marks.items)

  abbrev left_is : Bool
  left_is = not (has left marked.scope) && nat_le (length first) most_slots

  abbrev right_is : Bool
  right_is = not (has right first) && nat_le (length second) most_slots

  pair_well : IsSome ((kind_shapes (SlotKind-F.DefinePair left right)).inner (place_of marked))
  pair_well = kind_well instr later hold old marked m ready _ _ _ (at_define_pair instr left right e)

  pair_tests : ((length marked.emitter.place.operands == 2) ≡ true) × IsSome (option_and_then (defines right) (only_if left_is (at_seen first)))
  pair_tests = then_test (length marked.emitter.place.operands == 2) (then_shape (defines left) (defines right)) (with_operands [] (place_of marked)) pair_well

  left_tests : (left_is ≡ true) × IsSome (only_if right_is (at_seen second))
  left_tests = then_test left_is (defines right) (at_seen first) pair_tests.1

  right_test : right_is ≡ true
  right_test = only_true right_is (at_seen second) left_tests.1

  pub pair_two : length marked.emitter.place.operands ≡ 2
  pair_two = eqb-true (length marked.emitter.place.operands) 2 pair_tests.0

  left_new : has left marked.scope ≡ false
  left_new = not-true (has left marked.scope) (and_parts (not (has left marked.scope)) (nat_le (length first) most_slots) left_tests.0).0

  right_new : has right first ≡ false
  right_new = not-true (has right first) (and_parts (not (has right first)) (nat_le (length second) most_slots) right_test).0

  right_parts : (has right marked.scope ≡ false) × (is_slot right left ≡ false)
  right_parts = by (has right marked.scope) (is_slot right left) (sym (has_append right marked.scope (left ∷ [])) ∙ right_new)
    where
      by : (a b : Bool) → (a || (b || false)) ≡ false → (a ≡ false) × (b ≡ false)
      by false false h = (refl, refl)
      by false true h = absurd (false≢true (sym h))
      by true b h = absurd (false≢true (sym h))

  pub pair_differ : is_slot right left ≡ false
  pair_differ = right_parts.1

  pair_tight : IsTight (kept later hold) old.scope old.emitter.place.slots
  pair_tight = kind_tight instr later hold old marked m ready _ _ _ (at_define_pair instr left right e)

  pub pair_left : has left marked.emitter.place.slots ≡ false
  pair_left =
      ap (has left) (same_slots instr later hold old marked m ready)
      ∙ tight_not (kept later hold) old.scope old.emitter.place.slots left pair_tight (scope_has instr later hold old marked m ready left false left_new)

  pub pair_right : has right marked.emitter.place.slots ≡ false
  pair_right =
      ap (has right) (same_slots instr later hold old marked m ready)
      ∙ tight_not (kept later hold) old.scope old.emitter.place.slots right pair_tight (scope_has instr later hold old marked m ready right false right_parts.0)

  or_left : (a b : Bool) → a ≡ true → (a || b) ≡ true
  or_left a b h = ap (λ x. x || b) h

  pub does_pair : (emitter : Emitter) (new : Low) (lk rk : Bool) → lk ≡ kept later hold left → rk ≡ kept later hold right
      → ((doing : Span) → Adds instr.checking instr.checking marked.emitter emitter (pair_deed lk rk left right doing))
      → emitter.place ≡ spot [] (cond rk (right ∷ cond lk (left ∷ marked.emitter.place.slots) marked.emitter.place.slots) (cond lk (left ∷ marked.emitter.place.slots) marked.emitter.place.slots))
      → new.emitter ≡ emitter → new.scope ≡ second → new.outer ≡ marked.outer → new.marks ≡ marked.marks
      → Does (λ world. act_of world instr) (shapes_of instr).inner (either (reads_of instr) later) later hold old new
  does_pair emitter new lk rk kl kr x place_is e1 e2 e3 e4 =
      let first_is : first ≡ old.scope ++ left ∷ [] = ap (λ l. l ++ left ∷ []) m.scope in
      let scope_is : new.scope ≡ (old.scope ++ left ∷ []) ++ right ∷ [] = e2 ∙ ap (λ l. l ++ right ∷ []) first_is in
      let at : new.emitter.place ≡ spot [] (cond rk (right ∷ cond lk (left ∷ marked.emitter.place.slots) marked.emitter.place.slots) (cond lk (left ∷ marked.emitter.place.slots) marked.emitter.place.slots)) = ap (λ (e : Emitter). e.place) e1 ∙ place_is in
      let fresh_left : has left old.scope ≡ false = scope_has instr later hold old marked m ready left false left_new in
      let fresh_right : has right (old.scope ++ left ∷ []) ≡ false = ap (has right) (sym first_is) ∙ right_new in
      let middle : List Slot = cond lk (left ∷ old.emitter.place.slots) old.emitter.place.slots in
      does_kind instr later hold old marked m ready _ _ _ (at_define_pair instr left right e) new (pair_deed lk rk left right instr.doing)
      (subst (λ e. Emits marked.emitter e (pair_deed lk rk left right instr.doing)) (sym e1) (x instr.doing).emits)
      (subst (λ l. Same (live old.scope later) (live l later) (λ world. kind_act world (SlotKind-F.DefinePair left right) instr.doing instr.checking) (pair_deed lk rk left right instr.doing)) (sym scope_is)
      (same_pair (live old.scope later) (live (old.scope ++ left ∷ []) later) (live ((old.scope ++ left ∷ []) ++ right ∷ []) later) left right lk rk
      (λ h. kl ∙ or_left (later left) (hold left) (and_parts (has left (old.scope ++ left ∷ [])) (later left) h).1)
      (λ h. kr ∙ or_left (later right) (hold right) (and_parts (has right ((old.scope ++ left ∷ []) ++ right ∷ [])) (later right) h).1)
      (live_before old.scope left later) (live_before (old.scope ++ left ∷ []) right later) instr.doing))
      (then_true (length marked.emitter.place.operands == 2) (then_shape (defines left) (defines right)) (with_operands [] (place_of marked)) pair_tests.0
      ∙ then_true left_is (defines right) (at_seen first) left_tests.0
      ∙ ap (λ b. only_if b (at_seen second)) right_test
      ∙ ap (λ o. Some (place o second marked.outer (statements_of marked.marks.items))) (sym (ap (λ (p : Spot). p.operands) at))
      ∙ ap (λ l. Some (place new.emitter.place.operands l marked.outer (statements_of marked.marks.items))) (sym e2)
      ∙ ap (λ l. Some (place new.emitter.place.operands new.scope l (statements_of marked.marks.items))) (sym e3)
      ∙ ap (λ (l : Vec Mark). Some (place new.emitter.place.operands new.scope new.outer (statements_of l.items))) (sym e4))
      (subst (λ l. IsTight (kept later hold) l new.emitter.place.slots) (sym scope_is)
      (tight_define right later hold (old.scope ++ left ∷ []) middle new.emitter.place.slots rk
      (tight_define left later hold old.scope old.emitter.place.slots middle lk pair_tight fresh_left kl refl) fresh_right kr
      (ap (λ (p : Spot). p.slots) at ∙ ap (λ l. cond rk (right ∷ cond lk (left ∷ l) l) (cond lk (left ∷ l) l)) (same_slots instr later hold old marked m ready))))
      (subst IsOnce (sym scope_is) (once_more right (old.scope ++ left ∷ []) (once_more left old.scope ready.once fresh_left) fresh_right))
      (subst (λ l. length l ≤ most_slots) (sym e2) (leb-true (length second) most_slots (and_parts (not (has right first)) (nat_le (length second) most_slots) right_test).1))
