-- Each kind of instruction that works on operands alone.
use Rattle.std.proofs.Common.{◌≡◌, ℕ, ◌≤◌, Bool, true, false, List, [], ◌∷◌, ◌++◌, length, drop, None, Result, Ok, Err, refl, sym, ap, ◌∙◌, subst, arith, cond}
use Rattle.std.specs.Prelude.{◌==◌, ◌||◌, ◌&&◌, nat_le}
use Rattle.std.proofs.lemmas.Bool.{false≢true, and_parts, and_from, leb-true, eqb-true}
use Rattle.cash_base.specs.declared.fault.Cause.{Cause}
use Rattle.cash_base.specs.declared.look.Look0.{Look0}
use Rattle.cash_base.specs.declared.look.LookAt.{LookAt}
use Rattle.cash_base.specs.declared.place.Slot.{Slot}
use Rattle.cash_base.specs.declared.place.Span.{Span}
use Rattle.cash_base.specs.Failing.{◌>>=◌}
use Rattle.element_ops.specs.declared.op.Op1.{Op1}
use Rattle.element_ops.specs.declared.op.Op1.TheVariants.{Size}
use Rattle.element_ops.specs.declared.op.Op2.{Op2}
use Rattle.element_ops.specs.declared.op.Op3.{Op3}
use Rattle.element_ops.specs.Operation.{Outcome, result1, result2, result3}
use Rattle.tx_context.specs.World.{World}
use Rattle.tx_context.specs.Lookup.{context_value, indexed_value, time_outcome, age_outcome}
use Rattle.tx_context.specs.Verdict.{single_verdict}
use Rattle.tx_context.specs.declared.verdict.Kind.TheVariants.{Single, DataSig}
use Rattle.form_tables.specs.Forms.{verdict_result}
use Rattle.script_codec.specs.declared.spans.Spanned.{Spanned}
use Rattle.opcode_table.specs.declared.rows.Deed.{Deed as TableDeed}
use Rattle.opcode_table.specs.declared.rows.Deed.TheVariants.{One, Two, Three, Asks, AsksAt, Checks, ChecksData, Splits, Measures, Waits, Ages, Verifies}
use Rattle.opcode_table.specs.Table.{rows}
use Rattle.opcode_table.specs.Stack as vm
use Rattle.opcode_table.specs.Deeds as deeds
use Rattle.slot_code.specs.declared.slots.SlotInstr.{SlotInstr}
use Rattle.slot_code.specs.declared.slots.SlotKind.TheVariants as SlotKind
use Rattle.slot_code.specs.Weight.{Weighs, weighs_of, op_weigh}
use Rattle.slot_code.specs.Shape.{Place, Shapes, Operand, has, only_if, with_operands, most_operands}
use Rattle.slot_liveness.specs.Live.{Slots, either, live}
use Rattle.row_runs.specs.Rows.{row}
use Rattle.stack_emitter.specs.declared.emit.Emitter.{Emitter}
use Rattle.stack_emitter.specs.Places.{Spot, spot}
use Rattle.stack_emitter.specs.Codes.{IsOpcode, deed1, are_plain, bytes_of, ops_of}
use Rattle.stack_emitter.specs.Correct.{Deed, Follows, Emits}
use Rattle.stack_emitter.proofs.Steps.{op, emits_by, op_plain}
use Rattle.stack_emitter.proofs.Sizes.{bytes_append, ops_append}
use Rattle.stack_emitter.proofs.Quiet.{quiet1, quiet2, quiet3, context_quiet, indexed_quiet, single_quiet}
use Rattle.stack_emitter.proofs.Works.{none_follows, one_follows, two_follows, three_follows, split_follows, size_follows, left_follows, right_follows, check_follows, lock_follows, drop_table, nip_table}
use Rattle.stack_steps.specs.declared.low.Low.{Low}
use Rattle.stack_steps.specs.Lower.{Same, place_of}
use Rattle.stack_steps.specs.Operations.{Marks, Started, Operates}
use Rattle.stack_steps.specs.Steps.{are_told, Placing, stays, places_of, TopPushed, KeysKnown}
use Rattle.stack_steps.proofs.Same.{same_fewer, same_gives, same_one, same_two, same_three, same_keep, same_split, same_check, same_lock}
use Rattle.stack_steps.proofs.AtKinds.{At, at_do1, at_do2, at_do3, at_split, at_keep, at_look0, at_look_at, at_check_sig, at_check_data, at_time, at_age, at_require}
use Rattle.stack_steps.proofs.Adding.{cost, Spends, plain_told, keys_of, top_none, grown_bytes, grown_counted, pays_same, op_bytes, op_ops}
use Rattle.stack_steps.proofs.Weighing.{weighs_do1, weighs_do2, weighs_do3, weighs_split, weighs_keep, weighs_look0, weighs_look_at, weighs_check_sig, weighs_check_data, weighs_time, weighs_age, weighs_require}
use Rattle.stack_steps.proofs.PlacesAt.{places_do1, places_do2, places_do3, places_split, places_keep, places_look0, places_look_at, places_check_sig, places_check_data, places_time, places_age, places_require}
use Rattle.stack_steps.proofs.Instrs.{low_of, operation_test, does_operation}

-- what rows of the instruction added
pub record Added (instr : SlotInstr) (now : Low) (emitter : Emitter) (deed : Deed) (operands : List Operand) (serves : Bool) (b o : ℕ) : Type 0 where
  pub emits : Emits now.emitter emitter deed
  pub place : emitter.place ≡ spot operands now.emitter.place.slots
  pub told : are_told (cond serves instr.doing instr.checking) instr.checking emits.rows ≡ true
  pub keys : KeysKnown now.emitter → KeysKnown emitter
  pub spends : KeysKnown now.emitter → Spends now.emitter emitter b o
  pub weighs : (weighs_of instr).inner ≡ cost b o
  pub places : places_of instr ≡ stays serves

-- plain rows
pub added_plain : (instr : SlotInstr) (now : Low) (emitter : Emitter) (deed : Deed) (operands : List Operand) (serves : Bool) (b o : ℕ) (rows : List Spanned)
    → emitter.code.items ≡ now.emitter.code.items ++ rows → emitter.place ≡ spot operands now.emitter.place.slots
    → Follows rows deed now.emitter.place (spot operands now.emitter.place.slots) → are_plain (cond serves instr.doing instr.checking) instr.checking rows ≡ true → TopPushed operands emitter.code.items
    → bytes_of rows ≤ b → ops_of rows ≤ o → (weighs_of instr).inner ≡ cost b o → places_of instr ≡ stays serves
    → Added instr now emitter deed operands serves b o
added_plain instr now emitter deed operands serves b o rows code place follows plain top few_bytes few_ops weighs places =
    let l = ap (λ (p : Spot). length p.slots) place in
    let i = grown_bytes now.emitter emitter rows b code few_bytes in
    let d = cond serves instr.doing instr.checking in
    let j = grown_counted d instr.checking now.emitter emitter rows code plain in
    record {
      emits = emits_by now.emitter emitter rows deed (spot operands now.emitter.place.slots) code place follows;
      place = place;
      told = plain_told d instr.checking rows plain;
      keys = keys_of d instr.checking now.emitter emitter rows code plain (top_none emitter operands (ap (λ (p : Spot). p.operands) place) top);
      spends = λ k. record { bytes_fit = omega (arith, l, i); ops_fit = omega (arith, l, j, few_ops) };
      weighs = weighs;
      places = places;
    }

module _ (instr : SlotInstr) (deed : Deed) (shapes : Shapes) (reads : Slots) (at : At instr deed shapes reads) (none : (s : Slot) → reads s ≡ false) (f : List Operand → Bool) (g : List Operand → List Operand) (inner_at : (p : Place) → shapes.inner p ≡ only_if (f p.operands) (with_operands (g p.operands) p)) where
  pub test_of : (now : Low) → Started instr now → f now.emitter.place.operands ≡ true
  test_of now s =
      operation_test instr s.later s.hold s.before now s.marks s.ready deed shapes reads at none (f now.emitter.place.operands) (g now.emitter.place.operands)
      (inner_at (place_of now))

  pub operates : (now : Low) (emitter : Emitter) (serves : Bool) (b o : ℕ) → Added instr now emitter deed (g now.emitter.place.operands) serves b o
      → ((a : Slots) → Same a a deed deed) → Operates instr now (low_of emitter now)
  operates now emitter serves b o x same = record {
    does = λ before later hold marks ready.
        does_operation instr later hold before now marks ready deed shapes reads at none (f now.emitter.place.operands) (g now.emitter.place.operands)
        (inner_at (place_of now)) emitter deed x.emits
        (same_fewer (live before.scope later) (live before.scope later) (live before.scope (either reads later)) (live before.scope later) deed deed
        (λ s e. more s (has s before.scope) (later s) (and_parts (has s before.scope) (later s) e)) (λ s e. e) (same (live before.scope later))) x.place;
    tells = record {
      rows = x.emits.rows;
      grown = x.emits.grown;
      told = ap (λ (p : Placing). are_told (cond p.serves instr.doing instr.checking) instr.checking x.emits.rows) x.places ∙ x.told;
    };
    lays = λ later hold. ap (λ (p : Spot). p.slots) x.place ∙ ap (λ (p : Placing). p.lays later hold now.emitter.place.slots) (sym x.places);
    keys = x.keys;
    pays = λ k. pays_same (weighs_of instr).inner b o now (low_of emitter now) x.weighs refl (x.spends k);
    scope = refl;
    marks = refl;
  }
    where
      or_right : (x y : Bool) → y ≡ true → (x || y) ≡ true
      or_right true y e = refl
      or_right false y e = e

      more : (s : Slot) (h l : Bool) → (h ≡ true) × (l ≡ true) → (h && (reads s || l)) ≡ true
      more s h l k = and_from h (reads s || l) k.0 (or_right (reads s) l k.1)

pub size_opcode : IsOpcode 0x82 Measures
unfolding rows
size_opcode = record { row = refl; plain = refl }

pub split_opcode : IsOpcode 0x7f Splits
unfolding rows
split_opcode = record { row = refl; plain = refl }

pub verify_opcode : IsOpcode 0x69 Verifies
unfolding rows
verify_opcode = record { row = refl; plain = refl }

pub sig_opcode : IsOpcode 0xac Checks
unfolding rows
sig_opcode = record { row = refl; plain = refl }

pub data_opcode : IsOpcode 0xba ChecksData
unfolding rows
data_opcode = record { row = refl; plain = refl }

pub time_opcode : IsOpcode 0xb1 Waits
unfolding rows
time_opcode = record { row = refl; plain = refl }

pub age_opcode : IsOpcode 0xb2 Ages
unfolding rows
age_opcode = record { row = refl; plain = refl }

abbrev new_row : ℕ → SlotInstr → Spanned
new_row opcode instr = row (op opcode) instr.doing instr.checking

two_bytes : (a b : ℕ) (d c : Span) → bytes_of (row (op a) d c ∷ row (op b) d c ∷ []) ≤ 2
two_bytes a b d c =
    let e = bytes_append (row (op a) d c ∷ []) (row (op b) d c ∷ []) in let f = op_bytes a d c in let g = op_bytes b d c in omega (arith, e, f, g)

two_ops : (a b : ℕ) (d c : Span) → ops_of (row (op a) d c ∷ row (op b) d c ∷ []) ≤ 2
two_ops a b d c =
    let e = ops_append (row (op a) d c ∷ []) (row (op b) d c ∷ []) in let f = op_ops a d c in let g = op_ops b d c in omega (arith, e, f, g)

two_deeds : deed1 Size ≡ One Size → ⊥
two_deeds h = absurd cc

pub not_size : (o : Op1) → deed1 o ≡ One o → o ≡ Size → ⊥
not_size o h e = two_deeds (subst (λ x. deed1 x ≡ One x) e h)

-- the operation that gives a size has an opcode with another deed
one_weighs : (instr : SlotInstr) (o : Op1) (opcode : ℕ) → instr.kind ≡ SlotKind.Do1 o → IsOpcode opcode (One o) → (o ≡ Size → ⊥) → (weighs_of instr).inner ≡ cost 1 1
one_weighs instr o opcode e is other = ap (λ (w : Weighs). w.inner) (weighs_do1 instr o e) ∙ by o other
  where
    by : (o : Op1) → (o ≡ Size → ⊥) → op_weigh o ≡ cost 1 1
    by Size h = absurd (h refl)
    by _ h = refl

-- ---- one opcode that takes operands and gives one

module _ (instr : SlotInstr) (deed : Deed) (shapes : Shapes) (reads : Slots) (at : At instr deed shapes reads) (none : (s : Slot) → reads s ≡ false) (n : ℕ) (inner_at : (p : Place) → shapes.inner p ≡ only_if (nat_le n (length p.operands)) (with_operands (None ∷ drop n p.operands) p)) (now : Low) where
  pub work_few : Started instr now → n ≤ length now.emitter.place.operands
  work_few s =
      leb-true n (length now.emitter.place.operands)
      (test_of instr deed shapes reads at none (λ o. nat_le n (length o)) (λ o. None ∷ drop n o) inner_at now s)

  pub work_operates : (emitter : Emitter) (b o : ℕ) (added : List Spanned) → emitter.code.items ≡ now.emitter.code.items ++ added
      → emitter.place ≡ spot (None ∷ drop n now.emitter.place.operands) now.emitter.place.slots
      → Follows added deed now.emitter.place (spot (None ∷ drop n now.emitter.place.operands) now.emitter.place.slots)
      → are_plain instr.doing instr.checking added ≡ true → bytes_of added ≤ b → ops_of added ≤ o → (weighs_of instr).inner ≡ cost b o → places_of instr ≡ stays true
      → ((a : Slots) → Same a a deed deed) → Operates instr now (low_of emitter now)
  work_operates emitter b o added code place_is follows plain few_bytes few_ops weighs places same =
      operates instr deed shapes reads at none (λ o. nat_le n (length o)) (λ o. None ∷ drop n o) inner_at now emitter true b o
      (added_plain instr now emitter deed (None ∷ drop n now.emitter.place.operands) true b o added code place_is follows plain tt few_bytes few_ops weighs places) same

  -- by one opcode
  pub work_one : (emitter : Emitter) (opcode : ℕ) (table : TableDeed) → IsOpcode opcode table
      → emitter.code.items ≡ now.emitter.code.items ++ new_row opcode instr ∷ []
      → emitter.place ≡ spot (None ∷ drop n now.emitter.place.operands) now.emitter.place.slots
      → Follows (new_row opcode instr ∷ []) deed now.emitter.place (spot (None ∷ drop n now.emitter.place.operands) now.emitter.place.slots)
      → (weighs_of instr).inner ≡ cost 1 1 → places_of instr ≡ stays true → ((a : Slots) → Same a a deed deed) → Operates instr now (low_of emitter now)
  work_one emitter opcode table is code place_is follows weighs places same =
      work_operates emitter 1 1 (new_row opcode instr ∷ []) code place_is follows (op_plain opcode instr.doing instr.checking [] is.plain refl)
      (let e = op_bytes opcode instr.doing instr.checking in omega (arith, e)) (op_ops opcode instr.doing instr.checking) weighs places same

-- ---- checks of signatures: the machine's verdict is the source's

judged_is : (out : Result Bool Cause) → deeds.judged out ≡ deeds.gives [] (verdict_result out)
judged_is (Ok truth) = refl
judged_is (Err cause) = refl

checks_two : (f : World → List ℕ → List ℕ → Outcome) (g : World → List ℕ → List ℕ → Result Bool Cause)
    → ((world : World) (a b : List ℕ) → f world a b ≡ verdict_result (g world a b)) → (world : World) (stack : List (List ℕ))
    → vm.on_two (λ a b. deeds.judged (g world a b)) stack ≡ vm.on_two (λ a b. deeds.gives [] (f world a b)) stack
checks_two f g e world [] = refl
checks_two f g e world (b ∷ []) = refl
checks_two f g e world (b ∷ a ∷ rest) =
    ap (λ r. r >>= λ es. Ok (es ++ rest)) (judged_is (g world a b) ∙ ap (deeds.gives []) (sym (e world a b)))

checks_three : (world : World) (stack : List (List ℕ))
    → vm.on_three (λ sig message key. deeds.judged (single_verdict world.verdicts DataSig sig key message)) stack
    ≡ vm.on_three (λ sig message key. deeds.gives [] (verdict_result (single_verdict world.verdicts DataSig sig key message))) stack
checks_three world [] = refl
checks_three world (c ∷ []) = refl
checks_three world (c ∷ b ∷ []) = refl
checks_three world (c ∷ b ∷ a ∷ rest) =
    ap (λ r. r >>= λ es. Ok (es ++ rest)) (judged_is (single_verdict world.verdicts DataSig a c b))

-- Each kind in turn: how many operands stand, and what was added.
module _ (instr : SlotInstr) (now : Low) (started : Started instr now) where
  abbrev d : Span
  d = instr.doing

  abbrev c : Span
  c = instr.checking

  module _ (o : Op1) (e : instr.kind ≡ SlotKind.Do1 o) where
    pub one_few : 1 ≤ length now.emitter.place.operands
    one_few = work_few instr _ _ _ (at_do1 instr o e) (λ s. refl) 1 (λ p. refl) now started

    pub does_one : (opcode : ℕ) → IsOpcode opcode (One o) → (o ≡ Size → ⊥) → (emitter : Emitter) → emitter.code.items ≡ now.emitter.code.items ++ new_row opcode instr ∷ []
        → emitter.place ≡ spot (None ∷ drop 1 now.emitter.place.operands) now.emitter.place.slots → Operates instr now (low_of emitter now)
    does_one opcode is other emitter code place_is =
        work_one instr _ _ _ (at_do1 instr o e) (λ s. refl) 1 (λ p. refl) now emitter opcode (One o) is code place_is
        (one_follows opcode (One o) (λ world. result1 o) d c now.emitter.place one_few is (λ world stack. refl) (λ world. quiet1 o)) (one_weighs instr o opcode e is other) (places_do1 instr o e) (λ a. same_one a d (λ world. result1 o))

  module _ (e : instr.kind ≡ SlotKind.Do1 Size) where
    pub does_size : (emitter : Emitter) → emitter.code.items ≡ now.emitter.code.items ++ new_row 0x82 instr ∷ new_row 0x77 instr ∷ []
        → emitter.place ≡ spot (None ∷ drop 1 now.emitter.place.operands) now.emitter.place.slots → IsOpcode 0x82 Measures → IsOpcode 0x77 nip_table
        → Operates instr now (low_of emitter now)
    does_size emitter code place_is measures nips =
        work_operates instr _ _ _ (at_do1 instr Size e) (λ s. refl) 1 (λ p. refl) now emitter 2 2 (new_row 0x82 instr ∷ new_row 0x77 instr ∷ []) code place_is
        (size_follows 0x82 0x77 d c now.emitter.place (one_few Size e) measures nips)
        (op_plain 0x82 d c (new_row 0x77 instr ∷ []) refl (op_plain 0x77 d c [] refl refl)) (two_bytes 0x82 0x77 d c) (two_ops 0x82 0x77 d c)
        (ap (λ (w : Weighs). w.inner) (weighs_do1 instr Size e)) (places_do1 instr Size e) (λ a. same_one a d (λ world. result1 Size))

  module _ (o : Op2) (e : instr.kind ≡ SlotKind.Do2 o) where
    pub two_few : 2 ≤ length now.emitter.place.operands
    two_few = work_few instr _ _ _ (at_do2 instr o e) (λ s. refl) 2 (λ p. refl) now started

    pub does_two : (opcode : ℕ) → IsOpcode opcode (Two o) → (emitter : Emitter) → emitter.code.items ≡ now.emitter.code.items ++ new_row opcode instr ∷ []
        → emitter.place ≡ spot (None ∷ drop 2 now.emitter.place.operands) now.emitter.place.slots → Operates instr now (low_of emitter now)
    does_two opcode is emitter code place_is =
        work_one instr _ _ _ (at_do2 instr o e) (λ s. refl) 2 (λ p. refl) now emitter opcode (Two o) is code place_is
        (two_follows opcode (Two o) (λ world. result2 o) d c now.emitter.place two_few is (λ world stack. refl) (λ world. quiet2 o)) (ap (λ (w : Weighs). w.inner) (weighs_do2 instr o e)) (places_do2 instr o e) (λ a. same_two a d (λ world. result2 o))

  module _ (o : Op3) (e : instr.kind ≡ SlotKind.Do3 o) where
    pub three_few : 3 ≤ length now.emitter.place.operands
    three_few = work_few instr _ _ _ (at_do3 instr o e) (λ s. refl) 3 (λ p. refl) now started

    pub does_three : (opcode : ℕ) → IsOpcode opcode (Three o) → (emitter : Emitter) → emitter.code.items ≡ now.emitter.code.items ++ new_row opcode instr ∷ []
        → emitter.place ≡ spot (None ∷ drop 3 now.emitter.place.operands) now.emitter.place.slots → Operates instr now (low_of emitter now)
    does_three opcode is emitter code place_is =
        work_one instr _ _ _ (at_do3 instr o e) (λ s. refl) 3 (λ p. refl) now emitter opcode (Three o) is code place_is
        (three_follows opcode (Three o) (λ world. result3 o) d c now.emitter.place three_few is (λ world stack. refl) (λ world. quiet3 o)) (ap (λ (w : Weighs). w.inner) (weighs_do3 instr o e)) (places_do3 instr o e) (λ a. same_three a d (λ world. result3 o))

  module _ (what : LookAt) (e : instr.kind ≡ SlotKind.LookAt what) where
    pub look_few : 1 ≤ length now.emitter.place.operands
    look_few = work_few instr _ _ _ (at_look_at instr what e) (λ s. refl) 1 (λ p. refl) now started

    pub does_look_at : (opcode : ℕ) → IsOpcode opcode (AsksAt what) → (emitter : Emitter) → emitter.code.items ≡ now.emitter.code.items ++ new_row opcode instr ∷ []
        → emitter.place ≡ spot (None ∷ drop 1 now.emitter.place.operands) now.emitter.place.slots → Operates instr now (low_of emitter now)
    does_look_at opcode is emitter code place_is =
        work_one instr _ _ _ (at_look_at instr what e) (λ s. refl) 1 (λ p. refl) now emitter opcode (AsksAt what) is code place_is
        (one_follows opcode (AsksAt what) (λ world. indexed_value world.context what) d c now.emitter.place look_few is (λ world stack. refl) (λ world. indexed_quiet world.context what))
        (ap (λ (w : Weighs). w.inner) (weighs_look_at instr what e)) (places_look_at instr what e) (λ a. same_one a d (λ world. indexed_value world.context what))

  module _ (e : instr.kind ≡ SlotKind.CheckSig) where
    pub sig_few : 2 ≤ length now.emitter.place.operands
    sig_few = work_few instr _ _ _ (at_check_sig instr e) (λ s. refl) 2 (λ p. refl) now started

    abbrev single : World → List ℕ → List ℕ → Outcome
    single world sig key = verdict_result (single_verdict world.verdicts Single sig key [])

    pub does_check_sig : (opcode : ℕ) → IsOpcode opcode Checks → (emitter : Emitter) → emitter.code.items ≡ now.emitter.code.items ++ new_row opcode instr ∷ []
        → emitter.place ≡ spot (None ∷ drop 2 now.emitter.place.operands) now.emitter.place.slots → Operates instr now (low_of emitter now)
    does_check_sig opcode is emitter code place_is =
        work_one instr _ _ _ (at_check_sig instr e) (λ s. refl) 2 (λ p. refl) now emitter opcode Checks is code place_is
        (two_follows opcode Checks single d c now.emitter.place sig_few is (λ world stack. checks_two single (λ world sig key. single_verdict world.verdicts Single sig key []) (λ world sig key. refl) world stack)
        (λ world sig key. single_quiet world.verdicts Single sig key [])) (ap (λ (w : Weighs). w.inner) (weighs_check_sig instr e)) (places_check_sig instr e) (λ a. same_two a d single)

  module _ (e : instr.kind ≡ SlotKind.CheckData) where
    pub data_few : 3 ≤ length now.emitter.place.operands
    data_few = work_few instr _ _ _ (at_check_data instr e) (λ s. refl) 3 (λ p. refl) now started

    abbrev on_data : World → List ℕ → List ℕ → List ℕ → Outcome
    on_data world sig message key = verdict_result (single_verdict world.verdicts DataSig sig key message)

    pub does_check_data : (opcode : ℕ) → IsOpcode opcode ChecksData → (emitter : Emitter) → emitter.code.items ≡ now.emitter.code.items ++ new_row opcode instr ∷ []
        → emitter.place ≡ spot (None ∷ drop 3 now.emitter.place.operands) now.emitter.place.slots → Operates instr now (low_of emitter now)
    does_check_data opcode is emitter code place_is =
        work_one instr _ _ _ (at_check_data instr e) (λ s. refl) 3 (λ p. refl) now emitter opcode ChecksData is code place_is
        (three_follows opcode ChecksData on_data d c now.emitter.place data_few is (λ world stack. checks_three world stack)
        (λ world sig message key. single_quiet world.verdicts DataSig sig key message)) (ap (λ (w : Weighs). w.inner) (weighs_check_data instr e)) (places_check_data instr e) (λ a. same_three a d on_data)

  module _ (right : Bool) (e : instr.kind ≡ SlotKind.Keep right) where
    pub keep_few : 2 ≤ length now.emitter.place.operands
    keep_few = work_few instr _ _ _ (at_keep instr right e) (λ s. refl) 2 (λ p. refl) now started

  module _ (e : instr.kind ≡ SlotKind.Keep true) where
    pub keeps_right : IsOpcode 0x77 nip_table → (emitter : Emitter) → emitter.code.items ≡ now.emitter.code.items ++ new_row 0x77 instr ∷ []
        → emitter.place ≡ spot (None ∷ drop 2 now.emitter.place.operands) now.emitter.place.slots → Operates instr now (low_of emitter now)
    keeps_right is emitter code place_is =
        work_one instr _ _ _ (at_keep instr true e) (λ s. refl) 2 (λ p. refl) now emitter 0x77 nip_table is code place_is
        (right_follows 0x77 d c now.emitter.place (keep_few true e) is) (ap (λ (w : Weighs). w.inner) (weighs_keep instr true e)) (places_keep instr true e) (λ a. same_keep a d true)

  module _ (e : instr.kind ≡ SlotKind.Keep false) where
    pub keeps_left : IsOpcode 0x75 drop_table → (emitter : Emitter) → emitter.code.items ≡ now.emitter.code.items ++ new_row 0x75 instr ∷ []
        → emitter.place ≡ spot (None ∷ drop 2 now.emitter.place.operands) now.emitter.place.slots → Operates instr now (low_of emitter now)
    keeps_left is emitter code place_is =
        work_one instr _ _ _ (at_keep instr false e) (λ s. refl) 2 (λ p. refl) now emitter 0x75 drop_table is code place_is
        (left_follows 0x75 d c now.emitter.place (keep_few false e) is) (ap (λ (w : Weighs). w.inner) (weighs_keep instr false e)) (places_keep instr false e) (λ a. same_keep a d false)

  -- ---- the others

  module _ (e : instr.kind ≡ SlotKind.Split) where
    split_test : nat_le 2 (length now.emitter.place.operands) ≡ true
    split_test =
        test_of instr _ _ _ (at_split instr e) (λ s. refl) (λ o. nat_le 2 (length o)) (λ o. None ∷ None ∷ drop 2 o) (λ p. refl) now started

    pub split_few : 2 ≤ length now.emitter.place.operands
    split_few = leb-true 2 (length now.emitter.place.operands) split_test

    pub does_split : IsOpcode 0x7f Splits → (emitter : Emitter) → emitter.code.items ≡ now.emitter.code.items ++ new_row 0x7f instr ∷ []
        → emitter.place ≡ spot (None ∷ None ∷ drop 2 now.emitter.place.operands) now.emitter.place.slots → Operates instr now (low_of emitter now)
    does_split is emitter code place_is =
        operates instr _ _ _ (at_split instr e) (λ s. refl) (λ o. nat_le 2 (length o)) (λ o. None ∷ None ∷ drop 2 o) (λ p. refl) now emitter true 1 1
        (added_plain instr now emitter _ (None ∷ None ∷ drop 2 now.emitter.place.operands) true 1 1 (new_row 0x7f instr ∷ []) code place_is
        (split_follows 0x7f d c now.emitter.place split_few is) (op_plain 0x7f d c [] refl refl) tt
        (let e = op_bytes 0x7f d c in omega (arith, e)) (op_ops 0x7f d c) (ap (λ (w : Weighs). w.inner) (weighs_split instr e)) (places_split instr e)) (λ a. same_split a d)

  module _ (what : Look0) (e : instr.kind ≡ SlotKind.Look0 what) where
    pub does_look0 : (opcode : ℕ) → IsOpcode opcode (Asks what) → (emitter : Emitter) → emitter.code.items ≡ now.emitter.code.items ++ new_row opcode instr ∷ []
        → emitter.place ≡ spot (None ∷ now.emitter.place.operands) now.emitter.place.slots → Operates instr now (low_of emitter now)
    does_look0 opcode is emitter code place_is =
        operates instr _ _ _ (at_look0 instr what e) (λ s. refl) (λ o. nat_le (length (None ∷ o)) most_operands) (λ o. None ∷ o) (λ p. refl) now emitter true 1 1
        (added_plain instr now emitter _ (None ∷ now.emitter.place.operands) true 1 1 (new_row opcode instr ∷ []) code place_is
        (none_follows opcode (Asks what) (λ world. context_value world.context what world.redeem) d c now.emitter.place is (λ world stack. refl) (λ world. context_quiet world.context what world.redeem))
        (op_plain opcode d c [] is.plain refl) tt (let e = op_bytes opcode d c in omega (arith, e)) (op_ops opcode d c) (ap (λ (w : Weighs). w.inner) (weighs_look0 instr what e)) (places_look0 instr what e))
        (λ a. same_gives a d (λ world. context_value world.context what world.redeem))

  -- a check finds its operand alone
  alone : (operands : List Operand) → (length operands == 1) ≡ true → (1 ≤ length operands) × (drop 1 operands ≡ [])
  alone [] h = absurd (false≢true h)
  alone (k ∷ []) h = (omega arith, refl)
  alone (k ∷ l ∷ operands) h = let e = eqb-true (length (k ∷ l ∷ operands)) 1 h in absurd (omega (arith, e))

  module _ (deed : Deed) (shapes : Shapes) (reads : Slots) (at : At instr deed shapes reads) (none : (s : Slot) → reads s ≡ false) (inner_at : (p : Place) → shapes.inner p ≡ only_if (length p.operands == 1) (with_operands [] p)) where
    only_one : (1 ≤ length now.emitter.place.operands) × (drop 1 now.emitter.place.operands ≡ [])
    only_one = alone now.emitter.place.operands (test_of instr deed shapes reads at none (λ o. length o == 1) (λ o. []) inner_at now started)

    checks : (emitter : Emitter) (serves : Bool) (b w : ℕ) (added : List Spanned) → emitter.code.items ≡ now.emitter.code.items ++ added
        → emitter.place ≡ spot (drop 1 now.emitter.place.operands) now.emitter.place.slots
        → Follows added deed now.emitter.place (spot (drop 1 now.emitter.place.operands) now.emitter.place.slots)
        → are_plain (cond serves instr.doing instr.checking) instr.checking added ≡ true → bytes_of added ≤ b → ops_of added ≤ w → (weighs_of instr).inner ≡ cost b w → places_of instr ≡ stays serves → ((a : Slots) → Same a a deed deed)
        → Operates instr now (low_of emitter now)
    checks emitter serves b w added code place_is follows plain few_bytes few_ops weighs places same =
        let none_left : spot (drop 1 now.emitter.place.operands) now.emitter.place.slots ≡ spot [] now.emitter.place.slots = ap (λ o. spot o now.emitter.place.slots) only_one.1 in
        operates instr deed shapes reads at none (λ o. length o == 1) (λ o. []) inner_at now emitter serves b w
        (added_plain instr now emitter deed [] serves b w added code (place_is ∙ none_left) (subst (λ q. Follows added deed now.emitter.place q) none_left follows)
        plain tt few_bytes few_ops weighs places) same

  module _ (e : instr.kind ≡ SlotKind.Require) where
    pub require_few : 1 ≤ length now.emitter.place.operands
    require_few = (only_one _ _ _ (at_require instr e) (λ s. refl) (λ p. refl)).0

    pub does_require : IsOpcode 0x69 Verifies → (emitter : Emitter) → emitter.code.items ≡ now.emitter.code.items ++ new_row 0x69 instr ∷ []
        → emitter.place ≡ spot (drop 1 now.emitter.place.operands) now.emitter.place.slots → Operates instr now (low_of emitter now)
    does_require is emitter code place_is =
        checks _ _ _ (at_require instr e) (λ s. refl) (λ p. refl) emitter true 1 1 (new_row 0x69 instr ∷ []) code place_is
        (check_follows 0x69 d c now.emitter.place require_few is) (op_plain 0x69 d c [] refl refl)
        (let e = op_bytes 0x69 d c in omega (arith, e)) (op_ops 0x69 d c) (ap (λ (w : Weighs). w.inner) (weighs_require instr e)) (places_require instr e) (λ a. same_check a d c)

  abbrev pub lock_rows : ℕ → List Spanned
  lock_rows opcode = row (op opcode) instr.checking instr.checking ∷ row (op 0x75) instr.checking instr.checking ∷ []

  module _ (e : instr.kind ≡ SlotKind.Time) where
    pub time_few : 1 ≤ length now.emitter.place.operands
    time_few = (only_one _ _ _ (at_time instr e) (λ s. refl) (λ p. refl)).0

    pub does_time : IsOpcode 0xb1 Waits → IsOpcode 0x75 drop_table → (emitter : Emitter) → emitter.code.items ≡ now.emitter.code.items ++ lock_rows 0xb1
        → emitter.place ≡ spot (drop 1 now.emitter.place.operands) now.emitter.place.slots → Operates instr now (low_of emitter now)
    does_time is drops emitter code place_is =
        checks _ _ _ (at_time instr e) (λ s. refl) (λ p. refl) emitter false 2 2 (lock_rows 0xb1) code place_is
        (lock_follows 0xb1 0x75 Waits (λ world. time_outcome world.context) d c now.emitter.place time_few is drops (λ world stack. refl))
        (op_plain 0xb1 c c (row (op 0x75) c c ∷ []) refl (op_plain 0x75 c c [] refl refl)) (two_bytes 0xb1 0x75 c c) (two_ops 0xb1 0x75 c c)
        (ap (λ (w : Weighs). w.inner) (weighs_time instr e)) (places_time instr e) (λ a. same_lock a d c (λ world. time_outcome world.context))

  module _ (e : instr.kind ≡ SlotKind.Age) where
    pub age_few : 1 ≤ length now.emitter.place.operands
    age_few = (only_one _ _ _ (at_age instr e) (λ s. refl) (λ p. refl)).0

    pub does_age : IsOpcode 0xb2 Ages → IsOpcode 0x75 drop_table → (emitter : Emitter) → emitter.code.items ≡ now.emitter.code.items ++ lock_rows 0xb2
        → emitter.place ≡ spot (drop 1 now.emitter.place.operands) now.emitter.place.slots → Operates instr now (low_of emitter now)
    does_age is drops emitter code place_is =
        checks _ _ _ (at_age instr e) (λ s. refl) (λ p. refl) emitter false 2 2 (lock_rows 0xb2) code place_is
        (lock_follows 0xb2 0x75 Ages (λ world. age_outcome world.context) d c now.emitter.place age_few is drops (λ world stack. refl))
        (op_plain 0xb2 c c (row (op 0x75) c c ∷ []) refl (op_plain 0x75 c c [] refl refl)) (two_bytes 0xb2 0x75 c c) (two_ops 0xb2 0x75 c c)
        (ap (λ (w : Weighs). w.inner) (weighs_age instr e)) (places_age instr e) (λ a. same_lock a d c (λ world. age_outcome world.context))
