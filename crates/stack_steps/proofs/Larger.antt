-- Chunks, and checks of several signatures.
use Rattle.std.proofs.Common.{◌≡◌, ℕ, ◌+◌, ◌≤◌, Bool, true, false, cond, List, [], ◌∷◌, ◌++◌, length, drop, None, refl, ap, arith, ◌∙◌}
use Rattle.std.specs.Prelude.{◌&&◌, nat_le}
use Rattle.std.proofs.lemmas.Bool.{and_parts, leb-true}
use Rattle.cash_base.specs.declared.place.Span.{Span}
use Rattle.element_ops.specs.declared.op.Op2.TheVariants.{Cat}
use Rattle.element_ops.specs.Operation.{result2}
use Rattle.form_tables.specs.Forms.{verdict_result, pushed_chunk}
use Rattle.tx_context.specs.World.{World}
use Rattle.tx_context.specs.Verdict.{multi_verdict}
use Rattle.source_meaning.specs.Meaning.{Env}
use Rattle.slot_code.specs.declared.slots.SlotInstr.{SlotInstr}
use Rattle.slot_code.specs.declared.slots.SlotKind.TheVariants as SlotKind
use Rattle.slot_code.specs.Meaning.{stuck, gives, sigs_on, keys_on}
use Rattle.slot_code.specs.Shape.{Place, Operand, only_if, with_operands, counts_fit}
use Rattle.slot_code.specs.Weight.{Weighs}
use Rattle.slot_liveness.specs.Live.{Slots}
use Rattle.row_runs.specs.Rows.{row}
use Rattle.stack_emitter.specs.declared.emit.Emitter.{Emitter}
use Rattle.stack_emitter.specs.Places.{Spot, spot}
use Rattle.stack_emitter.specs.Codes.{is_span, bytes_of, ops_of}
use Rattle.stack_emitter.specs.Correct.{Deed, Adds}
use Rattle.stack_emitter.proofs.Steps.{op, emits_by, itself}
use Rattle.stack_pieces.specs.Pieces.{chunk_deed}
use Rattle.stack_pieces.proofs.Many.{many_deed, many_follows, top_count}
use Rattle.stack_pieces.proofs.Prefix.{number, number_is}
use Rattle.stack_steps.specs.declared.low.Low.{Low}
use Rattle.stack_steps.specs.Lower.{SameEnd, Same, AgreeOn}
use Rattle.stack_steps.specs.Operations.{Started, Operates}
use Rattle.stack_steps.proofs.Same.{same_two, gives_ends}
use Rattle.stack_steps.proofs.AtKinds.{at_chunk, at_check_multi}
use Rattle.stack_steps.proofs.Weighing.{weighs_chunk, weighs_check_multi}
use Rattle.stack_steps.proofs.PlacesAt.{places_chunk, places_check_multi}
use Rattle.stack_steps.proofs.Adding.{plain_told, adds_keys, adds_ops, top_none, op_bytes, grown_bytes, check_ops, check_keys}
use Rattle.stack_steps.proofs.Instrs.{low_of}
use Rattle.stack_steps.proofs.Operations.{test_of, operates, work_few}

-- ---- a chunk

module _ (instr : SlotInstr) (now : Low) (started : Started instr now) (e : instr.kind ≡ SlotKind.Chunk) where
  pub chunk_few : 2 ≤ length now.emitter.place.operands
  chunk_few = work_few instr _ _ _ (at_chunk instr e) (λ s. refl) 2 (λ p. refl) now started

  pub does_chunk : (emitter : Emitter) → Adds instr.doing instr.checking now.emitter emitter (chunk_deed instr.doing)
      → emitter.place ≡ spot (None ∷ drop 2 now.emitter.place.operands) now.emitter.place.slots
      → bytes_of emitter.code.items ≡ bytes_of now.emitter.code.items + 29 → ops_of emitter.code.items ≡ ops_of now.emitter.code.items + 21
      → Operates instr now (low_of emitter now)
  does_chunk emitter x place_is bytes ops =
      let l = ap (λ (p : Spot). length p.slots) place_is in
      let o = adds_ops instr.doing instr.checking now.emitter emitter (chunk_deed instr.doing) 21 x (omega (arith, ops)) in
      operates instr _ _ _ (at_chunk instr e) (λ s. refl) (λ o. nat_le 2 (length o)) (λ o. None ∷ drop 2 o) (λ p. refl) now emitter true 40 26
      (record {
        emits = x.emits;
        place = place_is;
        told = plain_told instr.doing instr.checking x.emits.rows x.plain;
        keys = adds_keys instr.doing instr.checking now.emitter emitter (chunk_deed instr.doing) x
            (top_none emitter (None ∷ drop 2 now.emitter.place.operands) (ap (λ (p : Spot). p.operands) place_is) tt);
        spends = λ k. record { bytes_fit = omega (arith, l, bytes); ops_fit = omega (arith, l, o) };
        weighs = ap (λ (w : Weighs). w.inner) (weighs_chunk instr e);
        places = places_chunk instr e;
      }) (λ a. same_two a instr.doing (λ world x y. result2 Cat x (pushed_chunk y)))

-- ---- a check of several signatures

same_many : (a : Slots) (d : Span) (sigs keys : ℕ) → Same a a (many_deed sigs keys d) (many_deed sigs keys d)
same_many a d sigs keys = record { ends = λ world s env h. by world s.operands s.env env h (nat_le (sigs + keys + 3) (length s.operands)) }
  where
    by : (world : World) (operands : List (List ℕ)) (env env' : Env) → AgreeOn a env env' → (b : Bool)
        → SameEnd a (cond b (gives d (verdict_result (multi_verdict world.verdicts (sigs_on sigs keys operands) (keys_on keys operands))) (drop (sigs + keys + 3) operands) env) (stuck d))
        (cond b (gives d (verdict_result (multi_verdict world.verdicts (sigs_on sigs keys operands) (keys_on keys operands))) (drop (sigs + keys + 3) operands) env') (stuck d))
    by world operands env env' h true = gives_ends a d _ (drop (sigs + keys + 3) operands) env env' h
    by world operands env env' h false = refl

both_tests : (a b : Bool) (p : Place) → cond a (only_if b p) None ≡ only_if (a && b) p
both_tests true b p = refl
both_tests false b p = refl

module _ (instr : SlotInstr) (now : Low) (started : Started instr now) (sigs keys : ℕ) (e : instr.kind ≡ SlotKind.CheckMulti sigs keys) where
  abbrev test : List Operand → Bool
  test o = counts_fit sigs keys o && nat_le (keys + sigs + 3) (length o)

  abbrev left : List Operand → List Operand
  left o = None ∷ drop (keys + sigs + 3) o

  many_test : test now.emitter.place.operands ≡ true
  many_test =
      test_of instr _ _ _ (at_check_multi instr sigs keys e) (λ s. refl) test left
      (λ p. both_tests (counts_fit sigs keys p.operands) (nat_le (keys + sigs + 3) (length p.operands)) (with_operands (left p.operands) p)) now started

  many_parts : (counts_fit sigs keys now.emitter.place.operands ≡ true) × (nat_le (keys + sigs + 3) (length now.emitter.place.operands) ≡ true)
  many_parts = and_parts (counts_fit sigs keys now.emitter.place.operands) _ many_test

  pub many_few : keys + sigs + 3 ≤ length now.emitter.place.operands
  many_few = leb-true (keys + sigs + 3) (length now.emitter.place.operands) many_parts.1

  pub does_many : (emitter : Emitter) → emitter.code.items ≡ now.emitter.code.items ++ row (op 0xae) instr.doing instr.checking ∷ []
      → emitter.place ≡ spot (left now.emitter.place.operands) now.emitter.place.slots → Operates instr now (low_of emitter now)
  does_many emitter code place_is =
      let l = ap (λ (p : Spot). length p.slots) place_is in
      let top = top_count sigs keys now.emitter.place.operands many_parts.0 in
      let b = grown_bytes now.emitter emitter (row (op 0xae) instr.doing instr.checking ∷ []) 1 code (let f = op_bytes 0xae instr.doing instr.checking in omega (arith, f)) in
      operates instr _ _ _ (at_check_multi instr sigs keys e) (λ s. refl) test left
      (λ p. both_tests (counts_fit sigs keys p.operands) (nat_le (keys + sigs + 3) (length p.operands)) (with_operands (left p.operands) p)) now emitter true 1 (1 + keys)
      (record {
        emits = emits_by now.emitter emitter (row (op 0xae) instr.doing instr.checking ∷ []) (many_deed sigs keys instr.doing) (spot (left now.emitter.place.operands) now.emitter.place.slots)
            code place_is (many_follows sigs keys instr.doing instr.checking now.emitter.place many_parts.0);
        place = place_is;
        told = ap (λ b. ((b && is_span instr.checking instr.checking) && true) && true) (itself instr.doing) ∙ ap (λ b. (b && true) && true) (itself instr.checking);
        keys = λ k. check_keys instr.doing instr.checking now.emitter emitter (number keys) keys top.operands top.at top.few (number_is keys top.few) code k
            (top_none emitter (left now.emitter.place.operands) (ap (λ (p : Spot). p.operands) place_is) tt);
        spends = λ k.
            let o = check_ops instr.doing instr.checking now.emitter emitter (number keys) keys top.operands top.at top.few (number_is keys top.few) code k in
            record { bytes_fit = omega (arith, l, b); ops_fit = omega (arith, l, o) };
        weighs = ap (λ (w : Weighs). w.inner) (weighs_check_multi instr sigs keys e);
        places = places_check_multi instr sigs keys e;
      }) (λ a. same_many a instr.doing sigs keys)
