-- A check of several signatures, whose counts and empty element stand as literals.
use Rattle.std.proofs.Common.{◌≡◌, ℕ, zero, suc, ◌+◌, ◌^◌, ◌<◌, ◌≤◌, Bool, true, false, cond, not, List, [], ◌∷◌, ◌++◌, length, map, take, drop, reverse, Option, Some, None, Result, Ok, Err, pos, refl, sym, ap, ◌∙◌, subst, arith, add-one, append_assoc}
use Rattle.std.specs.Prelude.{◌&&◌, nat_le, nat_lt, slice_get}
use Rattle.std.specs.Str.{bytes_eq}
use Rattle.std.proofs.lemmas.Bool.Decides.{nat_tests}
use Rattle.std.proofs.lemmas.Bool.{false≢true, and_parts, and_from, leb-true, le-leb}
use Rattle.std.proofs.lemmas.List.{drop-drop, length-take, length-drop}
use Rattle.std.proofs.lemmas.Slice.Eq.{bytes_eq-Decides}
use Rattle.cash_base.specs.declared.fault.Cause.{Cause}
use Rattle.cash_base.specs.declared.fault.MachineCause.{MachineCause}
use Rattle.cash_base.specs.declared.fault.MachineCause.TheVariants.{Shared, KeyCount, OpLimit}
use Rattle.cash_base.specs.declared.place.Slot.{Slot}
use Rattle.cash_base.specs.declared.place.Span.{Span}
use Rattle.cash_base.specs.Failing.{◌>>=◌, ◌>>◌, refused_if}
use Rattle.cash_base.specs.Operand.{truth_bytes}
use Rattle.tx_context.specs.World.{World}
use Rattle.tx_context.specs.Table.{Row as Verdict}
use Rattle.tx_context.specs.Verdict.{multi_verdict}
use Rattle.form_tables.specs.Forms.{verdict_result}
use Rattle.opcode_table.specs.declared.rows.Deed.TheVariants.{ChecksMany}
use Rattle.opcode_table.specs.declared.rows.Row.TheVariants.{Does}
use Rattle.opcode_table.specs.Stack.{Stack, shared, taken, with_top}
use Rattle.opcode_table.specs.Deeds as deeds
use Rattle.opcode_table.specs.Deeds.{done, number_taken, number_within, keys_taken, sigs_taken, empty_taken, checked_many}
use Rattle.opcode_table.specs.Table.{row_of, rows}
use Rattle.source_meaning.specs.Meaning.{Env}
use Rattle.slot_code.specs.Meaning.{state, stuck, gives, sigs_on, keys_on, checks_many}
use Rattle.slot_code.specs.Shape.{Operand, counts_fit, has_literal}
use Rattle.row_runs.specs.Rows.{row, machine, step}
use Rattle.row_runs.proofs.Turns.{then_ok}
use Rattle.stack_emitter.specs.Places.{Spot, spot}
use Rattle.stack_emitter.specs.Codes.{is_sound, are_sound}
use Rattle.stack_emitter.specs.Correct.{value, machine_at, Fits, Agrees, Deed, Follows}
use Rattle.stack_emitter.proofs.Steps.{op, asked, stacked, step_do, op_nested, sound_opcode}
use Rattle.stack_emitter.proofs.Works.{fits_tail, none_fits, fits_length, gives_agrees}
use Rattle.stack_emitter.proofs.Quiet.{multi_quiet}
use Rattle.stack_pieces.proofs.Prefix.{number, read}

abbrev pub many_deed : ℕ → ℕ → Span → Deed
many_deed sigs keys doing world s = checks_many world doing sigs keys s.operands s.env

-- ---- operands that are literals

record Stands (n : ℕ) (e : List ℕ) (operands : Stack) : Type 0 where
  rest : Stack
  at : drop n operands ≡ e ∷ rest

stands : (n : ℕ) (e : List ℕ) (known : List Operand) (operands : Stack) → Fits known operands → has_literal n e known ≡ true → Stands n e operands
stands zero e [] operands fits h = absurd (false≢true h)
stands zero e (None ∷ known) operands fits h = absurd (false≢true h)
stands zero e (Some k ∷ known) [] fits h = absurd fits
stands zero e (Some k ∷ known) (x ∷ operands) fits h =
    record { rest = operands; at = ap (λ y. y ∷ operands) (fits.0 ∙ sym ((bytes_eq-Decides e k).0 h)) }
stands (suc n) e [] operands fits h = absurd (false≢true h)
stands (suc n) e (k ∷ known) [] fits h = absurd (none_fits k known fits)
stands (suc n) e (k ∷ known) (x ∷ operands) fits h =
    let s = stands n e known operands (fits_tail k known x operands fits) h in record { rest = s.rest; at = s.at }

pub fits_drop : (n : ℕ) (known : List Operand) (operands : Stack) → Fits known operands → Fits (drop n known) (drop n operands)
fits_drop zero known operands fits = fits
fits_drop (suc n) [] [] fits = tt
fits_drop (suc n) [] (x ∷ operands) fits = absurd fits
fits_drop (suc n) (k ∷ known) [] fits = absurd (none_fits k known fits)
fits_drop (suc n) (k ∷ known) (x ∷ operands) fits = fits_drop n known operands (fits_tail k known x operands fits)

-- ---- what the machine takes

count_taken : (most n : ℕ) (rest : Stack) → n ≤ most → n ≤ 20 → number_taken most (number n ∷ rest) ≡ Ok (n, rest)
count_taken most n rest h small =
    ap (λ r. shared r >>= λ z. number_within most z >>= λ k. Ok (k, rest)) (read n (omega (arith, small)))
    ∙ ap (λ b. (◌>>=◌ {A = ℕ} (cond b (Ok n) (Err KeyCount)) (λ k. Ok (k, rest)))) (le-leb n most h)

taken_front : (n : ℕ) (above under : Stack) → n ≤ length above → taken n (above ++ under) ≡ Ok (take n above, drop n above ++ under)
taken_front zero above under h = refl
taken_front (suc n) [] under h = absurd (omega (arith, h))
taken_front (suc n) (x ∷ above) under h =
    ap (λ r. r >>= λ parts. Ok (with_top x parts)) (taken_front n above under (omega (arith, h)))

keys_front : (keys : ℕ) (above under : Stack) → keys ≤ 20 → keys ≤ length above
    → keys_taken 20 (number keys ∷ (above ++ under)) ≡ Ok (take keys above, drop keys above ++ under)
keys_front keys above under few h =
    ap (λ r. r >>= λ n. (refused_if (nat_lt 20 n.0) OpLimit >> taken n.0 n.1)) (count_taken 20 keys (above ++ under) few few)
    ∙ ap (λ b. refused_if b OpLimit >> taken keys (above ++ under)) (not_more keys few)
    ∙ taken_front keys above under h
  where
    not_more : (n : ℕ) → n ≤ 20 → nat_lt 20 n ≡ false
    not_more n h = grind (arith, nat_tests, h)

sigs_front : (most sigs : ℕ) (above rest under : Stack) → sigs ≤ most → sigs ≤ 20 → sigs ≤ length above → drop sigs above ≡ [] ∷ rest
    → sigs_taken most (number sigs ∷ (above ++ under)) ≡ Ok (take sigs above, rest ++ under)
sigs_front most sigs above rest under fit few h empty =
    ap (λ r. r >>= λ n. taken n.0 n.1 >>= λ parts. empty_taken parts.1 >>= λ left. Ok (parts.0, left)) (count_taken most sigs (above ++ under) fit few)
    ∙ ap (λ r. r >>= λ (parts : Stack × Stack). empty_taken parts.1 >>= λ left. Ok (parts.0, left)) (taken_front sigs above under h)
    ∙ ap (λ l. empty_taken (l ++ under) >>= λ left. Ok (take sigs above, left)) empty

-- ---- the check

judges : (out : Result Bool Cause) (rest : Stack)
    → (shared out >>= λ truth. Ok (truth_bytes truth ∷ rest)) ≡ (deeds.gives [] (verdict_result out) >>= λ es. Ok (es ++ rest))
judges (Ok truth) rest = refl
judges (Err cause) rest = refl

module _ (sigs keys : ℕ) (known : List Operand) (fit : counts_fit sigs keys known ≡ true) where
  tests : ((nat_le keys 20 && nat_le sigs keys) ≡ true) × ((has_literal 0 (number keys) known && (has_literal (keys + 1) (number sigs) known && has_literal (keys + sigs + 2) [] known)) ≡ true)
  tests = and_parts (nat_le keys 20 && nat_le sigs keys) _ fit

  few : (keys ≤ 20) × (sigs ≤ keys)
  few = let t = and_parts (nat_le keys 20) (nat_le sigs keys) tests.0 in (leb-true keys 20 t.0, leb-true sigs keys t.1)

  literals : (has_literal 0 (number keys) known ≡ true) × ((has_literal (keys + 1) (number sigs) known && has_literal (keys + sigs + 2) [] known) ≡ true)
  literals = and_parts (has_literal 0 (number keys) known) _ tests.1

  others : (has_literal (keys + 1) (number sigs) known ≡ true) × (has_literal (keys + sigs + 2) [] known ≡ true)
  others = and_parts (has_literal (keys + 1) (number sigs) known) _ literals.1

  module _ (operands : Stack) (fits : Fits known operands) where
    first : Stands 0 (number keys) operands
    first = stands 0 (number keys) known operands fits literals.0

    second : Stands (keys + 1) (number sigs) operands
    second = stands (keys + 1) (number sigs) known operands fits others.0

    third : Stands (keys + sigs + 2) [] operands
    third = stands (keys + sigs + 2) [] known operands fits others.1

    -- what stands below the numbers of keys and signatures, and below the empty element
    abbrev below_keys : Stack
    below_keys = first.rest

    abbrev below_sigs : Stack
    below_sigs = second.rest

    abbrev below : Stack
    below = third.rest

    keys_end : drop keys below_keys ≡ number sigs ∷ below_sigs
    keys_end =
        ap (drop (suc keys)) (sym first.at) ∙ ap (λ n. drop n operands) (sym (add-one keys)) ∙ second.at

    sigs_end : drop sigs below_sigs ≡ [] ∷ below
    sigs_end =
        ap (drop (suc sigs)) (sym second.at)
        ∙ drop-drop (suc sigs) (keys + 1) operands
        ∙ ap (λ n. drop n operands) (let e : (keys + 1) + suc sigs ≡ keys + sigs + 2 = omega arith in e)
        ∙ third.at

    keys_stand : keys ≤ length below_keys
    keys_stand = let a = length-drop keys below_keys in let b = ap length keys_end in omega (arith, a, b)

    sigs_stand : sigs ≤ length below_sigs
    sigs_stand = let a = length-drop sigs below_sigs in let b = ap length sigs_end in omega (arith, a, b)

    left_is : drop (keys + sigs + 3) operands ≡ below
    left_is =
        ap (λ n. drop n operands) (let e : keys + sigs + 3 ≡ (keys + sigs + 2) + 1 = omega arith in e)
        ∙ sym (drop-drop 1 (keys + sigs + 2) operands)
        ∙ ap (drop 1) third.at

    sigs_are : drop (keys + 2) operands ≡ below_sigs
    sigs_are =
        ap (λ n. drop n operands) (let e : keys + 2 ≡ (keys + 1) + 1 = omega arith in e)
        ∙ sym (drop-drop 1 (keys + 1) operands)
        ∙ ap (drop 1) second.at

    keys_are : drop 1 operands ≡ below_keys
    keys_are = ap (drop 1) first.at

    enough : sigs + keys + 3 ≤ length operands
    enough =
        let a = ap length first.at in let b = length-drop keys below_keys in let c = ap length keys_end in
        let d = length-drop sigs below_sigs in let e = ap length sigs_end in omega (arith, a, b, c, d, e)

    abbrev verdict : List Verdict → Result Bool Cause
    verdict verdicts = multi_verdict verdicts (reverse (take sigs below_sigs)) (reverse (take keys below_keys))

    machine_checks : (world : World) (under : Stack)
        → done (asked world) ChecksMany (operands ++ under) ≡ (deeds.gives [] (verdict_result (verdict world.verdicts)) >>= λ es. Ok (es ++ (below ++ under)))
    machine_checks world under =
        let stack_is : operands ++ under ≡ number keys ∷ (below_keys ++ under) = ap (λ l. l ++ under) first.at in
        let size : length (take keys below_keys) ≡ keys = let l = length-take keys below_keys in let k = keys_stand in omega (arith, l, k) in
        ap (checked_many (asked world)) stack_is
        ∙ ap (λ r. r >>= λ (ks : Stack × Stack). sigs_taken (length ks.0) ks.1 >>= λ ss. shared (multi_verdict world.verdicts (reverse ss.0) (reverse ks.0)) >>= λ truth. Ok (truth_bytes truth ∷ ss.1))
        (keys_front keys below_keys under few.0 keys_stand)
        ∙ ap (λ n. sigs_taken n (drop keys below_keys ++ under) >>= λ ss. shared (multi_verdict world.verdicts (reverse ss.0) (reverse (take keys below_keys))) >>= λ truth. Ok (truth_bytes truth ∷ ss.1)) size
        ∙ ap (λ l. sigs_taken keys (l ++ under) >>= λ ss. shared (multi_verdict world.verdicts (reverse ss.0) (reverse (take keys below_keys))) >>= λ truth. Ok (truth_bytes truth ∷ ss.1)) keys_end
        ∙ ap (λ r. r >>= λ (ss : Stack × Stack). shared (multi_verdict world.verdicts (reverse ss.0) (reverse (take keys below_keys))) >>= λ truth. Ok (truth_bytes truth ∷ ss.1))
        (sigs_front keys sigs below_sigs below under few.1 (let f = few in omega (arith, f.0, f.1)) sigs_stand sigs_end)
        ∙ judges (verdict world.verdicts) (below ++ under)

    slot_checks : (world : World) (d : Span) (env : Env) → many_deed sigs keys d world (state operands env) ≡ gives d (verdict_result (verdict world.verdicts)) below env
    slot_checks world d env =
        ap (λ b. cond b (gives d (verdict_result (multi_verdict world.verdicts (sigs_on sigs keys operands) (keys_on keys operands))) (drop (sigs + keys + 3) operands) env) (stuck d)) (le-leb (sigs + keys + 3) (length operands) enough)
        ∙ ap (λ l. gives d (verdict_result (multi_verdict world.verdicts (reverse (take sigs l)) (keys_on keys operands))) (drop (sigs + keys + 3) operands) env) sigs_are
        ∙ ap (λ l. gives d (verdict_result (multi_verdict world.verdicts (reverse (take sigs below_sigs)) (reverse (take keys l)))) (drop (sigs + keys + 3) operands) env) keys_are
        ∙ ap (λ l. gives d (verdict_result (verdict world.verdicts)) l env) (ap (λ n. drop n operands) (let e : sigs + keys + 3 ≡ keys + sigs + 3 = omega arith in e) ∙ left_is)

-- the number of keys stands on top
pub record TopCount (keys : ℕ) (known : List Operand) : Type 0 where
  pub operands : List Operand
  pub at : known ≡ Some (number keys) ∷ operands
  pub few : keys ≤ 20

pub top_count : (sigs keys : ℕ) (known : List Operand) → counts_fit sigs keys known ≡ true → TopCount keys known
top_count sigs keys known fit = by known (literals sigs keys known fit).0 (few sigs keys known fit).0
  where
    by : (known : List Operand) → has_literal 0 (number keys) known ≡ true → keys ≤ 20 → TopCount keys known
    by [] h small = absurd (false≢true h)
    by (None ∷ known) h small = absurd (false≢true h)
    by (Some k ∷ known) h small = record { operands = known; at = ap (λ e. Some e ∷ known) (sym ((bytes_eq-Decides (number keys) k).0 h)); few = small }

pub many_follows : (sigs keys : ℕ) (d c : Span) (p : Spot) → counts_fit sigs keys p.operands ≡ true
    → Follows (row (op 0xae) d c ∷ []) (many_deed sigs keys d) p (spot (None ∷ drop (keys + sigs + 3) p.operands) p.slots)
unfolding rows
many_follows sigs keys d c p fit = record {
  nested = op_nested 0xae ChecksMany d c refl;
  sound = and_from (is_sound (op 0xae)) true (sound_opcode 0xae refl refl refl) refl;
  runs = λ world s rest conditions live fits.
      let under : Stack = map (value s.env) p.slots ++ rest in
      let q = spot (None ∷ drop (keys + sigs + 3) p.operands) p.slots in
      let left = below sigs keys p.operands fit s.operands fits in
      let out = verdict_result (verdict sigs keys p.operands fit s.operands fits world.verdicts) in
      subst (λ x. Agrees q rest conditions (many_deed sigs keys d world s) x)
      (sym (then_ok world (step world (row (op 0xae) d c) (machine_at p.slots rest conditions s))
      ∙ step_do world 0xae ChecksMany d c (s.operands ++ under) conditions refl live
      ∙ ap (stacked d c conditions) (machine_checks sigs keys p.operands fit s.operands fits world under)))
      (subst (λ o. Agrees q rest conditions o (stacked d c conditions (deeds.gives [] out >>= λ es. Ok (es ++ (left ++ under)))))
      (sym (slot_checks sigs keys p.operands fit s.operands fits world d s.env))
      (gives_agrees d c (drop (keys + sigs + 3) p.operands) p.slots rest conditions left s.env out
      (subst (λ l. Fits (drop (keys + sigs + 3) p.operands) l) (left_is sigs keys p.operands fit s.operands fits) (fits_drop (keys + sigs + 3) p.operands s.operands fits))
      (multi_quiet world.verdicts (reverse (take sigs (below_sigs sigs keys p.operands fit s.operands fits))) (reverse (take keys (below_keys sigs keys p.operands fit s.operands fits))))));
}
