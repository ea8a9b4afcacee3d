-- From the law of a rule to code that stands for other code.
use Rattle.std.proofs.Common.{◌≡◌, ℕ, zero, suc, ◌+◌, ◌<◌, ◌≤◌, nat_lt, nat_le, Bool, true, false, is_ok, List, [], ◌∷◌, ◌++◌, length, map, inl, inr, refl, sym, ap, ◌∙◌, subst, arith}
use Rattle.std.specs.List.{list_all}
use Rattle.std.proofs.lemmas.Bool.{and_parts, and_from, eqb-true, ltb-true, leb-true, cases_lt, cases_Bool, both_ways}
use Rattle.std.proofs.lemmas.List.{length-append}
use Rattle.std.proofs.lemmas.List.Folds.{list_all-append}
use Rattle.std.proofs.lemmas.Grind.{flat_map-append}
use Rattle.cash_base.specs.declared.place.Span.{Span}
use Rattle.tx_context.specs.World.{World}
use Rattle.script_codec.specs.declared.instr.Instr.{Instr}
use Rattle.script_codec.specs.declared.spans.Spanned.{Spanned}
use Rattle.script_codec.specs.Spelling.{spelling, spellings}
use Rattle.bch_vm.specs.Board.{Board, is_live}
use Rattle.bch_vm.specs.Law.{are_keys_known}
use Rattle.row_runs.specs.Rows.{instructions}
use Rattle.row_runs.proofs.Turns.{instructions_append}
use Rattle.rewrite_rules.specs.Rows.{row, is_plain, run_rows, underflows}
use Rattle.rewrite_rules.specs.Effects.{dead_run}
use Rattle.rewrite_rules.specs.Rules.{Rule, rule, rows_of, window_of, replacement_of}
use Rattle.rewrite_rules.specs.Law.{may_be_added, keeps_checks, opcodes_in, ends_in_opcode, Holds}
use Rattle.rewrite_rules.specs.Laws.{plain_rows, plain_replaced}
use Rattle.rewrite_rules.proofs.Windows.{instrs_of}
use Rattle.peephole.specs.Sublists.{Sublist}
use Rattle.peephole.specs.Counts.{KeepsKeys}
use Rattle.peephole.specs.Trace.{trace, KeepsStatements}
use Rattle.peephole.specs.Tidy.{spans_of, ends, StandsFor}
use Rattle.peephole.proofs.Sublists.{sub_all, sub_then, sub_map_front, sub_map_skip}
use Rattle.peephole.proofs.Runs.{run_append, same_after, same_before, not_before}
use Rattle.peephole.proofs.Keys.{rule_keys, keys_after}
use Rattle.peephole.proofs.Traces.{keeps_self, keeps_then, trace_after, rule_trace}

-- ---- the shape of a rule

pub record Shape (width : ℕ) (r : Rule) : Type 0 where
  pub wide : length r.before ≡ width
  pub fewer : length r.after < width
  pub at_most : length r.after ≤ 1
  pub placed : r.place < width
  pub before : list_all is_plain r.before ≡ true
  pub after : list_all is_plain r.after ≡ true
  pub added : list_all may_be_added r.after ≡ true
  pub bytes : length (spellings r.after) ≤ length (spellings r.before)
  pub opcodes : opcodes_in r.after ≤ opcodes_in r.before
  pub checks : keeps_checks r.before r.after ≡ true
  pub last : ends_in_opcode r.before ≡ true

pub shape_of : (width least : ℕ) (r : Rule) → Holds width least r → Shape width r
shape_of width least r h =
    let last = and_parts _ (ends_in_opcode r.before) h.shape in
    let checks = and_parts _ (keeps_checks r.before r.after) last.0 in
    let opcodes = and_parts _ (nat_le (opcodes_in r.after) (opcodes_in r.before)) checks.0 in
    let bytes = and_parts _ (nat_le (length (spellings r.after)) (length (spellings r.before))) opcodes.0 in
    let added = and_parts _ (list_all may_be_added r.after) bytes.0 in
    let after = and_parts _ (list_all is_plain r.after) added.0 in
    let before = and_parts _ (list_all is_plain r.before) after.0 in
    let placed = and_parts _ (nat_lt r.place width) before.0 in
    let most = and_parts _ (nat_le (length r.after) 1) placed.0 in
    let fewer = and_parts _ (nat_lt (length r.after) width) most.0 in
    record {
      wide = eqb-true _ _ fewer.0;
      fewer = ltb-true _ _ fewer.1;
      at_most = leb-true _ _ most.1;
      placed = ltb-true _ _ placed.1;
      before = before.1;
      after = after.1;
      added = added.1;
      bytes = leb-true _ _ bytes.1;
      opcodes = leb-true _ _ opcodes.1;
      checks = checks.1;
      last = last.1;
    }

-- ---- runs

window_runs_live : (world : World) (width least : ℕ) (r : Rule) (places : ℕ → Span) (checking : Span) (b : Board) → Holds width least r
    → is_live b.conditions ≡ true → underflows (run_rows world (window_of r places checking) b) ≡ false
    → run_rows world (replacement_of r places checking) b ≡ run_rows world (window_of r places checking) b
window_runs_live world width least r places checking b h live u =
    elim (cases_lt (length b.stack) least) [
      | inl low ↦ absurd (both_ways (underflows (run_rows world (window_of r places checking) b)) u (h.short places checking world b live low))
      | inr high ↦ h.alike places checking world b live high
    ]

window_runs : (world : World) (width least : ℕ) (r : Rule) (places : ℕ → Span) (checking : Span) (b : Board) → Holds width least r
    → Shape width r → underflows (run_rows world (window_of r places checking) b) ≡ false
    → run_rows world (replacement_of r places checking) b ≡ run_rows world (window_of r places checking) b
window_runs world width least r places checking b h s u =
    elim (cases_Bool (is_live b.conditions)) [
      | inl live ↦ window_runs_live world width least r places checking b h live u
      | inr dead ↦
          dead_run world (replacement_of r places checking) b (plain_replaced r.after (places r.place) checking s.after) dead
          ∙ sym (dead_run world (window_of r places checking) b (plain_rows r.before places checking s.before) dead)
    ]

-- ---- spans and instructions of a window

sub_one : (instrs : List Instr) (places : ℕ → Span) (checking : Span) (k : ℕ) (instr : Instr) (rest : List Spanned) → k < length instrs
    → Sublist (map spans_of (row checking instr (places k) ∷ rest)) (map spans_of (rows_of instrs places checking ++ rest))
sub_one [] places checking k instr rest h = absurd (omega arith)
sub_one (i ∷ instrs) places checking zero instr rest h =
    inr (map spans_of rest, refl, sub_map_skip spans_of (rows_of instrs (λ j. places (suc j)) checking) rest)
sub_one (i ∷ instrs) places checking (suc k) instr rest h = inl (sub_one instrs (λ j. places (suc j)) checking k instr rest (omega arith))

spans_kept : (before after : List Instr) (place : ℕ) (places : ℕ → Span) (checking : Span) (rest : List Spanned) → length after ≤ 1
    → place < length before
    → Sublist (map spans_of (replacement_of (rule before after place) places checking ++ rest))
    (map spans_of (window_of (rule before after place) places checking ++ rest))
spans_kept before [] place places checking rest one h = sub_map_skip spans_of (rows_of before places checking) rest
spans_kept before (i ∷ []) place places checking rest one h = sub_one before places checking place i rest h
spans_kept before (i ∷ j ∷ after) place places checking rest one h = absurd (omega arith)

replaced_instrs : (checking place : Span) (instrs : List Instr) → instructions (map (λ instr. row checking instr place) instrs) ≡ instrs
replaced_instrs checking place [] = refl
replaced_instrs checking place (i ∷ instrs) = ap (λ l. i ∷ l) (replaced_instrs checking place instrs)

pub window_instrs : (r : Rule) (places : ℕ → Span) (checking : Span) (rest : List Spanned)
    → instructions (window_of r places checking ++ rest) ≡ r.before ++ instructions rest
window_instrs r places checking rest =
    instructions_append (window_of r places checking) rest ∙ ap (λ l. l ++ instructions rest) (instrs_of r.before places checking)

pub replacement_instrs : (r : Rule) (places : ℕ → Span) (checking : Span) (rest : List Spanned)
    → instructions (replacement_of r places checking ++ rest) ≡ r.after ++ instructions rest
replacement_instrs r places checking rest =
    instructions_append (replacement_of r places checking) rest ∙ ap (λ l. l ++ instructions rest) (replaced_instrs checking (places r.place) r.after)

bytes_of : (a b : List Instr) → length (spellings (a ++ b)) ≡ length (spellings a) + length (spellings b)
bytes_of a b = ap length (flat_map-append spelling a b) ∙ length-append (spellings a) (spellings b)

-- a test of each instruction
all_of_both : (test : Instr → Bool) (a b : List Instr) → list_all test (a ++ b) ≡ true → (list_all test a ≡ true) × (list_all test b ≡ true)
all_of_both test a b h = let q = and_parts (list_all test a) (list_all test b) (sym (list_all-append test a b) ∙ h) in (q.0, q.1)

all_from_both : (test : Instr → Bool) (a b : List Instr) → list_all test a ≡ true → list_all test b ≡ true → list_all test (a ++ b) ≡ true
all_from_both test a b p q = list_all-append test a b ∙ and_from (list_all test a) (list_all test b) p q

all_added : (test : Instr → Bool) → ((instr : Instr) → may_be_added instr ≡ true → test instr ≡ true) → (code : List Instr)
    → list_all may_be_added code ≡ true → list_all test code ≡ true
all_added test f [] h = refl
all_added test f (i ∷ code) h =
    let q = and_parts (may_be_added i) (list_all may_be_added code) h in
    and_from (test i) (list_all test code) (f i q.0) (all_added test f code q.1)

-- ---- the replacement stands for the window, before any code

pub rule_stands : (width least : ℕ) (r : Rule) (places : ℕ → Span) (checking : Span) (rest : List Spanned) → Holds width least r
    → (r.after ≡ [] → ends rest ≡ false) → StandsFor (window_of r places checking ++ rest) (replacement_of r places checking ++ rest)
rule_stands width least r places checking rest h next =
    let w = window_of r places checking in
    let by = replacement_of r places checking in
    let s = shape_of width least r h in
    let first = window_instrs r places checking rest in
    let second = replacement_instrs r places checking rest in
    let before = ap (λ l. length (spellings l)) first ∙ bytes_of r.before (instructions rest) in
    let after = ap (λ l. length (spellings l)) second ∙ bytes_of r.after (instructions rest) in
    record {
      runs = λ world b u. run_append world by rest b
          ∙ same_before (run_rows world w b) (run_rows world by b) (run_rows world rest) (window_runs world width least r places checking b h s) (ap underflows (sym (run_append world w rest b)) ∙ u)
          ∙ sym (run_append world w rest b);
      statements = λ world b u. rule_trace world r places checking rest b s.before s.after (omega (arith, s.wide, s.fewer)) s.at_most
          (window_runs world width least r places checking b h s (not_before (run_rows world w b) (run_rows world rest) (ap underflows (sym (run_append world w rest b)) ∙ u))) next;
      bytes = omega (arith, before, after, s.bytes);
      spans = spans_kept r.before r.after r.place places checking rest s.at_most (omega (arith, s.placed, s.wide));
      keys = λ known keys k.
          subst (λ l. KeepsKeys known keys l (instructions (by ++ rest))) (sym first)
          (subst (KeepsKeys known keys (r.before ++ instructions rest)) (sym second)
          (rule_keys r.before r.after (instructions rest) known keys s.at_most s.last s.checks s.added s.opcodes (ap (are_keys_known known) (sym first) ∙ k)));
      added = λ test f k.
          ap (list_all test) second
          ∙ all_from_both test r.after (instructions rest) (all_added test f r.after s.added) (all_of_both test r.before (instructions rest) (ap (list_all test) (sym first) ∙ k)).1;
    }

-- ---- code that stands for other code: it is transitive, and serves below any code

pub stands_self : (a : List Spanned) → StandsFor a a
stands_self a = record {
  runs = λ world b u. refl;
  statements = λ world b u. keeps_self (is_ok (run_rows world a b)) (trace world a b);
  bytes = omega arith;
  spans = sub_all (map spans_of a);
  keys = λ known keys k. record { checks = k; counted = omega arith };
  added = λ test f k. k;
}

pub stands_then : (a b c : List Spanned) → StandsFor a b → StandsFor b c → StandsFor a c
stands_then a b c x y = record {
  runs = λ world m u. y.runs world m (ap underflows (x.runs world m u) ∙ u) ∙ x.runs world m u;
  statements = λ world m u.
      let same = x.runs world m u in
      keeps_then (is_ok (run_rows world a m)) (trace world a m) (trace world b m) (trace world c m) (x.statements world m u)
      (subst (λ r. KeepsStatements (is_ok r) (trace world b m) (trace world c m)) same (y.statements world m (ap underflows same ∙ u)));
  bytes = let p = x.bytes in let q = y.bytes in omega (arith, p, q);
  spans = sub_then (map spans_of c) (map spans_of b) (map spans_of a) y.spans x.spans;
  keys = λ known keys k.
      let p = x.keys known keys k in
      let q = y.keys known keys p.checks in
      let few = p.counted in
      let fewer = q.counted in
      record { checks = q.checks; counted = omega (arith, few, fewer) };
  added = λ test f k. y.added test f (x.added test f k);
}

pub stands_after : (front a b : List Spanned) → StandsFor a b → StandsFor (front ++ a) (front ++ b)
stands_after front a b x =
    let first = instructions_append front a in
    let second = instructions_append front b in
    let before = ap (λ l. length (spellings l)) first ∙ bytes_of (instructions front) (instructions a) in
    let after = ap (λ l. length (spellings l)) second ∙ bytes_of (instructions front) (instructions b) in
    let few = x.bytes in
    record {
      runs = λ world m u. run_append world front b m
          ∙ same_after (run_rows world front m) (run_rows world a) (run_rows world b) (x.runs world) (ap underflows (sym (run_append world front a m)) ∙ u)
          ∙ sym (run_append world front a m);
      statements = λ world m u. trace_after world front a b m (x.statements world) u;
      bytes = omega (arith, before, after, few);
      spans = sub_map_front spans_of front b a x.spans;
      keys = λ known keys k.
          subst (λ l. KeepsKeys known keys l (instructions (front ++ b))) (sym first)
          (subst (KeepsKeys known keys (instructions front ++ instructions a)) (sym second)
          (keys_after (instructions front) (instructions a) (instructions b) x.keys known keys (ap (are_keys_known known) (sym first) ∙ k)));
      added = λ test f k.
          let parts = all_of_both test (instructions front) (instructions a) (ap (list_all test) (sym first) ∙ k) in
          ap (list_all test) second ∙ all_from_both test (instructions front) (instructions b) parts.0 (x.added test f parts.1);
    }
