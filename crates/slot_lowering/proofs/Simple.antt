-- Statements of one value: its code, and one row behind it.
use Rattle.std.proofs.Common.{◌≡◌, ◌≤◌, ℕ, ◌*◌, ◌==◌, Bool, true, false, List, [], ◌∷◌, ◌++◌, length, map, Result, Ok, Err, refl, sym, ap, ◌∙◌, subst, arith, append_assoc}
use Rattle.std.specs.Prelude.{◌&&◌, ◌||◌, not, nat_le, is_some, Some, None, Option, option_and_then, if◌then◌else◌}
use Rattle.std.specs.List.{list_any}
use Rattle.std.proofs.lemmas.List.{append-nil}
use Rattle.std.proofs.lemmas.List.Folds.{list_any-append}
use Rattle.std.proofs.lemmas.Bool.Decides.{nat_tests}
use Rattle.cash_base.specs.declared.fault.Cause.{Cause}
use Rattle.cash_base.specs.declared.fault.Cause.TheVariants.{CheckFailed}
use Rattle.cash_base.specs.declared.place.Span.{Span}
use Rattle.cash_base.specs.declared.place.Slot.{Slot}
use Rattle.cash_base.specs.Failing.{◌>>=◌}
use Rattle.cash_base.specs.Number.{truth_of}
use Rattle.tx_context.specs.World.{World}
use Rattle.tx_context.specs.Lookup.{time_outcome, age_outcome}
use Rattle.cash_tree.specs.declared.Ty.{Ty}
use Rattle.cash_tree.specs.declared.Param.{Param}
use Rattle.cash_tree.specs.declared.StmtKind.{StmtKind}
use Rattle.cash_tree.specs.declared.StmtKind.TheVariants as stmts
use Rattle.type_tables.specs.Tables.{TypedExpr}
use Rattle.source_meaning.specs.declared.outcome.Failure.{Failure}
use Rattle.source_meaning.specs.Meaning.{Env, Doing, Value, left_of, right_of, element, kind_gives, value_of, kind_leaves, with_value, passed, checked, fails}
use Rattle.source_meaning.specs.Runnable.{node_count}
use Rattle.source_meaning.proofs.StmtSteps as source
use Rattle.source_meaning.proofs.Steps as whole
use Rattle.slot_code.specs.declared.slots.SlotInstr.{SlotInstr}
use Rattle.slot_code.specs.declared.slots.SlotKind.{SlotKind}
use Rattle.slot_code.specs.declared.slots.SlotKind.TheVariants as kinds
use Rattle.slot_code.specs.Meaning.{state, act_of, run_of}
use Rattle.slot_code.specs.Shape.{Operand, Place, Shapes, all_shapes, shapes_of, shapes_at, has, has_span, is_span, takes_all, then_shape, defines, assigns, check, value as work}
use Rattle.slot_code.proofs.Steps as steps
use Rattle.slot_expressions.specs.Ready.{is_ready, is_ready_kind}
use Rattle.slot_expressions.specs.Pieces.{LowersElement, LowersGiven, given_on, instruction, in_scope, seen_with}
use Rattle.slot_lowering.specs.Scoped.{Part, value_scoped, is_new, is_split, part_of_kind}
use Rattle.slot_lowering.specs.Statements.{Holds, Distinct, Reaches, Does, LowersKind, place, leaves}
use Rattle.slot_expressions.specs.declared.expressions.Width.TheVariants as widths
use Rattle.slot_expressions.proofs.ReadySteps as ready
use Rattle.slot_lowering.specs.Room.{pays_at}
use Rattle.slot_lowering.specs.Weighed.{Inside}
use Rattle.slot_lowering.specs.Spans.{own_spans_at}
use Rattle.slot_lowering.proofs.ScopedSteps as scoped
use Rattle.slot_lowering.proofs.PricingSteps as pricing
use Rattle.slot_lowering.proofs.SpanSteps as spanned
use Rattle.slot_lowering.proofs.Spanning.{value_row}
use Rattle.slot_expressions.proofs.SpanSteps as values
use Rattle.slot_expressions.proofs.Spanning.{covers_as, covers_then, covers_rest}
use Rattle.slot_expressions.specs.Spans.{own_spans as value_spans}
use Rattle.slot_code.specs.Spans.{spans_at}
use Rattle.slot_lowering.proofs.Weights.{paid_inside, light_parts}
use Rattle.slot_expressions.proofs.Puts.{run_append, run_one}
use Rattle.slot_expressions.proofs.Standing.{if_true, shape_append, row_shape, seen_now}
use Rattle.slot_expressions.proofs.Tests.{and_left, and_right}
use Rattle.slot_expressions.proofs.Single.{grown1}
use Rattle.slot_expressions.proofs.Acts.{row_done}
use Rattle.slot_lowering.specs.Arranged.{IsSimple, defines as is_define, defines_both, assigns as is_assign, checks_time, checks_age, requires_it, simple as arranged_simple}
use Rattle.slot_lowering.proofs.Arranging.{valued, both_valued}

-- ---- checking spans

or_left : (b c : Bool) → b ≡ true → (b || c) ≡ true
or_left true c is = refl
or_left false c is = absurd cc

or_right : (b c : Bool) → c ≡ true → (b || c) ≡ true
or_right true c is = refl
or_right false c is = is

kept_by : (b : Bool) (own span : Span) (seen : List Span) → has_span span seen ≡ true → has_span span (if b then seen else seen ++ own ∷ []) ≡ true
kept_by true own span seen is = is
kept_by false own span seen is = list_any-append (is_span span) seen (own ∷ []) ∙ or_left (has_span span seen) (list_any (is_span span) (own ∷ [])) is

pub seen_kept : (own span : Span) (seen : List Span) → has_span span seen ≡ true → has_span span (seen_with own seen) ≡ true
seen_kept own span seen is = kept_by (has_span own seen) own span seen is

-- ---- a value

-- where the value of a statement stands
abbrev pub on_place : Operand → List Slot → List Slot → List Span → Place
on_place top slots outer seen = record { operands = top ∷ []; slots = slots; outer = outer; seen = seen }

small : (n : ℕ) → nat_le n 1000 ≡ true → 4 * n ≤ 4000
small n is = grind (arith, nat_tests, is)

pub element_leads : {old mid : List SlotInstr} {checking : Span} {e : TypedExpr} (h : LowersElement old mid checking e) (slots outer : List Slot) (seen : List Span) → value_scoped e slots ≡ true
    → all_shapes (map shapes_of h.rows) (place slots outer seen) ≡ Some (on_place h.top slots outer (seen_with checking seen))
element_leads {old} {mid} {checking} {e} h slots outer seen is =
    let ready = and_left (is_ready (in_scope slots) e) (nat_le (node_count e) 1000) is in
    let less = small (node_count e) (and_right (is_ready (in_scope slots) e) (nat_le (node_count e) 1000) is) in
    h.begins.begins (place slots outer seen) refl
    ∙ (h.stands slots ready).stands (place slots outer (seen_with checking seen)) refl (seen_now checking seen) (omega (arith, less))

value_step : (r : Result (List ℕ) Failure) (f : List ℕ → Result Env Failure) (i : SlotInstr) (world : World) (env : Env)
    → ((x : List ℕ) → act_of world i (state (x ∷ []) env) ≡ (f x >>= λ after. Ok (state [] after)))
    → (((r >>= λ e. Ok (e ∷ [])) >>= λ es. Ok (state (es ++ []) env)) >>= run_of world (i ∷ [])) ≡ ((r >>= f) >>= λ after. Ok (state [] after))
value_step (Ok x) f i world env acts = run_one world i (state (x ∷ []) env) ∙ acts x
value_step (Err e) f i world env acts = refl

value_holds : (r : Result (List ℕ) Failure) (f : List ℕ → Result Env Failure) (after : Env) (P : Env → Type 0) → ((x : List ℕ) → f x ≡ Ok after → P after) → (r >>= f) ≡ Ok after → P after
value_holds (Ok x) f after P holds is = holds x is
value_holds (Err e) f after P holds is = absurd cc

pub stays : {o : Option Place} {slots outer : List Slot} {seen : List Span} → o ≡ Some (place slots outer seen) → Reaches o slots outer seen
stays {o} {slots} {outer} {seen} is = record { later = seen; to = is; kept = λ span there. there }

pub simple : {old mid : List SlotInstr} {checking : Span} {e : TypedExpr} (h : LowersElement old mid checking e) (kind : SlotKind) (f : World → List ℕ → Env → Result Env Failure) (doing : World → Doing) (slots names : List Slot)
    → ((world : World) (x : List ℕ) (env : Env) → Holds slots env → act_of world (instruction kind checking checking) (state (x ∷ []) env) ≡ (f world x env >>= λ after. Ok (state [] after)))
    → ((world : World) (env : Env) → doing world env ≡ (element (value_of world env e) >>= λ x. f world x env))
    → ((world : World) (x : List ℕ) (env after : Env) → Holds slots env → f world x env ≡ Ok after → Holds (slots ++ names) after)
    → ((slot : Slot) → has slot slots ≡ true → has slot names ≡ false) → Distinct names
    → (shape : Shapes) → shapes_at kind ≡ shape
    → ((top : Operand) (outer : List Slot) (seen : List Span) → has_span checking seen ≡ true → Reaches (shape.inner (on_place top slots outer seen)) (slots ++ names) outer seen)
    → value_scoped e slots ≡ true
    → Does (h.rows ++ instruction kind checking checking ∷ []) doing slots names
simple {old} {mid} {checking} {e} h kind f doing slots names acts is holds fresh distinct shape shape_is leads ready =
    let i = instruction kind checking checking in record {
      runs = λ world env held. run_append world h.rows (i ∷ []) (state [] env) ∙ ap (λ r. r >>= run_of world (i ∷ [])) (h.puts.runs world (state [] env))
          ∙ value_step (element (value_of world env e)) (λ x. f world x env) i world env (λ x. acts world x env held)
          ∙ ap (λ r. r >>= λ after. Ok (state [] after)) (sym (is world env));
      holds = λ world env after held to. value_holds (element (value_of world env e)) (λ x. f world x env) after (Holds (slots ++ names))
          (λ x done. holds world x env after held done) (sym (is world env) ∙ to);
      fresh = fresh;
      distinct = distinct;
      leads = λ outer seen.
          let next = leads h.top outer (seen_with checking seen) (seen_now checking seen) in record {
            later = next.later;
            to = shape_append h.rows (i ∷ []) (place slots outer seen) ∙ ap (option_and_then (all_shapes (map shapes_of (i ∷ [])))) (element_leads h slots outer seen ready)
                ∙ row_shape kind checking checking shape (on_place h.top slots outer (seen_with checking seen)) (place (slots ++ names) outer next.later) shape_is (seen_now checking seen) next.to;
            kept = λ span there. next.kept span (seen_kept checking span seen there);
          };
    }

-- ---- slots

same_number : (a b : ℕ) → (a == b) ≡ true → a ≡ b
same_number a b is = grind (arith, nat_tests, is)

pub flipped : (a b : ℕ) → (a == b) ≡ (b == a)
flipped a b = grind (arith, nat_tests)

pub has_same : (a b : Slot) (slots : List Slot) → (a.0 == b.0) ≡ true → has a slots ≡ has b slots
has_same a b slots is = ap (λ n. list_any (λ (other : Slot). other.0 == n) slots) (same_number a.0 b.0 is)

pub new_holds : (slot : Slot) (x : List ℕ) (slots : List Slot) (env : Env) → Holds slots env → Holds (slots ++ slot ∷ []) (with_value slot x env)
new_holds slot x slots env held other =
    by_test (other.0 == slot.0) refl ∙ sym (list_any-append (λ (s : Slot). s.0 == other.0) slots (slot ∷ []))
  where
    or_more : (b : Bool) (c : Bool) → c ≡ true → true ≡ (b || (c || false))
    or_more true c is = refl
    or_more false c is = sym (ap (λ t. t || false) is)

    or_none : (b : Bool) (c : Bool) → c ≡ false → b ≡ (b || (c || false))
    or_none true c is = refl
    or_none false c is = sym (ap (λ t. t || false) is)

    by_test : (b : Bool) → (other.0 == slot.0) ≡ b → is_some (if other.0 == slot.0 then Some x else env other) ≡ (has other slots || ((slot.0 == other.0) || false))
    by_test true is = ap (λ t. is_some (if t then Some x else env other)) is ∙ or_more (has other slots) (slot.0 == other.0) (flipped slot.0 other.0 ∙ is)
    by_test false is = ap (λ t. is_some (if t then Some x else env other)) is ∙ held other ∙ or_none (has other slots) (slot.0 == other.0) (flipped slot.0 other.0 ∙ is)

not_true : (b : Bool) → not b ≡ true → b ≡ false
not_true true is = absurd cc
not_true false is = refl

-- another name than these
pub new_is : (slot : Slot) (slots : List Slot) → not (has slot slots) ≡ true → (other : Slot) → has other slots ≡ true → has other (slot ∷ []) ≡ false
new_is slot slots is other there = by_test (slot.0 == other.0) refl
  where
    by_test : (b : Bool) → (slot.0 == other.0) ≡ b → ((slot.0 == other.0) || false) ≡ false
    by_test true same = let both : has slot slots ≡ true = has_same slot other slots same ∙ there in let none = not_true (has slot slots) is in absurd cc
    by_test false same = ap (λ t. t || false) same

pub defined : (slot : Slot) (slots outer : List Slot) (seen : List Span) → is_new slot slots ≡ true → defines slot (place slots outer seen) ≡ Some (place (slots ++ slot ∷ []) outer seen)
defined slot slots outer seen is = if_true (is_new slot slots) (Some (place (slots ++ slot ∷ []) outer seen)) None is

pub lowers_define : {old mid new : List SlotInstr} {span : Span} {kind : StmtKind Slot Ty} {t : Ty} {constant : Bool} {slot : Slot} {at : Span} {e : TypedExpr} → kind ≡ stmts.Define t constant slot at e
    → LowersElement old mid span e → new ≡ mid ++ instruction (kinds.Define slot) span span ∷ [] → LowersKind old new kind span
lowers_define {old} {mid} {new} {span} {kind} {t} {constant} {slot} {at} {e} is h grown =
    let parts : part_of_kind kind ≡ record { names = slot ∷ []; scoped = λ slots. value_scoped e slots && is_new slot slots } = ap part_of_kind is ∙ scoped.define_part t constant slot at e in record {
      rows = h.rows ++ instruction (kinds.Define slot) span span ∷ [];
      grown = grown1 old h.rows (instruction (kinds.Define slot) span span ∷ []) h.grown grown;
      does = λ slots ok.
          let both : (value_scoped e slots && is_new slot slots) ≡ true = sym (ap (λ (p : Part). p.scoped slots) parts) ∙ ok in
          let ready = and_left (value_scoped e slots) (is_new slot slots) both in
          let new_one = and_right (value_scoped e slots) (is_new slot slots) both in
          subst (λ (p : Part). Does (h.rows ++ instruction (kinds.Define slot) span span ∷ []) (leaves kind span) slots p.names) (sym parts)
          (simple h (kinds.Define slot) (λ world x env. Ok (with_value slot x env)) (leaves kind span) slots (slot ∷ [])
          (λ world x env held. row_done world (kinds.Define slot) span span _ (state (x ∷ []) env) (steps.define_done world slot))
          (λ world env. ap (λ k. kind_leaves world k span env) is ∙ source.define_leaves world t constant slot at e span env)
          (λ world x env after held done. subst (Holds (slots ++ slot ∷ [])) (same_env (with_value slot x env) after (Ok (with_value slot x env)) refl done) (new_holds slot x slots env held))
          (new_is slot slots (and_left (not (has slot slots)) (nat_le (length (slots ++ slot ∷ [])) 160) new_one)) (refl, tt)
          (work (then_shape (takes_all 1) (defines slot))) (steps.define_stands slot)
          (λ top outer seen there. stays (defined slot slots outer seen new_one))
          ready);
      weight = paid_inside kind (kinds.Define slot) span (steps.define_weighs slot) (ap pays_at is ∙ pricing.define_pays t constant slot at e)
          (λ n. record { names_are = refl; bytes = omega arith; ops = omega arith }) h.light;
      spans = value_row (kinds.Define slot) span (steps.define_spans slot) (covers_rest (covers_as (ap own_spans_at is ∙ spanned.define_spanned t constant slot at e))) h.spans;
      arranged = arranged_simple e (kinds.Define slot) (is_define t constant slot at e is) (valued h);
    }
  where
    same_env : (a b : Env) (r : Result Env Failure) → r ≡ Ok a → r ≡ Ok b → a ≡ b
    same_env a b r one two = cc

-- ---- assignments

no_more : (slots outer : List Slot) (seen : List Span) → Some (place slots outer seen) ≡ Some (place (slots ++ []) outer seen)
no_more slots outer seen = ap (λ l. Some (place l outer seen)) (sym (append-nil slots))

as_before : (slots : List Slot) (env : Env) → Holds slots env → Holds (slots ++ []) env
as_before slots env held = subst (λ l. Holds l env) (sym (append-nil slots)) held

assigned_holds : (slot : Slot) (x : List ℕ) (slots : List Slot) (env : Env) → has slot slots ≡ true → Holds slots env → Holds slots (with_value slot x env)
assigned_holds slot x slots env known held other = by_test (other.0 == slot.0) refl
  where
    by_test : (b : Bool) → (other.0 == slot.0) ≡ b → is_some (if other.0 == slot.0 then Some x else env other) ≡ has other slots
    by_test true same = ap (λ t. is_some (if t then Some x else env other)) same ∙ sym (has_same other slot slots same ∙ known)
    by_test false same = ap (λ t. is_some (if t then Some x else env other)) same ∙ held other

pub ok_same : (a b : Env) (r : Result Env Failure) → r ≡ Ok a → r ≡ Ok b → a ≡ b
ok_same a b r one two = cc

pub lowers_assign : {old mid new : List SlotInstr} {span : Span} {kind : StmtKind Slot Ty} {slot : Slot} {e : TypedExpr} → kind ≡ stmts.Assign slot e
    → LowersElement old mid span e → new ≡ mid ++ instruction (kinds.Assign slot) span span ∷ [] → LowersKind old new kind span
lowers_assign {old} {mid} {new} {span} {kind} {slot} {e} is h grown =
    let parts : part_of_kind kind ≡ record { names = []; scoped = λ slots. value_scoped e slots && has slot slots } = ap part_of_kind is ∙ scoped.assign_part slot e in record {
      rows = h.rows ++ instruction (kinds.Assign slot) span span ∷ [];
      grown = grown1 old h.rows (instruction (kinds.Assign slot) span span ∷ []) h.grown grown;
      does = λ slots ok.
          let both : (value_scoped e slots && has slot slots) ≡ true = sym (ap (λ (p : Part). p.scoped slots) parts) ∙ ok in
          let known = and_right (value_scoped e slots) (has slot slots) both in
          subst (λ (p : Part). Does (h.rows ++ instruction (kinds.Assign slot) span span ∷ []) (leaves kind span) slots p.names) (sym parts)
          (simple h (kinds.Assign slot) (λ world x env. Ok (with_value slot x env)) (leaves kind span) slots []
          (λ world x env held. row_done world (kinds.Assign slot) span span _ (state (x ∷ []) env) (steps.assign_done world slot))
          (λ world env. ap (λ k. kind_leaves world k span env) is ∙ source.assign_leaves world slot e span env)
          (λ world x env after held done. subst (Holds (slots ++ [])) (ok_same (with_value slot x env) after (Ok (with_value slot x env)) refl done) (as_before slots (with_value slot x env) (assigned_holds slot x slots env known held)))
          (λ other there. refl) tt
          (work (then_shape (takes_all 1) (assigns slot))) (steps.assign_stands slot)
          (λ top outer seen there. stays (if_true (has slot slots) (Some (place slots outer seen)) None known ∙ no_more slots outer seen))
          (and_left (value_scoped e slots) (has slot slots) both));
      weight = paid_inside kind (kinds.Assign slot) span (steps.assign_weighs slot) (ap pays_at is ∙ pricing.assign_pays slot e)
          (λ n. record { names_are = omega arith; bytes = omega arith; ops = omega arith }) h.light;
      spans = value_row (kinds.Assign slot) span (steps.assign_spans slot) (covers_as (ap own_spans_at is ∙ spanned.assign_spanned slot e)) h.spans;
      arranged = arranged_simple e (kinds.Assign slot) (is_assign slot e is) (valued h);
    }

-- ---- checks

pub passed_same : (span : Span) (o : Result (Unit {0}) Cause) (env after : Env) → passed span o env ≡ Ok after → env ≡ after
passed_same span (Ok u) env after is = ok_same env after (Ok env) refl is
passed_same span (Err cause) env after is = absurd cc

pub checked_same : (b : Bool) (span : Span) (env after : Env) → (if b then Ok env else fails span CheckFailed) ≡ Ok after → env ≡ after
checked_same true span env after is = ok_same env after (Ok env) refl is
checked_same false span env after is = absurd cc

pub check_does : {old mid : List SlotInstr} {span : Span} {e : TypedExpr} (row : SlotKind) (f : World → List ℕ → Env → Result Env Failure) (doing : World → Doing) (slots : List Slot) → shapes_at row ≡ check
    → ((world : World) (x : List ℕ) (env : Env) → act_of world (instruction row span span) (state (x ∷ []) env) ≡ (f world x env >>= λ after. Ok (state [] after)))
    → ((world : World) (env : Env) → doing world env ≡ (element (value_of world env e) >>= λ x. f world x env))
    → ((world : World) (x : List ℕ) (env after : Env) → f world x env ≡ Ok after → env ≡ after)
    → (h : LowersElement old mid span e) → value_scoped e slots ≡ true → Does (h.rows ++ instruction row span span ∷ []) doing slots []
check_does row f doing slots shape acts is same h ready =
    simple h row f doing slots [] (λ world x env held. acts world x env) is
    (λ world x env after held done. subst (Holds (slots ++ [])) (same world x env after done) (as_before slots env held))
    (λ other there. refl) tt check shape (λ top outer seen there. stays (no_more slots outer seen)) ready

check_lowered : {old mid new : List SlotInstr} {span : Span} {kind : StmtKind Slot Ty} {e : TypedExpr} (row : SlotKind) (f : World → List ℕ → Env → Result Env Failure)
    → part_of_kind kind ≡ record { names = []; scoped = value_scoped e } → shapes_at row ≡ check
    → ((world : World) (x : List ℕ) (env : Env) → act_of world (instruction row span span) (state (x ∷ []) env) ≡ (f world x env >>= λ after. Ok (state [] after)))
    → ((world : World) (env : Env) → kind_leaves world kind span env ≡ (element (value_of world env e) >>= λ x. f world x env))
    → ((world : World) (x : List ℕ) (env after : Env) → f world x env ≡ Ok after → env ≡ after)
    → (h : LowersElement old mid span e) → Inside (h.rows ++ instruction row span span ∷ []) (pays_at kind).names (pays_at kind).inner → spans_at row ≡ [] → own_spans_at kind ≡ value_spans e → IsSimple kind e row
    → new ≡ mid ++ instruction row span span ∷ [] → LowersKind old new kind span
check_lowered {old} {mid} {new} {span} {kind} {e} row f parts shape acts is same h paid flat own is_check grown = record {
  rows = h.rows ++ instruction row span span ∷ [];
  grown = grown1 old h.rows (instruction row span span ∷ []) h.grown grown;
  does = λ slots ok.
      subst (λ (p : Part). Does (h.rows ++ instruction row span span ∷ []) (leaves kind span) slots p.names) (sym parts)
      (check_does row f (leaves kind span) slots shape acts is same h (sym (ap (λ (p : Part). p.scoped slots) parts) ∙ ok));
  weight = paid;
  spans = value_row row span flat (covers_as own) h.spans;
  arranged = arranged_simple e row is_check (valued h);
}

pub lowers_time : {old mid new : List SlotInstr} {span : Span} {kind : StmtKind Slot Ty} {e : TypedExpr} → kind ≡ stmts.Time e
    → LowersElement old mid span e → new ≡ mid ++ instruction kinds.Time span span ∷ [] → LowersKind old new kind span
lowers_time {old} {mid} {new} {span} {kind} {e} is h grown =
    check_lowered kinds.Time (λ world x env. passed span (time_outcome world.context x) env) (ap part_of_kind is ∙ scoped.time_part e) steps.time_stands
    (λ world x env. row_done world kinds.Time span span _ (state (x ∷ []) env) (steps.time_done world))
    (λ world env. ap (λ k. kind_leaves world k span env) is ∙ source.time_leaves world e span env)
    (λ world x env after done. passed_same span (time_outcome world.context x) env after done) h
    (paid_inside kind kinds.Time span steps.time_weighs (ap pays_at is ∙ pricing.time_pays e) (λ n. record { names_are = omega arith; bytes = omega arith; ops = omega arith }) h.light)
    steps.time_spans (ap own_spans_at is ∙ spanned.time_spanned e) (checks_time e is) grown

pub lowers_age : {old mid new : List SlotInstr} {span : Span} {kind : StmtKind Slot Ty} {e : TypedExpr} → kind ≡ stmts.Age e
    → LowersElement old mid span e → new ≡ mid ++ instruction kinds.Age span span ∷ [] → LowersKind old new kind span
lowers_age {old} {mid} {new} {span} {kind} {e} is h grown =
    check_lowered kinds.Age (λ world x env. passed span (age_outcome world.context x) env) (ap part_of_kind is ∙ scoped.age_part e) steps.age_stands
    (λ world x env. row_done world kinds.Age span span _ (state (x ∷ []) env) (steps.age_done world))
    (λ world env. ap (λ k. kind_leaves world k span env) is ∙ source.age_leaves world e span env)
    (λ world x env after done. passed_same span (age_outcome world.context x) env after done) h
    (paid_inside kind kinds.Age span steps.age_weighs (ap pays_at is ∙ pricing.age_pays e) (λ n. record { names_are = omega arith; bytes = omega arith; ops = omega arith }) h.light)
    steps.age_spans (ap own_spans_at is ∙ spanned.age_spanned e) (checks_age e is) grown

pub lowers_require : {old mid new : List SlotInstr} {span : Span} {kind : StmtKind Slot Ty} {e : TypedExpr} → kind ≡ stmts.Require e
    → LowersElement old mid span e → new ≡ mid ++ instruction kinds.Require span span ∷ [] → LowersKind old new kind span
lowers_require {old} {mid} {new} {span} {kind} {e} is h grown =
    check_lowered kinds.Require (λ world x env. checked span x env) (ap part_of_kind is ∙ scoped.require_part e) steps.require_stands
    (λ world x env. row_done world kinds.Require span span _ (state (x ∷ []) env) (steps.require_done world))
    (λ world env. ap (λ k. kind_leaves world k span env) is ∙ source.require_leaves world e span env)
    (λ world x env after done. checked_same (truth_of x) span env after done) h
    (paid_inside kind kinds.Require span steps.require_weighs (ap pays_at is ∙ pricing.require_pays e) (λ n. record { names_are = omega arith; bytes = omega arith; ops = omega arith }) h.light)
    steps.require_spans (ap own_spans_at is ∙ spanned.require_spanned e) (requires_it e is) grown

-- ---- definitions of two names

both_step : (r : Value) (left right : Slot) (i : SlotInstr) (world : World) (env : Env)
    → ((x y : List ℕ) → act_of world i (state (y ∷ x ∷ []) env) ≡ Ok (state [] (with_value right y (with_value left x env))))
    → (((r >>= λ given. Ok (given_on widths.Two given)) >>= λ es. Ok (state (es ++ []) env)) >>= run_of world (i ∷ []))
    ≡ ((r >>= λ given. Ok (with_value right (right_of given) (with_value left (left_of given) env))) >>= λ after. Ok (state [] after))
both_step (Ok given) left right i world env acts = run_one world i (state (right_of given ∷ left_of given ∷ []) env) ∙ acts (left_of given) (right_of given)
both_step (Err e) left right i world env acts = refl

both_holds : (r : Value) (left right : Slot) (env after : Env) (P : Env → Type 0) → ((x y : List ℕ) → P (with_value right y (with_value left x env)))
    → (r >>= λ given. Ok (with_value right (right_of given) (with_value left (left_of given) env))) ≡ Ok after → P after
both_holds (Ok given) left right env after P holds is =
    subst P (ok_same (with_value right (right_of given) (with_value left (left_of given) env)) after (Ok (with_value right (right_of given) (with_value left (left_of given) env))) refl is) (holds (left_of given) (right_of given))
both_holds (Err e) left right env after P holds is = absurd cc

two_leads : {old mid : List SlotInstr} {checking : Span} {e : TypedExpr} (h : LowersGiven old mid checking e widths.Two) (slots outer : List Slot) (seen : List Span) → value_scoped e slots ≡ true
    → all_shapes (map shapes_of h.lowered.lowered.rows) (place slots outer seen) ≡ Some (record { operands = h.lowered.lowered.tops; slots = slots; outer = outer; seen = seen_with checking seen })
two_leads {old} {mid} {checking} {e} h slots outer seen is =
    let t = h.lowered.lowered in
    let ready : is_ready_kind (in_scope slots) e.kind ≡ true = sym (ready.whole_ready (in_scope slots) e) ∙ and_left (is_ready (in_scope slots) e) (nat_le (node_count e) 1000) is in
    let less = small (node_count e) (and_right (is_ready (in_scope slots) e) (nat_le (node_count e) 1000) is) in
    t.begins.begins (place slots outer seen) refl
    ∙ (t.stands slots ready).stands (place slots outer (seen_with checking seen)) refl (seen_now checking seen) (omega (arith, less, whole.whole_counted e))
    ∙ ap (λ l. Some (record { operands = l; slots = slots; outer = outer; seen = seen_with checking seen })) (append-nil t.tops)

pub lowers_pair : {old mid new : List SlotInstr} {span : Span} {kind : StmtKind Slot Ty} {left right : Param Slot} {e : TypedExpr} → kind ≡ stmts.Pair left right e → is_split e ≡ true
    → LowersGiven old mid span e widths.Two → new ≡ mid ++ instruction (kinds.DefinePair left.name right.name) span span ∷ [] → LowersKind old new kind span
lowers_pair {old} {mid} {new} {span} {kind} {left} {right} {e} is split h grown =
    let l = left.name in
    let r = right.name in
    let t = h.lowered.lowered in
    let i = instruction (kinds.DefinePair l r) span span in
    let parts : part_of_kind kind ≡ record { names = l ∷ r ∷ []; scoped = λ slots. is_split e && (value_scoped e slots && (is_new l slots && is_new r (slots ++ l ∷ []))) } = ap part_of_kind is ∙ scoped.pair_part left right e in record {
      rows = t.rows ++ i ∷ [];
      grown = grown1 old t.rows (i ∷ []) t.grown grown;
      does = λ slots ok.
          let one : List Slot = slots ++ l ∷ [] in
          let all : (is_split e && (value_scoped e slots && (is_new l slots && is_new r one))) ≡ true = sym (ap (λ (p : Part). p.scoped slots) parts) ∙ ok in
          let most = and_right (is_split e) (value_scoped e slots && (is_new l slots && is_new r one)) all in
          let ready = and_left (value_scoped e slots) (is_new l slots && is_new r one) most in
          let both = and_right (value_scoped e slots) (is_new l slots && is_new r one) most in
          let first = and_left (is_new l slots) (is_new r one) both in
          let second = and_right (is_new l slots) (is_new r one) both in
          let free_l = and_left (not (has l slots)) (nat_le (length one) 160) first in
          let free_r = and_left (not (has r one)) (nat_le (length (one ++ r ∷ [])) 160) second in
          let at : one ++ r ∷ [] ≡ slots ++ (l ∷ r ∷ []) = append_assoc slots (l ∷ []) (r ∷ []) in
          let gives : (world : World) (env : Env) → leaves kind span world env ≡ (kind_gives world env e.kind e.span >>= λ given. Ok (with_value r (right_of given) (with_value l (left_of given) env))) =
          λ world env. ap (λ k. kind_leaves world k span env) is ∙ source.pair_leaves world left right e span env
          ∙ ap (λ (v : Value). v >>= λ given. Ok (with_value r (right_of given) (with_value l (left_of given) env))) (whole.whole_given world env e) in
          subst (λ (p : Part). Does (t.rows ++ i ∷ []) (leaves kind span) slots p.names) (sym parts) (record {
            runs = λ world env held. run_append world t.rows (i ∷ []) (state [] env) ∙ ap (λ q. q >>= run_of world (i ∷ [])) (t.puts.runs world (state [] env))
                ∙ both_step (kind_gives world env e.kind e.span) l r i world env (λ x y. row_done world (kinds.DefinePair l r) span span _ (state (y ∷ x ∷ []) env) (steps.define_pair_done world l r))
                ∙ ap (λ q. q >>= λ after. Ok (state [] after)) (sym (gives world env));
            holds = λ world env after held to. both_holds (kind_gives world env e.kind e.span) l r env after (Holds (slots ++ (l ∷ r ∷ [])))
                (λ x y. subst (λ s. Holds s (with_value r y (with_value l x env))) at (new_holds r y one (with_value l x env) (new_holds l x slots env held))) (sym (gives world env) ∙ to);
            fresh = λ other there.
                let no_l = new_is l slots free_l other there in
                let no_r = new_is r one free_r other (list_any-append (λ (s : Slot). s.0 == other.0) slots (l ∷ []) ∙ or_left (has other slots) (has other (l ∷ [])) there) in
                neither (l.0 == other.0) (r.0 == other.0) no_l no_r;
            distinct =
                let no_l : has l slots ≡ false = not_true (has l slots) free_l in
                let itself : (l.0 == l.0) ≡ true = grind (arith, nat_tests) in
                let there : has l one ≡ true = list_any-append (λ (s : Slot). s.0 == l.0) slots (l ∷ []) ∙ or_right (has l slots) (has l (l ∷ [])) (or_left (l.0 == l.0) false itself) in
                (new_is r one free_r l there, (refl, tt));
            leads = λ outer seen. record {
              later = seen_with span seen;
              to = shape_append t.rows (i ∷ []) (place slots outer seen) ∙ ap (option_and_then (all_shapes (map shapes_of (i ∷ [])))) (two_leads h slots outer seen ready)
                  ∙ row_shape (kinds.DefinePair l r) span span (work (then_shape (takes_all 2) (then_shape (defines l) (defines r)))) (record { operands = t.tops; slots = slots; outer = outer; seen = seen_with span seen })
                  (place (slots ++ (l ∷ r ∷ [])) outer (seen_with span seen)) (steps.define_pair_stands l r) (seen_now span seen)
                  (ap (λ n. option_and_then (then_shape (defines l) (defines r)) (if n == 2 then Some (place slots outer (seen_with span seen)) else None)) t.count
                  ∙ ap (option_and_then (defines r)) (defined l slots outer (seen_with span seen) first)
                  ∙ defined r one outer (seen_with span seen) second ∙ ap (λ s. Some (place s outer (seen_with span seen))) at);
              kept = λ other there. seen_kept span other seen there;
            };
          });
      weight = paid_inside kind (kinds.DefinePair l r) span (steps.define_pair_weighs l r) (ap pays_at is ∙ pricing.pair_pays left right e)
          (λ n. record { names_are = refl; bytes = omega arith; ops = omega arith }) (light_parts (pricing.split_pays e split) t.light);
      spans = value_row (kinds.DefinePair l r) span (steps.define_pair_spans l r)
          (covers_then (covers_rest (covers_rest (covers_as (ap own_spans_at is ∙ spanned.pair_spanned left right e)))) (covers_as (values.whole_spanned e))) t.spans;
      arranged = arranged_simple e (kinds.DefinePair l r) (defines_both left right e is) (both_valued h);
    }
  where
    neither : (b c : Bool) → (b || false) ≡ false → (c || false) ≡ false → (b || (c || false)) ≡ false
    neither true c is also = absurd cc
    neither false c is also = also
