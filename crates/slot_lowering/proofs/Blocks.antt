-- Statements one after the other, blocks, and choices.
use Rattle.std.proofs.Common.{◌≡◌, ℕ, ◌==◌, Bool, true, false, List, [], ◌∷◌, ◌++◌, map, Result, Ok, Err, refl, sym, ap, ◌∙◌, subst, arith, append_assoc}
use Rattle.std.proofs.Math.Path.{fun_ext}
use Rattle.std.specs.Prelude.{◌&&◌, ◌||◌, not, is_some, Some, None, Option, option_and_then, unwrap_or, if◌then◌else◌}
use Rattle.std.proofs.lemmas.List.{append-nil}
use Rattle.std.proofs.lemmas.List.Folds.{list_any-append}
use Rattle.std.proofs.lemmas.Bool.Decides.{nat_tests}
use Rattle.cash_base.specs.declared.place.Span.{Span}
use Rattle.cash_base.specs.declared.place.Slot.{Slot}
use Rattle.cash_base.specs.Failing.{◌>>=◌}
use Rattle.cash_base.specs.Number.{truth_of}
use Rattle.tx_context.specs.World.{World}
use Rattle.cash_tree.specs.declared.Ty.{Ty}
use Rattle.cash_tree.specs.declared.Stmt.{Stmt}
use Rattle.cash_tree.specs.declared.StmtKind.{StmtKind}
use Rattle.cash_tree.specs.declared.StmtKind.TheVariants as stmts
use Rattle.type_tables.specs.Tables.{TypedExpr}
use Rattle.source_meaning.specs.declared.outcome.Failure.{Failure}
use Rattle.source_meaning.specs.Meaning.{Env, Doing, element, value_of, kind_leaves, env_after, in_turn, block, outside}
use Rattle.source_meaning.proofs.StmtSteps as source
use Rattle.slot_code.specs.declared.slots.SlotInstr.{SlotInstr}
use Rattle.slot_code.specs.declared.slots.SlotKind.TheVariants as kinds
use Rattle.slot_code.specs.Meaning.{State, state, act_of, all_acts, run_of, without_value}
use Rattle.slot_code.specs.Shape.{Place, all_shapes, shapes_of, has, has_span, with_seen, without, takes_all, then_shape, ends_slot, plain, block_shape, choice_shape, closed, returned, same_slots, fork_shape, ends_rightly as rows_end, other_ends}
use Rattle.slot_code.proofs.Steps as steps
use Rattle.slot_expressions.specs.Room.{price_of}
use Rattle.slot_expressions.specs.Pieces.{LowersElement, instruction}
use Rattle.slot_lowering.specs.Scoped.{Part, value_scoped, part_of, part_of_kind, all_scoped}
use Rattle.slot_lowering.specs.Statements.{Holds, Distinct, Reaches, Leads, Does, LowersKind, LowersStmt, LowersRun, place, leaves, leave_all, names_of, is_scoped, end_row, IsBlock, LowersBlock}
use Rattle.slot_lowering.specs.Room.{Pays, block_pays, if_pays, pays_of, pays_at}
use Rattle.slot_lowering.specs.Weighed.{Inside}
use Rattle.slot_lowering.specs.Spans.{own_spans, own_spans_at}
use Rattle.slot_expressions.specs.Spans.{SpannedBy, own_spans as value_spans}
use Rattle.cash_tree.specs.Nodes.{joined}
use Rattle.slot_lowering.proofs.ScopedSteps as scoped
use Rattle.slot_lowering.proofs.PricingSteps as pricing
use Rattle.slot_lowering.proofs.SpanSteps as spanned
use Rattle.slot_lowering.proofs.Spanning.{among_own, among_none, among_more, block_spanned, fork_spanned}
use Rattle.slot_lowering.proofs.Weights.{none_inside, more_inside, ended_inside, choice_inside}
use Rattle.slot_expressions.proofs.Puts.{run_append}
use Rattle.slot_expressions.proofs.Standing.{if_true, shape_append, row_shape}
use Rattle.slot_expressions.proofs.Tests.{and_left, and_right}
use Rattle.slot_expressions.proofs.Single.{grown1}
use Rattle.slot_expressions.proofs.Acts.{row_done}
use Rattle.slot_lowering.proofs.Simple.{simple, flipped, ok_same}
use Rattle.slot_lowering.specs.Arranged.{Valued, ArrangedKind, ArrangedBlock, inner, nothing_left}
use Rattle.slot_lowering.proofs.Arranging.{valued, arranged_run, arranged_only, arranged_else}

abbrev TypedStmt : Type 0
TypedStmt = Stmt Slot Ty

pub lowers_stmt : {old new : List SlotInstr} {s : TypedStmt} → LowersKind old new s.kind s.span → LowersStmt old new s
lowers_stmt {old} {new} {s} h = record {
  rows = h.rows;
  grown = h.grown;
  does = λ slots ok.
      let is = scoped.whole_part s in
      let k = h.does slots (sym (ap (λ (p : Part). p.scoped slots) is) ∙ ok) in
      let same : (world : World) (env : Env) → kind_leaves world s.kind s.span env ≡ env_after world s env = λ world env. sym (source.whole_left world s env) in
      subst (λ (p : Part). Does h.rows (λ world. env_after world s) slots p.names) (sym is) (record {
        runs = λ world env held. k.runs world env held ∙ ap (λ r. r >>= λ after. Ok (state [] after)) (same world env);
        holds = λ world env after held to. k.holds world env after held (same world env ∙ to);
        fresh = k.fresh;
        distinct = k.distinct;
        leads = k.leads;
      });
  weight = subst (λ (p : Pays). Inside h.rows p.names p.inner) (sym (pricing.whole_pays s)) h.weight;
  spans = among_own s h.spans;
  arranged = h.arranged;
}

-- ---- one after the other

or_right : (b c : Bool) → c ≡ true → (b || c) ≡ true
or_right true c is = refl
or_right false c is = is

pub run_none : (code : List SlotInstr) → LowersRun code code []
run_none code = record {
  rows = [];
  grown = sym (append-nil code);
  does = λ slots ok. record {
    runs = λ world env held. refl;
    holds = λ world env after held to. subst (λ l. Holds l after) (sym (append-nil slots)) (subst (Holds slots) (ok_same env after (Ok env) refl to) held);
    fresh = λ slot there. refl;
    distinct = tt;
    leads = λ outer seen. record { later = seen; to = ap (λ l. Some (place l outer seen)) (sym (append-nil slots)); kept = λ span is. is };
  };
  weight = none_inside;
  spans = among_none;
  arranged = nothing_left;
}

run_step : (r : Result Env Failure) (b : List SlotInstr) (more : Doing) (world : World)
    → ((after : Env) → r ≡ Ok after → run_of world b (state [] after) ≡ (more after >>= λ last. Ok (state [] last)))
    → ((r >>= λ after. Ok (state [] after)) >>= run_of world b) ≡ ((r >>= more) >>= λ last. Ok (state [] last))
run_step (Ok after) b more world rest = rest after refl
run_step (Err e) b more world rest = refl

turn_step : (r : Result Env Failure) (more : Doing) (after : Env) (P : Env → Type 0) → ((mid : Env) → r ≡ Ok mid → more mid ≡ Ok after → P after) → (r >>= more) ≡ Ok after → P after
turn_step (Ok mid) more after P holds is = holds mid refl is
turn_step (Err e) more after P holds is = absurd cc

or_false : (b c : Bool) → b ≡ false → c ≡ false → (b || c) ≡ false
or_false true c is also = absurd cc
or_false false c is also = also

or_left : (b c : Bool) → b ≡ true → (b || c) ≡ true
or_left true c is = refl
or_left false c is = absurd cc

distinct_more : (xs ys : List Slot) → Distinct xs → Distinct ys → ((slot : Slot) → has slot xs ≡ true → has slot ys ≡ false) → Distinct (xs ++ ys)
distinct_more [] ys own more apart = more
distinct_more (x ∷ xs) ys own more apart =
    let itself : (x.0 == x.0) ≡ true = grind (arith, nat_tests) in (
      list_any-append (λ (other : Slot). other.0 == x.0) xs ys ∙ or_false (has x xs) (has x ys) own.0 (apart x (or_left (x.0 == x.0) (has x xs) itself)),
      distinct_more xs ys own.1 more (λ slot there. apart slot (or_right (x.0 == slot.0) (has slot xs) there)),
    )

pub does_more : {a b : List SlotInstr} (s : TypedStmt) (body : List TypedStmt) {slots names more : List Slot} → Does a (λ world. env_after world s) slots names
    → Does b (leave_all body) (slots ++ names) more → Does (a ++ b) (leave_all (s ∷ body)) slots (names ++ more)
does_more {a} {b} s body {slots} {names} {more} ha hb =
    let at : (slots ++ names) ++ more ≡ slots ++ (names ++ more) = append_assoc slots names more in record {
      runs = λ world env held. run_append world a b (state [] env) ∙ ap (λ r. r >>= run_of world b) (ha.runs world env held)
          ∙ run_step (env_after world s env) b (in_turn (map (env_after world) body)) world
          (λ after to. hb.runs world after (ha.holds world env after held to));
      holds = λ world env last held to. turn_step (env_after world s env) (in_turn (map (env_after world) body)) last (Holds (slots ++ (names ++ more)))
          (λ mid first rest. subst (λ l. Holds l last) at (hb.holds world mid last (ha.holds world env mid held first) rest)) to;
      fresh = λ slot there.
          let second : has slot more ≡ false = hb.fresh slot (list_any-append (λ (other : Slot). other.0 == slot.0) slots names ∙ or_left (has slot slots) (has slot names) there) in
          list_any-append (λ (other : Slot). other.0 == slot.0) names more ∙ or_false (has slot names) (has slot more) (ha.fresh slot there) second;
      distinct = distinct_more names more ha.distinct hb.distinct
          (λ slot there. hb.fresh slot (list_any-append (λ (other : Slot). other.0 == slot.0) slots names ∙ or_right (has slot slots) (has slot names) there));
      leads = λ outer seen.
          let first = ha.leads outer seen in
          let second = hb.leads outer first.later in record {
            later = second.later;
            to = shape_append a b (place slots outer seen) ∙ ap (option_and_then (all_shapes (map shapes_of b))) first.to ∙ second.to
                ∙ ap (λ l. Some (place l outer second.later)) at;
            kept = λ span is. second.kept span (first.kept span is);
          };
    }

pub run_more : {old mid new : List SlotInstr} {s : TypedStmt} {body : List TypedStmt} → LowersStmt old mid s → LowersRun mid new body → LowersRun old new (s ∷ body)
run_more {old} {mid} {new} {s} {body} h t = record {
  rows = h.rows ++ t.rows;
  grown = grown1 old h.rows t.rows h.grown t.grown;
  does = λ slots ok.
      does_more s body (h.does slots (and_left ((part_of s).scoped slots) (all_scoped (map part_of body) (slots ++ (part_of s).names)) ok))
      (t.does (slots ++ (part_of s).names) (and_right ((part_of s).scoped slots) (all_scoped (map part_of body) (slots ++ (part_of s).names)) ok));
  weight = more_inside (pays_of s) (map pays_of body) h.weight t.weight;
  spans = among_more (own_spans s) (joined (map own_spans body)) h.spans t.spans;
  arranged = arranged_run body h.arranged t.arranged;
}

-- ---- the ends of names

cleared : List Slot → Env → Env
cleared [] env = env
cleared (name ∷ names) env = cleared names (without_value name env)

ended_step : (world : World) (checking : Span) (name : Slot) (s : State) → act_of world (end_row checking name) s ≡ Ok (state s.operands (without_value name s.env))
ended_step world checking name s = row_done world (kinds.End name) checking checking _ s (steps.end_of_done world name)

ends_run : (world : World) (checking : Span) (names : List Slot) (env : Env) → run_of world (map (end_row checking) names) (state [] env) ≡ Ok (state [] (cleared names env))
unfolding cleared
ends_run world checking [] env = refl
ends_run world checking (name ∷ names) env =
    ap (λ r. r >>= all_acts (map (act_of world) (map (end_row checking) names))) (ended_step world checking name (state [] env)) ∙ ends_run world checking names (without_value name env)

cleared_at : (names : List Slot) (env : Env) (slot : Slot) → cleared names env slot ≡ (if has slot names then None else env slot)
unfolding cleared
cleared_at [] env slot = refl
cleared_at (name ∷ names) env slot = cleared_at names (without_value name env) slot ∙ by_tests (has slot names) (name.0 == slot.0) (slot.0 == name.0) (flipped slot.0 name.0)
  where
    by_tests : (b c d : Bool) → d ≡ c → (if b then None else (if d then None else env slot)) ≡ (if (c || b) then None else env slot)
    by_tests true true d same = refl
    by_tests true false d same = refl
    by_tests false c d same = ap (λ t. if t then None else env slot) (same ∙ sym (or_nothing c))
      where
        or_nothing : (c : Bool) → (c || false) ≡ c
        or_nothing true = refl
        or_nothing false = refl

no_value : (o : Option (List ℕ)) → is_some o ≡ false → o ≡ None
no_value None is = refl
no_value (Some x) is = absurd cc

-- behind a block its names are gone, and only those
outside_is : (names slots : List Slot) (env after : Env) → Holds slots env → Holds (slots ++ names) after → ((slot : Slot) → has slot slots ≡ true → has slot names ≡ false)
    → cleared names after ≡ outside env after
outside_is names slots env after held later fresh = fun_ext (λ slot. cleared_at names after slot ∙ by_slot slot (has slot slots) refl)
  where
    by_names : (slot : Slot) (b : Bool) → has slot names ≡ b → has slot slots ≡ false → (if b then None else after slot) ≡ None
    by_names slot true is free = refl
    by_names slot false is free =
        no_value (after slot) (later slot ∙ list_any-append (λ (other : Slot). other.0 == slot.0) slots names ∙ or_false (has slot slots) (has slot names) free is)

    by_slot : (slot : Slot) (b : Bool) → has slot slots ≡ b → (if has slot names then None else after slot) ≡ (if is_some (env slot) then after slot else None)
    by_slot slot true is = ap (λ t. if t then None else after slot) (fresh slot is) ∙ sym (ap (λ t. if t then after slot else None) (held slot ∙ is))
    by_slot slot false is = by_names slot (has slot names) refl is ∙ sym (ap (λ t. if t then after slot else None) (held slot ∙ is))

outside_holds : (names slots : List Slot) (env after : Env) → Holds slots env → Holds (slots ++ names) after → Holds slots (outside env after)
outside_holds names slots env after held later slot = by_slot (has slot slots) refl
  where
    by_slot : (b : Bool) → has slot slots ≡ b → is_some (if is_some (env slot) then after slot else None) ≡ has slot slots
    by_slot true is = ap (λ t. is_some (if t then after slot else None)) (held slot ∙ is)
        ∙ later slot ∙ list_any-append (λ (other : Slot). other.0 == slot.0) slots names ∙ or_left (has slot slots) (has slot names) is ∙ sym is
    by_slot false is = ap (λ t. is_some (if t then after slot else None)) (held slot ∙ is) ∙ sym is

-- ---- the slots behind the ends

without_none : (slot : Slot) (xs : List Slot) → has slot xs ≡ false → without slot xs ≡ xs
without_none slot [] is = refl
without_none slot (x ∷ xs) is = by_test (without_none slot xs) (x.0 == slot.0) refl
  where
    by_test : (has slot xs ≡ false → without slot xs ≡ xs) → (b : Bool) → (x.0 == slot.0) ≡ b → without slot (x ∷ xs) ≡ x ∷ xs
    by_test rest true same = let both : (true || has slot xs) ≡ false = ap (λ t. t || has slot xs) (sym same) ∙ is in absurd cc
    by_test rest false same =
        ap (λ t. if not t then x ∷ without slot xs else without slot xs) same
        ∙ ap (λ l. x ∷ l) (rest (ap (λ t. t || has slot xs) (sym same) ∙ is))

without_at : (slot : Slot) (xs ys : List Slot) → has slot xs ≡ false → has slot ys ≡ false → without slot (xs ++ slot ∷ ys) ≡ xs ++ ys
without_at slot [] ys is also =
    let itself : (slot.0 == slot.0) ≡ true = grind (arith, nat_tests) in
    ap (λ t. if not t then slot ∷ without slot ys else without slot ys) itself ∙ without_none slot ys also
without_at slot (x ∷ xs) ys is also = by_test (λ free. without_at slot xs ys free also) (x.0 == slot.0) refl
  where
    by_test : (has slot xs ≡ false → without slot (xs ++ slot ∷ ys) ≡ xs ++ ys) → (b : Bool) → (x.0 == slot.0) ≡ b → without slot (x ∷ (xs ++ slot ∷ ys)) ≡ x ∷ (xs ++ ys)
    by_test rest true same = let both : (true || has slot xs) ≡ false = ap (λ t. t || has slot xs) (sym same) ∙ is in absurd cc
    by_test rest false same =
        ap (λ t. if not t then x ∷ without slot (xs ++ slot ∷ ys) else without slot (xs ++ slot ∷ ys)) same
        ∙ ap (λ l. x ∷ l) (rest (ap (λ t. t || has slot xs) (sym same) ∙ is))

false_by : (b : Bool) → (b ≡ true → ⊥) → b ≡ false
false_by true never = absurd (never refl)
false_by false never = refl

ends_lead : (checking : Span) (names slots : List Slot) (seen : List Span) → has_span checking seen ≡ true → ((slot : Slot) → has slot slots ≡ true → has slot names ≡ false) → Distinct names
    → all_shapes (map shapes_of (map (end_row checking) names)) (place (slots ++ names) slots seen) ≡ Some (place slots slots seen)
ends_lead checking [] slots seen begun fresh distinct = ap (λ l. Some (place l slots seen)) (append-nil slots)
ends_lead checking (name ∷ names) slots seen begun fresh distinct =
    let itself : (name.0 == name.0) ≡ true = grind (arith, nat_tests) in
    let own : has name (name ∷ names) ≡ true = or_left (name.0 == name.0) (has name names) itself in
    let free : has name slots ≡ false = false_by (has name slots) (λ is. let gone = fresh name is in cc) in
    let there : has name (slots ++ name ∷ names) ≡ true = list_any-append (λ (other : Slot). other.0 == name.0) slots (name ∷ names) ∙ or_right (has name slots) (has name (name ∷ names)) own in
    let p : Place = place (slots ++ name ∷ names) slots seen in
    let may : (has name (slots ++ name ∷ names) && not (has name slots)) ≡ true = ap (λ t. t && not (has name slots)) there ∙ ap not free in
    let to : then_shape (takes_all 0) (ends_slot name) p ≡ Some (place (slots ++ names) slots seen) =
    if_true (has name (slots ++ name ∷ names) && not (has name slots)) (Some (place (without name (slots ++ name ∷ names)) slots seen)) None may
    ∙ ap (λ l. Some (place l slots seen)) (without_at name slots names free distinct.0) in
    shape_append (end_row checking name ∷ []) (map (end_row checking) names) p
    ∙ ap (option_and_then (all_shapes (map shapes_of (map (end_row checking) names))))
    (row_shape (kinds.End name) checking checking (plain true false (then_shape (takes_all 0) (ends_slot name))) p (place (slots ++ names) slots seen) (steps.end_of_stands name) begun to)
    ∙ ends_lead checking names slots seen begun (λ slot is. gone (name.0 == slot.0) (has slot names) (fresh slot is)) distinct.1
  where
    gone : (b c : Bool) → (b || c) ≡ false → c ≡ false
    gone true c is = absurd cc
    gone false c is = is

-- ---- blocks

block_step : (r : Result Env Failure) (ends : List SlotInstr) (world : World) (env : Env)
    → ((after : Env) → r ≡ Ok after → run_of world ends (state [] after) ≡ Ok (state [] (outside env after)))
    → ((r >>= λ after. Ok (state [] after)) >>= run_of world ends) ≡ (r >>= λ after. Ok (state [] (outside env after)))
block_step (Ok after) ends world env rest = rest after refl
block_step (Err e) ends world env rest = refl

pub lowers_block : {mid new : List SlotInstr} {body : List TypedStmt} {checking : Span} → LowersRun [] mid body → new ≡ mid ++ map (end_row checking) (names_of body) → LowersBlock new body checking
lowers_block {mid} {new} {body} {checking} h grown = record {
  does = λ slots ok.
      let d = h.does slots ok in
      let names = names_of body in
      let ends = map (end_row checking) names in
      let rows : new ≡ h.rows ++ ends = grown ∙ ap (λ l. l ++ ends) h.grown in
      subst (λ l. IsBlock l (leave_all body) slots checking) (sym rows) (record {
        runs = λ world env held. run_append world h.rows ends (state [] env) ∙ ap (λ r. r >>= run_of world ends) (d.runs world env held)
            ∙ block_step (in_turn (map (env_after world) body) env) ends world env
            (λ after to. ends_run world checking names after ∙ ap (λ e. Ok (state [] e)) (outside_is names slots env after held (d.holds world env after held to) d.fresh));
        holds = λ world env after held to. outside_holds names slots env after held (d.holds world env after held to);
        leads = λ seen begun.
            let first = d.leads slots seen in record {
              later = first.later;
              to = shape_append h.rows ends (place slots slots seen) ∙ ap (option_and_then (all_shapes (map shapes_of ends))) first.to
                  ∙ ends_lead checking names slots first.later (first.kept checking begun) d.fresh d.distinct;
              kept = first.kept;
            };
      });
  weight = subst (λ l. Inside l 0 (block_pays (map pays_of body))) (sym (grown ∙ ap (λ l. l ++ map (end_row checking) (names_of body)) h.grown))
      (ended_inside checking (names_of body) (map pays_of body) (pricing.names_counted body) h.weight);
  spans = subst (λ l. SpannedBy l checking (joined (map own_spans body))) (sym (grown ∙ ap (λ l. l ++ map (end_row checking) (names_of body)) h.grown)) (block_spanned checking (names_of body) h.spans);
  arranged = subst (ArrangedBlock false body checking) (sym (grown ∙ ap (λ l. l ++ map (end_row checking) (names_of body)) h.grown)) (inner h.arranged);
}

-- ---- choices

same_itself : (slots : List Slot) → same_slots slots slots ≡ true
same_itself [] = refl
same_itself (slot ∷ slots) =
    let itself : (slot.0 == slot.0) ≡ true = grind (arith, nat_tests) in
    ap (λ t. t && same_slots slots slots) itself ∙ same_itself slots

block_shaped : (a : List SlotInstr) (slots outer : List Slot) (seen : List Span) (r : Leads a slots slots slots seen)
    → block_shape (map shapes_of a) slots (place slots outer seen) ≡ Some (place slots slots r.later)
block_shaped a slots outer seen r =
    ap (option_and_then (then_shape closed (returned slots))) r.to
    ∙ if_true (same_slots slots slots) (Some (place slots slots r.later)) None (same_itself slots)

choice_reaches : {a b : List SlotInstr} {da db : World → Doing} {checking : Span} (slots outer : List Slot) (seen : List Span) → IsBlock a da slots checking → IsBlock b db slots checking → has_span checking seen ≡ true
    → Reaches (choice_shape (map shapes_of a) (map shapes_of b) (place slots outer seen)) slots outer seen
choice_reaches {a} {b} {da} {db} {checking} slots outer seen ha hb begun =
    let first = ha.leads seen begun in
    let second = hb.leads first.later (first.kept checking begun) in record {
      later = second.later;
      to = ap (option_and_then (λ (q : Place). option_and_then (λ (r : Place). Some (with_seen r.seen (place slots outer seen))) (block_shape (map shapes_of b) slots (with_seen q.seen (place slots outer seen)))))
          (block_shaped a slots outer seen first)
          ∙ ap (option_and_then (λ (r : Place). Some (with_seen r.seen (place slots outer seen)))) (block_shaped b slots outer first.later second);
      kept = λ span is. second.kept span (first.kept span is);
    }

outside_step : (r : Result Env Failure) (env : Env) → (r >>= λ after. Ok (state [] (outside env after))) ≡ ((r >>= λ after. Ok (outside env after)) >>= λ after. Ok (state [] after))
outside_step (Ok after) env = refl
outside_step (Err e) env = refl

-- the block that a test picks
picked_runs : (t : Bool) {a b : List SlotInstr} {da db : World → Doing} {checking : Span} {slots : List Slot} (world : World) (env : Env) → IsBlock a da slots checking → IsBlock b db slots checking → Holds slots env
    → all_acts (if t then map (act_of world) a else map (act_of world) b) (state [] env)
    ≡ (((if t then da world env else db world env) >>= λ after. Ok (outside env after)) >>= λ after. Ok (state [] after))
picked_runs true {a} {b} {da} {db} world env ha hb held = ha.runs world env held ∙ outside_step (da world env) env
picked_runs false {a} {b} {da} {db} world env ha hb held = hb.runs world env held ∙ outside_step (db world env) env

outside_done : (r : Result Env Failure) (env last : Env) (P : Env → Type 0) → ((after : Env) → r ≡ Ok after → P (outside env after)) → (r >>= λ after. Ok (outside env after)) ≡ Ok last → P last
outside_done (Ok after) env last P holds is = subst P (ok_same (outside env after) last (Ok (outside env after)) refl is) (holds after refl)
outside_done (Err e) env last P holds is = absurd cc

picked_holds : (t : Bool) {a b : List SlotInstr} {da db : World → Doing} {checking : Span} {slots : List Slot} (world : World) (env last : Env) → IsBlock a da slots checking → IsBlock b db slots checking → Holds slots env
    → ((if t then da world env else db world env) >>= λ after. Ok (outside env after)) ≡ Ok last → Holds slots last
picked_holds true {a} {b} {da} {db} {checking} {slots} world env last ha hb held is = outside_done (da world env) env last (Holds slots) (λ after to. ha.holds world env after held to) is
picked_holds false {a} {b} {da} {db} {checking} {slots} world env last ha hb held is = outside_done (db world env) env last (Holds slots) (λ after to. hb.holds world env after held to) is

in_picked : (t : Bool) (world : World) (env : Env) (ss us : List TypedStmt)
    → block (if t then map (env_after world) ss else map (env_after world) us) env ≡ ((if t then leave_all ss world env else leave_all us world env) >>= λ after. Ok (outside env after))
in_picked true world env ss us = refl
in_picked false world env ss us = refl

choice_lowered : {old mid new yes_code no_code : List SlotInstr} {span : Span} {kind : StmtKind Slot Ty} {e : TypedExpr} {ss us : List TypedStmt}
    → part_of_kind kind ≡ record { names = []; scoped = λ slots. value_scoped e slots && (is_scoped ss slots && is_scoped us slots) }
    → ((world : World) (env : Env) → kind_leaves world kind span env ≡ (element (value_of world env e) >>= λ x. block (if truth_of x then map (env_after world) ss else map (env_after world) us) env))
    → (o : Option (List Pays)) → pays_at kind ≡ if_pays (price_of e) (map pays_of ss) o → unwrap_or o [] ≡ map pays_of us
    → own_spans_at kind ≡ value_spans e ++ (joined (map own_spans ss) ++ joined (map own_spans us))
    → LowersElement old mid span e → LowersBlock yes_code ss span → LowersBlock no_code us span
    → ((rows : List SlotInstr) → Valued rows span e → ArrangedKind false kind span (rows ++ instruction (kinds.If yes_code no_code) span span ∷ []))
    → new ≡ mid ++ instruction (kinds.If yes_code no_code) span span ∷ [] → LowersKind old new kind span
choice_lowered {old} {mid} {new} {yes_code} {no_code} {span} {kind} {e} {ss} {us} parts is o pays other own h ya na arranges grown =
    let i = instruction (kinds.If yes_code no_code) span span in record {
      rows = h.rows ++ i ∷ [];
      grown = grown1 old h.rows (i ∷ []) h.grown grown;
      does = λ slots ok.
          let both : (value_scoped e slots && (is_scoped ss slots && is_scoped us slots)) ≡ true = sym (ap (λ (p : Part). p.scoped slots) parts) ∙ ok in
          let blocks = and_right (value_scoped e slots) (is_scoped ss slots && is_scoped us slots) both in
          let a = ya.does slots (and_left (is_scoped ss slots) (is_scoped us slots) blocks) in
          let b = na.does slots (and_right (is_scoped ss slots) (is_scoped us slots) blocks) in
          let f : World → List ℕ → Env → Result Env Failure = λ world x env. (if truth_of x then leave_all ss world env else leave_all us world env) >>= λ after. Ok (outside env after) in
          subst (λ (p : Part). Does (h.rows ++ i ∷ []) (leaves kind span) slots p.names) (sym parts)
          (simple h (kinds.If yes_code no_code) f (leaves kind span) slots []
          (λ world x env held. row_done world (kinds.If yes_code no_code) span span _ (state (x ∷ []) env) (steps.if_done world yes_code no_code) ∙ picked_runs (truth_of x) world env a b held)
          (λ world env. is world env ∙ ap (λ (g : List ℕ → Result Env Failure). element (value_of world env e) >>= g) (fun_ext (λ x. in_picked (truth_of x) world env ss us)))
          (λ world x env after held done. subst (λ l. Holds l after) (sym (append-nil slots)) (picked_holds (truth_of x) world env after a b held done))
          (λ other there. refl) tt
          (record { inner = then_shape (takes_all 1) (choice_shape (map shapes_of yes_code) (map shapes_of no_code)); last = then_shape (takes_all 1) (fork_shape (map shapes_of yes_code) (map shapes_of no_code)); is_end = false; may_end = rows_end (map shapes_of yes_code) && other_ends (map shapes_of no_code) })
          (steps.if_stands yes_code no_code)
          (λ top outer seen begun. subst (λ l. Reaches (choice_shape (map shapes_of yes_code) (map shapes_of no_code) (place slots outer seen)) l outer seen) (sym (append-nil slots)) (choice_reaches slots outer seen a b begun))
          (and_left (value_scoped e slots) (is_scoped ss slots && is_scoped us slots) both));
      weight = choice_inside kind span (map pays_of ss) (map pays_of us) o pays other h.light ya.weight na.weight;
      spans = fork_spanned own h.spans ya.spans na.spans;
      arranged = arranges h.rows (valued h);
    }

pub lowers_if_only : {old mid new yes_code no_code : List SlotInstr} {span : Span} {kind : StmtKind Slot Ty} {e : TypedExpr} {ss : List TypedStmt} → kind ≡ stmts.If e ss None
    → LowersElement old mid span e → LowersBlock yes_code ss span → LowersBlock no_code [] span
    → new ≡ mid ++ instruction (kinds.If yes_code no_code) span span ∷ [] → LowersKind old new kind span
lowers_if_only {old} {mid} {new} {yes_code} {no_code} {span} {kind} {e} {ss} is h ya na grown =
    choice_lowered {us = []} (ap part_of_kind is ∙ scoped.if_only_part e ss) (λ world env. ap (λ k. kind_leaves world k span env) is ∙ source.if_only_leaves world e ss span env)
    None (ap pays_at is ∙ pricing.if_only_pays e ss) refl (ap own_spans_at is ∙ spanned.if_only_spanned e ss) h ya na (λ rows v. arranged_only is v ya.arranged na.arranged) grown

pub lowers_if_else : {old mid new yes_code no_code : List SlotInstr} {span : Span} {kind : StmtKind Slot Ty} {e : TypedExpr} {ss us : List TypedStmt} → kind ≡ stmts.If e ss (Some us)
    → LowersElement old mid span e → LowersBlock yes_code ss span → LowersBlock no_code us span
    → new ≡ mid ++ instruction (kinds.If yes_code no_code) span span ∷ [] → LowersKind old new kind span
lowers_if_else {old} {mid} {new} {yes_code} {no_code} {span} {kind} {e} {ss} {us} is h ya na grown =
    choice_lowered (ap part_of_kind is ∙ scoped.if_else_part e ss us) (λ world env. ap (λ k. kind_leaves world k span env) is ∙ source.if_else_leaves world e ss us span env)
    (Some (map pays_of us)) (ap pays_at is ∙ pricing.if_else_pays e ss us) refl (ap own_spans_at is ∙ spanned.if_else_spanned e ss us) h ya na (λ rows v. arranged_else is v ya.arranged na.arranged) grown

-- a missing block is empty
pub no_block : (checking : Span) → LowersBlock [] [] checking
no_block checking = lowers_block (run_none []) refl
