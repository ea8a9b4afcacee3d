-- Paths: statements behind which nothing stands.
use Rattle.std.proofs.Common.{◌≡◌, ℕ, ◌==◌, Bool, true, false, List, [], ◌∷◌, ◌++◌, length, map, Result, Ok, Err, refl, sym, ap, ◌∙◌, subst, arith}
use Rattle.std.specs.Prelude.{◌&&◌, Some, None, Option, option_and_then, unwrap_or, if◌then◌else◌}
use Rattle.std.proofs.lemmas.List.{map-append}
use Rattle.std.proofs.lemmas.List.Folds.{list_all-append}
use Rattle.cash_base.specs.declared.place.Span.{Span}
use Rattle.cash_base.specs.declared.place.Slot.{Slot}
use Rattle.cash_base.specs.Failing.{◌>>=◌}
use Rattle.cash_base.specs.Number.{truth_of}
use Rattle.tx_context.specs.World.{World}
use Rattle.tx_context.specs.Lookup.{time_outcome, age_outcome}
use Rattle.cash_tree.specs.declared.Ty.{Ty}
use Rattle.cash_tree.specs.declared.Stmt.{Stmt}
use Rattle.cash_tree.specs.declared.StmtKind.{StmtKind}
use Rattle.cash_tree.specs.declared.StmtKind.TheVariants as stmts
use Rattle.type_tables.specs.Tables.{TypedExpr}
use Rattle.source_meaning.specs.declared.outcome.Failure.{Failure}
use Rattle.source_meaning.specs.Meaning.{Env, Doing, passed, checked, element, value_of, kind_leaves, env_after, in_turn, block, outside}
use Rattle.source_meaning.proofs.StmtSteps as source
use Rattle.slot_code.specs.declared.slots.SlotInstr.{SlotInstr}
use Rattle.slot_code.specs.declared.slots.SlotKind.{SlotKind}
use Rattle.slot_code.specs.declared.slots.SlotKind.TheVariants as kinds
use Rattle.slot_code.specs.Meaning.{state, act_of, all_acts, run_of}
use Rattle.slot_code.specs.Shape.{Operand, Place, Shapes, Shape, all_shapes, path_shape, path_block, is_over, ends_rightly as rows_end, other_ends, shapes_of, shapes_at, stands_in, begins, check, closed, takes_all, then_shape, choice_shape, fork_shape, in_both, with_seen, with_slots}
use Rattle.slot_code.proofs.Steps as steps
use Rattle.slot_expressions.specs.Room.{price_of}
use Rattle.slot_expressions.specs.Pieces.{LowersElement, instruction, seen_with}
use Rattle.slot_lowering.specs.Scoped.{Part, value_scoped, part_of, part_of_kind, all_scoped, last_of, may_end, may_end_kind}
use Rattle.slot_lowering.specs.Statements.{Holds, IsPath, IsBranch, LowersStmt, LowersLast, LowersLastKind, LowersPath, met, place, leaves, leave_all, is_scoped}
use Rattle.slot_lowering.specs.Room.{Pays, if_pays, path_pays, pays_of, pays_at}
use Rattle.slot_lowering.specs.Weighed.{Within, AtEnd}
use Rattle.slot_lowering.specs.Spans.{SpansAmong, own_spans, own_spans_at}
use Rattle.slot_expressions.specs.Spans.{own_spans as value_spans}
use Rattle.slot_code.specs.Spans.{spans_at}
use Rattle.cash_tree.specs.Nodes.{joined}
use Rattle.slot_lowering.proofs.ScopedSteps as scoped
use Rattle.slot_lowering.proofs.PricingSteps as pricing
use Rattle.slot_lowering.proofs.SpanSteps as spanned
use Rattle.slot_lowering.proofs.Spanning.{value_row, among_own, among_none, among_more, among_last, spanned_among, fork_spanned}
use Rattle.slot_expressions.proofs.Spanning.{covers_as}
use Rattle.slot_lowering.proofs.Weights.{paid_at_end, more_at_end, none_within, fork_at_end}
use Rattle.slot_expressions.proofs.Puts.{run_append, run_one}
use Rattle.slot_expressions.proofs.Standing.{begun, shape_append, seen_now}
use Rattle.slot_expressions.proofs.Tests.{and_intro, and_left, and_right}
use Rattle.slot_expressions.proofs.Single.{grown1}
use Rattle.slot_expressions.proofs.Acts.{row_done}
use Rattle.slot_lowering.proofs.Simple.{on_place, element_leads, check_does, passed_same, checked_same}
use Rattle.slot_lowering.specs.Arranged.{IsSimple, checks_time, checks_age, requires_it, simple as arranged_simple, Valued, ArrangedKind, nothing_left}
use Rattle.slot_lowering.proofs.Arranging.{valued, arranged_alone, arranged_path, arranged_only, arranged_else, arranged_at_end}

abbrev TypedStmt : Type 0
TypedStmt = Stmt Slot Ty

and_false : (b c : Bool) → c ≡ false → (b && c) ≡ false
and_false true c is = is
and_false false c is = refl

not_over : (xs ys : List Shapes) → is_over ys ≡ false → is_over (xs ++ ys) ≡ false
not_over xs ys is = list_all-append (λ (x : Shapes). x.is_end) xs ys ∙ and_false (is_over xs) (is_over ys) is

then_path : (o : Option Place) (xs ys : List Shapes) → ((p : Place) → path_shape (xs ++ ys) p ≡ option_and_then (path_shape ys) (all_shapes xs p))
    → option_and_then (path_shape (xs ++ ys)) o ≡ option_and_then (path_shape ys) (option_and_then (all_shapes xs) o)
then_path (Some p) xs ys rest = rest p
then_path None xs ys rest = refl

path_append : (xs ys : List Shapes) (p : Place) → is_over ys ≡ false → path_shape (xs ++ ys) p ≡ option_and_then (path_shape ys) (all_shapes xs p)
path_append [] ys p is = refl
path_append (x ∷ xs) ys p is =
    ap (λ b. if b then option_and_then (all_shapes (xs ++ ys)) (x.last p) else option_and_then (path_shape (xs ++ ys)) (x.inner p)) (not_over xs ys is)
    ∙ then_path (x.inner p) xs ys (λ q. path_append xs ys q is)

ends_append : (xs ys : List Shapes) → is_over ys ≡ false → rows_end (xs ++ ys) ≡ rows_end ys
ends_append [] ys is = refl
ends_append (x ∷ xs) ys is = ap (λ b. if b then x.may_end else rows_end (xs ++ ys)) (not_over xs ys is) ∙ ends_append xs ys is

met_step : (r : Result Env Failure) (b : List SlotInstr) (more : Doing) (world : World)
    → ((after : Env) → r ≡ Ok after → met (run_of world b (state [] after)) ≡ met (more after))
    → met ((r >>= λ after. Ok (state [] after)) >>= run_of world b) ≡ met (r >>= more)
met_step (Ok after) b more world rest = rest after refl
met_step (Err e) b more world rest = refl

-- statements, and a path behind them
pub path_more : {old mid new : List SlotInstr} {s : TypedStmt} {t : TypedStmt} {body : List TypedStmt} → LowersStmt old mid s → LowersPath mid new (t ∷ body) → LowersPath old new (s ∷ t ∷ body)
path_more {old} {mid} {new} {s} {t} {body} h p = record {
  rows = h.rows ++ p.rows;
  grown = grown1 old h.rows p.rows h.grown p.grown;
  does = λ slots ok ends.
      let names = (part_of s).names in
      let d = h.does slots (and_left ((part_of s).scoped slots) (all_scoped (map part_of (t ∷ body)) (slots ++ names)) ok) in
      let q = p.does (slots ++ names) (and_right ((part_of s).scoped slots) (all_scoped (map part_of (t ∷ body)) (slots ++ names)) ok) ends in
      let both : map shapes_of (h.rows ++ p.rows) ≡ map shapes_of h.rows ++ map shapes_of p.rows = map-append shapes_of h.rows p.rows in record {
        alike = λ world env held. ap met (run_append world h.rows p.rows (state [] env) ∙ ap (λ r. r >>= run_of world p.rows) (d.runs world env held))
            ∙ met_step (env_after world s env) p.rows (in_turn (map (env_after world) (t ∷ body))) world (λ after to. q.alike world after (d.holds world env after held to));
        leads = λ outer seen.
            let first = d.leads outer seen in
            let second = q.leads outer first.later in (
              second.0,
              ap (λ l. path_shape l (place slots outer seen)) both ∙ path_append (map shapes_of h.rows) (map shapes_of p.rows) (place slots outer seen) q.goes_on
                  ∙ ap (option_and_then (path_shape (map shapes_of p.rows))) first.to ∙ second.1,
              second.2,
            );
        ends = ap rows_end both ∙ ends_append (map shapes_of h.rows) (map shapes_of p.rows) q.goes_on ∙ q.ends;
        goes_on = ap is_over both ∙ not_over (map shapes_of h.rows) (map shapes_of p.rows) q.goes_on;
      };
  weight = λ ends. more_at_end (pays_of s) (pays_of t) (map pays_of body) h.weight (p.weight ends);
  spans = among_more (own_spans s) (joined (map own_spans (t ∷ body))) h.spans p.spans;
  arranged = λ ends. arranged_path h.arranged (p.arranged ends);
}

alone : (r : Result Env Failure) → met r ≡ met (r >>= λ after. Ok after)
alone (Ok after) = refl
alone (Err e) = refl

pub path_last : {old new : List SlotInstr} {s : TypedStmt} → LowersLast old new s → LowersPath old new (s ∷ [])
path_last {old} {new} {s} h = record {
  rows = h.rows;
  grown = h.grown;
  does = λ slots ok ends.
      let q = h.does slots (and_left ((part_of s).scoped slots) true ok) ends in record {
        alike = λ world env held. q.alike world env held ∙ alone (env_after world s env);
        leads = q.leads;
        ends = q.ends;
        goes_on = q.goes_on;
      };
  weight = h.weight;
  spans = among_last (own_spans s) h.spans;
  arranged = λ ends. arranged_alone (h.arranged ends);
}

-- ---- the last statement

pub last_stmt : {old new : List SlotInstr} {s : TypedStmt} → LowersLastKind old new s.kind s.span → LowersLast old new s
last_stmt {old} {new} {s} h = record {
  rows = h.rows;
  grown = h.grown;
  does = λ slots ok ends.
      let q = h.does slots (sym (ap (λ (p : Part). p.scoped slots) (scoped.whole_part s)) ∙ ok) (sym (scoped.whole_ends s) ∙ ends) in record {
        alike = λ world env held. q.alike world env held ∙ ap met (sym (source.whole_left world s env));
        leads = q.leads;
        ends = q.ends;
        goes_on = q.goes_on;
      };
  weight = λ ends. subst (λ (p : Pays). AtEnd h.rows p.last) (sym (pricing.whole_pays s)) (h.weight (sym (scoped.whole_ends s) ∙ ends));
  spans = among_own s h.spans;
  arranged = λ ends. h.arranged (sym (scoped.whole_ends s) ∙ ends);
}

met_ok : (r : Result Env Failure) → met (r >>= λ after. Ok (state [] after)) ≡ met r
met_ok (Ok after) = refl
met_ok (Err e) = refl

-- a row that does the same at the end of a path
path_row : (kind : SlotKind) (checking : Span) (x : Shapes) (q : Place) → shapes_at kind ≡ x → x.last ≡ x.inner
    → path_shape (map shapes_of (instruction kind checking checking ∷ [])) q ≡ all_shapes (map shapes_of (instruction kind checking checking ∷ [])) q
path_row kind checking x q is same =
    let shapes : shapes_of (instruction kind checking checking) ≡ stands_in checking x = steps.whole_stands (instruction kind checking checking) ∙ ap (stands_in checking) is in
    ap (λ (y : Shapes). option_and_then (all_shapes []) (y.last q)) shapes
    ∙ ap (λ (s : Shape). option_and_then (all_shapes []) (option_and_then s (begins checking x.is_end q))) same
    ∙ sym (ap (λ (y : Shapes). option_and_then (all_shapes []) (y.inner q)) shapes)

row_goes_on : (kind : SlotKind) (checking : Span) (x : Shapes) → shapes_at kind ≡ x → x.is_end ≡ false → is_over (map shapes_of (instruction kind checking checking ∷ [])) ≡ false
row_goes_on kind checking x is no_end =
    ap (λ (y : Shapes). y.is_end && true) (steps.whole_stands (instruction kind checking checking) ∙ ap (stands_in checking) is) ∙ ap (λ b. b && true) no_end

row_ends : (kind : SlotKind) (checking : Span) (x : Shapes) → shapes_at kind ≡ x → rows_end (map shapes_of (instruction kind checking checking ∷ [])) ≡ x.may_end
row_ends kind checking x is = ap (λ (y : Shapes). y.may_end) (steps.whole_stands (instruction kind checking checking) ∙ ap (stands_in checking) is)

-- a check behind its value
pub last_check : {old mid new : List SlotInstr} {span : Span} {kind : StmtKind Slot Ty} {e : TypedExpr} (row : SlotKind) (f : World → List ℕ → Env → Result Env Failure)
    → part_of_kind kind ≡ record { names = []; scoped = value_scoped e } → shapes_at row ≡ check
    → ((world : World) (x : List ℕ) (env : Env) → act_of world (instruction row span span) (state (x ∷ []) env) ≡ (f world x env >>= λ after. Ok (state [] after)))
    → ((world : World) (env : Env) → kind_leaves world kind span env ≡ (element (value_of world env e) >>= λ x. f world x env))
    → ((world : World) (x : List ℕ) (env after : Env) → f world x env ≡ Ok after → env ≡ after)
    → (h : LowersElement old mid span e) → AtEnd (h.rows ++ instruction row span span ∷ []) (pays_at kind).last → spans_at row ≡ [] → own_spans_at kind ≡ value_spans e → IsSimple kind e row
    → new ≡ mid ++ instruction row span span ∷ [] → LowersLastKind old new kind span
last_check {old} {mid} {new} {span} {kind} {e} row f parts shape acts is same h paid flat own is_check grown =
    let i = instruction row span span in record {
      rows = h.rows ++ i ∷ [];
      grown = grown1 old h.rows (i ∷ []) h.grown grown;
      does = λ slots ok ends.
          let d = check_does row f (leaves kind span) slots shape acts is same h (sym (ap (λ (p : Part). p.scoped slots) parts) ∙ ok) in
          let both : map shapes_of (h.rows ++ i ∷ []) ≡ map shapes_of h.rows ++ map shapes_of (i ∷ []) = map-append shapes_of h.rows (i ∷ []) in
          let on = row_goes_on row span check shape refl in record {
            alike = λ world env held. ap met (d.runs world env held) ∙ met_ok (kind_leaves world kind span env);
            leads = λ outer seen.
                let to = d.leads outer seen in (
                  place (slots ++ []) outer to.later,
                  ap (λ l. path_shape l (place slots outer seen)) both ∙ path_append (map shapes_of h.rows) (map shapes_of (i ∷ [])) (place slots outer seen) on
                      ∙ as_shapes (all_shapes (map shapes_of h.rows) (place slots outer seen)) (λ q. path_row row span check q shape refl)
                      ∙ sym (shape_append h.rows (i ∷ []) (place slots outer seen)) ∙ to.to,
                  refl,
                );
            ends = ap rows_end both ∙ ends_append (map shapes_of h.rows) (map shapes_of (i ∷ [])) on ∙ row_ends row span check shape;
            goes_on = ap is_over both ∙ not_over (map shapes_of h.rows) (map shapes_of (i ∷ [])) on;
          };
      weight = λ ends. paid;
      spans = value_row row span flat (covers_as own) h.spans;
      arranged = λ ends. arranged_simple e row is_check (valued h);
    }
  where
    as_shapes : (o : Option Place) → ((q : Place) → path_shape (map shapes_of (instruction row span span ∷ [])) q ≡ all_shapes (map shapes_of (instruction row span span ∷ [])) q)
        → option_and_then (path_shape (map shapes_of (instruction row span span ∷ []))) o ≡ option_and_then (all_shapes (map shapes_of (instruction row span span ∷ []))) o
    as_shapes (Some q) row_is = row_is q
    as_shapes None row_is = refl

pub last_time : {old mid new : List SlotInstr} {span : Span} {kind : StmtKind Slot Ty} {e : TypedExpr} → kind ≡ stmts.Time e
    → LowersElement old mid span e → new ≡ mid ++ instruction kinds.Time span span ∷ [] → LowersLastKind old new kind span
last_time {old} {mid} {new} {span} {kind} {e} is h grown =
    last_check kinds.Time (λ world x env. passed span (time_outcome world.context x) env) (ap part_of_kind is ∙ scoped.time_part e) steps.time_stands
    (λ world x env. row_done world kinds.Time span span _ (state (x ∷ []) env) (steps.time_done world))
    (λ world env. ap (λ k. kind_leaves world k span env) is ∙ source.time_leaves world e span env)
    (λ world x env after done. passed_same span (time_outcome world.context x) env after done) h
    (paid_at_end kind kinds.Time span steps.time_weighs refl (ap pays_at is ∙ pricing.time_pays e) (λ n. omega arith) (λ n. omega arith) h.light)
    steps.time_spans (ap own_spans_at is ∙ spanned.time_spanned e) (checks_time e is) grown

pub last_age : {old mid new : List SlotInstr} {span : Span} {kind : StmtKind Slot Ty} {e : TypedExpr} → kind ≡ stmts.Age e
    → LowersElement old mid span e → new ≡ mid ++ instruction kinds.Age span span ∷ [] → LowersLastKind old new kind span
last_age {old} {mid} {new} {span} {kind} {e} is h grown =
    last_check kinds.Age (λ world x env. passed span (age_outcome world.context x) env) (ap part_of_kind is ∙ scoped.age_part e) steps.age_stands
    (λ world x env. row_done world kinds.Age span span _ (state (x ∷ []) env) (steps.age_done world))
    (λ world env. ap (λ k. kind_leaves world k span env) is ∙ source.age_leaves world e span env)
    (λ world x env after done. passed_same span (age_outcome world.context x) env after done) h
    (paid_at_end kind kinds.Age span steps.age_weighs refl (ap pays_at is ∙ pricing.age_pays e) (λ n. omega arith) (λ n. omega arith) h.light)
    steps.age_spans (ap own_spans_at is ∙ spanned.age_spanned e) (checks_age e is) grown

pub last_require : {old mid new : List SlotInstr} {span : Span} {kind : StmtKind Slot Ty} {e : TypedExpr} → kind ≡ stmts.Require e
    → LowersElement old mid span e → new ≡ mid ++ instruction kinds.Require span span ∷ [] → LowersLastKind old new kind span
last_require {old} {mid} {new} {span} {kind} {e} is h grown =
    last_check kinds.Require (λ world x env. checked span x env) (ap part_of_kind is ∙ scoped.require_part e) steps.require_stands
    (λ world x env. row_done world kinds.Require span span _ (state (x ∷ []) env) (steps.require_done world))
    (λ world env. ap (λ k. kind_leaves world k span env) is ∙ source.require_leaves world e span env)
    (λ world x env after done. checked_same (truth_of x) span env after done) h
    (paid_at_end kind kinds.Require span steps.require_weighs refl (ap pays_at is ∙ pricing.require_pays e) (λ n. omega arith) (λ n. omega arith) h.light)
    steps.require_spans (ap own_spans_at is ∙ spanned.require_spanned e) (requires_it e is) grown

-- ---- the last choice

some_rows : (xs : List Shapes) → is_over xs ≡ false → rows_end xs ≡ true → other_ends xs ≡ true
some_rows [] on is = absurd cc
some_rows (x ∷ xs) on is = is

pub path_branch : {rows : List SlotInstr} {doing : World → Doing} {slots : List Slot} → IsPath rows doing slots → IsBranch rows doing slots
path_branch {rows} h = record { alike = h.alike; leads = λ seen. h.leads [] seen; ends = some_rows (map shapes_of rows) h.goes_on h.ends }

pub no_branch : (slots : List Slot) → IsBranch [] (leave_all []) slots
no_branch slots = record { alike = λ world env held. refl; leads = λ seen. (place slots [] seen, refl, refl); ends = refl }

branch_shaped : {a : List SlotInstr} {da : World → Doing} {slots : List Slot} (outer : List Slot) (seen : List Span) (h : IsBranch a da slots)
    → path_block (map shapes_of a) (place slots outer seen) ≡ Some ((h.leads seen).0)
branch_shaped {a} outer seen h =
    ap (option_and_then closed) ((h.leads seen).1)
    ∙ ap (λ (l : List Operand). if length l == 0 then Some ((h.leads seen).0) else None) ((h.leads seen).2)

fork_leads : {a b : List SlotInstr} {da db : World → Doing} {slots : List Slot} (outer : List Slot) (seen : List Span) → IsBranch a da slots → IsBranch b db slots
    → (last : Place) × (fork_shape (map shapes_of a) (map shapes_of b) (place slots outer seen) ≡ Some last) × (last.operands ≡ [])
fork_leads {a} {b} {da} {db} {slots} outer seen ha hb =
    let p = place slots outer seen in
    let q = (ha.leads seen).0 in
    let r = (hb.leads q.seen).0 in (
      with_seen r.seen (with_slots (in_both q.slots r.slots) p),
      ap (option_and_then (λ (q : Place). option_and_then (λ (r : Place). Some (with_seen r.seen (with_slots (in_both q.slots r.slots) p))) (path_block (map shapes_of b) (with_seen q.seen p)))) (branch_shaped outer seen ha)
          ∙ ap (option_and_then (λ (r : Place). Some (with_seen r.seen (with_slots (in_both q.slots r.slots) p)))) (branch_shaped outer q.seen hb),
      refl,
    )

met_outside : (r : Result Env Failure) (env : Env) → met r ≡ met (r >>= λ after. Ok (outside env after))
met_outside (Ok after) env = refl
met_outside (Err e) env = refl

picked_alike : (t : Bool) {a b : List SlotInstr} (ss us : List TypedStmt) {slots : List Slot} (world : World) (env : Env) → IsBranch a (leave_all ss) slots → IsBranch b (leave_all us) slots → Holds slots env
    → met (all_acts (if t then map (act_of world) a else map (act_of world) b) (state [] env)) ≡ met (block (if t then map (env_after world) ss else map (env_after world) us) env)
picked_alike true {a} {b} ss us world env ha hb held = ha.alike world env held ∙ met_outside (leave_all ss world env) env
picked_alike false {a} {b} ss us world env ha hb held = hb.alike world env held ∙ met_outside (leave_all us world env) env

fork_step : (r : Result (List ℕ) Failure) (g : List ℕ → Result Env Failure) (i : SlotInstr) (world : World) (env : Env) → ((x : List ℕ) → met (act_of world i (state (x ∷ []) env)) ≡ met (g x))
    → met (((r >>= λ e. Ok (e ∷ [])) >>= λ es. Ok (state (es ++ []) env)) >>= run_of world (i ∷ [])) ≡ met (r >>= g)
fork_step (Ok x) g i world env acts = ap met (run_one world i (state (x ∷ []) env)) ∙ acts x
fork_step (Err e) g i world env acts = refl

last_choice : {old mid new a b : List SlotInstr} {span : Span} {kind : StmtKind Slot Ty} {e : TypedExpr} (ss us : List TypedStmt)
    → part_of_kind kind ≡ record { names = []; scoped = λ slots. value_scoped e slots && (is_scoped ss slots && is_scoped us slots) }
    → ((world : World) (env : Env) → kind_leaves world kind span env ≡ (element (value_of world env e) >>= λ x. block (if truth_of x then map (env_after world) ss else map (env_after world) us) env))
    → LowersElement old mid span e
    → ((slots : List Slot) → is_scoped ss slots ≡ true → may_end_kind kind ≡ true → IsBranch a (leave_all ss) slots × (rows_end (map shapes_of a) ≡ true))
    → ((slots : List Slot) → is_scoped us slots ≡ true → may_end_kind kind ≡ true → IsBranch b (leave_all us) slots)
    → (o : Option (List Pays)) → pays_at kind ≡ if_pays (price_of e) (map pays_of ss) o → unwrap_or o [] ≡ map pays_of us
    → (may_end_kind kind ≡ true → Within a (path_pays (map pays_of ss))) → (may_end_kind kind ≡ true → Within b (path_pays (map pays_of us)))
    → own_spans_at kind ≡ value_spans e ++ (joined (map own_spans ss) ++ joined (map own_spans us)) → SpansAmong a (joined (map own_spans ss)) → SpansAmong b (joined (map own_spans us))
    → ((rows : List SlotInstr) → Valued rows span e → may_end_kind kind ≡ true → ArrangedKind true kind span (rows ++ instruction (kinds.If a b) span span ∷ []))
    → new ≡ mid ++ instruction (kinds.If a b) span span ∷ [] → LowersLastKind old new kind span
last_choice {old} {mid} {new} {a} {b} {span} {kind} {e} ss us parts is h ya na o pays other wa wb own sa sb arranges grown =
    let i = instruction (kinds.If a b) span span in
    let x : Shapes = record { inner = then_shape (takes_all 1) (choice_shape (map shapes_of a) (map shapes_of b)); last = then_shape (takes_all 1) (fork_shape (map shapes_of a) (map shapes_of b)); is_end = false; may_end = rows_end (map shapes_of a) && other_ends (map shapes_of b) } in
    let row : shapes_at (kinds.If a b) ≡ x = steps.if_stands a b in
    let shapes : shapes_of i ≡ stands_in span x = steps.whole_stands i ∙ ap (stands_in span) row in record {
      rows = h.rows ++ i ∷ [];
      grown = grown1 old h.rows (i ∷ []) h.grown grown;
      does = λ slots ok ends.
          let all : (value_scoped e slots && (is_scoped ss slots && is_scoped us slots)) ≡ true = sym (ap (λ (p : Part). p.scoped slots) parts) ∙ ok in
          let ready = and_left (value_scoped e slots) (is_scoped ss slots && is_scoped us slots) all in
          let blocks = and_right (value_scoped e slots) (is_scoped ss slots && is_scoped us slots) all in
          let first = ya slots (and_left (is_scoped ss slots) (is_scoped us slots) blocks) ends in
          let second = na slots (and_right (is_scoped ss slots) (is_scoped us slots) blocks) ends in
          let both : map shapes_of (h.rows ++ i ∷ []) ≡ map shapes_of h.rows ++ map shapes_of (i ∷ []) = map-append shapes_of h.rows (i ∷ []) in
          let on = row_goes_on (kinds.If a b) span x row refl in record {
            alike = λ world env held.
                ap met (run_append world h.rows (i ∷ []) (state [] env) ∙ ap (λ r. r >>= run_of world (i ∷ [])) (h.puts.runs world (state [] env)))
                ∙ fork_step (element (value_of world env e)) (λ v. block (if truth_of v then map (env_after world) ss else map (env_after world) us) env) i world env
                (λ v. ap met (row_done world (kinds.If a b) span span _ (state (v ∷ []) env) (steps.if_done world a b)) ∙ picked_alike (truth_of v) ss us world env first.0 second held)
                ∙ ap met (sym (is world env));
            leads = λ outer seen.
                let to = fork_leads outer (seen_with span seen) first.0 second in (
                  to.0,
                  ap (λ l. path_shape l (place slots outer seen)) both ∙ path_append (map shapes_of h.rows) (map shapes_of (i ∷ [])) (place slots outer seen) on
                      ∙ ap (option_and_then (path_shape (map shapes_of (i ∷ [])))) (element_leads h slots outer seen ready)
                      ∙ ap (λ (y : Shapes). option_and_then (all_shapes []) (y.last (on_place h.top slots outer (seen_with span seen)))) shapes
                      ∙ ap (λ o. option_and_then (all_shapes []) (option_and_then x.last o)) (begun span false (on_place h.top slots outer (seen_with span seen)) (seen_now span seen))
                      ∙ ap (option_and_then (all_shapes [])) to.1,
                  to.2,
                );
            ends = ap rows_end both ∙ ends_append (map shapes_of h.rows) (map shapes_of (i ∷ [])) on ∙ row_ends (kinds.If a b) span x row
                ∙ and_intro (rows_end (map shapes_of a)) (other_ends (map shapes_of b)) first.1 second.ends;
            goes_on = ap is_over both ∙ not_over (map shapes_of h.rows) (map shapes_of (i ∷ [])) on;
          };
      weight = λ ends. fork_at_end kind span (map pays_of ss) (map pays_of us) o pays other h.light (wa ends) (wb ends);
      spans = fork_spanned own h.spans (spanned_among sa) (spanned_among sb);
      arranged = λ ends. arranges h.rows (valued h) ends;
    }

pub last_if_only : {old mid new a : List SlotInstr} {span : Span} {kind : StmtKind Slot Ty} {e : TypedExpr} {ss : List TypedStmt} → kind ≡ stmts.If e ss None
    → LowersElement old mid span e → LowersPath [] a ss → new ≡ mid ++ instruction (kinds.If a []) span span ∷ [] → LowersLastKind old new kind span
last_if_only {old} {mid} {new} {a} {span} {kind} {e} {ss} is h ya grown =
    last_choice ss [] (ap part_of_kind is ∙ scoped.if_only_part e ss) (λ world env. ap (λ k. kind_leaves world k span env) is ∙ source.if_only_leaves world e ss span env) h
    (λ slots ok ends.
    let q = ya.does slots ok (and_left (last_of false (map may_end ss)) true (sym (ap may_end_kind is ∙ scoped.if_only_ends e ss) ∙ ends)) in
    let same : ya.rows ≡ a = sym ya.grown in
    (subst (λ l. IsBranch l (leave_all ss) slots) same (path_branch q), subst (λ l. rows_end (map shapes_of l) ≡ true) same q.ends))
    (λ slots ok ends. no_branch slots) None (ap pays_at is ∙ pricing.if_only_pays e ss) refl
    (λ ends. let same : ya.rows ≡ a = sym ya.grown in
    subst (λ l. Within l (path_pays (map pays_of ss))) same (ya.weight (and_left (last_of false (map may_end ss)) true (sym (ap may_end_kind is ∙ scoped.if_only_ends e ss) ∙ ends))).within)
    (λ ends. none_within)
    (ap own_spans_at is ∙ spanned.if_only_spanned e ss) (subst (λ l. SpansAmong l (joined (map own_spans ss))) (sym ya.grown) ya.spans) among_none
    (λ rows v ends. arranged_only is v
    (arranged_at_end (sym ya.grown) (ya.arranged (and_left (last_of false (map may_end ss)) true (sym (ap may_end_kind is ∙ scoped.if_only_ends e ss) ∙ ends)))) (arranged_at_end refl nothing_left))
    grown

pub last_if_else : {old mid new a b : List SlotInstr} {span : Span} {kind : StmtKind Slot Ty} {e : TypedExpr} {ss us : List TypedStmt} → kind ≡ stmts.If e ss (Some us)
    → LowersElement old mid span e → LowersPath [] a ss → LowersPath [] b us → new ≡ mid ++ instruction (kinds.If a b) span span ∷ [] → LowersLastKind old new kind span
last_if_else {old} {mid} {new} {a} {b} {span} {kind} {e} {ss} {us} is h ya na grown =
    let end : may_end_kind kind ≡ (last_of false (map may_end ss) && last_of false (map may_end us)) = ap may_end_kind is ∙ scoped.if_else_ends e ss us in
    last_choice ss us (ap part_of_kind is ∙ scoped.if_else_part e ss us) (λ world env. ap (λ k. kind_leaves world k span env) is ∙ source.if_else_leaves world e ss us span env) h
    (λ slots ok ends.
    let q = ya.does slots ok (and_left (last_of false (map may_end ss)) (last_of false (map may_end us)) (sym end ∙ ends)) in
    (subst (λ l. IsBranch l (leave_all ss) slots) (sym ya.grown) (path_branch q), subst (λ l. rows_end (map shapes_of l) ≡ true) (sym ya.grown) q.ends))
    (λ slots ok ends.
    let q = na.does slots ok (and_right (last_of false (map may_end ss)) (last_of false (map may_end us)) (sym end ∙ ends)) in
    subst (λ l. IsBranch l (leave_all us) slots) (sym na.grown) (path_branch q))
    (Some (map pays_of us)) (ap pays_at is ∙ pricing.if_else_pays e ss us) refl
    (λ ends. subst (λ l. Within l (path_pays (map pays_of ss))) (sym ya.grown) (ya.weight (and_left (last_of false (map may_end ss)) (last_of false (map may_end us)) (sym end ∙ ends))).within)
    (λ ends. subst (λ l. Within l (path_pays (map pays_of us))) (sym na.grown) (na.weight (and_right (last_of false (map may_end ss)) (last_of false (map may_end us)) (sym end ∙ ends))).within)
    (ap own_spans_at is ∙ spanned.if_else_spanned e ss us) (subst (λ l. SpansAmong l (joined (map own_spans ss))) (sym ya.grown) ya.spans)
    (subst (λ l. SpansAmong l (joined (map own_spans us))) (sym na.grown) na.spans)
    (λ rows v ends. arranged_else is v
    (arranged_at_end (sym ya.grown) (ya.arranged (and_left (last_of false (map may_end ss)) (last_of false (map may_end us)) (sym end ∙ ends))))
    (arranged_at_end (sym na.grown) (na.arranged (and_right (last_of false (map may_end ss)) (last_of false (map may_end us)) (sym end ∙ ends)))))
    grown
