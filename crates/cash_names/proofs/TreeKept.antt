-- A named tree has the spans, the nodes and the words of its tree.
use Rattle.std.proofs.Common.{◌≡◌, ◌∙◌, ap, sym, subst, refl, ℕ, ◌≤◌, List, [], ◌∷◌, ◌++◌, map, Option, Some, None}
use Rattle.std.specs.Prelude.{option_map}
use Rattle.cash_base.specs.declared.place.Span.{Span}
use Rattle.cash_base.specs.declared.place.Slot.{Slot}
use Rattle.cash_base.specs.Source.{AreInside}
use Rattle.cash_tree.specs.declared.Expr.{Expr}
use Rattle.cash_tree.specs.declared.Param.{Param}
use Rattle.cash_tree.specs.declared.StmtKind.TheOpen.{StmtKind-F}
use Rattle.cash_tree.specs.declared.Function.{Function}
use Rattle.cash_tree.specs.declared.StmtKind.TheVariants as stmts
use Rattle.cash_tree.specs.Nodes.{joined, joined_or_none, nodes, most_nodes, kind_values, stmt_values, values, tree_values, AreSmall}
use Rattle.cash_tree.specs.Spans.{itself, nothing, expression_spans, param_spans, statement_kind_spans, stmt_spans, statement_spans, function_spans, constraint_spans, tree_spans}
use Rattle.name_scopes.specs.Names.{Names, slot, slot_at}
use Rattle.cash_names.specs.Expressions.{Expression, NamedExpr}
use Rattle.cash_names.specs.Outline.{Statement, NamedStmt, FunctionTree, NamedFunction, Tree, NamedTree, slotted}
use Rattle.cash_names.specs.Scopes as scopes
use Rattle.cash_names.specs.Scopes.{NamesExpr, NamesStmt, NamesAll, NamesParams, NamesFunctions, IsNamed}
use Rattle.cash_names.specs.Definitions.{Definition, kind_definitions, stmt_definitions, definitions, param_definitions, places, function_words, words}
use Rattle.cash_names.proofs.Kept.{nodes_kept, spans_kept}
use Rattle.cash_names.proofs.Inside.{Less, same_less, both_less, more_less, drop_less, less_by, expression_less}
use Rattle.cash_names.proofs.Rows.{made, at_define, at_pair, at_assign, at_time, at_age, at_require, at_if}

-- ---- lists

abbrev sizes : {N : Type 0} → List (Expr N (Unit {0})) → List ℕ
sizes es = map nodes es

joined_same : {A : Type 0} {a b c d : List A} → a ≡ b → c ≡ d → a ++ c ≡ b ++ d
joined_same {a = a} {b} {c} {d} p q = ap (λ l. l ++ c) p ∙ ap (λ l. b ++ l) q

map_joined : {A B : Type 0} (f : A → B) (a b : List A) → map f (a ++ b) ≡ map f a ++ map f b
map_joined f [] b = refl
map_joined f (x ∷ a) b = ap (λ l. f x ∷ l) (map_joined f a b)

-- what is told of two lists joined
told_same : {A B C : Type 0} (f : A → C) (g : B → C) (a b : List A) (c d : List B)
    → map f a ≡ map g c → map f b ≡ map g d → map f (a ++ b) ≡ map g (c ++ d)
told_same f g a b c d p q =
    map_joined f a b ∙ joined_same p q ∙ sym (map_joined g c d)

-- ---- statements

abbrev place_of : {N : Type 0} → Definition N → Span
place_of d = d.place

record StmtKept (s : Statement) (t : NamedStmt) : Type 0 where
  pub same_spans : statement_spans nothing t ≡ statement_spans nothing s
  pub same_sizes : map nodes (values t) ≡ map nodes (values s)
  pub same_places : places (definitions t) ≡ places (definitions s)
  pub less : (len : ℕ) → Less len (statement_spans itself s) (statement_spans nothing s)

record AllKept (ss : List Statement) (ts : List NamedStmt) : Type 0 where
  pub same_spans : joined (map (statement_spans nothing) ts) ≡ joined (map (statement_spans nothing) ss)
  pub same_sizes : map nodes (joined (map values ts)) ≡ map nodes (joined (map values ss))
  pub same_places : places (joined (map definitions ts)) ≡ places (joined (map definitions ss))
  pub less : (len : ℕ) → Less len (joined (map (statement_spans itself) ss)) (joined (map (statement_spans nothing) ss))

-- an equation of what is made of two statements, by what is made of their parts
by_rows : {A : Type 0} {a b c d : A} → a ≡ c → b ≡ d → c ≡ d → a ≡ b
by_rows p q same = p ∙ same ∙ sym q

abbrev spans_at : {N : Type 0} → (N → List Span) → StmtKind-F N (Unit {0}) (List Span) (List Span) → List Span
spans_at of_name = statement_kind_spans of_name

-- one expression, and what its kind has beside it
expr_spans : (source : List ℕ) (names : Names) (e : Expression) (x : NamedExpr) → NamesExpr source names e x
    → expression_spans nothing x ≡ expression_spans nothing e
expr_spans source names e x h = ap (λ (x : NamedExpr). expression_spans nothing x) h.1 ∙ spans_kept (slot_at source names) e

expr_size : (source : List ℕ) (names : Names) (e : Expression) (x : NamedExpr) → NamesExpr source names e x
    → nodes x ≡ nodes e
expr_size source names e x h = ap (λ (x : NamedExpr). nodes x) h.1 ∙ nodes_kept (slot_at source names) e

-- the part after `else`, where there is one
abbrev rest_of : {A B : Type 0} → (A → List B) → Option (List A) → List B
rest_of f more = joined_or_none (option_map (map f) more)

record RestKept (more : Option (List Statement)) (more' : Option (List NamedStmt)) : Type 0 where
  pub same_spans : rest_of (statement_spans nothing) more' ≡ rest_of (statement_spans nothing) more
  pub same_sizes : map nodes (rest_of values more') ≡ map nodes (rest_of values more)
  pub same_places : places (rest_of definitions more') ≡ places (rest_of definitions more)
  pub less : (len : ℕ) → Less len (rest_of (statement_spans itself) more) (rest_of (statement_spans nothing) more)

none_kept : RestKept None None
none_kept = record { same_spans = refl; same_sizes = refl; same_places = refl; less = λ len. same_less len [] }

some_kept : (ss : List Statement) (ts : List NamedStmt) → AllKept ss ts → RestKept (Some ss) (Some ts)
some_kept ss ts all = record { same_spans = all.same_spans; same_sizes = all.same_sizes; same_places = all.same_places; less = all.less }

if_kept : (source : List ℕ) (names : Names) (e : Expression) (x : NamedExpr) (span : Span) → NamesExpr source names e x
    → (ss : List Statement) (ts : List NamedStmt) (more : Option (List Statement)) (more' : Option (List NamedStmt))
    → AllKept ss ts → RestKept more more' → StmtKept (made (stmts.If e ss more) span) (made (stmts.If x ts more') span)
if_kept source names e x span h ss ts more more' all rest = record {
  same_spans = by_rows (at_if (spans_at nothing) stmt_spans x ts more' span) (at_if (spans_at nothing) stmt_spans e ss more span)
      (ap (λ l. span ∷ l) (joined_same (expr_spans source names e x h) (joined_same all.same_spans rest.same_spans)));
  same_sizes = by_rows (ap sizes (at_if kind_values stmt_values x ts more' span)) (ap sizes (at_if kind_values stmt_values e ss more span))
      (ap (λ n. n ∷ map nodes (joined (map values ts) ++ rest_of values more')) (expr_size source names e x h)
      ∙ ap (λ l. nodes e ∷ l) (told_same nodes nodes (joined (map values ts)) (rest_of values more') (joined (map values ss)) (rest_of values more) all.same_sizes rest.same_sizes));
  same_places = by_rows (ap places (at_if kind_definitions stmt_definitions x ts more' span)) (ap places (at_if kind_definitions stmt_definitions e ss more span))
      (told_same place_of place_of (joined (map definitions ts)) (rest_of definitions more') (joined (map definitions ss)) (rest_of definitions more) all.same_places rest.same_places);
  less = λ len. less_by (at_if (spans_at itself) stmt_spans e ss more span) (at_if (spans_at nothing) stmt_spans e ss more span)
      (more_less span (both_less (expression_less len e) (both_less (all.less len) (rest.less len))));
}

mutual
  stmt_kept : {source : List ℕ} {names later : Names} {s : Statement} {t : NamedStmt}
      → NamesStmt source names s t later → StmtKept s t
  stmt_kept {source = source} (scopes.define names ty constant name place e x span new h) = record {
    same_spans = by_rows (at_define (spans_at nothing) stmt_spans ty constant (slot names.next) place x span) (at_define (spans_at nothing) stmt_spans ty constant name place e span)
        (ap (λ l. span ∷ place ∷ l) (expr_spans source names e x h));
    same_sizes = by_rows (ap sizes (at_define kind_values stmt_values ty constant (slot names.next) place x span)) (ap sizes (at_define kind_values stmt_values ty constant name place e span))
        (ap (λ n. n ∷ []) (expr_size source names e x h));
    same_places = by_rows (ap places (at_define kind_definitions stmt_definitions ty constant (slot names.next) place x span)) (ap places (at_define kind_definitions stmt_definitions ty constant name place e span)) refl;
    less = λ len. less_by (at_define (spans_at itself) stmt_spans ty constant name place e span) (at_define (spans_at nothing) stmt_spans ty constant name place e span)
        (more_less span (drop_less name (more_less place (expression_less len e))));
  }
  stmt_kept {source = source} (scopes.pair names middle left right e x span is new new' h) = record {
    same_spans = by_rows (at_pair (spans_at nothing) stmt_spans (slotted left names.next) (slotted right middle.next) x span) (at_pair (spans_at nothing) stmt_spans left right e span)
        (ap (λ l. span ∷ left.place ∷ right.place ∷ l) (expr_spans source names e x h));
    same_sizes = by_rows (ap sizes (at_pair kind_values stmt_values (slotted left names.next) (slotted right middle.next) x span)) (ap sizes (at_pair kind_values stmt_values left right e span))
        (ap (λ n. n ∷ []) (expr_size source names e x h));
    same_places = by_rows (ap places (at_pair kind_definitions stmt_definitions (slotted left names.next) (slotted right middle.next) x span)) (ap places (at_pair kind_definitions stmt_definitions left right e span)) refl;
    less = λ len. less_by (at_pair (spans_at itself) stmt_spans left right e span) (at_pair (spans_at nothing) stmt_spans left right e span)
        (more_less span (drop_less left.name (more_less left.place (drop_less right.name (more_less right.place (expression_less len e))))));
  }
  stmt_kept {source = source} (scopes.assign names name e x span free h) = record {
    same_spans = by_rows (at_assign (spans_at nothing) stmt_spans (slot_at source names name) x span) (at_assign (spans_at nothing) stmt_spans name e span)
        (ap (λ l. span ∷ l) (expr_spans source names e x h));
    same_sizes = by_rows (ap sizes (at_assign kind_values stmt_values (slot_at source names name) x span)) (ap sizes (at_assign kind_values stmt_values name e span))
        (ap (λ n. n ∷ []) (expr_size source names e x h));
    same_places = by_rows (ap places (at_assign kind_definitions stmt_definitions (slot_at source names name) x span)) (ap places (at_assign kind_definitions stmt_definitions name e span)) refl;
    less = λ len. less_by (at_assign (spans_at itself) stmt_spans name e span) (at_assign (spans_at nothing) stmt_spans name e span)
        (more_less span (drop_less name (expression_less len e)));
  }
  stmt_kept {source = source} (scopes.time names e x span h) = record {
    same_spans = by_rows (at_time (spans_at nothing) stmt_spans x span) (at_time (spans_at nothing) stmt_spans e span) (ap (λ l. span ∷ l) (expr_spans source names e x h));
    same_sizes = by_rows (ap sizes (at_time kind_values stmt_values x span)) (ap sizes (at_time kind_values stmt_values e span)) (ap (λ n. n ∷ []) (expr_size source names e x h));
    same_places = by_rows (ap places (at_time kind_definitions stmt_definitions x span)) (ap places (at_time kind_definitions stmt_definitions e span)) refl;
    less = λ len. less_by (at_time (spans_at itself) stmt_spans e span) (at_time (spans_at nothing) stmt_spans e span) (more_less span (expression_less len e));
  }
  stmt_kept {source = source} (scopes.age names e x span h) = record {
    same_spans = by_rows (at_age (spans_at nothing) stmt_spans x span) (at_age (spans_at nothing) stmt_spans e span) (ap (λ l. span ∷ l) (expr_spans source names e x h));
    same_sizes = by_rows (ap sizes (at_age kind_values stmt_values x span)) (ap sizes (at_age kind_values stmt_values e span)) (ap (λ n. n ∷ []) (expr_size source names e x h));
    same_places = by_rows (ap places (at_age kind_definitions stmt_definitions x span)) (ap places (at_age kind_definitions stmt_definitions e span)) refl;
    less = λ len. less_by (at_age (spans_at itself) stmt_spans e span) (at_age (spans_at nothing) stmt_spans e span) (more_less span (expression_less len e));
  }
  stmt_kept {source = source} (scopes.require names e x span h) = record {
    same_spans = by_rows (at_require (spans_at nothing) stmt_spans x span) (at_require (spans_at nothing) stmt_spans e span) (ap (λ l. span ∷ l) (expr_spans source names e x h));
    same_sizes = by_rows (ap sizes (at_require kind_values stmt_values x span)) (ap sizes (at_require kind_values stmt_values e span)) (ap (λ n. n ∷ []) (expr_size source names e x h));
    same_places = by_rows (ap places (at_require kind_definitions stmt_definitions x span)) (ap places (at_require kind_definitions stmt_definitions e span)) refl;
    less = λ len. less_by (at_require (spans_at itself) stmt_spans e span) (at_require (spans_at nothing) stmt_spans e span) (more_less span (expression_less len e));
  }
  stmt_kept {source = source} (scopes.if_only names inner e x ss ts span h k) =
      if_kept source names e x span h ss ts None None (all_kept k) none_kept
  stmt_kept {source = source} (scopes.if_else names inner inner' e x ss ss' ts ts' span h k m) =
      if_kept source names e x span h ss ts (Some ss') (Some ts') (all_kept k) (some_kept ss' ts' (all_kept m))

  all_kept : {source : List ℕ} {names later : Names} {ss : List Statement} {ts : List NamedStmt}
      → NamesAll source names ss ts later → AllKept ss ts
  all_kept (scopes.done names) = record { same_spans = refl; same_sizes = refl; same_places = refl; less = λ len. same_less len [] }
  all_kept (scopes.step names middle later s ss t ts h hs) =
      let one = stmt_kept h in
      let rest = all_kept hs in
      record {
        same_spans = joined_same one.same_spans rest.same_spans;
        same_sizes = told_same nodes nodes (values t) (joined (map values ts)) (values s) (joined (map values ss)) one.same_sizes rest.same_sizes;
        same_places = told_same place_of place_of (definitions t) (joined (map definitions ts)) (definitions s) (joined (map definitions ss)) one.same_places rest.same_places;
        less = λ len. both_less (one.less len) (rest.less len);
      }

-- ---- functions and the contract

record ParamsKept (ps : List (Param Span)) (qs : List (Param Slot)) : Type 0 where
  pub same_spans : joined (map (param_spans nothing) qs) ≡ joined (map (param_spans nothing) ps)
  pub same_places : places (param_definitions qs) ≡ places (param_definitions ps)
  pub less : (len : ℕ) → Less len (joined (map (param_spans itself) ps)) (joined (map (param_spans nothing) ps))

params_kept : {source : List ℕ} {names later : Names} {ps : List (Param Span)} {qs : List (Param Slot)}
    → NamesParams source names ps qs later → ParamsKept ps qs
params_kept (scopes.no_param names) = record { same_spans = refl; same_places = refl; less = λ len. same_less len [] }
params_kept (scopes.next_param names later p ps qs new h) =
    let rest = params_kept h in
    record {
      same_spans = ap (λ l. p.place ∷ l) rest.same_spans;
      same_places = ap (λ l. p.place ∷ l) rest.same_places;
      less = λ len. drop_less p.name (more_less p.place (rest.less len));
    }

abbrev function_values : {N : Type 0} → Function N (Unit {0}) → List (Expr N (Unit {0}))
function_values f = joined (map values f.body)

record FunctionsKept (fs : List FunctionTree) (gs : List NamedFunction) : Type 0 where
  pub same_spans : joined (map (function_spans nothing) gs) ≡ joined (map (function_spans nothing) fs)
  pub same_sizes : map nodes (joined (map function_values gs)) ≡ map nodes (joined (map function_values fs))
  pub same_words : joined (map function_words gs) ≡ joined (map function_words fs)
  pub less : (len : ℕ) → Less len (joined (map (function_spans itself) fs)) (joined (map (function_spans nothing) fs))

functions_kept : {source : List ℕ} {first names later : Names} {fs : List FunctionTree} {gs : List NamedFunction}
    → NamesFunctions source first names fs gs later → FunctionsKept fs gs
functions_kept (scopes.no_function functions) =
    record { same_spans = refl; same_sizes = refl; same_words = refl; less = λ len. same_less len [] }
functions_kept (scopes.next_function functions later inner last name span ps qs ss ts fs gs new params body h) =
    let own = params_kept params in
    let inside = all_kept body in
    let rest = functions_kept h in
    record {
      same_spans = joined_same (ap (λ l. name ∷ span ∷ l) (joined_same own.same_spans inside.same_spans)) rest.same_spans;
      same_sizes = told_same nodes nodes (joined (map values ts)) (joined (map function_values gs)) (joined (map values ss)) (joined (map function_values fs)) inside.same_sizes rest.same_sizes;
      same_words = joined_same (ap (λ l. name ∷ l) (told_same place_of place_of (param_definitions qs) (joined (map definitions ts)) (param_definitions ps) (joined (map definitions ss)) own.same_places inside.same_places)) rest.same_words;
      less = λ len. both_less (more_less name (more_less span (both_less (own.less len) (inside.less len)))) (rest.less len);
    }

pub tree_spans_kept : (source : List ℕ) (tree : Tree) (t : NamedTree) → IsNamed source tree t → tree_spans nothing t ≡ tree_spans nothing tree
tree_spans_kept source _ _ (scopes.contract ctor functions name span pragmas ps qs f fs gs admitted params calls) =
    ap (λ l. name ∷ span ∷ (joined (map constraint_spans pragmas) ++ l)) (joined_same (params_kept params).same_spans (functions_kept calls).same_spans)

pub tree_inside : (source : List ℕ) (len : ℕ) (tree : Tree) (t : NamedTree) → IsNamed source tree t → AreInside len (tree_spans itself tree) → AreInside len (tree_spans nothing t)
tree_inside source len tree t is inside =
    subst (AreInside len) (sym (tree_spans_kept source tree t is)) ((tree_less source tree t is).run inside)
  where
    tree_less : (source : List ℕ) (tree : Tree) (t : NamedTree) → IsNamed source tree t → Less len (tree_spans itself tree) (tree_spans nothing tree)
    tree_less source _ _ (scopes.contract ctor functions name span pragmas ps qs f fs gs admitted params calls) =
        more_less name (more_less span (both_less (same_less len (joined (map constraint_spans pragmas))) (both_less ((params_kept params).less len) ((functions_kept calls).less len))))

pub tree_words_kept : (source : List ℕ) (tree : Tree) (t : NamedTree) → IsNamed source tree t → words t ≡ words tree
tree_words_kept source _ _ (scopes.contract ctor functions name span pragmas ps qs f fs gs admitted params calls) =
    ap (λ l. name ∷ l) (joined_same (params_kept params).same_places (functions_kept calls).same_words)

pub tree_nodes_kept : (source : List ℕ) (tree : Tree) (t : NamedTree) → IsNamed source tree t → map nodes (tree_values t) ≡ map nodes (tree_values tree)
tree_nodes_kept source _ _ (scopes.contract ctor functions name span pragmas ps qs f fs gs admitted params calls) =
    (functions_kept calls).same_sizes

-- as many nodes, and so no more than are allowed
small_by : (xs : List NamedExpr) (es : List Expression) → map nodes xs ≡ map nodes es → AreSmall es → AreSmall xs
small_by [] es is small = tt
small_by (x ∷ xs) [] is small = absurd cc
small_by (x ∷ xs) (e ∷ es) is small =
    let head : nodes x ≡ nodes e = cc in
    let tail : map nodes xs ≡ map nodes es = cc in
    (subst (λ (n : ℕ). n ≤ most_nodes) (sym head) small.0, small_by xs es tail small.1)

pub tree_small : (source : List ℕ) (tree : Tree) (t : NamedTree) → IsNamed source tree t → AreSmall (tree_values tree) → AreSmall (tree_values t)
tree_small source tree t is = small_by (tree_values t) (tree_values tree) (tree_nodes_kept source tree t is)
