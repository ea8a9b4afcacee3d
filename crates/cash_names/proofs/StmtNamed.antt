-- Reading statements, functions and a contract gives exactly what names them.
use Rattle.std.proofs.Common.{◌≡◌, ◌∙◌, ap, sym, subst, refl, ℕ, false, List, [], ◌∷◌, ◌++◌, map, append_assoc, rules}
use Rattle.std.specs.Prelude.{Option, Some, None, Ok, option_map}
use Rattle.std.proofs.lemmas.List.{append-nil}
use Rattle.cash_base.specs.declared.place.Span.{Span}
use Rattle.cash_base.specs.declared.place.Slot.{Slot}
use Rattle.cash_tree.specs.declared.Constraint.{Constraint}
use Rattle.cash_tree.specs.declared.Param.{Param}
use Rattle.cash_tree.specs.declared.StmtKind.{StmtKind}
use Rattle.cash_tree.specs.declared.StmtKind.TheVariants as nodes
use Rattle.cash_tree.specs.declared.StmtKind.TheOpen.{StmtKind-F, Stmt-F}
use Rattle.cash_tree.specs.declared.StmtKind.TheViews.{roll-Stmt, roll-StmtKind}
use Rattle.cash_tree.specs.declared.StmtKind.TheFolds.{ind-Stmt, fold-roll-Stmt, fold-roll-StmtKind, map-StmtKind, the_lemmas}
use Rattle.name_scopes.specs.Names.{Names, no_names, opened, most_params, most_functions, most_definitions, declared, slot, slot_at, after, with_variable}
use Rattle.cash_base.specs.Source.{text_at}
use Rattle.name_scopes.specs.Wants.{is_admitted, is_new, is_variable, has_function, IsGranted, AreGranted, first_refused, granted}
use Rattle.cash_names.specs.Expressions.{Expression, NamedExpr}
use Rattle.cash_names.specs.Outline.{Statement, NamedStmt, NamedStmtKind, FunctionTree, NamedFunction, Tree, NamedTree, slotted, is_without}
use Rattle.cash_base.specs.Failing.{◌>>=◌}
use Rattle.name_scopes.specs.Uses.{Answer, Running, check, check_two, introduction}
use Rattle.cash_names.specs.Reading.{definition_reading, pair_reading, run_from, block_reading, other_block, reading_of, param_reading, stmt_kind_reading, stmt_reading, reading_of_stmt, reading_of_stmt_kind, function_reading, functions_reading, tree_reading}
use Rattle.cash_names.specs.Scopes.{NamesExpr, parsed, named, NamesStmt, define, pair, assign, time, age, require, if_only, if_else, NamesAll, done, step, NamesParams, no_param, next_param, function_of, NamesFunctions, no_function, next_function, contract_of, IsNamed, contract}
use Rattle.name_scopes.proofs.Granted.{ok, none_refused, are_granted, ok_bind, ok_same, ok_inner, granted_ok, granted_none, given_bind, given_only, is_given}
use Rattle.cash_names.proofs.Places.{complete, sound}

-- a block's names end with it
abbrev closed : Names → Answer (List NamedStmt × Names) → Answer (List NamedStmt × Names)
closed names r = do
  all ← r
  Ok (all.0, after names all.1)

abbrev some_block : Answer (List NamedStmt × Names) → Answer (Option (List NamedStmt) × Names)
some_block r = do
  all ← r
  Ok (Some all.0, all.1)

-- an `if` from after its second block on, from its second, and whole
abbrev whole : Span → NamedExpr → List NamedStmt → Answer (Option (List NamedStmt) × Names) → Answer (NamedStmt × Names)
whole span t ts r = do
  n ← r
  Ok (named (nodes.If t ts n.0) span, n.1)

abbrev no_step : Option (List (Running NamedStmt)) → Span → NamedExpr → List NamedStmt × Names → Answer (NamedStmt × Names)
no_step more span t y = whole span t y.0 (other_block more y.1)

abbrev ifs : List ℕ → Names → Span → Answer NamedExpr → List (Running NamedStmt) → Option (List (Running NamedStmt)) → Answer (NamedStmt × Names)
ifs source names span test part more = test >>= (λ t. block_reading part names >>= (λ y. no_step more span t y))

-- ---- what is named is read

-- what reading an `if` is
if_reading : (source : List ℕ) (s : Statement) (e : Expression) (ss : List Statement) (more : Option (List Statement)) (names : Names)
    → s.kind ≡ nodes.If e ss more
    → reading_of_stmt source s names ≡ ifs source names s.span (reading_of source e names) (map (reading_of_stmt source) ss) (option_map (map (reading_of_stmt source)) more)
if_reading source s e ss more names is = search (rules, the_lemmas)

if_done : (source : List ℕ) (names later : Names) (span : Span) (test : Answer NamedExpr) (part : List (Running NamedStmt)) (more : Option (List (Running NamedStmt)))
    (x : NamedExpr) (ts : List NamedStmt) (inner : Names) (rest : Option (List NamedStmt))
    → test ≡ Ok x → run_from [] part names ≡ Ok (ts, inner) → other_block more (after names inner) ≡ Ok (rest, later)
    → ifs source names span test part more ≡ Ok (named (nodes.If x ts rest) span, later)
if_done source names later span test part more x ts inner rest p q r =
    ap (λ test. ifs source names span test part more) p
    ∙ ap (λ all. closed names all >>= (λ y. no_step more span x y)) q
    ∙ ap (λ n. whole span x ts n) r

mutual
  pub stmt_complete : (source : List ℕ) (names : Names) (s : Statement) (t : NamedStmt) (later : Names)
      → NamesStmt source names s t later → reading_of_stmt source s names ≡ Ok (t, later)
  stmt_complete source _ _ _ _ (define names ty constant name place e x span new h) =
      let p = is_given source (is_new names name) (tt {0}) new in
      let q = complete source names e x h in
      search (rules, the_lemmas)
  stmt_complete source _ _ _ _ (pair names middle left right e x span is new new' h) =
      let p = is_given source (is_new names left.name) (tt {0}) new in
      let p' = is_given source (is_new middle right.name) (tt {0}) new' in
      let q = complete source names e x h in
      search (rules, the_lemmas)
  stmt_complete source _ _ _ _ (assign names name e x span free h) =
      let p = is_given source (is_variable names name) (slot_at source names name) free in
      let q = complete source names e x h in
      search (rules, the_lemmas)
  stmt_complete source _ _ _ _ (time names e x span h) =
      let q = complete source names e x h in search (rules, the_lemmas)
  stmt_complete source _ _ _ _ (age names e x span h) =
      let q = complete source names e x h in search (rules, the_lemmas)
  stmt_complete source _ _ _ _ (require names e x span h) =
      let q = complete source names e x h in search (rules, the_lemmas)
  stmt_complete source _ _ _ _ (if_only names inner e x ss ts span h k) =
      let p = complete source names e x h in
      let q = all_complete source names ss ts inner k [] in
      if_reading source (parsed (nodes.If e ss None) span) e ss None names refl
      ∙ if_done source names (after names inner) span (reading_of source e names) (map (reading_of_stmt source) ss) None x ts inner None p q refl
  stmt_complete source _ _ _ _ (if_else names inner inner' e x ss ss' ts ts' span h k m) =
      let p = complete source names e x h in
      let q = all_complete source names ss ts inner k [] in
      let r = all_complete source (after names inner) ss' ts' inner' m [] in
      if_reading source (parsed (nodes.If e ss (Some ss')) span) e ss (Some ss') names refl
      ∙ if_done source names (after (after names inner) inner') span (reading_of source e names) (map (reading_of_stmt source) ss) (Some (map (reading_of_stmt source) ss')) x ts inner (Some ts') p q
      (ap (λ r. some_block (closed (after names inner) r)) r)

  pub all_complete : (source : List ℕ) (names : Names) (ss : List Statement) (ts : List NamedStmt) (later : Names)
      → NamesAll source names ss ts later → (before : List NamedStmt)
      → run_from before (map (reading_of_stmt source) ss) names ≡ Ok (before ++ ts, later)
  all_complete source _ _ _ _ (done names) before = ap (λ l. Ok (l, names)) (sym (append-nil before))
  all_complete source _ _ _ _ (step names middle later s ss t ts h hs) before =
      ap (λ r. r >>= (λ x. run_from (before ++ x.0 ∷ []) (map (reading_of_stmt source) ss) x.1)) (stmt_complete source names s t middle h)
      ∙ all_complete source middle ss ts later hs (before ++ t ∷ []) ∙ ap (λ l. Ok (l, later)) (append_assoc before (t ∷ []) ts)

introduced : (source : List ℕ) (span : Span) (names : Names) → IsGranted source (is_new names span)
    → introduction source span names ≡ Ok (slot names.next, with_variable source span names)
introduced source span names new =
    let z : Slot × Names = (slot names.next, with_variable source span names) in
    ap (λ r. r >>= (λ u. ok z)) (is_given source (is_new names span) (tt {0}) new)

abbrev param_of : List ℕ → Param Span → Answer (Slot × Names) → Answer (Param Slot × Names)
param_of source p r = do
  x ← r
  Ok (slotted p x.0.0, x.1)

params_complete : (source : List ℕ) (names : Names) (ps : List (Param Span)) (qs : List (Param Slot)) (later : Names)
    → NamesParams source names ps qs later → (before : List (Param Slot))
    → run_from before (map (param_reading source) ps) names ≡ Ok (before ++ qs, later)
params_complete source _ _ _ _ (no_param names) before = ap (λ l. Ok (l, names)) (sym (append-nil before))
params_complete source _ _ _ _ (next_param names later p ps qs new h) before =
    let q = slotted p names.next in
    let middle = with_variable source p.name names in
    let rest : Param Slot × Names → Answer (List (Param Slot) × Names) = (λ x. run_from (before ++ x.0 ∷ []) (map (param_reading source) ps) x.1) in
    let z : Param Slot × Names = (q, middle) in
    let one : param_reading source p names ≡ Ok z = ap (λ r. param_of source p r) (introduced source p.name names new) in
    ap (λ r. r >>= rest) one
    ∙ params_complete source middle ps qs later h (before ++ q ∷ []) ∙ ap (λ l. Ok (l, later)) (append_assoc before (q ∷ []) qs)

function_complete : (source : List ℕ) (first functions inner last : Names) (name span : Span) (ps : List (Param Span))
    (qs : List (Param Slot)) (ss : List Statement) (ts : List NamedStmt)
    → IsGranted source (is_new functions name) → NamesParams source first ps qs inner
    → NamesAll source (opened most_definitions inner) ss ts last
    → function_reading source first (function_of name span ps ss) functions ≡ Ok (function_of name span qs ts, with_variable source name functions)
function_complete source first functions inner last name span ps qs ss ts new h k =
    let p = introduced source name functions new in
    let q = params_complete source first ps qs inner h [] in
    let r = all_complete source (opened most_definitions inner) ss ts last k [] in
    search rules

functions_complete : (source : List ℕ) (first functions : Names) (fs : List FunctionTree) (gs : List NamedFunction) (later : Names)
    → NamesFunctions source first functions fs gs later → (before : List NamedFunction)
    → run_from before (map (function_reading source first) fs) functions ≡ Ok (before ++ gs, later)
functions_complete source first _ _ _ _ (no_function functions) before = ap (λ l. Ok (l, functions)) (sym (append-nil before))
functions_complete source first _ _ _ _ (next_function functions later inner last name span ps qs ss ts fs gs new h k m) before =
    let g : NamedFunction = function_of name span qs ts in
    ap (λ r. r >>= (λ x. run_from (before ++ x.0 ∷ []) (map (function_reading source first) fs) x.1)) (function_complete source first functions inner last name span ps qs ss ts new h k)
    ∙ functions_complete source first (with_variable source name functions) fs gs later m (before ++ g ∷ []) ∙ ap (λ l. Ok (l, later)) (append_assoc before (g ∷ []) gs)

pub tree_complete : (source : List ℕ) (tree : Tree) (t : NamedTree) → IsNamed source tree t → tree_reading source tree ≡ Ok t
tree_complete source _ _ (contract ctor functions name span pragmas ps qs f fs gs admitted h k) =
    let p = granted_none (first_refused source (map is_admitted pragmas)) (tt {0}) (none_refused source (map is_admitted pragmas) admitted) in
    let q = params_complete source (opened most_params no_names) ps qs ctor h [] in
    let r = functions_complete source (opened most_params ctor) (opened most_functions no_names) (f ∷ fs) gs functions k [] in
    search rules

-- ---- what is read is named

abbrev KindSound : List ℕ → StmtKind Span (Unit {0}) → Type 0
KindSound source kind = (names : Names) (k : NamedStmtKind × Names) (span : Span) → reading_of_stmt_kind source kind names ≡ Ok k
    → NamesStmt source names (parsed kind span) (named k.0 span) k.1

abbrev StmtSound : List ℕ → Statement → Type 0
StmtSound source s = (names : Names) (t : NamedStmt × Names) → reading_of_stmt source s names ≡ Ok t → NamesStmt source names s t.0 t.1

abbrev Kinds : List ℕ → Type 0
Kinds source = (kind : StmtKind Span (Unit {0})) × KindSound source kind

abbrev Stmts : List ℕ → Type 0
Stmts source = (s : Statement) × StmtSound source s

abbrev kind_parts : (source : List ℕ) → StmtKind-F Span (Unit {0}) (Kinds source) (Stmts source) → StmtKind-F Span (Unit {0}) (StmtKind Span (Unit {0})) Statement
kind_parts source = map-StmtKind Span (Unit {0}) (Kinds source) (Stmts source) (StmtKind Span (Unit {0})) Statement (λ k. k.0) (λ s. s.0)

abbrev kind_readings : List ℕ → StmtKind-F Span (Unit {0}) (StmtKind Span (Unit {0})) Statement → StmtKind-F Span (Unit {0}) (Running NamedStmtKind) (Running NamedStmt)
kind_readings source = map-StmtKind Span (Unit {0}) (StmtKind Span (Unit {0})) Statement (Running NamedStmtKind) (Running NamedStmt) (reading_of_stmt_kind source) (reading_of_stmt source)

run_sound : (source : List ℕ) (ss : List (Stmts source)) (before : List NamedStmt) (names : Names) (z : List NamedStmt × Names)
    → run_from before (map (reading_of_stmt source) (map (λ s. s.0) ss)) names ≡ Ok z
    → (ts : List NamedStmt) × (z.0 ≡ before ++ ts) × NamesAll source names (map (λ s. s.0) ss) ts z.1
run_sound source [] before names z e =
    let is = ok_inner z (before, names) (Ok (before, names)) e refl in
    ([], ap (λ p. p.0) is ∙ sym (append-nil before), subst (λ p. NamesAll source names [] [] p.1) (sym is) (done names))
run_sound source (s ∷ ss) before names z is =
    let b = ok_bind (reading_of_stmt source s.0 names) (λ x. run_from (before ++ x.0 ∷ []) (map (reading_of_stmt source) (map (λ s. s.0) ss)) x.1) z is in
    let r = run_sound source ss (before ++ b.0.0 ∷ []) b.0.1 z b.2 in
    (b.0.0 ∷ r.0, r.1 ∙ append_assoc before (b.0.0 ∷ []) r.0, step names b.0.1 z.1 s.0 (map (λ s. s.0) ss) b.0.0 r.0 (s.1 names b.0 b.1) r.2)

-- a block: its statements, and the names after it
block_sound : (source : List ℕ) (ss : List (Stmts source)) (names : Names) (z : List NamedStmt × Names)
    → block_reading (map (reading_of_stmt source) (map (λ s. s.0) ss)) names ≡ Ok z
    → (inner : Names) × (z.1 ≡ after names inner) × NamesAll source names (map (λ s. s.0) ss) z.0 inner
block_sound source ss names z is =
    let b = ok_bind (run_from [] (map (reading_of_stmt source) (map (λ s. s.0) ss)) names) (λ all. Ok (all.0, after names all.1)) z is in
    let r = run_sound source ss [] names b.0 b.1 in
    let e = ok_same (b.0.0, after names b.0.1) z b.2 in
    (b.0.1, sym (ap (λ z. z.1) e), subst (λ ts. NamesAll source names (map (λ s. s.0) ss) ts b.0.1) (sym r.1 ∙ ap (λ z. z.0) e) r.2)

abbrev Step : List ℕ → Names → StmtKind Span (Unit {0}) → Span → NamedStmtKind × Names → Type 0
Step source names kind span k = NamesStmt source names (parsed kind span) (named k.0 span) k.1

-- one expression, and what is made of it
expr_step : (source : List ℕ) (names : Names) (e : Expression) (make : NamedExpr → NamedStmtKind × Names) (k : NamedStmtKind × Names)
    (kind : StmtKind Span (Unit {0})) (span : Span)
    → (reading_of source e names >>= (λ x. Ok (make x))) ≡ Ok k
    → ((x : NamedExpr) → NamesExpr source names e x → Step source names kind span (make x))
    → Step source names kind span k
expr_step source names e make k kind span is rule =
    let p = ok_bind (reading_of source e names) (λ x. Ok (make x)) k is in
    subst (Step source names kind span) {x = (make p.0)} (ok_same (make p.0) k p.2) (rule p.0 (sound source names e p.0 p.1))

kind_step : (source : List ℕ) (y : StmtKind-F Span (Unit {0}) (Kinds source) (Stmts source)) (names : Names) (k : NamedStmtKind × Names) (span : Span)
    → stmt_kind_reading source (kind_readings source (kind_parts source y)) names ≡ Ok k
    → Step source names (roll-StmtKind Span (Unit {0}) (kind_parts source y)) span k
unfolding roll-StmtKind denote.Hole.Carrier.roll
kind_step source (StmtKind-F.Define ty constant name place e) names k span is =
    let inner : NamedExpr → (Slot × NamedExpr) × Names = (λ x. ((slot names.next, x), declared (text_at source name) constant names)) in
    let outer : (Slot × NamedExpr) × Names → NamedStmtKind × Names = (λ x. (nodes.Define ty constant x.0.0 place x.0.1, x.1)) in
    let p = ok_bind (definition_reading source name constant e names) (λ x. Ok (outer x)) k is in
    let n = given_bind source (is_new names name) (tt {0}) (λ u. reading_of source e names >>= (λ x. Ok (inner x))) p.0 p.1 in
    let q = ok_bind (reading_of source e names) (λ x. Ok (inner x)) p.0 n.1 in
    subst (Step source names (nodes.Define ty constant name place e) span) {x = (outer (inner q.0))} (ap outer (ok_same (inner q.0) p.0 q.2) ∙ ok_same (outer p.0) k p.2)
    (define names ty constant name place e q.0 span n.0 (sound source names e q.0 q.1))
kind_step source (StmtKind-F.Pair left right e) names k span is =
    let middle = with_variable source left.name names in
    let inner : NamedExpr → (Param Slot × Param Slot × NamedExpr) × Names = (λ x. ((slotted left names.next, slotted right middle.next, x), with_variable source right.name middle)) in
    let outer : (Param Slot × Param Slot × NamedExpr) × Names → NamedStmtKind × Names = (λ x. (nodes.Pair x.0.0 x.0.1 x.0.2, x.1)) in
    let p = ok_bind (pair_reading source left right e names) (λ x. Ok (outer x)) k is in
    let m = ok_bind (check_two source left.name right.name names) (λ u. reading_of source e names >>= (λ x. Ok (inner x))) p.0 p.1 in
    let n = given_bind source (is_new names left.name) (tt {0}) (λ u. check source (is_new middle right.name)) m.0 m.1 in
    let q = ok_bind (reading_of source e names) (λ x. Ok (inner x)) p.0 m.2 in
    subst (Step source names (nodes.Pair left right e) span) {x = (outer (inner q.0))} (ap outer (ok_same (inner q.0) p.0 q.2) ∙ ok_same (outer p.0) k p.2)
    (pair names middle left right e q.0 span refl n.0 (given_only source (is_new middle right.name) (tt {0}) m.0 n.1) (sound source names e q.0 q.1))
kind_step source (StmtKind-F.Assign name e) names k span is =
    let make : Slot → NamedExpr → NamedStmtKind × Names = (λ s x. (nodes.Assign s x, names)) in
    let s = slot_at source names name in
    let n = given_bind source (is_variable names name) s (λ s. reading_of source e names >>= (λ x. Ok (make s x))) k is in
    expr_step source names e (make s) k (nodes.Assign name e) span n.1 (λ x h. assign names name e x span n.0 h)
kind_step source (StmtKind-F.Time e) names k span is =
    expr_step source names e (λ x. (nodes.Time x, names)) k (nodes.Time e) span is (λ x h. time names e x span h)
kind_step source (StmtKind-F.Age e) names k span is =
    expr_step source names e (λ x. (nodes.Age x, names)) k (nodes.Age e) span is (λ x h. age names e x span h)
kind_step source (StmtKind-F.Require e) names k span is =
    expr_step source names e (λ x. (nodes.Require x, names)) k (nodes.Require e) span is (λ x h. require names e x span h)
kind_step source (StmtKind-F.If e ss None) names k span is =
    let read = map (reading_of_stmt source) (map (λ s. s.0) ss) in
    let p = ok_bind (reading_of source e names) (λ t. block_reading read names >>= (λ y. Ok (nodes.If t y.0 None, y.1))) k is in
    let q = ok_bind (block_reading read names) (λ y. Ok (nodes.If p.0 y.0 None, y.1)) k p.2 in
    let b = block_sound source ss names q.0 q.1 in
    let z : NamedStmtKind × Names = (nodes.If p.0 q.0.0 None, after names b.0) in
    let same = ap (λ later. (nodes.If p.0 q.0.0 None, later)) (sym b.1) ∙ ok_same (nodes.If p.0 q.0.0 None, q.0.1) k q.2 in
    subst (Step source names (nodes.If e (map (λ s. s.0) ss) None) span) {x = z} same (if_only names b.0 e p.0 (map (λ s. s.0) ss) q.0.0 span (sound source names e p.0 p.1) b.2)
kind_step source (StmtKind-F.If e ss (Some ss')) names k span is =
    let read = map (reading_of_stmt source) (map (λ s. s.0) ss) in
    let read' = map (reading_of_stmt source) (map (λ s. s.0) ss') in
    let p = ok_bind (reading_of source e names) (λ t. block_reading read names >>= (λ y. other_block (Some read') y.1 >>= (λ n. Ok (nodes.If t y.0 n.0, n.1)))) k is in
    let q = ok_bind (block_reading read names) (λ y. other_block (Some read') y.1 >>= (λ n. Ok (nodes.If p.0 y.0 n.0, n.1))) k p.2 in
    let r = ok_bind (other_block (Some read') q.0.1) (λ n. Ok (nodes.If p.0 q.0.0 n.0, n.1)) k q.2 in
    let o = ok_bind (block_reading read' q.0.1) (λ all. Ok (Some all.0, all.1)) r.0 r.1 in
    let b = block_sound source ss names q.0 q.1 in
    let here : block_reading read' (after names b.0) ≡ Ok o.0 = ap (λ names. block_reading read' names) (sym b.1) ∙ o.1 in
    let c = block_sound source ss' (after names b.0) o.0 here in
    let made = ok_same (Some o.0.0, o.0.1) r.0 o.2 in
    let z : NamedStmtKind × Names = (nodes.If p.0 q.0.0 (Some o.0.0), after (after names b.0) c.0) in
    let same = ap (λ later. (nodes.If p.0 q.0.0 (Some o.0.0), later)) (sym c.1) ∙ ap (λ n. (nodes.If p.0 q.0.0 n.0, n.1)) made ∙ ok_same (nodes.If p.0 q.0.0 r.0.0, r.0.1) k r.2 in
    subst (Step source names (nodes.If e (map (λ s. s.0) ss) (Some (map (λ s. s.0) ss'))) span) {x = z} same
    (if_else names b.0 c.0 e p.0 (map (λ s. s.0) ss) (map (λ s. s.0) ss') q.0.0 o.0.0 span (sound source names e p.0 p.1) b.2 c.2)

pub stmt_sound : (source : List ℕ) (s : Statement) → StmtSound source s
stmt_sound source = ind-Stmt Span (Unit {0}) (KindSound source) (StmtSound source)
    (λ x y is. subst (λ z. KindSound source (roll-StmtKind Span (Unit {0}) z)) is (λ names k span e.
    kind_step source y names k span (ap (λ f. f names) (sym (fold-roll-StmtKind Span (Unit {0}) (Running NamedStmtKind) (Running NamedStmt) (stmt_kind_reading source) stmt_reading (kind_parts source y))) ∙ e)))
    (λ x y is. subst (λ z. StmtSound source (roll-Stmt Span (Unit {0}) z)) is (λ names t e.
    let layer : Stmt-F Span (Unit {0}) (StmtKind Span (Unit {0})) Statement = record { kind = y.kind.0; span = y.span } in
    let make : NamedStmtKind × Names → NamedStmt × Names = (λ k. (named k.0 y.span, k.1)) in
    let b = ok_bind (reading_of_stmt_kind source y.kind.0 names) (λ k. Ok (make k)) t (ap (λ f. f names) (sym (fold-roll-Stmt Span (Unit {0}) (Running NamedStmtKind) (Running NamedStmt) (stmt_kind_reading source) stmt_reading layer)) ∙ e) in
    subst (λ t. NamesStmt source names (roll-Stmt Span (Unit {0}) layer) t.0 t.1) (ok_same (make b.0) t b.2) (y.kind.1 names b.0 y.span b.1)))

-- ---- functions and the contract

known_of : (source : List ℕ) → List Statement → List (Stmts source)
known_of source [] = []
known_of source (s ∷ ss) = (s, stmt_sound source s) ∷ known_of source ss

plain_known : (source : List ℕ) (ss : List Statement) → map (λ s. s.0) (known_of source ss) ≡ ss
unfolding known_of
plain_known source [] = refl
plain_known source (s ∷ ss) = ap (λ l. s ∷ l) (plain_known source ss)

all_sound : (source : List ℕ) (ss : List Statement) (names : Names) (z : List NamedStmt × Names)
    → block_reading (map (reading_of_stmt source) ss) names ≡ Ok z
    → (inner : Names) × NamesAll source names ss z.0 inner
all_sound source ss names z is =
    let e = plain_known source ss in
    let b = block_sound source (known_of source ss) names z (ap (λ ss. block_reading (map (reading_of_stmt source) ss) names) e ∙ is) in
    (b.0, subst (λ ss. NamesAll source names ss z.0 b.0) e b.2)

params_sound : (source : List ℕ) (ps : List (Param Span)) (before : List (Param Slot)) (names : Names) (z : List (Param Slot) × Names)
    → run_from before (map (param_reading source) ps) names ≡ Ok z
    → (qs : List (Param Slot)) × (z.0 ≡ before ++ qs) × NamesParams source names ps qs z.1
params_sound source [] before names z e =
    let is = ok_inner z (before, names) (Ok (before, names)) e refl in
    ([], ap (λ p. p.0) is ∙ sym (append-nil before), subst (λ p. NamesParams source names [] [] p.1) (sym is) (no_param names))
params_sound source (p ∷ ps) before names z is =
    let q = slotted p names.next in
    let middle = with_variable source p.name names in
    let rest : Param Slot × Names → Answer (List (Param Slot) × Names) = (λ x. run_from (before ++ x.0 ∷ []) (map (param_reading source) ps) x.1) in
    let make : Slot × Names → Param Slot × Names = (λ x. (slotted p x.0.0, x.1)) in
    let b = ok_bind (param_reading source p names) rest z is in
    let a = ok_bind (introduction source p.name names) (λ x. ok (make x)) b.0 b.1 in
    let d : Slot × Names = (slot names.next, middle) in
    let c = given_bind source (is_new names p.name) (tt {0}) (λ u. ok d) a.0 a.1 in
    let here : rest (make d) ≡ Ok z = ap (λ x. rest (make x)) (ok_same d a.0 c.1) ∙ ap rest (ok_same (make a.0) b.0 a.2) ∙ b.2 in
    let r = params_sound source ps (before ++ q ∷ []) middle z here in
    (q ∷ r.0, r.1 ∙ append_assoc before (q ∷ []) r.0, next_param names z.1 p ps r.0 c.0 r.2)

functions_sound : (source : List ℕ) (first : Names) (fs : List FunctionTree) (before : List NamedFunction) (functions : Names) (z : List NamedFunction × Names)
    → run_from before (map (function_reading source first) fs) functions ≡ Ok z
    → (gs : List NamedFunction) × (z.0 ≡ before ++ gs) × NamesFunctions source first functions fs gs z.1
functions_sound source first [] before functions z e =
    let is = ok_inner z (before, functions) (Ok (before, functions)) e refl in
    ([], ap (λ p. p.0) is ∙ sym (append-nil before), subst (λ p. NamesFunctions source first functions [] [] p.1) (sym is) (no_function functions))
functions_sound source first (f ∷ fs) before functions z is =
    let later = with_variable source f.name functions in
    let read = map (reading_of_stmt source) f.body in
    let rest : NamedFunction × Names → Answer (List NamedFunction × Names) = (λ x. run_from (before ++ x.0 ∷ []) (map (function_reading source first) fs) x.1) in
    let made : Names → List (Param Slot) × Names → Answer (NamedFunction × Names) = (λ later ps. block_reading read (opened most_definitions ps.1) >>= (λ body. ok (function_of f.name f.span ps.0 body.0, later))) in
    let all : Slot × Names → Answer (NamedFunction × Names) = (λ x. run_from [] (map (param_reading source) f.params) first >>= made x.1) in
    let b = ok_bind (function_reading source first f functions) rest z is in
    let a = ok_bind (introduction source f.name functions) all b.0 b.1 in
    let place : Slot × Names = (slot functions.next, later) in
    let c = given_bind source (is_new functions f.name) (tt {0}) (λ u. ok place) a.0 a.1 in
    let d = ok_bind (run_from [] (map (param_reading source) f.params) first) (made later) b.0 (ap all (ok_same place a.0 c.1) ∙ a.2) in
    let ps = params_sound source f.params [] first d.0 d.1 in
    let e = ok_bind (block_reading read (opened most_definitions d.0.1)) (λ body. ok (function_of f.name f.span d.0.0 body.0, later)) b.0 d.2 in
    let ss = all_sound source f.body (opened most_definitions d.0.1) e.0 e.1 in
    let g : NamedFunction = function_of f.name f.span ps.0 e.0.0 in
    let same = ap (λ qs. (function_of f.name f.span qs e.0.0, later)) (sym ps.1) ∙ ok_same (function_of f.name f.span d.0.0 e.0.0, later) b.0 e.2 in
    let here : rest (g, later) ≡ Ok z = ap rest same ∙ b.2 in
    let r = functions_sound source first fs (before ++ g ∷ []) later z here in
    (g ∷ r.0, r.1 ∙ append_assoc before (g ∷ []) r.0, next_function functions z.1 d.0.1 ss.0 f.name f.span f.params ps.0 f.body e.0.0 fs r.0 c.0 ps.2 ss.1 r.2)

contract_sound : (source : List ℕ) (name span : Span) (pragmas : List Constraint) (ps : List (Param Span)) (fs : List FunctionTree) (t : NamedTree)
    → tree_reading source (contract_of name span pragmas ps fs) ≡ Ok t → IsNamed source (contract_of name span pragmas ps fs) t
contract_sound source name span pragmas ps fs t is =
    let make : List (Param Slot) → List NamedFunction → NamedTree = (λ qs gs. contract_of name span pragmas qs gs) in
    let end : List (Param Slot) → List NamedFunction → Answer NamedTree = (λ qs gs. check source (has_function (is_without fs) span) >>= (λ u. ok (make qs gs))) in
    let middle : List (Param Slot) × Names → Answer NamedTree = (λ ctor. functions_reading source (opened most_params ctor.1) fs >>= (λ gs. end ctor.0 gs)) in
    let a = ok_bind (granted (first_refused source (map is_admitted pragmas)) (tt {0})) (λ p. run_from [] (map (param_reading source) ps) (opened most_params no_names) >>= middle) t is in
    let admitted = are_granted source (map is_admitted pragmas) (granted_ok (first_refused source (map is_admitted pragmas)) (tt {0}) a.0 a.1).0 in
    let b = ok_bind (run_from [] (map (param_reading source) ps) (opened most_params no_names)) middle t a.2 in
    let qs = params_sound source ps [] (opened most_params no_names) b.0 b.1 in
    let first = opened most_params b.0.1 in
    let c = ok_bind (functions_reading source first fs) (λ gs. end b.0.0 gs) t b.2 in
    let d = ok_bind (run_from [] (map (function_reading source first) fs) (opened most_functions no_names)) (λ all. ok all.0) c.0 c.1 in
    let gs = functions_sound source first fs [] (opened most_functions no_names) d.0 d.1 in
    let e = given_bind source (has_function (is_without fs) span) (tt {0}) (λ u. ok (make b.0.0 c.0)) t c.2 in
    let listed : gs.0 ≡ c.0 = sym gs.1 ∙ ok_same d.0.0 c.0 d.2 in
    let same : make qs.0 gs.0 ≡ t = ap (λ qs. make qs gs.0) (sym qs.1) ∙ ap (λ gs. make b.0.0 gs) listed ∙ ok_same (make b.0.0 c.0) t e.1 in
    peopled source name span pragmas ps qs.0 fs gs.0 b.0.1 d.0.1 t e.0 admitted qs.2 gs.2 same
  where
    peopled : (source : List ℕ) (name span : Span) (pragmas : List Constraint) (ps : List (Param Span)) (qs : List (Param Slot)) (fs : List FunctionTree) (gs : List NamedFunction) (ctor functions : Names) (t : NamedTree)
        → is_without fs ≡ false → AreGranted source (map is_admitted pragmas) → NamesParams source (opened most_params no_names) ps qs ctor
        → NamesFunctions source (opened most_params ctor) (opened most_functions no_names) fs gs functions
        → contract_of name span pragmas qs gs ≡ t → IsNamed source (contract_of name span pragmas ps fs) t
    peopled source name span pragmas ps qs [] gs ctor functions t some admitted h k same = let no : ⊥ = cc in absurd no
    peopled source name span pragmas ps qs (f ∷ fs) gs ctor functions t some admitted h k same =
        subst (IsNamed source (contract_of name span pragmas ps (f ∷ fs))) same (contract ctor functions name span pragmas ps qs f fs gs admitted h k)

pub tree_sound : (source : List ℕ) (tree : Tree) (t : NamedTree) → tree_reading source tree ≡ Ok t → IsNamed source tree t
tree_sound source tree t is = contract_sound source tree.name tree.span tree.pragmas tree.params tree.functions t is
