-- Reading statements, functions and a contract tells the first place that is refused.
use Rattle.std.proofs.Common.{◌≡◌, ◌∙◌, ap, sym, subst, refl, ℕ, List, [], ◌∷◌, ◌++◌, map}
use Rattle.std.specs.Prelude.{Option, Some, None, Ok}
use Rattle.cash_base.specs.declared.place.Span.{Span}
use Rattle.cash_base.specs.declared.place.Slot.{Slot}
use Rattle.cash_tree.specs.declared.Param.{Param}
use Rattle.cash_tree.specs.declared.StmtKind.{StmtKind}
use Rattle.cash_tree.specs.declared.StmtKind.TheVariants as nodes
use Rattle.cash_tree.specs.declared.StmtKind.TheOpen.{StmtKind-F, Stmt-F}
use Rattle.cash_tree.specs.declared.StmtKind.TheViews.{roll-Stmt, roll-StmtKind}
use Rattle.cash_tree.specs.declared.StmtKind.TheFolds.{fold-StmtKind, ind-Stmt, fold-roll-Stmt, fold-roll-StmtKind, map-StmtKind}
use Rattle.name_scopes.specs.Names.{Names, no_names, opened, most_params, most_functions, most_definitions, declared, slot, slot_at, after, with_variable}
use Rattle.cash_base.specs.Source.{text_at}
use Rattle.name_scopes.specs.Wants.{is_admitted, is_new, is_variable, has_function}
use Rattle.cash_names.specs.Expressions.{Expression, NamedExpr, wants_of, with_slots}
use Rattle.cash_names.specs.Outline.{Outline, Scopes, Statement, NamedStmt, NamedStmtKind, FunctionTree, NamedFunction, Tree, NamedTree, run, block, other, slotted, is_without, param_outline, stmt_kind_outline, stmt_outline, outline_of, function_outline, outline_of_tree}
use Rattle.cash_base.specs.Failing.{◌>>=◌}
use Rattle.name_scopes.specs.Uses.{Answer, Running, check, check_two, introduction}
use Rattle.cash_names.specs.Reading.{definition_reading, pair_reading, run_from, block_reading, other_block, reading_of, param_reading, stmt_kind_reading, stmt_reading, reading_of_stmt, reading_of_stmt_kind, function_reading, functions_reading, tree_reading}
use Rattle.name_scopes.proofs.Granted.{judged, asked, asked_only, both, last}
use Rattle.cash_names.proofs.Places.{agrees}
use Rattle.cash_names.proofs.Run.{verdict, AgreesAt, AllAgree, run_agrees, all_agree}

-- an expression, and what is made of it
made : {A : Type 0} (source : List ℕ) (names : Names) (e : Expression) (h : NamedExpr → A)
    → (reading_of source e names >>= (λ x. Ok (h x))) ≡ judged source (wants_of names e) (h (with_slots (slot_at source names) e))
made source names e h =
    last source (reading_of source e names) (wants_of names e) (with_slots (slot_at source names) e) h (agrees source names e)

pub block_agrees : (source : List ℕ) (ss : List Statement) → AllAgree source (reading_of_stmt source) (outline_of source) ss
    → (names : Names) → block_reading (map (reading_of_stmt source) ss) names ≡ verdict source (block (map (outline_of source) ss) names)
block_agrees source ss h names =
    let all = run (map (outline_of source) ss) names in
    last source (run_from [] (map (reading_of_stmt source) ss) names) all.wants all.value (λ r. (r.0, after names r.1)) (run_agrees source (reading_of_stmt source) (outline_of source) ss h [] names)

-- an `if` from its second block on, from its first, and whole
abbrev no_step : Option (List (Running NamedStmt)) → NamedExpr → List NamedStmt × Names → Answer (NamedStmtKind × Names)
no_step no_part t y = do
  n ← other_block no_part y.1
  Ok (nodes.If t y.0 n.0, n.1)

abbrev yes_step : List ℕ → Names → List Statement → Option (List (Running NamedStmt)) → NamedExpr → Answer (NamedStmtKind × Names)
yes_step source names ss no_part t = do
  y ← block_reading (map (reading_of_stmt source) ss) names
  no_step no_part t y

abbrev ifs : List ℕ → Names → Expression → List Statement → Option (List (Running NamedStmt)) → Answer (NamedStmtKind × Names)
ifs source names test ss no_part = do
  t ← reading_of source test names
  yes_step source names ss no_part t

abbrev KindAgrees : List ℕ → StmtKind Span (Unit {0}) → Type 0
KindAgrees source kind = (names : Names) → reading_of_stmt_kind source kind names
    ≡ verdict source (fold-StmtKind Span (Unit {0}) (Scopes NamedStmtKind) (Scopes NamedStmt) (stmt_kind_outline source) stmt_outline kind names)

abbrev StmtAgrees : List ℕ → Statement → Type 0
StmtAgrees source s = AgreesAt source (reading_of_stmt source) (outline_of source) s

abbrev Kinds : List ℕ → Type 0
Kinds source = (kind : StmtKind Span (Unit {0})) × KindAgrees source kind

abbrev Stmts : List ℕ → Type 0
Stmts source = (s : Statement) × StmtAgrees source s

known_of : (source : List ℕ) (ss : List (Stmts source)) → AllAgree source (reading_of_stmt source) (outline_of source) (map (λ s. s.0) ss)
known_of source [] = tt
known_of source (s ∷ ss) = (s.1, known_of source ss)

abbrev kind_parts : (source : List ℕ) → StmtKind-F Span (Unit {0}) (Kinds source) (Stmts source) → StmtKind-F Span (Unit {0}) (StmtKind Span (Unit {0})) Statement
kind_parts source = map-StmtKind Span (Unit {0}) (Kinds source) (Stmts source) (StmtKind Span (Unit {0})) Statement (λ k. k.0) (λ s. s.0)

abbrev kind_readings : List ℕ → StmtKind-F Span (Unit {0}) (StmtKind Span (Unit {0})) Statement → StmtKind-F Span (Unit {0}) (Running NamedStmtKind) (Running NamedStmt)
kind_readings source = map-StmtKind Span (Unit {0}) (StmtKind Span (Unit {0})) Statement (Running NamedStmtKind) (Running NamedStmt) (reading_of_stmt_kind source) (reading_of_stmt source)

abbrev kind_outlines : List ℕ → StmtKind-F Span (Unit {0}) (StmtKind Span (Unit {0})) Statement → StmtKind-F Span (Unit {0}) (Scopes NamedStmtKind) (Scopes NamedStmt)
kind_outlines source = map-StmtKind Span (Unit {0}) (StmtKind Span (Unit {0})) Statement (Scopes NamedStmtKind) (Scopes NamedStmt) (fold-StmtKind Span (Unit {0}) (Scopes NamedStmtKind) (Scopes NamedStmt) (stmt_kind_outline source) stmt_outline) (outline_of source)

if_step : (source : List ℕ) (names : Names) (test : Expression) (ss : List Statement) (no_part : Option (List (Running NamedStmt)))
    (n : Outline (Option (List NamedStmt) × Names))
    → AllAgree source (reading_of_stmt source) (outline_of source) ss
    → other_block no_part (block (map (outline_of source) ss) names).value.1 ≡ verdict source n
    → ifs source names test ss no_part
    ≡ judged source (wants_of names test ++ ((block (map (outline_of source) ss) names).wants ++ n.wants)) (nodes.If (with_slots (slot_at source names) test) (block (map (outline_of source) ss) names).value.0 n.value.0, n.value.1)
if_step source names test ss no_part n h e =
    let t = with_slots (slot_at source names) test in
    let y = block (map (outline_of source) ss) names in
    let whole : NamedStmtKind × Names = (nodes.If t y.value.0 n.value.0, n.value.1) in
    both source (reading_of source test names) (wants_of names test) t (λ t. yes_step source names ss no_part t) (y.wants ++ n.wants) whole (agrees source names test)
    (both source (block_reading (map (reading_of_stmt source) ss) names) y.wants y.value (λ y. no_step no_part t y) n.wants whole (block_agrees source ss h names)
    (last source (other_block no_part y.value.1) n.wants n.value (λ n. (nodes.If t y.value.0 n.0, n.1)) e))

kind_step : (source : List ℕ) (y : StmtKind-F Span (Unit {0}) (Kinds source) (Stmts source)) (names : Names)
    → stmt_kind_reading source (kind_readings source (kind_parts source y)) names
    ≡ verdict source (stmt_kind_outline source (kind_outlines source (kind_parts source y)) names)
kind_step source (StmtKind-F.Define ty constant name place value) names =
    let make : NamedExpr → (Slot × NamedExpr) × Names = (λ v. ((slot names.next, v), declared (text_at source name) constant names)) in
    let whole : (Slot × NamedExpr) × Names → NamedStmtKind × Names = (λ x. (nodes.Define ty constant x.0.0 place x.0.1, x.1)) in
    let v = make (with_slots (slot_at source names) value) in
    last source (definition_reading source name constant value names) (is_new names name ∷ wants_of names value) v whole
    (asked source (is_new names name) tt (λ u. reading_of source value names >>= (λ v. Ok (make v))) (wants_of names value) v (made source names value make))
kind_step source (StmtKind-F.Pair left right value) names =
    let middle = with_variable source left.name names in
    let make : NamedExpr → (Param Slot × Param Slot × NamedExpr) × Names = (λ v. ((slotted left names.next, slotted right middle.next, v), with_variable source right.name middle)) in
    let whole : (Param Slot × Param Slot × NamedExpr) × Names → NamedStmtKind × Names = (λ x. (nodes.Pair x.0.0 x.0.1 x.0.2, x.1)) in
    let v = make (with_slots (slot_at source names) value) in
    let l = is_new names left.name in
    let r = is_new middle right.name in
    last source (pair_reading source left right value names) (l ∷ r ∷ wants_of names value) v whole
    (both source (check_two source left.name right.name names) (l ∷ r ∷ []) tt (λ u. reading_of source value names >>= (λ v. Ok (make v))) (wants_of names value) v
    (asked source l tt (λ u. check source r) (r ∷ []) tt (asked_only source r tt))
    (made source names value make))
kind_step source (StmtKind-F.Assign name value) names =
    let make : Slot → NamedExpr → NamedStmtKind × Names = (λ s v. (nodes.Assign s v, names)) in
    let s = slot_at source names name in
    asked source (is_variable names name) s (λ s. reading_of source value names >>= (λ v. Ok (make s v))) (wants_of names value) (make s (with_slots (slot_at source names) value)) (made source names value (make s))
kind_step source (StmtKind-F.Time value) names = made source names value (λ v. (nodes.Time v, names))
kind_step source (StmtKind-F.Age value) names = made source names value (λ v. (nodes.Age v, names))
kind_step source (StmtKind-F.Require value) names = made source names value (λ v. (nodes.Require v, names))
kind_step source (StmtKind-F.If test yes_part None) names =
    let ss = map (λ s. s.0) yes_part in
    let y = block (map (outline_of source) ss) names in
    if_step source names test ss None (other None y.value.1) (known_of source yes_part) refl
kind_step source (StmtKind-F.If test yes_part (Some no_part)) names =
    let ss = map (λ s. s.0) yes_part in
    let more = map (λ s. s.0) no_part in
    let y = block (map (outline_of source) ss) names in
    let n = block (map (outline_of source) more) y.value.1 in
    if_step source names test ss (Some (map (reading_of_stmt source) more)) (other (Some (map (outline_of source) more)) y.value.1) (known_of source yes_part)
    (last source (block_reading (map (reading_of_stmt source) more) y.value.1) n.wants n.value (λ all. (Some all.0, all.1)) (block_agrees source more (known_of source no_part) y.value.1))

pub stmt_agrees : (source : List ℕ) (s : Statement) → StmtAgrees source s
stmt_agrees source = ind-Stmt Span (Unit {0}) (KindAgrees source) (StmtAgrees source)
    (λ x y is. subst (λ z. KindAgrees source (roll-StmtKind Span (Unit {0}) z)) is (λ names.
    ap (λ f. f names) (fold-roll-StmtKind Span (Unit {0}) (Running NamedStmtKind) (Running NamedStmt) (stmt_kind_reading source) stmt_reading (kind_parts source y))
    ∙ kind_step source y names
    ∙ ap (λ f. verdict source (f names)) (sym (fold-roll-StmtKind Span (Unit {0}) (Scopes NamedStmtKind) (Scopes NamedStmt) (stmt_kind_outline source) stmt_outline (kind_parts source y)))))
    (λ x y is. subst (λ z. StmtAgrees source (roll-Stmt Span (Unit {0}) z)) is (λ names.
    let s : Stmt-F Span (Unit {0}) (StmtKind Span (Unit {0})) Statement = record { kind = y.kind.0; span = y.span } in
    let o = fold-StmtKind Span (Unit {0}) (Scopes NamedStmtKind) (Scopes NamedStmt) (stmt_kind_outline source) stmt_outline y.kind.0 names in
    let make : NamedStmtKind × Names → NamedStmt × Names = (λ k. (record { kind = k.0; span = y.span }, k.1)) in
    ap (λ f. f names) (fold-roll-Stmt Span (Unit {0}) (Running NamedStmtKind) (Running NamedStmt) (stmt_kind_reading source) stmt_reading s)
    ∙ last source (reading_of_stmt_kind source y.kind.0 names) o.wants o.value make (y.kind.1 names)
    ∙ ap (λ f. verdict source (f names)) (sym (fold-roll-Stmt Span (Unit {0}) (Scopes NamedStmtKind) (Scopes NamedStmt) (stmt_kind_outline source) stmt_outline s))))

-- ---- functions and the contract

introduced : (source : List ℕ) (span : Span) (names : Names)
    → introduction source span names ≡ judged source (is_new names span ∷ []) (slot names.next, with_variable source span names)
introduced source span names =
    let z : Slot × Names = (slot names.next, with_variable source span names) in
    asked source (is_new names span) tt (λ u. Ok z) [] z refl

param_agrees : (source : List ℕ) (p : Param Span) → AgreesAt source (param_reading source) (param_outline source) p
param_agrees source p names =
    let make : Slot × Names → Param Slot × Names = (λ x. (slotted p x.0.0, x.1)) in
    last source (introduction source p.name names) (is_new names p.name ∷ []) (slot names.next, with_variable source p.name names) make (introduced source p.name names)

pub params_agree : (source : List ℕ) (ps : List (Param Span)) (names : Names)
    → run_from [] (map (param_reading source) ps) names ≡ verdict source (run (map (param_outline source) ps) names)
params_agree source ps names =
    run_agrees source (param_reading source) (param_outline source) ps (all_agree source (param_reading source) (param_outline source) (param_agrees source) ps) [] names

function_agrees : (source : List ℕ) (first : Names) (f : FunctionTree)
    → AgreesAt source (function_reading source first) (function_outline source first) f
function_agrees source first f functions =
    let ps = run (map (param_outline source) f.params) first in
    let body = block (map (outline_of source) f.body) (opened most_definitions ps.value.1) in
    let later = with_variable source f.name functions in
    let make : Names → List (Param Slot) → List NamedStmt → NamedFunction × Names = (λ later ps ss. (record { name = f.name; span = f.span; params = ps; body = ss }, later)) in
    let z = make later ps.value.0 body.value.0 in
    let read : Names → List (Param Slot) × Names → Answer (NamedFunction × Names) = (λ later ps. block_reading (map (reading_of_stmt source) f.body) (opened most_definitions ps.1) >>= (λ body. Ok (make later ps.0 body.0))) in
    both source (introduction source f.name functions) (is_new functions f.name ∷ []) (slot functions.next, later) (λ x. run_from [] (map (param_reading source) f.params) first >>= read x.1) (ps.wants ++ body.wants) z (introduced source f.name functions)
    (both source (run_from [] (map (param_reading source) f.params) first) ps.wants ps.value (read later) body.wants z (params_agree source f.params first)
    (last source (block_reading (map (reading_of_stmt source) f.body) (opened most_definitions ps.value.1)) body.wants body.value (λ body. make later ps.value.0 body.0) (block_agrees source f.body (all_agree source (reading_of_stmt source) (outline_of source) (stmt_agrees source) f.body) (opened most_definitions ps.value.1))))

functions_agree : (source : List ℕ) (first : Names) (fs : List FunctionTree)
    → functions_reading source first fs ≡ judged source (run (map (function_outline source first) fs) (opened most_functions no_names)).wants (run (map (function_outline source first) fs) (opened most_functions no_names)).value.0
functions_agree source first fs =
    let all = run (map (function_outline source first) fs) (opened most_functions no_names) in
    last source (run_from [] (map (function_reading source first) fs) (opened most_functions no_names)) all.wants all.value (λ all. all.0)
    (run_agrees source (function_reading source first) (function_outline source first) fs (all_agree source (function_reading source first) (function_outline source first) (function_agrees source first) fs) [] (opened most_functions no_names))

pub tree_agrees : (source : List ℕ) (tree : Tree) → tree_reading source tree ≡ verdict source (outline_of_tree source tree)
tree_agrees source tree =
    let ctor = run (map (param_outline source) tree.params) (opened most_params no_names) in
    let first = opened most_params ctor.value.1 in
    let fs = run (map (function_outline source first) tree.functions) (opened most_functions no_names) in
    let make : List (Param Slot) → List NamedFunction → NamedTree = (λ ps fs. record { name = tree.name; span = tree.span; pragmas = tree.pragmas; params = ps; functions = fs }) in
    let z = make ctor.value.0 fs.value.0 in
    let end = has_function (is_without tree.functions) tree.span in
    let last_step : List (Param Slot) → List NamedFunction → Answer NamedTree = (λ ps fs. check source end >>= (λ u. Ok (make ps fs))) in
    let step : List (Param Slot) × Names → Answer NamedTree = (λ ctor. functions_reading source (opened most_params ctor.1) tree.functions >>= (λ fs. last_step ctor.0 fs)) in
    both source (judged source (map is_admitted tree.pragmas) (tt {0})) (map is_admitted tree.pragmas) tt (λ p. run_from [] (map (param_reading source) tree.params) (opened most_params no_names) >>= step) (ctor.wants ++ (fs.wants ++ end ∷ [])) z refl
    (both source (run_from [] (map (param_reading source) tree.params) (opened most_params no_names)) ctor.wants ctor.value step (fs.wants ++ end ∷ []) z (params_agree source tree.params (opened most_params no_names))
    (both source (functions_reading source first tree.functions) fs.wants fs.value.0 (λ fs. last_step ctor.value.0 fs) (end ∷ []) z (functions_agree source first tree.functions)
    (asked source end tt (λ u. Ok z) [] z refl)))
