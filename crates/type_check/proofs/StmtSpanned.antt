-- A contract without its types has the same spans.
use Rattle.std.proofs.Common.{◌≡◌, ◌∙◌, ap, sym, subst, refl, List, [], ◌∷◌, ◌++◌, map}
use Rattle.std.specs.Prelude.{Option, Some, None}
use Rattle.cash_base.specs.declared.place.Span.{Span}
use Rattle.cash_base.specs.declared.place.Slot.{Slot}
use Rattle.cash_tree.specs.declared.Ty.{Ty}
use Rattle.cash_tree.specs.declared.StmtKind.{StmtKind}
use Rattle.cash_tree.specs.declared.StmtKind.TheOpen.{StmtKind-F, Stmt-F}
use Rattle.cash_tree.specs.declared.StmtKind.TheViews.{roll-Stmt, roll-StmtKind}
use Rattle.cash_tree.specs.declared.StmtKind.TheFolds.{fold-StmtKind, ind-Stmt, fold-roll-Stmt, fold-roll-StmtKind, map-StmtKind}
use Rattle.cash_tree.specs.Nodes.{joined}
use Rattle.cash_tree.specs.Spans.{param_spans, constraint_spans, expression_spans, statement_kind_spans, stmt_spans, statement_spans, function_spans, tree_spans}
use Rattle.type_check.specs.Shapes.{NamedStmt, NamedStmtKind, TypedStmt, TypedStmtKind, StmtLayer}
use Rattle.type_check.specs.Outline.{TypedFunction, TypedContract}
use Rattle.type_check.specs.Untyped.{untyped, stmt_kind_untyped, untyped_stmt, untyped_function, untyped_contract}
use Rattle.type_check.proofs.Kept.{untyped_stmt_kind, stmt_layer_kept, stmt_is_kept}
use Rattle.type_check.proofs.Spanned.{spans_alike}

abbrev OfName : Type 0
OfName = Slot → List Span

abbrev spans_of_kind : {T : Type 0} → OfName → StmtKind Slot T → List Span
spans_of_kind {T} of_name = fold-StmtKind Slot T (List Span) (List Span) (statement_kind_spans of_name) stmt_spans

abbrev KindAlike : OfName → TypedStmtKind → Type 0
KindAlike of_name k = spans_of_kind of_name k ≡ spans_of_kind of_name (untyped_stmt_kind k)

abbrev Alike : OfName → TypedStmt → Type 0
Alike of_name s = statement_spans of_name s ≡ statement_spans of_name (untyped_stmt s)

abbrev Kinds : OfName → Type 0
Kinds of_name = (k : TypedStmtKind) × KindAlike of_name k

abbrev Stmts : OfName → Type 0
Stmts of_name = (s : TypedStmt) × Alike of_name s

abbrev Layer : OfName → Type 0
Layer of_name = StmtKind-F Slot Ty (Kinds of_name) (Stmts of_name)

abbrev stmts_of : (of_name : OfName) → List (Stmts of_name) → List TypedStmt
stmts_of of_name ss = map (λ s. s.0) ss

abbrev kind_parts : (of_name : OfName) → Layer of_name → StmtKind-F Slot Ty TypedStmtKind TypedStmt
kind_parts of_name =
    map-StmtKind Slot Ty (Kinds of_name) (Stmts of_name) TypedStmtKind TypedStmt (λ k. k.0) (λ s. s.0)

each_step : (of_name : OfName) (ss : List (Stmts of_name))
    → joined (map (statement_spans of_name) (stmts_of of_name ss))
    ≡ joined (map (statement_spans of_name) (map untyped_stmt (stmts_of of_name ss)))
each_step of_name [] = refl
each_step of_name (s ∷ ss) =
    ap (λ l. l ++ joined (map (statement_spans of_name) (stmts_of of_name ss))) s.1
    ∙ ap (λ l. statement_spans of_name (untyped_stmt s.0) ++ l) (each_step of_name ss)

unrolled : (of_name : OfName) (layer : StmtLayer NamedStmtKind NamedStmt)
    → spans_of_kind of_name (roll-StmtKind Slot (Unit {0}) layer)
    ≡ statement_kind_spans of_name (map-StmtKind Slot (Unit {0}) NamedStmtKind NamedStmt (List Span) (List Span)
    (spans_of_kind of_name) (statement_spans of_name) layer)
unrolled of_name layer =
    fold-roll-StmtKind Slot (Unit {0}) (List Span) (List Span) (statement_kind_spans of_name) stmt_spans layer

kind_step : (of_name : OfName) (y : Layer of_name)
    → statement_kind_spans of_name (map-StmtKind Slot Ty TypedStmtKind TypedStmt (List Span) (List Span)
    (spans_of_kind of_name) (statement_spans of_name) (kind_parts of_name y))
    ≡ spans_of_kind of_name (stmt_kind_untyped (map-StmtKind Slot Ty TypedStmtKind TypedStmt NamedStmtKind NamedStmt
    untyped_stmt_kind untyped_stmt (kind_parts of_name y)))
unfolding roll-StmtKind denote.Hole.Carrier.roll
kind_step of_name (StmtKind-F.Define t constant name place e) =
    let l : StmtLayer NamedStmtKind NamedStmt = StmtKind-F.Define t constant name place (untyped e) in
    ap (λ l. of_name name ++ (place ∷ l)) (spans_alike of_name e) ∙ sym (unrolled of_name l)
kind_step of_name (StmtKind-F.Pair left right e) =
    let l : StmtLayer NamedStmtKind NamedStmt = StmtKind-F.Pair left right (untyped e) in
    ap (λ l. param_spans of_name left ++ (param_spans of_name right ++ l)) (spans_alike of_name e) ∙ sym (unrolled of_name l)
kind_step of_name (StmtKind-F.Assign name e) =
    let l : StmtLayer NamedStmtKind NamedStmt = StmtKind-F.Assign name (untyped e) in
    ap (λ l. of_name name ++ l) (spans_alike of_name e) ∙ sym (unrolled of_name l)
kind_step of_name (StmtKind-F.Time e) =
    let l : StmtLayer NamedStmtKind NamedStmt = StmtKind-F.Time (untyped e) in
    spans_alike of_name e ∙ sym (unrolled of_name l)
kind_step of_name (StmtKind-F.Age e) =
    let l : StmtLayer NamedStmtKind NamedStmt = StmtKind-F.Age (untyped e) in
    spans_alike of_name e ∙ sym (unrolled of_name l)
kind_step of_name (StmtKind-F.Require e) =
    let l : StmtLayer NamedStmtKind NamedStmt = StmtKind-F.Require (untyped e) in
    spans_alike of_name e ∙ sym (unrolled of_name l)
kind_step of_name (StmtKind-F.If e body None) =
    let l : StmtLayer NamedStmtKind NamedStmt = StmtKind-F.If (untyped e) (map untyped_stmt (stmts_of of_name body)) None in
    ap (λ l. l ++ (joined (map (statement_spans of_name) (stmts_of of_name body)) ++ [])) (spans_alike of_name e)
    ∙ ap (λ l. expression_spans of_name (untyped e) ++ (l ++ [])) (each_step of_name body) ∙ sym (unrolled of_name l)
kind_step of_name (StmtKind-F.If e body (Some others)) =
    let l : StmtLayer NamedStmtKind NamedStmt = StmtKind-F.If (untyped e) (map untyped_stmt (stmts_of of_name body))
    (Some (map untyped_stmt (stmts_of of_name others))) in
    ap (λ l. l ++ (joined (map (statement_spans of_name) (stmts_of of_name body))
    ++ joined (map (statement_spans of_name) (stmts_of of_name others)))) (spans_alike of_name e)
    ∙ ap (λ l. expression_spans of_name (untyped e) ++ (l
    ++ joined (map (statement_spans of_name) (stmts_of of_name others)))) (each_step of_name body)
    ∙ ap (λ l. expression_spans of_name (untyped e)
    ++ (joined (map (statement_spans of_name) (map untyped_stmt (stmts_of of_name body))) ++ l))
    (each_step of_name others) ∙ sym (unrolled of_name l)

kind_alike : (of_name : OfName) (y : Layer of_name)
    → KindAlike of_name (roll-StmtKind Slot Ty (kind_parts of_name y))
kind_alike of_name y =
    fold-roll-StmtKind Slot Ty (List Span) (List Span) (statement_kind_spans of_name) stmt_spans
    (kind_parts of_name y)
    ∙ kind_step of_name y ∙ ap (spans_of_kind of_name) (sym (stmt_layer_kept (kind_parts of_name y)))

stmt_alike : (of_name : OfName) (s : TypedStmt) → Alike of_name s
stmt_alike of_name = ind-Stmt Slot Ty (KindAlike of_name) (Alike of_name)
    (λ x y is. subst (λ z. KindAlike of_name (roll-StmtKind Slot Ty z)) is (kind_alike of_name y))
    (λ x y is. subst (λ z. Alike of_name (roll-Stmt Slot Ty z)) is (
    let layer : Stmt-F Slot Ty TypedStmtKind TypedStmt = record { kind = y.kind.0; span = y.span } in
    let bare : Stmt-F Slot (Unit {0}) NamedStmtKind NamedStmt = record
    { kind = untyped_stmt_kind y.kind.0; span = y.span } in
    fold-roll-Stmt Slot Ty (List Span) (List Span) (statement_kind_spans of_name) stmt_spans layer
    ∙ ap (λ l. y.span ∷ l) y.kind.1
    ∙ sym (fold-roll-Stmt Slot (Unit {0}) (List Span) (List Span) (statement_kind_spans of_name) stmt_spans bare)
    ∙ ap (statement_spans of_name) (sym (stmt_is_kept (untyped_stmt_kind y.kind.0) y.kind.0 y.span refl))))

body_alike : (of_name : OfName) (ss : List TypedStmt) → joined (map (statement_spans of_name) ss)
    ≡ joined (map (statement_spans of_name) (map untyped_stmt ss))
body_alike of_name [] = refl
body_alike of_name (s ∷ ss) =
    ap (λ l. l ++ joined (map (statement_spans of_name) ss)) (stmt_alike of_name s)
    ∙ ap (λ l. statement_spans of_name (untyped_stmt s) ++ l) (body_alike of_name ss)

function_alike : (of_name : OfName) (f : TypedFunction)
    → function_spans of_name f ≡ function_spans of_name (untyped_function f)
function_alike of_name f =
    ap (λ l. f.name ∷ f.span ∷ (joined (map (param_spans of_name) f.params) ++ l)) (body_alike of_name f.body)

functions_alike : (of_name : OfName) (fs : List TypedFunction) → joined (map (function_spans of_name) fs)
    ≡ joined (map (function_spans of_name) (map untyped_function fs))
functions_alike of_name [] = refl
functions_alike of_name (f ∷ fs) =
    ap (λ l. l ++ joined (map (function_spans of_name) fs)) (function_alike of_name f)
    ∙ ap (λ l. function_spans of_name (untyped_function f) ++ l) (functions_alike of_name fs)

pub tree_alike : (of_name : OfName) (c : TypedContract)
    → tree_spans of_name c ≡ tree_spans of_name (untyped_contract c)
tree_alike of_name c =
    ap (λ l. c.name ∷ c.span ∷ (joined (map constraint_spans c.pragmas)
    ++ (joined (map (param_spans of_name) c.params) ++ l))) (functions_alike of_name c.functions)
