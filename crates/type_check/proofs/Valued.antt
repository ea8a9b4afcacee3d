-- The expressions of a contract without its types are its own, without theirs.
use Rattle.std.proofs.Common.{◌≡◌, ◌∙◌, ap, sym, subst, refl, List, [], ◌∷◌, ◌++◌, map}
use Rattle.std.specs.Prelude.{Option, Some, None}
use Rattle.std.proofs.lemmas.List.{map-append}
use Rattle.cash_base.specs.declared.place.Span.{Span}
use Rattle.cash_base.specs.declared.place.Slot.{Slot}
use Rattle.cash_tree.specs.declared.Ty.{Ty}
use Rattle.cash_tree.specs.declared.Expr.{Expr}
use Rattle.cash_tree.specs.declared.StmtKind.{StmtKind}
use Rattle.cash_tree.specs.declared.StmtKind.TheOpen.{StmtKind-F, Stmt-F}
use Rattle.cash_tree.specs.declared.StmtKind.TheViews.{roll-Stmt, roll-StmtKind}
use Rattle.cash_tree.specs.declared.StmtKind.TheFolds.{fold-StmtKind, ind-Stmt, fold-roll-Stmt, fold-roll-StmtKind, map-StmtKind}
use Rattle.cash_tree.specs.Nodes.{joined, kind_values, stmt_values, values, tree_values}
use Rattle.type_tables.specs.Tables.{TypedExpr}
use Rattle.type_check.specs.Shapes.{NamedExpr, NamedStmt, NamedStmtKind, TypedStmt, TypedStmtKind, StmtLayer}
use Rattle.type_check.specs.Outline.{TypedFunction, TypedContract}
use Rattle.type_check.specs.Untyped.{untyped, stmt_kind_untyped, untyped_stmt, untyped_function, untyped_contract}
use Rattle.type_check.proofs.Kept.{untyped_stmt_kind, stmt_layer_kept, stmt_is_kept}

abbrev values_of_kind : {T : Type 0} → StmtKind Slot T → List (Expr Slot T)
values_of_kind {T} = fold-StmtKind Slot T (List (Expr Slot T)) (List (Expr Slot T)) kind_values stmt_values

abbrev KindAlike : TypedStmtKind → Type 0
KindAlike k = map untyped (values_of_kind k) ≡ values_of_kind (untyped_stmt_kind k)

abbrev Alike : TypedStmt → Type 0
Alike s = map untyped (values s) ≡ values (untyped_stmt s)

abbrev Kinds : Type 0
Kinds = (k : TypedStmtKind) × KindAlike k

abbrev Stmts : Type 0
Stmts = (s : TypedStmt) × Alike s

abbrev stmts_of : List Stmts → List TypedStmt
stmts_of ss = map (λ s. s.0) ss

abbrev kind_parts : StmtKind-F Slot Ty Kinds Stmts → StmtKind-F Slot Ty TypedStmtKind TypedStmt
kind_parts = map-StmtKind Slot Ty Kinds Stmts TypedStmtKind TypedStmt (λ k. k.0) (λ s. s.0)

each_step : (ss : List Stmts) → map untyped (joined (map values (stmts_of ss)))
    ≡ joined (map values (map untyped_stmt (stmts_of ss)))
each_step [] = refl
each_step (s ∷ ss) =
    map-append untyped (values s.0) (joined (map values (stmts_of ss)))
    ∙ ap (λ l. l ++ map untyped (joined (map values (stmts_of ss)))) s.1
    ∙ ap (λ l. values (untyped_stmt s.0) ++ l) (each_step ss)

unrolled : (layer : StmtLayer NamedStmtKind NamedStmt) → values_of_kind (roll-StmtKind Slot (Unit {0}) layer)
    ≡ kind_values (map-StmtKind Slot (Unit {0}) NamedStmtKind NamedStmt (List NamedExpr) (List NamedExpr)
    values_of_kind values layer)
unrolled layer =
    fold-roll-StmtKind Slot (Unit {0}) (List NamedExpr) (List NamedExpr) kind_values stmt_values layer

kind_step : (y : StmtKind-F Slot Ty Kinds Stmts)
    → map untyped (kind_values (map-StmtKind Slot Ty TypedStmtKind TypedStmt (List TypedExpr) (List TypedExpr)
    values_of_kind values (kind_parts y)))
    ≡ values_of_kind (stmt_kind_untyped (map-StmtKind Slot Ty TypedStmtKind TypedStmt NamedStmtKind NamedStmt
    untyped_stmt_kind untyped_stmt (kind_parts y)))
unfolding roll-StmtKind denote.Hole.Carrier.roll
kind_step (StmtKind-F.Define t constant name place e) =
    let l : StmtLayer NamedStmtKind NamedStmt = StmtKind-F.Define t constant name place (untyped e) in sym (unrolled l)
kind_step (StmtKind-F.Pair left right e) =
    let l : StmtLayer NamedStmtKind NamedStmt = StmtKind-F.Pair left right (untyped e) in sym (unrolled l)
kind_step (StmtKind-F.Assign name e) =
    let l : StmtLayer NamedStmtKind NamedStmt = StmtKind-F.Assign name (untyped e) in sym (unrolled l)
kind_step (StmtKind-F.Time e) =
    let l : StmtLayer NamedStmtKind NamedStmt = StmtKind-F.Time (untyped e) in sym (unrolled l)
kind_step (StmtKind-F.Age e) =
    let l : StmtLayer NamedStmtKind NamedStmt = StmtKind-F.Age (untyped e) in sym (unrolled l)
kind_step (StmtKind-F.Require e) =
    let l : StmtLayer NamedStmtKind NamedStmt = StmtKind-F.Require (untyped e) in sym (unrolled l)
kind_step (StmtKind-F.If e body None) =
    let l : StmtLayer NamedStmtKind NamedStmt = StmtKind-F.If (untyped e) (map untyped_stmt (stmts_of body)) None in
    ap (λ l. untyped e ∷ l) (map-append untyped (joined (map values (stmts_of body))) []
    ∙ ap (λ l. l ++ []) (each_step body)) ∙ sym (unrolled l)
kind_step (StmtKind-F.If e body (Some others)) =
    let l : StmtLayer NamedStmtKind NamedStmt = StmtKind-F.If (untyped e) (map untyped_stmt (stmts_of body))
    (Some (map untyped_stmt (stmts_of others))) in
    ap (λ l. untyped e ∷ l) (
    map-append untyped (joined (map values (stmts_of body))) (joined (map values (stmts_of others)))
    ∙ ap (λ l. l ++ map untyped (joined (map values (stmts_of others)))) (each_step body)
    ∙ ap (λ l. joined (map values (map untyped_stmt (stmts_of body))) ++ l) (each_step others)) ∙ sym (unrolled l)

kind_alike : (y : StmtKind-F Slot Ty Kinds Stmts) → KindAlike (roll-StmtKind Slot Ty (kind_parts y))
kind_alike y =
    ap (map untyped) (fold-roll-StmtKind Slot Ty (List TypedExpr) (List TypedExpr) kind_values stmt_values
    (kind_parts y))
    ∙ kind_step y ∙ ap values_of_kind (sym (stmt_layer_kept (kind_parts y)))

stmt_alike : (s : TypedStmt) → Alike s
stmt_alike = ind-Stmt Slot Ty KindAlike Alike
    (λ x y is. subst (λ z. KindAlike (roll-StmtKind Slot Ty z)) is (kind_alike y))
    (λ x y is. subst (λ z. Alike (roll-Stmt Slot Ty z)) is (
    let layer : Stmt-F Slot Ty TypedStmtKind TypedStmt = record { kind = y.kind.0; span = y.span } in
    let bare : Stmt-F Slot (Unit {0}) NamedStmtKind NamedStmt = record
    { kind = untyped_stmt_kind y.kind.0; span = y.span } in
    ap (map untyped) (fold-roll-Stmt Slot Ty (List TypedExpr) (List TypedExpr) kind_values stmt_values layer)
    ∙ y.kind.1
    ∙ sym (fold-roll-Stmt Slot (Unit {0}) (List NamedExpr) (List NamedExpr) kind_values stmt_values bare)
    ∙ ap values (sym (stmt_is_kept (untyped_stmt_kind y.kind.0) y.kind.0 y.span refl))))

body_alike : (ss : List TypedStmt) → map untyped (joined (map values ss))
    ≡ joined (map values (map untyped_stmt ss))
body_alike [] = refl
body_alike (s ∷ ss) =
    map-append untyped (values s) (joined (map values ss))
    ∙ ap (λ l. l ++ map untyped (joined (map values ss))) (stmt_alike s)
    ∙ ap (λ l. values (untyped_stmt s) ++ l) (body_alike ss)

functions_alike : (fs : List TypedFunction) → map untyped (joined (map (λ f. joined (map values f.body)) fs))
    ≡ joined (map (λ f. joined (map values f.body)) (map untyped_function fs))
functions_alike [] = refl
functions_alike (f ∷ fs) =
    let rest : List TypedExpr = joined (map (λ f. joined (map values f.body)) fs) in
    map-append untyped (joined (map values f.body)) rest
    ∙ ap (λ l. l ++ map untyped rest) (body_alike f.body)
    ∙ ap (λ l. joined (map values (map untyped_stmt f.body)) ++ l) (functions_alike fs)

pub values_alike : (c : TypedContract) → map untyped (tree_values c) ≡ tree_values (untyped_contract c)
values_alike c = functions_alike c.functions
