-- What types a statement, by its line in the table, and what a typed statement leaves and holds, by its layer.
use Rattle.std.proofs.Common.{◌≡◌, ◌∙◌, ap, subst, refl, List, [], ◌∷◌, ◌++◌, Some, None, Ok}
use Rattle.std.specs.List.{AllByRecursion}
use Rattle.cash_base.specs.declared.place.Span.{Span}
use Rattle.cash_base.specs.declared.place.Slot.{Slot}
use Rattle.tx_context.specs.World.{World}
use Rattle.cash_tree.specs.declared.Ty.{Ty}
use Rattle.cash_tree.specs.declared.StmtKind.TheVariants as stmts
use Rattle.cash_tree.specs.declared.StmtKind.TheOpen.{StmtKind-F, Stmt-F}
use Rattle.cash_tree.specs.declared.StmtKind.TheViews.{roll-StmtKind, out-roll-StmtKind}
use Rattle.cash_tree.specs.declared.StmtKind.TheFolds.{fold-StmtKind, fold-roll-Stmt, fold-roll-StmtKind, map-StmtKind}
use Rattle.cash_tree.specs.Nodes.{kind_values, stmt_values, values}
use Rattle.type_tables.specs.Tables.{Answer, TypedExpr, Env as Types}
use Rattle.type_check.specs.Shapes as shapes
use Rattle.type_check.specs.Shapes.{StmtShape, NamedExpr, NamedStmt, NamedStmtKind, TypedStmt, TypedStmtKind, StmtLayer, stmt_shape, opened_stmt, stmt, stmt_of}
use Rattle.type_check.specs.Typing.{HasType, TypesStmt, TypesShape, TypesRun, statement, held, if_only, if_else, done, step}
use Rattle.source_meaning.specs.Meaning.{Doing, stmt_kind_step, stmt_step, kind_leaves, env_after}

-- ---- what types it

pub record Simple (types : Types) (e : NamedExpr) (make : TypedExpr → TypedStmtKind) (rule : TypedExpr → Answer (Unit {0})) (m : TypedStmtKind) : Type 0 where
  pub x : TypedExpr
  pub is : m ≡ make x
  pub has_type : HasType types None e x
  pub allowed : rule x ≡ Ok tt

pub record Alone (types : Types) (e : NamedExpr) (ss : List NamedStmt) (rule : TypedExpr → Answer (Unit {0})) (m : TypedStmtKind) (after : Types) : Type 0 where
  pub x : TypedExpr
  pub ts : List TypedStmt
  pub is : m ≡ stmts.If x ts None
  pub has_type : HasType types None e x
  pub body : TypesRun types ss ts after
  pub allowed : rule x ≡ Ok tt

pub record Both (types : Types) (e : NamedExpr) (ss us : List NamedStmt) (rule : TypedExpr → Answer (Unit {0})) (m : TypedStmtKind) (after : Types) : Type 0 where
  pub x : TypedExpr
  pub ts : List TypedStmt
  pub vs : List TypedStmt
  pub middle : Types
  pub is : m ≡ stmts.If x ts (Some vs)
  pub has_type : HasType types None e x
  pub body : TypesRun types ss ts middle
  pub other : TypesRun middle us vs after
  pub allowed : rule x ≡ Ok tt

abbrev pub Parts : Types → StmtShape NamedStmt → TypedStmtKind → Types → Type 0
Parts types (shapes.simple e make rule later) m after = Simple types e make rule m × (later ≡ after)
Parts types (shapes.branching e ss None rule) m after = Alone types e ss rule m after
Parts types (shapes.branching e ss (Some us) rule) m after = Both types e ss us rule m after

shape_parts : (types : Types) (s : StmtShape NamedStmt) (m : TypedStmtKind) (after : Types) → TypesShape types s m after → Parts types s m after
shape_parts _ _ _ _ (held types after e x make r h is) = (record { x = x; is = refl; has_type = h; allowed = is }, refl)
shape_parts _ _ _ _ (if_only types after e x ss ts r h k is) = record { x = x; ts = ts; is = refl; has_type = h; body = k; allowed = is }
shape_parts _ _ _ _ (if_else types middle after e x ss us ts vs r h k m is) =
    record { x = x; ts = ts; vs = vs; middle = middle; is = refl; has_type = h; body = k; other = m; allowed = is }

-- a typed statement of this layer's kind
pub record StmtParts (types : Types) (layer : StmtLayer NamedStmtKind NamedStmt) (span : Span) (t : TypedStmt) (after : Types) : Type 0 where
  pub kind : TypedStmtKind
  pub is : t ≡ stmt_of Ty kind span
  pub parts : Parts types (stmt_shape layer span types) kind after

opened_parts : (types : Types) (s : NamedStmt) (t : TypedStmt) (after : Types) → TypesStmt types s t after → StmtParts types (opened_stmt s.kind) s.span t after
opened_parts _ _ _ _ (statement types after k m span h) = record { kind = m; is = refl; parts = shape_parts types (stmt_shape (opened_stmt k) span types) m after h }

pub stmt_parts : (types : Types) (layer : StmtLayer NamedStmtKind NamedStmt) (span : Span) (t : TypedStmt) (after : Types)
    → TypesStmt types (stmt (roll-StmtKind Slot (Unit {0}) layer) span) t after → StmtParts types layer span t after
stmt_parts types layer span t after h =
    subst (λ l. StmtParts types l span t after) (out-roll-StmtKind Slot (Unit {0}) layer)
    (opened_parts types (stmt (roll-StmtKind Slot (Unit {0}) layer) span) t after h)

pub record More (types : Types) (s : NamedStmt) (ss : List NamedStmt) (ts : List TypedStmt) (after : Types) : Type 0 where
  pub t : TypedStmt
  pub rest : List TypedStmt
  pub middle : Types
  pub is : ts ≡ t ∷ rest
  pub first : TypesStmt types s t middle
  pub others : TypesRun middle ss rest after

abbrev pub RunParts : Types → List NamedStmt → List TypedStmt → Types → Type 0
RunParts types [] ts after = (ts ≡ []) × (types ≡ after)
RunParts types (s ∷ ss) ts after = More types s ss ts after

pub run_parts : (types : Types) (ss : List NamedStmt) (ts : List TypedStmt) (after : Types) → TypesRun types ss ts after → RunParts types ss ts after
run_parts _ _ _ _ (done types) = (refl, refl)
run_parts _ _ _ _ (step types middle after s ss t ts h hs) = record { t = t; rest = ts; middle = middle; is = refl; first = h; others = hs }

-- ---- what it leaves, and the expressions in it

abbrev pub TypedLayer : Type 0
TypedLayer = StmtKind-F Slot Ty TypedStmtKind TypedStmt

pub leaves : (world : World) (layer : TypedLayer) (span : Span)
    → env_after world (stmt_of Ty (roll-StmtKind Slot Ty layer) span)
    ≡ stmt_kind_step world (map-StmtKind Slot Ty TypedStmtKind TypedStmt (Span → Doing) Doing (kind_leaves world) (env_after world) layer) span
unfolding env_after kind_leaves
leaves world layer span =
    let whole : Stmt-F Slot Ty TypedStmtKind TypedStmt = record { kind = roll-StmtKind Slot Ty layer; span = span } in
    fold-roll-Stmt Slot Ty (Span → Doing) Doing (stmt_kind_step world) stmt_step whole
    ∙ ap (λ f. f span) (fold-roll-StmtKind Slot Ty (Span → Doing) Doing (stmt_kind_step world) stmt_step layer)

abbrev pub kind_values_of : TypedStmtKind → List TypedExpr
kind_values_of = fold-StmtKind Slot Ty (List TypedExpr) (List TypedExpr) kind_values stmt_values

pub holds_values : (layer : TypedLayer) (span : Span)
    → values (stmt_of Ty (roll-StmtKind Slot Ty layer) span)
    ≡ kind_values (map-StmtKind Slot Ty TypedStmtKind TypedStmt (List TypedExpr) (List TypedExpr) kind_values_of values layer)
holds_values layer span =
    let whole : Stmt-F Slot Ty TypedStmtKind TypedStmt = record { kind = roll-StmtKind Slot Ty layer; span = span } in
    fold-roll-Stmt Slot Ty (List TypedExpr) (List TypedExpr) kind_values stmt_values whole
    ∙ fold-roll-StmtKind Slot Ty (List TypedExpr) (List TypedExpr) kind_values stmt_values layer

-- ---- facts of both of two lists

pub apart : {A : Type 0} (P : A → Type 0) (xs ys : List A) → AllByRecursion P (xs ++ ys) → AllByRecursion P xs × AllByRecursion P ys
apart P [] ys h = (tt, h)
apart P (x ∷ xs) ys h = let r = apart P xs ys h.1 in ((h.0, r.0), r.1)
