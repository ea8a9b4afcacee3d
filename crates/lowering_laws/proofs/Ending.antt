-- A typed body ends rightly where the named one does.
use Rattle.std.proofs.Common.{◌≡◌, ◌∙◌, ap, sym, subst, refl, Bool, true, false, List, [], ◌∷◌, map, Some, None}
use Rattle.std.specs.Prelude.{◌&&◌}
use Rattle.cash_base.specs.declared.place.Span.{Span}
use Rattle.cash_base.specs.declared.place.Slot.{Slot}
use Rattle.cash_tree.specs.declared.Ty.{Ty}
use Rattle.cash_tree.specs.declared.StmtKind.TheVariants as stmts
use Rattle.cash_tree.specs.declared.StmtKind.TheOpen.{StmtKind-F, Stmt-F}
use Rattle.cash_tree.specs.declared.StmtKind.TheViews.{roll-StmtKind, roll-out-StmtKind}
use Rattle.cash_tree.specs.declared.StmtKind.TheFolds.{fold-StmtKind, fold-roll-Stmt, fold-roll-StmtKind, map-StmtKind}
use Rattle.type_tables.specs.Tables.{TypedExpr, Env as Types}
use Rattle.type_check.specs.Ends as named
use Rattle.type_check.specs.Shapes as shapes
use Rattle.type_check.specs.Shapes.{StmtShape, NamedExpr, NamedStmt, NamedStmtKind, TypedStmt, TypedStmtKind, StmtLayer, stmt_shape, opened_stmt, stmt, stmt_of}
use Rattle.type_check.specs.Typing.{TypesStmt, TypesShape, TypesRun, statement, held, if_only, if_else, done, step}
use Rattle.slot_lowering.specs.Scoped.{last_of, may_end, may_end_kind, ends_rightly}
use Rattle.slot_lowering.proofs.ScopedSteps as scoped

abbrev Layer : Type 0
Layer = StmtLayer NamedStmtKind NamedStmt

abbrev named_kind_ends : NamedStmtKind → Bool
named_kind_ends = fold-StmtKind Slot (Unit {0}) Bool Bool named.kind_ends named.node_ends

ends_in : Layer → Bool
ends_in l = named.kind_ends (map-StmtKind Slot (Unit {0}) NamedStmtKind NamedStmt Bool Bool named_kind_ends named.may_end l)

of_named : (l : Layer) → named_kind_ends (roll-StmtKind Slot (Unit {0}) l) ≡ ends_in l
unfolding ends_in
of_named l = fold-roll-StmtKind Slot (Unit {0}) Bool Bool named.kind_ends named.node_ends l

whole_named : (k : NamedStmtKind) (span : Span) → named.may_end (stmt k span) ≡ named_kind_ends k
whole_named k span = let l : Stmt-F Slot (Unit {0}) NamedStmtKind NamedStmt = record { kind = k; span = span } in fold-roll-Stmt Slot (Unit {0}) Bool Bool named.kind_ends named.node_ends l

same_last : (b : Bool) (ends : List Bool) → last_of b ends ≡ named.last_of b ends
same_last b [] = refl
same_last b (c ∷ ends) = same_last c ends

-- what a statement is with typed parts ends a path where this is true
abbrev EndsAs : StmtShape NamedStmt → Bool → Type 0
EndsAs (shapes.simple e make rule after) b = (x : TypedExpr) → may_end_kind (make x) ≡ b
EndsAs (shapes.branching e ss None rule) b = (x : TypedExpr) (ts : List TypedStmt) → map may_end ts ≡ map named.may_end ss → may_end_kind (stmts.If x ts None) ≡ b
EndsAs (shapes.branching e ss (Some us) rule) b =
    (x : TypedExpr) (ts vs : List TypedStmt) → map may_end ts ≡ map named.may_end ss → map may_end vs ≡ map named.may_end us → may_end_kind (stmts.If x ts (Some vs)) ≡ b

layer_ends : (l : Layer) (span : Span) (env : Types) → EndsAs (stmt_shape l span env) (ends_in l)
unfolding ends_in
layer_ends (StmtKind-F.Define t constant name place e) span env = λ x. scoped.define_ends t constant name place x
layer_ends (StmtKind-F.Pair left right e) span env = λ x. scoped.pair_ends left right x
layer_ends (StmtKind-F.Assign name e) span env = λ x. scoped.assign_ends name x
layer_ends (StmtKind-F.Time e) span env = λ x. scoped.time_ends x
layer_ends (StmtKind-F.Age e) span env = λ x. scoped.age_ends x
layer_ends (StmtKind-F.Require e) span env = λ x. scoped.require_ends x
layer_ends (StmtKind-F.If e ss None) span env = λ x ts p.
    scoped.if_only_ends x ts ∙ ap (λ c. c && true) (same_last false (map may_end ts) ∙ ap (named.last_of false) p)
layer_ends (StmtKind-F.If e ss (Some us)) span env = λ x ts vs p q.
    scoped.if_else_ends x ts vs ∙ ap (λ c. c && last_of false (map may_end vs)) (same_last false (map may_end ts) ∙ ap (named.last_of false) p)
    ∙ ap (λ c. named.last_of false (map named.may_end ss) && c) (same_last false (map may_end vs) ∙ ap (named.last_of false) q)

kind_ends : (k : NamedStmtKind) (span : Span) (env : Types) → EndsAs (stmt_shape (opened_stmt k) span env) (named_kind_ends k)
kind_ends k span env =
    subst (EndsAs (stmt_shape (opened_stmt k) span env)) (sym (of_named (opened_stmt k)) ∙ ap named_kind_ends (roll-out-StmtKind Slot (Unit {0}) k)) (layer_ends (opened_stmt k) span env)

mutual
  stmt_ends : (env : Types) (s : NamedStmt) (t : TypedStmt) (after : Types) → TypesStmt env s t after → may_end t ≡ named.may_end s
  stmt_ends _ _ _ _ (statement env after k m span h) =
      scoped.whole_ends (stmt_of Ty m span) ∙ shape_ends env (stmt_shape (opened_stmt k) span env) m after (named_kind_ends k) (kind_ends k span env) h ∙ sym (whole_named k span)

  shape_ends : (env : Types) (s : StmtShape NamedStmt) (m : TypedStmtKind) (after : Types) (b : Bool) → EndsAs s b → TypesShape env s m after → may_end_kind m ≡ b
  shape_ends _ _ _ _ b ends (held env after e x make r h is) = ends x
  shape_ends _ _ _ _ b ends (if_only env after e x ss ts r h hs is) = ends x ts (run_ends env ss ts after hs)
  shape_ends _ _ _ _ b ends (if_else env middle after e x ss us ts vs r h hs ks is) = ends x ts vs (run_ends env ss ts middle hs) (run_ends middle us vs after ks)

  run_ends : (env : Types) (ss : List NamedStmt) (ts : List TypedStmt) (after : Types) → TypesRun env ss ts after → map may_end ts ≡ map named.may_end ss
  run_ends _ _ _ _ (done env) = refl
  run_ends _ _ _ _ (step env middle after s ss t ts h hs) =
      ap (λ b. b ∷ map may_end ts) (stmt_ends env s t middle h) ∙ ap (λ bs. named.may_end s ∷ bs) (run_ends middle ss ts after hs)

pub body_ends : (env : Types) (ss : List NamedStmt) (ts : List TypedStmt) (after : Types) → TypesRun env ss ts after → named.ends_rightly ss ≡ true → ends_rightly ts ≡ true
body_ends env ss ts after h ends = same_last false (map may_end ts) ∙ ap (named.last_of false) (run_ends env ss ts after h) ∙ ends
