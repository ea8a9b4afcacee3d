-- Reading statements gives exactly what types them.
use Rattle.std.proofs.Common.{◌≡◌, ◌∙◌, ap, sym, subst, refl, List, [], ◌∷◌, ◌++◌, map, append_assoc}
use Rattle.std.specs.Prelude.{Option, Some, None, Ok, Err}
use Rattle.std.proofs.lemmas.List.{append-nil}
use Rattle.cash_base.specs.declared.place.Span.{Span}
use Rattle.cash_base.specs.declared.place.Slot.{Slot}
use Rattle.cash_base.specs.Failing.{◌>>=◌}
use Rattle.cash_tree.specs.declared.Ty.{Ty}
use Rattle.cash_tree.specs.declared.StmtKind.TheVariants as stmts
use Rattle.cash_tree.specs.declared.StmtKind.TheOpen.{Stmt-F}
use Rattle.cash_tree.specs.declared.StmtKind.TheViews.{roll-Stmt, roll-StmtKind, out-roll-StmtKind}
use Rattle.cash_tree.specs.declared.StmtKind.TheFolds.{ind-Stmt, map-StmtKind}
use Rattle.type_tables.specs.Tables.{Answer, TypedExpr, Env}
use Rattle.type_check.specs.Shapes as shapes
use Rattle.type_check.specs.Shapes.{StmtShape, NamedExpr, NamedStmt, NamedStmtKind, TypedStmt, TypedStmtKind, StmtLayer, stmt_shape, opened_stmt, stmt, stmt_of}
use Rattle.type_check.specs.Reading.{run_from, other_reading, reading_of, stmt_shape_reading, reading_of_stmt, reading_of_stmt_kind}
use Rattle.type_check.specs.Typing.{HasType, TypesStmt, TypesShape, TypesRun, statement, held, if_only, if_else, done, step}
use Rattle.type_check.proofs.ShapeMaps.{map_stmt_shape, stmt_shape_map}
use Rattle.type_check.proofs.Unfolds.{stmt_layer_read, stmt_kind_read, stmt_read}
use Rattle.type_check.proofs.Typed.{complete, sound, ok_bind, ok_inner, ok_same, via}

-- ---- what has a type is read

-- the statements after `else`, which are there
abbrev others_of : Answer (List TypedStmt × Env) → Answer (Option (List TypedStmt) × Env)
others_of r = r >>= (λ all. Ok (Some all.0, all.1))

mutual
  pub stmt_complete : (env : Env) (s : NamedStmt) (t : TypedStmt) (after : Env) → TypesStmt env s t after
      → reading_of_stmt s env ≡ Ok (t, after)
  stmt_complete _ _ _ _ (statement env after k m span h) =
      stmt_read k span env
      ∙ ap (λ r. r >>= (λ j. Ok (stmt_of Ty j.0 span, j.1)))
      (stmt_kind_read k span env ∙ shape_complete env (stmt_shape (opened_stmt k) span env) m after h)

  shape_complete : (env : Env) (s : StmtShape NamedStmt) (m : TypedStmtKind) (after : Env) → TypesShape env s m after
      → stmt_shape_reading (map_stmt_shape reading_of_stmt s) env ≡ Ok (m, after)
  shape_complete _ _ _ _ (held env after e x make r h is) =
      ap (λ p. p >>= (λ x. r x >>= (λ u. Ok (make x, after)))) (complete env None e x h)
      ∙ ap (λ p. p >>= (λ u. Ok (make x, after))) is
  shape_complete _ _ _ _ (if_only env after e x ss ts r h k is) =
      ap (λ p. p >>= (λ t. run_from [] (map reading_of_stmt ss) env
      >>= (λ y. r t >>= (λ u. Ok (stmts.If t y.0 None, y.1))))) (complete env None e x h)
      ∙ ap (λ p. p >>= (λ y. r x >>= (λ u. Ok (stmts.If x y.0 None, y.1)))) (run_complete env ss ts after k [])
      ∙ ap (λ p. p >>= (λ u. Ok (stmts.If x ts None, after))) is
  shape_complete _ _ _ _ (if_else env middle after e x ss us ts vs r h k m is) =
      let ns = map reading_of_stmt us in
      ap (λ p. p >>= (λ t. run_from [] (map reading_of_stmt ss) env >>= (λ y. other_reading (Some ns) y.1
      >>= (λ n. r t >>= (λ u. Ok (stmts.If t y.0 n.0, n.1)))))) (complete env None e x h)
      ∙ ap (λ p. p >>= (λ y. other_reading (Some ns) y.1
      >>= (λ n. r x >>= (λ u. Ok (stmts.If x y.0 n.0, n.1))))) (run_complete env ss ts middle k [])
      ∙ ap (λ p. others_of p >>= (λ n. r x >>= (λ u. Ok (stmts.If x ts n.0, n.1))))
      (run_complete middle us vs after m [])
      ∙ ap (λ p. p >>= (λ u. Ok (stmts.If x ts (Some vs), after))) is

  pub run_complete : (env : Env) (ss : List NamedStmt) (ts : List TypedStmt) (after : Env) → TypesRun env ss ts after
      → (before : List TypedStmt) → run_from before (map reading_of_stmt ss) env ≡ Ok (before ++ ts, after)
  run_complete _ _ _ _ (done env) before =
      ap (λ l. Ok (l, env)) (sym (append-nil before))
  run_complete _ _ _ _ (step env middle after s ss t ts h hs) before =
      ap (λ r. r >>= (λ x. run_from (before ++ x.0 ∷ []) (map reading_of_stmt ss) x.1))
      (stmt_complete env s t middle h)
      ∙ run_complete middle ss ts after hs (before ++ t ∷ [])
      ∙ ap (λ l. Ok (l, after)) (append_assoc before (t ∷ []) ts)

-- ---- what is read has a type

-- a rule that gives nothing
granted_by : {B : Type 0} (r : Answer (Unit {0})) (w z : B) → (r >>= (λ u. Ok w)) ≡ Ok z → (r ≡ Ok tt) × (w ≡ z)
granted_by (Ok u) w z e = (refl, ok_same w z e)
granted_by (Err f) w z e = let others : ⊥ = cc in absurd others

abbrev KindSound : NamedStmtKind → Type 0
KindSound kind = (env : Env) (k : TypedStmtKind × Env) (span : Span) → reading_of_stmt_kind kind span env ≡ Ok k
    → TypesShape env (stmt_shape (opened_stmt kind) span env) k.0 k.1

abbrev pub StmtSound : NamedStmt → Type 0
StmtSound s = (env : Env) (t : TypedStmt × Env) → reading_of_stmt s env ≡ Ok t → TypesStmt env s t.0 t.1

abbrev Kinds : Type 0
Kinds = (kind : NamedStmtKind) × KindSound kind

abbrev Stmts : Type 0
Stmts = (s : NamedStmt) × StmtSound s

abbrev stmts_of : List Stmts → List NamedStmt
stmts_of ss = map (λ s. s.0) ss

abbrev kind_parts : StmtLayer Kinds Stmts → StmtLayer NamedStmtKind NamedStmt
kind_parts = map-StmtKind Slot (Unit {0}) Kinds Stmts NamedStmtKind NamedStmt (λ k. k.0) (λ s. s.0)

abbrev blocks_of : StmtShape Stmts → StmtShape NamedStmt
blocks_of s = map_stmt_shape (λ s. s.0) s

run_sound : (ss : List Stmts) (before : List TypedStmt) (env : Env) (z : List TypedStmt × Env)
    → run_from before (map reading_of_stmt (stmts_of ss)) env ≡ Ok z
    → (ts : List TypedStmt) × (z.0 ≡ before ++ ts) × TypesRun env (stmts_of ss) ts z.1
run_sound [] before env z e =
    let is = ok_inner z (before, env) (Ok (before, env)) e refl in
    ([], ap (λ p. p.0) is ∙ sym (append-nil before), subst (λ p. TypesRun env [] [] p.1) (sym is) (done env))
run_sound (s ∷ ss) before env z is =
    let rest = stmts_of ss in
    let b = ok_bind (reading_of_stmt s.0 env) (λ x. run_from (before ++ x.0 ∷ []) (map reading_of_stmt rest) x.1) z
    is in
    let r = run_sound ss (before ++ b.0.0 ∷ []) b.0.1 z b.2 in (
      b.0.0 ∷ r.0,
      r.1 ∙ append_assoc before (b.0.0 ∷ []) r.0,
      step env b.0.1 z.1 s.0 rest b.0.0 r.0 (s.1 env b.0 b.1)
          r.2,
    )

-- from the first on, the typed ones are what was read
from_first : (ss : List Stmts) (env : Env) (z : List TypedStmt × Env)
    → run_from [] (map reading_of_stmt (stmts_of ss)) env ≡ Ok z → TypesRun env (stmts_of ss) z.0 z.1
from_first ss env z e =
    let r = run_sound ss [] env z e in
    subst (λ ts. TypesRun env (stmts_of ss) ts z.1) (sym r.1) r.2

shape_sound : (s : StmtShape Stmts) (env : Env) (k : TypedStmtKind × Env)
    → stmt_shape_reading (map_stmt_shape reading_of_stmt (blocks_of s)) env ≡ Ok k
    → TypesShape env (blocks_of s) k.0 k.1
shape_sound (shapes.simple e make r after) env k is =
    let p = ok_bind (reading_of e None env) (λ x. r x >>= (λ u. Ok (make x, after))) k is in
    let made : TypedStmtKind × Env = (make p.0, after) in
    let q = granted_by (r p.0) made k p.2 in
    subst (λ k. TypesShape env (shapes.simple e make r after) k.0 k.1) {x = made} q.1
    (held env after e p.0 make r (sound e env None p.0 p.1) q.0)
shape_sound (shapes.branching e body None rule) env k is =
    let ys = map reading_of_stmt (stmts_of body) in
    let p = ok_bind (reading_of e None env)
    (λ t. run_from [] ys env >>= (λ y. rule t >>= (λ u. Ok (stmts.If t y.0 None, y.1)))) k is in
    let q = ok_bind (run_from [] ys env) (λ y. rule p.0 >>= (λ u. Ok (stmts.If p.0 y.0 None, y.1))) k p.2 in
    let z : TypedStmtKind × Env = (stmts.If p.0 q.0.0 None, q.0.1) in
    let r = granted_by (rule p.0) z k q.2 in
    subst (λ k. TypesShape env (shapes.branching e (stmts_of body) None rule) k.0 k.1) {x = z} r.1
    (if_only env q.0.1 e p.0 (stmts_of body) q.0.0 rule (sound e env None p.0 p.1) (from_first body env q.0 q.1)
    r.0)
shape_sound (shapes.branching e body (Some others) rule) env k is =
    let ys = map reading_of_stmt (stmts_of body) in
    let ns = map reading_of_stmt (stmts_of others) in
    let p = ok_bind (reading_of e None env)
    (λ t. run_from [] ys env >>= (λ y. other_reading (Some ns) y.1
    >>= (λ n. rule t >>= (λ u. Ok (stmts.If t y.0 n.0, n.1))))) k is in
    let q = ok_bind (run_from [] ys env)
    (λ y. other_reading (Some ns) y.1 >>= (λ n. rule p.0 >>= (λ u. Ok (stmts.If p.0 y.0 n.0, n.1)))) k p.2 in
    let r = ok_bind (other_reading (Some ns) q.0.1)
    (λ n. rule p.0 >>= (λ u. Ok (stmts.If p.0 q.0.0 n.0, n.1))) k q.2 in
    let o = ok_bind (run_from [] ns q.0.1) (λ b. Ok (Some b.0, b.1)) r.0 r.1 in
    let n : Option (List TypedStmt) × Env = (Some o.0.0, o.0.1) in
    let made = ok_same n r.0 o.2 in
    let y : TypedStmtKind × Env = (stmts.If p.0 q.0.0 r.0.0, r.0.1) in
    let z : TypedStmtKind × Env = (stmts.If p.0 q.0.0 (Some o.0.0), o.0.1) in
    let s = granted_by (rule p.0) y k r.2 in
    subst (λ k. TypesShape env (shapes.branching e (stmts_of body) (Some (stmts_of others)) rule) k.0 k.1) {x = z}
    (via (λ n. (stmts.If p.0 q.0.0 n.0, n.1)) n r.0 k made s.1)
    (if_else env q.0.1 o.0.1 e p.0 (stmts_of body) (stmts_of others) q.0.0 o.0.0 rule (sound e env None p.0 p.1)
    (from_first body env q.0 q.1) (from_first others q.0.1 o.0 o.1) s.0)

kind_step : (y : StmtLayer Kinds Stmts) → KindSound (roll-StmtKind Slot (Unit {0}) (kind_parts y))
kind_step y env z span e =
    let parts = stmt_shape_map (λ (k : Kinds). k.0) (λ (s : Stmts). s.0) y span env in
    subst (λ l. TypesShape env (stmt_shape l span env) z.0 z.1)
    (sym (out-roll-StmtKind Slot (Unit {0}) (kind_parts y)))
    (subst (λ s. TypesShape env s z.0 z.1) (sym parts)
    (shape_sound (stmt_shape y span env) env z
    (sym (stmt_layer_read (kind_parts y) span env
    ∙ ap (λ s. stmt_shape_reading (map_stmt_shape reading_of_stmt s) env) parts) ∙ e)))

pub stmt_sound : (s : NamedStmt) → StmtSound s
stmt_sound = ind-Stmt Slot (Unit {0}) KindSound StmtSound
    (λ x y is. subst (λ z. KindSound (roll-StmtKind Slot (Unit {0}) z)) is (kind_step y))
    (λ x y is. subst (λ z. StmtSound (roll-Stmt Slot (Unit {0}) z)) is (λ env t e.
    let make : TypedStmtKind × Env → TypedStmt × Env = (λ k. (stmt_of Ty k.0 y.span, k.1)) in
    let b = ok_bind (reading_of_stmt_kind y.kind.0 y.span env) (λ k. Ok (make k)) t
    (sym (stmt_read y.kind.0 y.span env) ∙ e) in
    subst (λ t. TypesStmt env (stmt y.kind.0 y.span) t.0 t.1) (ok_same (make b.0) t b.2)
    (statement env b.0.1 y.kind.0 b.0.0 y.span (y.kind.1 env b.0 y.span b.1))))

-- a list of statements
pub all_sound : (ss : List NamedStmt) (before : List TypedStmt) (env : Env) (z : List TypedStmt × Env)
    → run_from before (map reading_of_stmt ss) env ≡ Ok z
    → (ts : List TypedStmt) × (z.0 ≡ before ++ ts) × TypesRun env ss ts z.1
all_sound [] before env z e =
    let is = ok_inner z (before, env) (Ok (before, env)) e refl in
    ([], ap (λ p. p.0) is ∙ sym (append-nil before), subst (λ p. TypesRun env [] [] p.1) (sym is) (done env))
all_sound (s ∷ ss) before env z is =
    let b = ok_bind (reading_of_stmt s env) (λ x. run_from (before ++ x.0 ∷ []) (map reading_of_stmt ss) x.1) z is in
    let r = all_sound ss (before ++ b.0.0 ∷ []) b.0.1 z b.2 in (
      b.0.0 ∷ r.0,
      r.1 ∙ append_assoc before (b.0.0 ∷ []) r.0,
      step env b.0.1 z.1 s ss b.0.0 r.0
          (stmt_sound s env b.0 b.1) r.2,
    )
