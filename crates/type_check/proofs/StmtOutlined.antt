-- Reading statements tells the first node that has no type.
use Rattle.std.proofs.Common.{◌≡◌, ◌∙◌, ap, sym, subst, List, [], ◌∷◌, ◌++◌, map, append_assoc}
use Rattle.std.specs.Prelude.{Some, None, Ok}
use Rattle.std.proofs.lemmas.List.{append-nil}
use Rattle.cash_base.specs.declared.place.Span.{Span}
use Rattle.cash_base.specs.declared.place.Slot.{Slot}
use Rattle.cash_base.specs.Failing.{◌>>=◌}
use Rattle.cash_tree.specs.declared.Ty.{Ty}
use Rattle.cash_tree.specs.declared.StmtKind.TheVariants as stmts
use Rattle.cash_tree.specs.declared.StmtKind.TheOpen.{Stmt-F}
use Rattle.cash_tree.specs.declared.StmtKind.TheViews.{roll-Stmt, roll-StmtKind}
use Rattle.cash_tree.specs.declared.StmtKind.TheFolds.{fold-StmtKind, ind-Stmt, fold-roll-Stmt, fold-roll-StmtKind, map-StmtKind}
use Rattle.type_tables.specs.Tables.{Answer, TypedExpr, Env}
use Rattle.type_tables.specs.Places.{first_fault, fault_of, granted}
use Rattle.type_check.specs.Shapes as shapes
use Rattle.type_check.specs.Shapes.{StmtShape, NamedStmt, NamedStmtKind, TypedStmt, TypedStmtKind, NamedExpr, StmtLayer, stmt_shape, stmt_of}
use Rattle.type_check.specs.Outline.{Scopes, run, other, outline_of, stmt_shape_outline, stmt_kind_outline, stmt_outline, outline_of_stmt}
use Rattle.type_check.specs.Reading.{run_from, other_reading, reading_of, stmt_shape_reading, reading_of_stmt, reading_of_stmt_kind}
use Rattle.type_check.proofs.ShapeMaps.{map_stmt_shape, stmt_shape_map}
use Rattle.type_check.proofs.Unfolds.{stmt_layer_read, stmt_read}
use Rattle.type_check.proofs.Outlined.{verdict, both, last, allowed, agrees}

abbrev outline_of_kind : NamedStmtKind → Span → Scopes TypedStmtKind
outline_of_kind = fold-StmtKind Slot (Unit {0}) (Span → Scopes TypedStmtKind) (Scopes TypedStmt) stmt_kind_outline
    stmt_outline

abbrev KindAgrees : NamedStmtKind → Type 0
KindAgrees kind = (span : Span) (env : Env) → reading_of_stmt_kind kind span env
    ≡ verdict (outline_of_kind kind span env)

abbrev pub StmtAgrees : NamedStmt → Type 0
StmtAgrees s = (env : Env) → reading_of_stmt s env ≡ verdict (outline_of_stmt s env)

abbrev Kinds : Type 0
Kinds = (kind : NamedStmtKind) × KindAgrees kind

abbrev pub Stmts : Type 0
Stmts = (s : NamedStmt) × StmtAgrees s

abbrev pub stmts_of : List Stmts → List NamedStmt
stmts_of ss = map (λ s. s.0) ss

pub run_agrees : (ss : List Stmts) (done : List TypedStmt) (env : Env)
    → run_from done (map reading_of_stmt (stmts_of ss)) env
    ≡ granted (first_fault (run (map outline_of_stmt (stmts_of ss)) env).nodes) (
      done ++ (run (map outline_of_stmt (stmts_of ss)) env).value.0,
      (run (map outline_of_stmt (stmts_of ss)) env).value.1,
    )
run_agrees [] done env = ap (λ l. Ok (l, env)) (sym (append-nil done))
run_agrees (s ∷ ss) done env =
    let rest = stmts_of ss in
    let head = outline_of_stmt s.0 env in
    let tail = run (map outline_of_stmt rest) head.value.1 in
    both (reading_of_stmt s.0 env) head (λ x. run_from (done ++ x.0 ∷ []) (map reading_of_stmt rest) x.1) tail.nodes
    (done ++ head.value.0 ∷ tail.value.0, tail.value.1) (s.1 env)
    (run_agrees ss (done ++ head.value.0 ∷ []) head.value.1
    ∙ ap (λ l. granted (first_fault tail.nodes) (l, tail.value.1))
    (append_assoc done (head.value.0 ∷ []) tail.value.0))

abbrev blocks_of : StmtShape Stmts → StmtShape NamedStmt
blocks_of s = map_stmt_shape (λ s. s.0) s

shape_agrees : (s : StmtShape Stmts) (env : Env) → stmt_shape_reading (map_stmt_shape reading_of_stmt (blocks_of s)) env
    ≡ verdict (stmt_shape_outline (map_stmt_shape outline_of_stmt (blocks_of s)) env)
shape_agrees (shapes.simple e make rule after) env =
    let x = outline_of e None env in
    let w : TypedStmtKind × Env = (make x.value, after) in
    both (reading_of e None env) x (λ x. rule x >>= (λ u. Ok (make x, after))) (fault_of (rule x.value) ∷ []) w
    (agrees e None env) (allowed (rule x.value) w)
shape_agrees (shapes.branching test body None rule) env =
    let t = outline_of test None env in
    let ys = map reading_of_stmt (stmts_of body) in
    let y = run (map outline_of_stmt (stmts_of body)) env in
    let r = rule t.value in
    let w : TypedStmtKind × Env = (stmts.If t.value y.value.0 None, y.value.1) in
    both (reading_of test None env) t
    (λ t. run_from [] ys env >>= (λ y. rule t >>= (λ u. Ok (stmts.If t y.0 None, y.1))))
    (y.nodes ++ fault_of r ∷ []) w (agrees test None env)
    (both (run_from [] ys env) y (λ y. rule t.value >>= (λ u. Ok (stmts.If t.value y.0 None, y.1)))
    (fault_of r ∷ []) w (run_agrees body [] env) (allowed r w))
shape_agrees (shapes.branching test body (Some others) rule) env =
    let t = outline_of test None env in
    let ys = map reading_of_stmt (stmts_of body) in
    let ns = map reading_of_stmt (stmts_of others) in
    let y = run (map outline_of_stmt (stmts_of body)) env in
    let n = run (map outline_of_stmt (stmts_of others)) y.value.1 in
    let r = rule t.value in
    let w : TypedStmtKind × Env = (stmts.If t.value y.value.0 (Some n.value.0), n.value.1) in
    both (reading_of test None env) t
    (λ t. run_from [] ys env >>= (λ y. other_reading (Some ns) y.1
    >>= (λ n. rule t >>= (λ u. Ok (stmts.If t y.0 n.0, n.1)))))
    (y.nodes ++ (n.nodes ++ fault_of r ∷ [])) w (agrees test None env)
    (both (run_from [] ys env) y (λ y. other_reading (Some ns) y.1
    >>= (λ n. rule t.value >>= (λ u. Ok (stmts.If t.value y.0 n.0, n.1))))
    (n.nodes ++ fault_of r ∷ []) w (run_agrees body [] env)
    (both (other_reading (Some ns) y.value.1) (other (Some (map outline_of_stmt (stmts_of others))) y.value.1)
    (λ n. rule t.value >>= (λ u. Ok (stmts.If t.value y.value.0 n.0, n.1))) (fault_of r ∷ []) w
    (last (run_from [] ns y.value.1) n (λ b. (Some b.0, b.1)) (run_agrees others [] y.value.1)) (allowed r w)))

abbrev kind_parts : StmtLayer Kinds Stmts → StmtLayer NamedStmtKind NamedStmt
kind_parts = map-StmtKind Slot (Unit {0}) Kinds Stmts NamedStmtKind NamedStmt (λ k. k.0) (λ s. s.0)

kind_step : (y : StmtLayer Kinds Stmts) (span : Span) (env : Env)
    → reading_of_stmt_kind (roll-StmtKind Slot (Unit {0}) (kind_parts y)) span env
    ≡ verdict (outline_of_kind (roll-StmtKind Slot (Unit {0}) (kind_parts y)) span env)
kind_step y span env =
    let parts = stmt_shape_map (λ (k : Kinds). k.0) (λ (s : Stmts). s.0) y span env in
    stmt_layer_read (kind_parts y) span env
    ∙ ap (λ s. stmt_shape_reading (map_stmt_shape reading_of_stmt s) env) parts
    ∙ shape_agrees (stmt_shape y span env) env
    ∙ ap (λ s. verdict (stmt_shape_outline (map_stmt_shape outline_of_stmt s) env)) (sym parts)
    ∙ ap (λ s. verdict (stmt_shape_outline s env))
    (sym (stmt_shape_map outline_of_kind outline_of_stmt (kind_parts y) span env))
    ∙ ap (λ f. verdict (f span env))
    (sym (fold-roll-StmtKind Slot (Unit {0}) (Span → Scopes TypedStmtKind) (Scopes TypedStmt) stmt_kind_outline
    stmt_outline (kind_parts y)))

pub stmt_agrees : (s : NamedStmt) → StmtAgrees s
stmt_agrees = ind-Stmt Slot (Unit {0}) KindAgrees StmtAgrees
    (λ x y is. subst (λ z. KindAgrees (roll-StmtKind Slot (Unit {0}) z)) is (kind_step y))
    (λ x y is. subst (λ z. StmtAgrees (roll-Stmt Slot (Unit {0}) z)) is (λ env.
    let s : Stmt-F Slot (Unit {0}) NamedStmtKind NamedStmt = record { kind = y.kind.0; span = y.span } in
    let make : TypedStmtKind × Env → TypedStmt × Env = (λ k. (stmt_of Ty k.0 y.span, k.1)) in
    stmt_read y.kind.0 y.span env
    ∙ last (reading_of_stmt_kind y.kind.0 y.span env) (outline_of_kind y.kind.0 y.span env) make (y.kind.1 y.span env)
    ∙ ap (λ f. verdict (f env)) (sym
    (fold-roll-Stmt Slot (Unit {0}) (Span → Scopes TypedStmtKind) (Scopes TypedStmt) stmt_kind_outline
    stmt_outline s))))

-- a list of statements
pub all_agree : (ss : List NamedStmt) (done : List TypedStmt) (env : Env)
    → run_from done (map reading_of_stmt ss) env
    ≡ granted (first_fault (run (map outline_of_stmt ss) env).nodes)
    (done ++ (run (map outline_of_stmt ss) env).value.0, (run (map outline_of_stmt ss) env).value.1)
all_agree [] done env = ap (λ l. Ok (l, env)) (sym (append-nil done))
all_agree (s ∷ ss) done env =
    let head = outline_of_stmt s env in
    let tail = run (map outline_of_stmt ss) head.value.1 in
    both (reading_of_stmt s env) head (λ x. run_from (done ++ x.0 ∷ []) (map reading_of_stmt ss) x.1) tail.nodes
    (done ++ head.value.0 ∷ tail.value.0, tail.value.1) (stmt_agrees s env)
    (all_agree ss (done ++ head.value.0 ∷ []) head.value.1
    ∙ ap (λ l. granted (first_fault tail.nodes) (l, tail.value.1))
    (append_assoc done (head.value.0 ∷ []) tail.value.0))
