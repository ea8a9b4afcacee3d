-- A contract read from left to right: the contract with types, or the first fault. The order is the order of the lines.
use Rattle.std.specs.Prelude.{List, [], ◌∷◌, ◌++◌, length, map, Option, Some, None, Ok}
use Rattle.cash_base.specs.declared.place.Span.{Span}
use Rattle.cash_base.specs.declared.place.Slot.{Slot}
use Rattle.cash_base.specs.Failing.{◌>>=◌}
use Rattle.cash_tree.specs.declared.Ty.{Ty}
use Rattle.cash_tree.specs.declared.Expr.{Expr}
use Rattle.cash_tree.specs.declared.ExprKind.TheOpen.{Expr-F}
use Rattle.cash_tree.specs.declared.ExprKind.{ExprKind}
use Rattle.cash_tree.specs.declared.ExprKind.TheFolds.{fold-Expr, fold-ExprKind}
use Rattle.cash_tree.specs.declared.Stmt.{Stmt}
use Rattle.cash_tree.specs.declared.StmtKind.TheVariants as stmts
use Rattle.cash_tree.specs.declared.StmtKind.TheOpen.{Stmt-F}
use Rattle.cash_tree.specs.declared.StmtKind.{StmtKind}
use Rattle.cash_tree.specs.declared.StmtKind.TheFolds.{fold-Stmt, fold-StmtKind}
use Rattle.type_tables.specs.declared.rules.Signature.{Signature}
use Rattle.type_tables.specs.Tables.{Answer, TypedExpr, Env, place_at}
use Rattle.type_check.specs.Shapes as shapes
use Rattle.type_check.specs.Shapes.{Shape, StmtShape, Place, TypedKind, TypedStmt, TypedStmtKind, KindLayer, StmtLayer, shape, stmt_shape, typed, stmt_of, with_params}
use Rattle.type_check.specs.Ends.{final}
use Rattle.type_check.specs.Outline.{Judged, NamedFunction, TypedFunction, NamedContract, TypedContract, function_of, contract_of}

abbrev pub Reading : Type 0 → Type 0
Reading A = Place → Env → Answer A

abbrev pub Running : Type 0 → Type 0
Running A = Env → Answer (A × Env)

-- ---- expressions

-- what is done, and then the rest one after the other
abbrev pub each_from : {A : Type 0} → Signature → List A → List (Reading A) → Env → Answer (List A)
each_from s done [] env = Ok done
each_from s done (part ∷ parts) env = do
  x ← part (place_at s (length done)) env
  each_from s (done ++ x ∷ []) parts env

-- the node itself, whose rule gives its type
abbrev pub with_type : TypedKind → Answer Ty → Answer Judged
with_type kind rule = do
  t ← rule
  Ok (kind, t)

-- the parts, and then the node itself
abbrev pub one : Reading TypedExpr → (TypedExpr → TypedKind) → (TypedExpr → Answer Ty) → Env → Answer Judged
one a make rule env = do
  x ← a None env
  with_type (make x) (rule x)

abbrev pub two : Reading TypedExpr → Reading TypedExpr → (TypedExpr → TypedExpr → TypedKind)
    → (TypedExpr → TypedExpr → Answer Ty) → Env → Answer Judged
two a b make rule env = do
  x ← a None env
  y ← b None env
  with_type (make x y) (rule x y)

abbrev pub many : Signature → List (Reading TypedExpr) → (List TypedExpr → TypedKind) → (List TypedExpr → Answer Ty)
    → Env → Answer Judged
many s parts make rule env = do
  xs ← each_from s [] parts env
  with_type (make xs) (rule xs)

abbrev pub shape_reading : Shape (Reading TypedExpr) → Env → Answer Judged
shape_reading (shapes.leaf kind rule) env = with_type kind rule
shape_reading (shapes.one a make rule) env = one a make rule env
shape_reading (shapes.two a b make rule) env = two a b make rule env
shape_reading (shapes.many s parts make rule) env = many s parts make rule env

abbrev pub kind_reading : KindLayer (Span → Reading Judged) (Reading TypedExpr) → Span → Reading Judged
kind_reading layer span place env = shape_reading (shape layer span place env) env

abbrev pub expr_reading : Expr-F Slot (Unit {0}) (Span → Reading Judged) (Reading TypedExpr) → Reading TypedExpr
expr_reading e place env = do
  kind ← e.kind e.span place env
  Ok (typed kind.0 kind.1 e.span)

unfoldable pub reading_of : Expr Slot (Unit {0}) → Reading TypedExpr
reading_of = fold-Expr Slot (Unit {0}) (Span → Reading Judged) (Reading TypedExpr) kind_reading expr_reading

unfoldable pub reading_of_kind : ExprKind Slot (Unit {0}) → Span → Reading Judged
reading_of_kind = fold-ExprKind Slot (Unit {0}) (Span → Reading Judged) (Reading TypedExpr) kind_reading expr_reading

-- ---- statements

abbrev pub run_from : {A : Type 0} → List A → List (Running A) → Running (List A)
run_from done [] env = Ok (done, env)
run_from done (part ∷ parts) env = do
  x ← part env
  run_from (done ++ x.0 ∷ []) parts x.1

abbrev pub other_reading : {A : Type 0} → Option (List (Running A)) → Running (Option (List A))
other_reading None env = Ok (None, env)
other_reading (Some parts) env = do
  all ← run_from [] parts env
  Ok (Some all.0, all.1)

abbrev pub stmt_shape_reading : StmtShape (Running TypedStmt) → Running TypedStmtKind
stmt_shape_reading (shapes.simple e make rule after) env = do
  x ← reading_of e None env
  u ← rule x
  Ok (make x, after)
stmt_shape_reading (shapes.branching test body others rule) env = do
  t ← reading_of test None env
  y ← run_from [] body env
  n ← other_reading others y.1
  u ← rule t
  Ok (stmts.If t y.0 n.0, n.1)

abbrev pub stmt_kind_reading : StmtLayer (Span → Running TypedStmtKind) (Running TypedStmt) → Span
    → Running TypedStmtKind
stmt_kind_reading layer span env = stmt_shape_reading (stmt_shape layer span env) env

abbrev pub stmt_reading : Stmt-F Slot (Unit {0}) (Span → Running TypedStmtKind) (Running TypedStmt) → Running TypedStmt
stmt_reading s env = do
  kind ← s.kind s.span env
  Ok (stmt_of Ty kind.0 s.span, kind.1)

abbrev pub reading_of_stmt : Stmt Slot (Unit {0}) → Running TypedStmt
reading_of_stmt = fold-Stmt Slot (Unit {0}) (Span → Running TypedStmtKind) (Running TypedStmt) stmt_kind_reading
    stmt_reading

abbrev pub reading_of_stmt_kind : StmtKind Slot (Unit {0}) → Span → Running TypedStmtKind
reading_of_stmt_kind = fold-StmtKind Slot (Unit {0}) (Span → Running TypedStmtKind) (Running TypedStmt)
    stmt_kind_reading stmt_reading

-- ---- functions

abbrev pub function_reading : Env → NamedFunction → Answer TypedFunction
function_reading env f = do
  body ← run_from [] (map reading_of_stmt f.body) (with_params f.params env)
  u ← final f
  Ok (function_of f body.0)

abbrev pub functions_from : Env → List TypedFunction → List NamedFunction → Answer (List TypedFunction)
functions_from env done [] = Ok done
functions_from env done (f ∷ fs) = do
  x ← function_reading env f
  functions_from env (done ++ x ∷ []) fs

abbrev pub contract_reading : NamedContract → Answer TypedContract
contract_reading c = do
  all ← functions_from (with_params c.params []) [] c.functions
  Ok (contract_of c all)
