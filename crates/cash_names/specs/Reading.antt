-- A tree read from left to right: the tree with slots, or the first fault. The order is the order of the lines.
--
-- No clause of a public function speaks of it.
use Rattle.std.specs.Prelude.{ℕ, Bool, List, [], ◌∷◌, ◌++◌, map, Option, None, Some, Ok, Err}
use Rattle.cash_base.specs.declared.place.Span.{Span}
use Rattle.cash_base.specs.declared.place.Slot.{Slot}
use Rattle.cash_tree.specs.declared.Ty.{Ty}
use Rattle.cash_tree.specs.declared.Param.{Param}
use Rattle.cash_tree.specs.declared.Callee.{Callee}
use Rattle.cash_tree.specs.declared.Callee.TheVariants.{Known, Unknown}
use Rattle.cash_tree.specs.declared.ExprKind.TheVariants as nodes
use Rattle.cash_tree.specs.declared.ExprKind.TheOpen.{ExprKind-F, Expr-F}
use Rattle.cash_tree.specs.declared.ExprKind.TheFolds.{fold-Expr, fold-ExprKind}
use Rattle.cash_tree.specs.declared.StmtKind.{StmtKind}
use Rattle.cash_tree.specs.declared.StmtKind.TheVariants as stmts
use Rattle.cash_tree.specs.declared.StmtKind.TheOpen.{StmtKind-F, Stmt-F}
use Rattle.cash_tree.specs.declared.StmtKind.TheFolds.{fold-Stmt, fold-StmtKind}
use Rattle.name_scopes.specs.declared.fault.NameFault.TheVariants.{UnknownName}
use Rattle.name_scopes.specs.Names.{Names, no_names, opened, most_params, most_functions, most_definitions, slot, slot_at, declared, after, with_variable}
use Rattle.cash_base.specs.Source.{text_at}
use Rattle.name_scopes.specs.Wants.{is_admitted, is_known, is_variable, is_new, has_function, first_refused, granted}
use Rattle.name_scopes.specs.Uses.{Answer, Running, given, check, check_two, introduction}
use Rattle.cash_base.specs.Failing.{◌>>=◌}
use Rattle.cash_names.specs.Expressions.{Expression, Kind, NamedExpr, NamedKind}
use Rattle.cash_names.specs.Outline.{Statement, NamedStmt, NamedStmtKind, FunctionTree, NamedFunction, Tree, NamedTree, slotted, is_without}

-- a part that declares no name
abbrev pub Reading : Type 0 → Type 0
Reading A = Names → Answer A

-- ---- expressions

abbrev pub each_from : {A : Type 0} → List A → List (Reading A) → Reading (List A)
each_from done [] names = Ok done
each_from done (part ∷ parts) names = do
  x ← part names
  each_from (done ++ x ∷ []) parts names

abbrev pub other_reading : {A : Type 0} → Option (Reading A) → Reading (Option A)
other_reading None names = Ok None
other_reading (Some part) names = do
  x ← part names
  Ok (Some x)

abbrev pub callee_reading : Callee → Answer (Unit {0})
callee_reading (Known builtin) = Ok tt
callee_reading (Unknown span) = Err (UnknownName span)

abbrev pub kind_reading : List ℕ → ExprKind-F Span (Unit {0}) (Reading NamedKind) (Reading NamedExpr)
    → Reading NamedKind
kind_reading source (ExprKind-F.Int digits unit) names = Ok (nodes.Int digits unit)
kind_reading source (ExprKind-F.Bool b) names = Ok (nodes.Bool b)
kind_reading source (ExprKind-F.Hex bytes) names = Ok (nodes.Hex bytes)
kind_reading source (ExprKind-F.Text bytes) names = Ok (nodes.Text bytes)
kind_reading source (ExprKind-F.Date seconds) names = Ok (nodes.Date seconds)
kind_reading source (ExprKind-F.Name span) names = do
  s ← given source (is_known names span) (slot_at source names span)
  Ok (nodes.Name s)
kind_reading source (ExprKind-F.Unary op value) names = do
  v ← value names
  Ok (nodes.Unary op v)
kind_reading source (ExprKind-F.Binary op left right) names = do
  l ← left names
  r ← right names
  Ok (nodes.Binary op l r)
kind_reading source (ExprKind-F.Length value) names = do
  v ← value names
  Ok (nodes.Length v)
kind_reading source (ExprKind-F.Reverse value) names = do
  v ← value names
  Ok (nodes.Reverse v)
kind_reading source (ExprKind-F.Split value at) names = do
  v ← value names
  a ← at names
  Ok (nodes.Split v a)
kind_reading source (ExprKind-F.Index pair number) names = do
  p ← pair names
  Ok (nodes.Index p number)
kind_reading source (ExprKind-F.Cast to value size) names = do
  v ← value names
  s ← other_reading size names
  Ok (nodes.Cast to v s)
kind_reading source (ExprKind-F.Call callee args) names = do
  u ← callee_reading callee
  values ← each_from [] args names
  Ok (nodes.Call callee values)
kind_reading source (ExprKind-F.New callee args) names = do
  u ← callee_reading callee
  values ← each_from [] args names
  Ok (nodes.New callee values)
kind_reading source (ExprKind-F.Array items) names = do
  values ← each_from [] items names
  Ok (nodes.Array values)
kind_reading source (ExprKind-F.Look0 look) names = Ok (nodes.Look0 look)
kind_reading source (ExprKind-F.LookAt look index) names = do
  i ← index names
  Ok (nodes.LookAt look i)

abbrev pub expr_reading : Expr-F Span (Unit {0}) (Reading NamedKind) (Reading NamedExpr) → Reading NamedExpr
expr_reading e names = do
  kind ← e.kind names
  Ok (record { kind = kind; ty = tt; span = e.span })

unfoldable pub reading_of : List ℕ → Expression → Reading NamedExpr
reading_of source = fold-Expr Span (Unit {0}) (Reading NamedKind) (Reading NamedExpr) (kind_reading source) expr_reading

unfoldable pub reading_of_kind : List ℕ → Kind → Reading NamedKind
reading_of_kind source =
    fold-ExprKind Span (Unit {0}) (Reading NamedKind) (Reading NamedExpr) (kind_reading source) expr_reading

-- ---- parts that declare names

abbrev pub run_from : {A : Type 0} → List A → List (Running A) → Running (List A)
run_from done [] names = Ok (done, names)
run_from done (part ∷ parts) names = do
  x ← part names
  run_from (done ++ x.0 ∷ []) parts x.1

abbrev pub param_reading : List ℕ → Param Span → Running (Param Slot)
param_reading source p names = do
  x ← introduction source p.name names
  Ok (slotted p x.0.0, x.1)

-- ---- statements

abbrev pub block_reading : List (Running NamedStmt) → Running (List NamedStmt)
block_reading parts names = do
  all ← run_from [] parts names
  Ok (all.0, after names all.1)

-- the block after `else`, where there is one
abbrev pub other_block : Option (List (Running NamedStmt)) → Running (Option (List NamedStmt))
other_block None names = Ok (None, names)
other_block (Some parts) names = do
  all ← block_reading parts names
  Ok (Some all.0, all.1)

-- the name is asked for in front of the value, and declared after it
abbrev pub definition_reading : List ℕ → Span → Bool → Expression → Running (Slot × NamedExpr)
definition_reading source name constant value names = do
  u ← check source (is_new names name)
  v ← reading_of source value names
  Ok ((slot names.next, v), declared (text_at source name) constant names)

abbrev pub pair_reading : List ℕ → Param Span → Param Span → Expression → Running (Param Slot × Param Slot × NamedExpr)
pair_reading source left right value names = do
  u ← check_two source left.name right.name names
  v ← reading_of source value names
  Ok (
    (slotted left names.next, slotted right (with_variable source left.name names).next, v),
    with_variable source right.name (with_variable source left.name names),
  )

abbrev pub kind_of_definition : List ℕ → Ty → Bool → Span → Span → Expression → Running NamedStmtKind
kind_of_definition source ty constant name place value names = do
  x ← definition_reading source name constant value names
  Ok (stmts.Define ty constant x.0.0 place x.0.1, x.1)

abbrev pub kind_of_pair : List ℕ → Param Span → Param Span → Expression → Running NamedStmtKind
kind_of_pair source left right value names = do
  x ← pair_reading source left right value names
  Ok (stmts.Pair x.0.0 x.0.1 x.0.2, x.1)

abbrev pub kind_of_assignment : List ℕ → Span → Expression → Running NamedStmtKind
kind_of_assignment source name value names = do
  s ← given source (is_variable names name) (slot_at source names name)
  v ← reading_of source value names
  Ok (stmts.Assign s v, names)

abbrev pub stmt_kind_reading : List ℕ → StmtKind-F Span (Unit {0}) (Running NamedStmtKind) (Running NamedStmt)
    → Running NamedStmtKind
stmt_kind_reading source (StmtKind-F.Define ty constant name place value) names =
    kind_of_definition source ty constant name place value names
stmt_kind_reading source (StmtKind-F.Pair left right value) names = kind_of_pair source left right value names
stmt_kind_reading source (StmtKind-F.Assign name value) names = kind_of_assignment source name value names
stmt_kind_reading source (StmtKind-F.Time value) names = do
  v ← reading_of source value names
  Ok (stmts.Time v, names)
stmt_kind_reading source (StmtKind-F.Age value) names = do
  v ← reading_of source value names
  Ok (stmts.Age v, names)
stmt_kind_reading source (StmtKind-F.Require value) names = do
  v ← reading_of source value names
  Ok (stmts.Require v, names)
stmt_kind_reading source (StmtKind-F.If test yes_block no_block) names = do
  t ← reading_of source test names
  y ← block_reading yes_block names
  n ← other_block no_block y.1
  Ok (stmts.If t y.0 n.0, n.1)

abbrev pub stmt_reading : Stmt-F Span (Unit {0}) (Running NamedStmtKind) (Running NamedStmt) → Running NamedStmt
stmt_reading s names = do
  kind ← s.kind names
  Ok (record { kind = kind.0; span = s.span }, kind.1)

abbrev pub reading_of_stmt : List ℕ → Statement → Running NamedStmt
reading_of_stmt source =
    fold-Stmt Span (Unit {0}) (Running NamedStmtKind) (Running NamedStmt) (stmt_kind_reading source) stmt_reading

abbrev pub reading_of_stmt_kind : List ℕ → StmtKind Span (Unit {0}) → Running NamedStmtKind
reading_of_stmt_kind source =
    fold-StmtKind Span (Unit {0}) (Running NamedStmtKind) (Running NamedStmt) (stmt_kind_reading source) stmt_reading

-- ---- functions and the contract

abbrev pub function_reading : List ℕ → Names → FunctionTree → Running NamedFunction
function_reading source first f functions = do
  x ← introduction source f.name functions
  ps ← run_from [] (map (param_reading source) f.params) first
  body ← block_reading (map (reading_of_stmt source) f.body) (opened most_definitions ps.1)
  Ok (record { name = f.name; span = f.span; params = ps.0; body = body.0 }, x.1)

abbrev pub functions_reading : List ℕ → Names → List FunctionTree → Answer (List NamedFunction)
functions_reading source first fs = do
  all ← run_from [] (map (function_reading source first) fs) (opened most_functions no_names)
  Ok all.0

abbrev pub tree_reading : List ℕ → Tree → Answer NamedTree
tree_reading source tree = do
  p ← granted (first_refused source (map is_admitted tree.pragmas)) (tt {0})
  ctor ← run_from [] (map (param_reading source) tree.params) (opened most_params no_names)
  fs ← functions_reading source (opened most_params ctor.1) tree.functions
  u ← check source (has_function (is_without tree.functions) tree.span)
  Ok (record { name = tree.name; span = tree.span; pragmas = tree.pragmas; params = ctor.0; functions = fs })
