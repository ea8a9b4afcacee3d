-- A contract without its types: its shape, spans, slots and literals are left.
use Rattle.std.specs.Prelude.{List, map}
use Rattle.cash_base.specs.declared.place.Slot.{Slot}
use Rattle.cash_tree.specs.declared.Ty.{Ty}
use Rattle.cash_tree.specs.declared.ExprKind.TheVariants as exprs
use Rattle.cash_tree.specs.declared.ExprKind.TheOpen.{ExprKind-F, Expr-F}
use Rattle.cash_tree.specs.declared.ExprKind.TheFolds.{fold-Expr}
use Rattle.cash_tree.specs.declared.StmtKind.TheVariants as stmts
use Rattle.cash_tree.specs.declared.StmtKind.TheOpen.{StmtKind-F, Stmt-F}
use Rattle.cash_tree.specs.declared.StmtKind.TheFolds.{fold-Stmt}
use Rattle.type_tables.specs.Tables.{TypedExpr}
use Rattle.type_check.specs.Shapes.{NamedExpr, NamedKind, NamedStmt, NamedStmtKind, TypedStmt, expr, stmt}
use Rattle.type_check.specs.Outline.{NamedFunction, TypedFunction, NamedContract, TypedContract}

abbrev pub kind_untyped : ExprKind-F Slot Ty NamedKind NamedExpr → NamedKind
kind_untyped (ExprKind-F.Int digits unit) = exprs.Int digits unit
kind_untyped (ExprKind-F.Bool b) = exprs.Bool b
kind_untyped (ExprKind-F.Hex bytes) = exprs.Hex bytes
kind_untyped (ExprKind-F.Text bytes) = exprs.Text bytes
kind_untyped (ExprKind-F.Date seconds) = exprs.Date seconds
kind_untyped (ExprKind-F.Name slot) = exprs.Name slot
kind_untyped (ExprKind-F.Unary op a) = exprs.Unary op a
kind_untyped (ExprKind-F.Binary op a b) = exprs.Binary op a b
kind_untyped (ExprKind-F.Length a) = exprs.Length a
kind_untyped (ExprKind-F.Reverse a) = exprs.Reverse a
kind_untyped (ExprKind-F.Split a b) = exprs.Split a b
kind_untyped (ExprKind-F.Index a number) = exprs.Index a number
kind_untyped (ExprKind-F.Cast to a size) = exprs.Cast to a size
kind_untyped (ExprKind-F.Call callee args) = exprs.Call callee args
kind_untyped (ExprKind-F.New callee args) = exprs.New callee args
kind_untyped (ExprKind-F.Array parts) = exprs.Array parts
kind_untyped (ExprKind-F.Look0 look) = exprs.Look0 look
kind_untyped (ExprKind-F.LookAt look a) = exprs.LookAt look a

abbrev pub expr_untyped : Expr-F Slot Ty NamedKind NamedExpr → NamedExpr
expr_untyped e = expr e.kind e.span

abbrev pub untyped : TypedExpr → NamedExpr
untyped = fold-Expr Slot Ty NamedKind NamedExpr kind_untyped expr_untyped

abbrev pub stmt_kind_untyped : StmtKind-F Slot Ty NamedStmtKind NamedStmt → NamedStmtKind
stmt_kind_untyped (StmtKind-F.Define t constant name place e) = stmts.Define t constant name place (untyped e)
stmt_kind_untyped (StmtKind-F.Pair left right e) = stmts.Pair left right (untyped e)
stmt_kind_untyped (StmtKind-F.Assign name e) = stmts.Assign name (untyped e)
stmt_kind_untyped (StmtKind-F.Time e) = stmts.Time (untyped e)
stmt_kind_untyped (StmtKind-F.Age e) = stmts.Age (untyped e)
stmt_kind_untyped (StmtKind-F.Require e) = stmts.Require (untyped e)
stmt_kind_untyped (StmtKind-F.If test body others) = stmts.If (untyped test) body others

abbrev pub stmt_untyped : Stmt-F Slot Ty NamedStmtKind NamedStmt → NamedStmt
stmt_untyped s = stmt s.kind s.span

abbrev pub untyped_stmt : TypedStmt → NamedStmt
untyped_stmt = fold-Stmt Slot Ty NamedStmtKind NamedStmt stmt_kind_untyped stmt_untyped

-- the function with these statements
abbrev pub untyped_with : TypedFunction → List NamedStmt → NamedFunction
untyped_with f body = record { name = f.name; span = f.span; params = f.params; body = body }

abbrev pub untyped_function : TypedFunction → NamedFunction
untyped_function f = untyped_with f (map untyped_stmt f.body)

-- the contract with these functions
abbrev pub untyped_contract_with : TypedContract → List NamedFunction → NamedContract
untyped_contract_with c functions =
    record { name = c.name; span = c.span; pragmas = c.pragmas; params = c.params; functions = functions }

abbrev pub untyped_contract : TypedContract → NamedContract
untyped_contract c = untyped_contract_with c (map untyped_function c.functions)
