-- What is read of a kind, by its line in the table.
use Rattle.std.proofs.Common.{◌≡◌, ◌∙◌, ap, sym, ℕ, ℤ, Bool, List, map, length}
use Rattle.std.specs.Prelude.{Some, None, Ok, Result}
use Rattle.cash_base.specs.declared.place.Span.{Span}
use Rattle.cash_base.specs.declared.place.Slot.{Slot}
use Rattle.cash_base.specs.Failing.{◌>>=◌}
use Rattle.cash_tree.specs.declared.Ty.{Ty}
use Rattle.cash_tree.specs.declared.Ty.TheVariants as ty
use Rattle.cash_base.specs.declared.look.Look0.{Look0}
use Rattle.cash_base.specs.declared.look.LookAt.{LookAt}
use Rattle.cash_tree.specs.declared.UnaryOp.{UnaryOp}
use Rattle.cash_tree.specs.declared.BinaryOp.{BinaryOp}
use Rattle.cash_tree.specs.declared.Callee.{Callee}
use Rattle.cash_tree.specs.declared.ExprKind.TheVariants as exprs
use Rattle.cash_tree.specs.declared.ExprKind.TheOpen.{ExprKind-F, Expr-F}
use Rattle.cash_tree.specs.declared.ExprKind.TheViews.{roll-ExprKind, roll-out-ExprKind}
use Rattle.cash_tree.specs.declared.ExprKind.TheFolds.{fold-roll-Expr, fold-roll-ExprKind}
use Rattle.cash_tree.specs.declared.StmtKind.TheVariants as stmts
use Rattle.cash_tree.specs.declared.StmtKind.TheOpen.{StmtKind-F, Stmt-F}
use Rattle.cash_tree.specs.declared.StmtKind.TheViews.{roll-StmtKind, roll-out-StmtKind}
use Rattle.cash_tree.specs.declared.StmtKind.TheFolds.{fold-roll-Stmt, fold-roll-StmtKind}
use Rattle.type_tables.specs.Tables.{TypedExpr, Env, number_type, date_type, hex_type, text_type, type_at, unary_type, binary_type, length_type, reverse_type, split_type, literal_of, index_type, cast_type, sized_cast_type, nothing, signature, call_type, array_type, look0_type, look_at_type, suits}
use Rattle.type_check.specs.Shapes as shapes
use Rattle.type_check.specs.Shapes.{Place, types, NamedExpr, NamedKind, NamedStmt, NamedStmtKind, TypedStmt, TypedStmtKind, KindLayer, StmtLayer, shape, stmt_shape, opened, opened_stmt, expr, typed, stmt, stmt_of}
use Rattle.type_check.specs.Outline.{Judged}
use Rattle.type_check.specs.Reading.{Reading, Running, with_type, one, two, many, shape_reading, kind_reading, expr_reading, reading_of, reading_of_kind, stmt_shape_reading, stmt_kind_reading, stmt_reading, reading_of_stmt, reading_of_stmt_kind}
use Rattle.type_check.proofs.ShapeMaps.{map_shape, shape_map, map_stmt_shape, stmt_shape_map}

-- ---- expressions

-- the kind of a layer
pub layer_read : (layer : KindLayer NamedKind NamedExpr) (span : Span) (place : Place) (env : Env)
    → reading_of_kind (roll-ExprKind Slot (Unit {0}) layer) span place env
    ≡ shape_reading (map_shape reading_of (shape layer span place env)) env
unfolding reading_of reading_of_kind
layer_read layer span place env =
    ap (λ f. f span place env) (fold-roll-ExprKind Slot (Unit {0}) (Span → Reading Judged) (Reading TypedExpr)
    kind_reading expr_reading layer)
    ∙ ap (λ s. shape_reading s env) (shape_map reading_of_kind reading_of layer span place env)

pub kind_read : (k : NamedKind) (span : Span) (place : Place) (env : Env)
    → reading_of_kind k span place env
    ≡ shape_reading (map_shape reading_of (shape (opened k) span place env)) env
kind_read k span place env =
    ap (λ k. reading_of_kind k span place env) (sym (roll-out-ExprKind Slot (Unit {0}) k))
    ∙ layer_read (opened k) span place env

pub expr_read : (k : NamedKind) (span : Span) (place : Place) (env : Env)
    → reading_of (expr k span) place env
    ≡ (reading_of_kind k span place env >>= (λ j. Ok (typed j.0 j.1 span)))
unfolding reading_of reading_of_kind
expr_read k span place env =
    let layer : Expr-F Slot (Unit {0}) NamedKind NamedExpr = record { kind = k; ty = tt; span = span } in
    ap (λ f. f place env) (fold-roll-Expr Slot (Unit {0}) (Span → Reading Judged) (Reading TypedExpr) kind_reading
    expr_reading layer)

-- Each kind by its line in the table, for the code: the search sees no definition by a fold.

pub bool_read : (b : Bool) (span : Span) (place : Place) (env : Env)
    → reading_of_kind (exprs.Bool b) span place env
    ≡ with_type (exprs.Bool b) (Ok ty.Bool)
unfolding roll-ExprKind denote.Hole.Carrier.roll
bool_read b span place env =
    let layer : KindLayer NamedKind NamedExpr = ExprKind-F.Bool b in layer_read layer span place env

pub hex_read : (bytes : List ℕ) (span : Span) (place : Place) (env : Env)
    → reading_of_kind (exprs.Hex bytes) span place env
    ≡ with_type (exprs.Hex bytes) (hex_type span (length bytes))
unfolding roll-ExprKind denote.Hole.Carrier.roll
hex_read bytes span place env =
    let layer : KindLayer NamedKind NamedExpr = ExprKind-F.Hex bytes in layer_read layer span place env

pub text_read : (bytes : List ℕ) (span : Span) (place : Place) (env : Env)
    → reading_of_kind (exprs.Text bytes) span place env
    ≡ with_type (exprs.Text bytes) (text_type span (length bytes))
unfolding roll-ExprKind denote.Hole.Carrier.roll
text_read bytes span place env =
    let layer : KindLayer NamedKind NamedExpr = ExprKind-F.Text bytes in layer_read layer span place env

pub int_read : (digits unit : ℕ) (span : Span) (place : Place) (env : Env)
    → reading_of_kind (exprs.Int digits unit) span place env
    ≡ with_type (exprs.Int digits unit) (number_type span digits unit)
unfolding roll-ExprKind denote.Hole.Carrier.roll
int_read digits unit span place env =
    let layer : KindLayer NamedKind NamedExpr = ExprKind-F.Int digits unit in layer_read layer span place env

pub date_read : (seconds : ℤ) (span : Span) (place : Place) (env : Env)
    → reading_of_kind (exprs.Date seconds) span place env
    ≡ with_type (exprs.Date seconds) (date_type span seconds)
unfolding roll-ExprKind denote.Hole.Carrier.roll
date_read seconds span place env =
    let layer : KindLayer NamedKind NamedExpr = ExprKind-F.Date seconds in layer_read layer span place env

pub name_read : (slot : Slot) (span : Span) (place : Place) (env : Env)
    → reading_of_kind (exprs.Name slot) span place env
    ≡ with_type (exprs.Name slot) (Ok (type_at slot env))
unfolding roll-ExprKind denote.Hole.Carrier.roll
name_read slot span place env =
    let layer : KindLayer NamedKind NamedExpr = ExprKind-F.Name slot in layer_read layer span place env

pub unary_read : (op : UnaryOp) (a : NamedExpr) (span : Span) (place : Place) (env : Env)
    → reading_of_kind (exprs.Unary op a) span place env
    ≡ one (reading_of a) (exprs.Unary op) (λ x. unary_type span op x.ty) env
unfolding roll-ExprKind denote.Hole.Carrier.roll
unary_read op a span place env =
    let layer : KindLayer NamedKind NamedExpr = ExprKind-F.Unary op a in layer_read layer span place env

pub binary_read : (op : BinaryOp) (a b : NamedExpr) (span : Span) (place : Place) (env : Env)
    → reading_of_kind (exprs.Binary op a b) span place env
    ≡ two (reading_of a) (reading_of b) (exprs.Binary op) (λ x y. binary_type span op x.ty y.ty) env
unfolding roll-ExprKind denote.Hole.Carrier.roll
binary_read op a b span place env =
    let layer : KindLayer NamedKind NamedExpr = ExprKind-F.Binary op a b in layer_read layer span place env

pub length_read : (a : NamedExpr) (span : Span) (place : Place) (env : Env)
    → reading_of_kind (exprs.Length a) span place env
    ≡ one (reading_of a) exprs.Length (λ x. length_type span x.ty) env
unfolding roll-ExprKind denote.Hole.Carrier.roll
length_read a span place env =
    let layer : KindLayer NamedKind NamedExpr = ExprKind-F.Length a in layer_read layer span place env

pub reverse_read : (a : NamedExpr) (span : Span) (place : Place) (env : Env)
    → reading_of_kind (exprs.Reverse a) span place env
    ≡ one (reading_of a) exprs.Reverse (λ x. reverse_type span x.ty) env
unfolding roll-ExprKind denote.Hole.Carrier.roll
reverse_read a span place env =
    let layer : KindLayer NamedKind NamedExpr = ExprKind-F.Reverse a in layer_read layer span place env

pub split_read : (a b : NamedExpr) (span : Span) (place : Place) (env : Env)
    → reading_of_kind (exprs.Split a b) span place env
    ≡ two (reading_of a) (reading_of b) exprs.Split (λ x y. split_type span x.ty y.ty (literal_of y)) env
unfolding roll-ExprKind denote.Hole.Carrier.roll
split_read a b span place env =
    let layer : KindLayer NamedKind NamedExpr = ExprKind-F.Split a b in layer_read layer span place env

pub index_read : (a : NamedExpr) (number : ℕ) (span : Span) (place : Place) (env : Env)
    → reading_of_kind (exprs.Index a number) span place env
    ≡ one (reading_of a) (λ x. exprs.Index x number) (λ x. index_type span number x.ty) env
unfolding roll-ExprKind denote.Hole.Carrier.roll
index_read a number span place env =
    let layer : KindLayer NamedKind NamedExpr = ExprKind-F.Index a number in layer_read layer span place env

pub cast_read : (to : Ty) (a : NamedExpr) (span : Span) (place : Place) (env : Env)
    → reading_of_kind (exprs.Cast to a None) span place env
    ≡ one (reading_of a) (λ x. exprs.Cast to x None) (λ x. cast_type span to x.ty) env
unfolding roll-ExprKind denote.Hole.Carrier.roll
cast_read to a span place env =
    let layer : KindLayer NamedKind NamedExpr = ExprKind-F.Cast to a None in layer_read layer span place env

pub sized_cast_read : (to : Ty) (a b : NamedExpr) (span : Span) (place : Place) (env : Env)
    → reading_of_kind (exprs.Cast to a (Some b)) span place env
    ≡ two (reading_of a) (reading_of b) (λ x y. exprs.Cast to x (Some y))
    (λ x y. sized_cast_type span to x.ty y.ty) env
unfolding roll-ExprKind denote.Hole.Carrier.roll
sized_cast_read to a b span place env =
    let layer : KindLayer NamedKind NamedExpr = ExprKind-F.Cast to a (Some b) in layer_read layer span place env

pub call_read : (callee : Callee) (args : List NamedExpr) (span : Span) (place : Place) (env : Env)
    → reading_of_kind (exprs.Call callee args) span place env
    ≡ many (signature callee) (map reading_of args) (exprs.Call callee) (call_type span callee) env
unfolding roll-ExprKind denote.Hole.Carrier.roll
call_read callee args span place env =
    let layer : KindLayer NamedKind NamedExpr = ExprKind-F.Call callee args in layer_read layer span place env

pub new_read : (callee : Callee) (args : List NamedExpr) (span : Span) (place : Place) (env : Env)
    → reading_of_kind (exprs.New callee args) span place env
    ≡ many (signature callee) (map reading_of args) (exprs.New callee) (call_type span callee) env
unfolding roll-ExprKind denote.Hole.Carrier.roll
new_read callee args span place env =
    let layer : KindLayer NamedKind NamedExpr = ExprKind-F.New callee args in layer_read layer span place env

pub array_read : (parts : List NamedExpr) (span : Span) (place : Place) (env : Env)
    → reading_of_kind (exprs.Array parts) span place env
    ≡ many nothing (map reading_of parts) exprs.Array (λ xs. array_type span place (types xs)) env
unfolding roll-ExprKind denote.Hole.Carrier.roll
array_read parts span place env =
    let layer : KindLayer NamedKind NamedExpr = ExprKind-F.Array parts in layer_read layer span place env

pub look0_read : (look : Look0) (span : Span) (place : Place) (env : Env)
    → reading_of_kind (exprs.Look0 look) span place env
    ≡ with_type (exprs.Look0 look) (Ok (look0_type look))
unfolding roll-ExprKind denote.Hole.Carrier.roll
look0_read look span place env =
    let layer : KindLayer NamedKind NamedExpr = ExprKind-F.Look0 look in layer_read layer span place env

pub look_at_read : (look : LookAt) (a : NamedExpr) (span : Span) (place : Place) (env : Env)
    → reading_of_kind (exprs.LookAt look a) span place env
    ≡ one (reading_of a) (exprs.LookAt look) (λ x. look_at_type span look x.ty) env
unfolding roll-ExprKind denote.Hole.Carrier.roll
look_at_read look a span place env =
    let layer : KindLayer NamedKind NamedExpr = ExprKind-F.LookAt look a in layer_read layer span place env

pub whole_read : (e : NamedExpr) (place : Place) (env : Env)
    → reading_of e place env ≡ (reading_of_kind e.kind e.span place env >>= (λ j. Ok (typed j.0 j.1 e.span)))
whole_read e place env = expr_read e.kind e.span place env

-- ---- statements

pub stmt_layer_read : (layer : StmtLayer NamedStmtKind NamedStmt) (span : Span) (env : Env)
    → reading_of_stmt_kind (roll-StmtKind Slot (Unit {0}) layer) span env
    ≡ stmt_shape_reading (map_stmt_shape reading_of_stmt (stmt_shape layer span env)) env
stmt_layer_read layer span env =
    ap (λ f. f span env) (fold-roll-StmtKind Slot (Unit {0}) (Span → Running TypedStmtKind) (Running TypedStmt)
    stmt_kind_reading stmt_reading layer)
    ∙ ap (λ s. stmt_shape_reading s env) (stmt_shape_map reading_of_stmt_kind reading_of_stmt layer span env)

pub stmt_kind_read : (k : NamedStmtKind) (span : Span) (env : Env)
    → reading_of_stmt_kind k span env
    ≡ stmt_shape_reading (map_stmt_shape reading_of_stmt (stmt_shape (opened_stmt k) span env)) env
stmt_kind_read k span env =
    ap (λ k. reading_of_stmt_kind k span env) (sym (roll-out-StmtKind Slot (Unit {0}) k))
    ∙ stmt_layer_read (opened_stmt k) span env

pub stmt_read : (k : NamedStmtKind) (span : Span) (env : Env)
    → reading_of_stmt (stmt k span) env
    ≡ (reading_of_stmt_kind k span env >>= (λ j. Ok (stmt_of Ty j.0 span, j.1)))
stmt_read k span env =
    let layer : Stmt-F Slot (Unit {0}) NamedStmtKind NamedStmt = record { kind = k; span = span } in
    ap (λ f. f env) (fold-roll-Stmt Slot (Unit {0}) (Span → Running TypedStmtKind) (Running TypedStmt)
    stmt_kind_reading stmt_reading layer)

pub if_else_unfolds : (env : Env) (e : NamedExpr) (ss us : List NamedStmt) (span : Span)
    → reading_of_stmt_kind (stmts.If e ss (Some us)) span env
    ≡ stmt_shape_reading (shapes.branching e (map reading_of_stmt ss) (Some (map reading_of_stmt us))
    (λ x. suits span ty.Bool x.ty)) env
unfolding roll-StmtKind denote.Hole.Carrier.roll
if_else_unfolds env e ss us span =
    let layer : StmtLayer NamedStmtKind NamedStmt = StmtKind-F.If e ss (Some us) in stmt_layer_read layer span env

pub if_only_unfolds : (env : Env) (e : NamedExpr) (ss : List NamedStmt) (span : Span)
    → reading_of_stmt_kind (stmts.If e ss None) span env
    ≡ stmt_shape_reading (shapes.branching e (map reading_of_stmt ss) None (λ x. suits span ty.Bool x.ty)) env
unfolding roll-StmtKind denote.Hole.Carrier.roll
if_only_unfolds env e ss span =
    let layer : StmtLayer NamedStmtKind NamedStmt = StmtKind-F.If e ss None in stmt_layer_read layer span env
