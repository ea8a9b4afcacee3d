-- What a node is made of, and its rule: one line for each kind of expression, and one for each kind of statement.
use Rattle.std.specs.Prelude.{List, [], ◌∷◌, ◌++◌, length, map, Option, Some, None, Ok}
use Rattle.cash_base.specs.declared.place.Span.{Span}
use Rattle.cash_base.specs.declared.place.Slot.{Slot}
use Rattle.cash_tree.specs.declared.Ty.{Ty}
use Rattle.cash_tree.specs.declared.Ty.TheVariants as ty
use Rattle.cash_tree.specs.declared.Param.{Param}
use Rattle.cash_tree.specs.declared.Expr.{Expr}
use Rattle.cash_tree.specs.declared.ExprKind.{ExprKind}
use Rattle.cash_tree.specs.declared.ExprKind.TheVariants as exprs
use Rattle.cash_tree.specs.declared.ExprKind.TheOpen.{ExprKind-F}
use Rattle.cash_tree.specs.declared.ExprKind.TheViews.{out-ExprKind}
use Rattle.cash_tree.specs.declared.Stmt.{Stmt}
use Rattle.cash_tree.specs.declared.StmtKind.{StmtKind}
use Rattle.cash_tree.specs.declared.StmtKind.TheVariants as stmts
use Rattle.cash_tree.specs.declared.StmtKind.TheOpen.{StmtKind-F}
use Rattle.cash_tree.specs.declared.StmtKind.TheViews.{out-StmtKind}
use Rattle.type_tables.specs.declared.rules.Item.{Item}
use Rattle.type_tables.specs.declared.rules.Signature.{Signature}
use Rattle.type_tables.specs.Tables.{Answer, TypedExpr, Env, number_type, date_type, hex_type, text_type, type_at, unary_type, binary_type, length_type, reverse_type, split_type, literal_of, index_type, cast_type, sized_cast_type, nothing, signature, call_type, array_type, look0_type, look_at_type, suits, pair_suits}

-- ---- expressions

abbrev pub NamedExpr : Type 0
NamedExpr = Expr Slot (Unit {0})

abbrev pub NamedKind : Type 0
NamedKind = ExprKind Slot (Unit {0})

abbrev pub TypedKind : Type 0
TypedKind = ExprKind Slot Ty

-- as what the items of an array are wanted, where it stands as an argument that is to be an array
abbrev pub Place : Type 0
Place = Option Item

abbrev pub types : List TypedExpr → List Ty
types = map (λ x. x.ty)

-- A node: its parts from left to right, what it is with typed parts, and its rule, which gives its type by them.
pub data Shape (E : Type 0) : Type 0 where
  leaf : TypedKind → Answer Ty → Shape E
  one : E → (TypedExpr → TypedKind) → (TypedExpr → Answer Ty) → Shape E
  two : E → E → (TypedExpr → TypedExpr → TypedKind) → (TypedExpr → TypedExpr → Answer Ty) → Shape E
  -- parts that have their places in a call of this signature
  many : Signature → List E → (List TypedExpr → TypedKind) → (List TypedExpr → Answer Ty) → Shape E

abbrev pub KindLayer : Type 0 → Type 0 → Type 0
KindLayer K E = ExprKind-F Slot (Unit {0}) K E

-- A node at its place, by the types of the names before.
abbrev pub shape : {K E : Type 0} → KindLayer K E → Span → Place → Env → Shape E
shape (ExprKind-F.Int digits unit) span place env = leaf (exprs.Int digits unit) (number_type span digits unit)
shape (ExprKind-F.Bool b) span place env = leaf (exprs.Bool b) (Ok ty.Bool)
shape (ExprKind-F.Hex bytes) span place env = leaf (exprs.Hex bytes) (hex_type span (length bytes))
shape (ExprKind-F.Text bytes) span place env = leaf (exprs.Text bytes) (text_type span (length bytes))
shape (ExprKind-F.Date seconds) span place env = leaf (exprs.Date seconds) (date_type span seconds)
shape (ExprKind-F.Name slot) span place env = leaf (exprs.Name slot) (Ok (type_at slot env))
shape (ExprKind-F.Unary op a) span place env = one a (exprs.Unary op) (λ x. unary_type span op x.ty)
shape (ExprKind-F.Binary op a b) span place env =
    two a b (exprs.Binary op) (λ x y. binary_type span op x.ty y.ty)
shape (ExprKind-F.Length a) span place env = one a exprs.Length (λ x. length_type span x.ty)
shape (ExprKind-F.Reverse a) span place env = one a exprs.Reverse (λ x. reverse_type span x.ty)
shape (ExprKind-F.Split a b) span place env =
    two a b exprs.Split (λ x y. split_type span x.ty y.ty (literal_of y))
shape (ExprKind-F.Index a number) span place env =
    one a (λ x. exprs.Index x number) (λ x. index_type span number x.ty)
shape (ExprKind-F.Cast to a None) span place env =
    one a (λ x. exprs.Cast to x None) (λ x. cast_type span to x.ty)
shape (ExprKind-F.Cast to a (Some b)) span place env =
    two a b (λ x y. exprs.Cast to x (Some y)) (λ x y. sized_cast_type span to x.ty y.ty)
shape (ExprKind-F.Call callee args) span place env =
    many (signature callee) args (exprs.Call callee) (call_type span callee)
shape (ExprKind-F.New callee args) span place env =
    many (signature callee) args (exprs.New callee) (call_type span callee)
shape (ExprKind-F.Array parts) span place env =
    many nothing parts exprs.Array (λ xs. array_type span place (types xs))
shape (ExprKind-F.Look0 look) span place env = leaf (exprs.Look0 look) (Ok (look0_type look))
shape (ExprKind-F.LookAt look a) span place env =
    one a (exprs.LookAt look) (λ x. look_at_type span look x.ty)

abbrev pub opened : NamedKind → KindLayer NamedKind NamedExpr
opened kind = out-ExprKind Slot (Unit {0}) kind

abbrev pub expr : NamedKind → Span → NamedExpr
expr kind span = record { kind = kind; ty = tt; span = span }

abbrev pub typed : TypedKind → Ty → Span → TypedExpr
typed kind t span = record { kind = kind; ty = t; span = span }

-- ---- statements

abbrev pub NamedStmt : Type 0
NamedStmt = Stmt Slot (Unit {0})

abbrev pub NamedStmtKind : Type 0
NamedStmtKind = StmtKind Slot (Unit {0})

abbrev pub TypedStmt : Type 0
TypedStmt = Stmt Slot Ty

abbrev pub TypedStmtKind : Type 0
TypedStmtKind = StmtKind Slot Ty

-- the type of one name more
abbrev pub with_name : Slot → Ty → Env → Env
with_name slot t env = env ++ record { slot = slot; ty = t } ∷ []

abbrev pub with_params : List (Param Slot) → Env → Env
with_params [] env = env
with_params (param ∷ params) env = with_params params (with_name param.name param.ty env)

abbrev pub with_pair : Param Slot → Param Slot → Env → Env
with_pair left right env = with_name right.name right.ty (with_name left.name left.ty env)

-- A statement: its expression, its blocks, what it is with a typed expression, and its rule.
pub data StmtShape (S : Type 0) : Type 0 where
  -- of one expression, with the types of the names after it
  simple : NamedExpr → (TypedExpr → TypedStmtKind) → (TypedExpr → Answer (Unit {0})) → Env → StmtShape S
  -- `if`, with its test, its block, and the block after `else` where there is one
  branching : NamedExpr → List S → Option (List S) → (TypedExpr → Answer (Unit {0})) → StmtShape S

abbrev pub StmtLayer : Type 0 → Type 0 → Type 0
StmtLayer K S = StmtKind-F Slot (Unit {0}) K S

-- A statement, by the types of the names before.
abbrev pub stmt_shape : {K S : Type 0} → StmtLayer K S → Span → Env → StmtShape S
stmt_shape (StmtKind-F.Define t constant name place e) span env =
    simple e (stmts.Define t constant name place) (λ x. suits span t x.ty) (with_name name t env)
stmt_shape (StmtKind-F.Pair left right e) span env =
    simple e (stmts.Pair left right) (λ x. pair_suits span left.ty right.ty x.ty) (with_pair left right env)
stmt_shape (StmtKind-F.Assign name e) span env =
    simple e (stmts.Assign name) (λ x. suits span (type_at name env) x.ty) env
stmt_shape (StmtKind-F.Time e) span env = simple e stmts.Time (λ x. suits span ty.Int x.ty) env
stmt_shape (StmtKind-F.Age e) span env = simple e stmts.Age (λ x. suits span ty.Int x.ty) env
stmt_shape (StmtKind-F.Require e) span env = simple e stmts.Require (λ x. suits span ty.Bool x.ty) env
stmt_shape (StmtKind-F.If test body others) span env = branching test body others (λ x. suits span ty.Bool x.ty)

abbrev pub opened_stmt : NamedStmtKind → StmtLayer NamedStmtKind NamedStmt
opened_stmt kind = out-StmtKind Slot (Unit {0}) kind

abbrev pub stmt_of : (T : Type 0) → StmtKind Slot T → Span → Stmt Slot T
stmt_of T kind span = record { kind = kind; span = span }

abbrev pub stmt : NamedStmtKind → Span → NamedStmt
stmt kind span = stmt_of (Unit {0}) kind span
