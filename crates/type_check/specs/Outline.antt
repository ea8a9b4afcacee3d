-- The nodes of a contract, parts before wholes and left before right, each with what the rules say of it by the types
-- of its parts. A node that has no type stands with some type, so nothing fails here: what comes after the first fault
-- does not matter.
use Rattle.std.specs.Prelude.{ℕ, ◌+◌, List, [], ◌∷◌, ◌++◌, map, Option, Some, None, Ok, Err}
use Rattle.cash_base.specs.declared.place.Span.{Span}
use Rattle.cash_base.specs.declared.place.Slot.{Slot}
use Rattle.cash_tree.specs.declared.Ty.{Ty}
use Rattle.cash_tree.specs.declared.Ty.TheVariants as ty
use Rattle.cash_tree.specs.declared.Function.{Function}
use Rattle.cash_tree.specs.declared.Contract.{Contract}
use Rattle.cash_tree.specs.declared.Expr.{Expr}
use Rattle.cash_tree.specs.declared.ExprKind.TheOpen.{Expr-F}
use Rattle.cash_tree.specs.declared.ExprKind.TheFolds.{fold-Expr}
use Rattle.cash_tree.specs.declared.Stmt.{Stmt}
use Rattle.cash_tree.specs.declared.StmtKind.TheVariants as stmts
use Rattle.cash_tree.specs.declared.StmtKind.TheOpen.{Stmt-F}
use Rattle.cash_tree.specs.declared.StmtKind.TheFolds.{fold-Stmt}
use Rattle.type_tables.specs.declared.rules.Signature.{Signature}
use Rattle.type_tables.specs.Tables.{Answer, TypedExpr, Env, place_at}
use Rattle.type_tables.specs.Places.{Node, fault_of}
use Rattle.type_check.specs.Shapes as shapes
use Rattle.type_check.specs.Shapes.{Shape, StmtShape, Place, TypedKind, TypedStmt, TypedStmtKind, KindLayer, StmtLayer, shape, stmt_shape, typed, stmt_of, with_params}
use Rattle.type_check.specs.Ends.{final}

-- a part of the contract
pub record Outline (A : Type 0) : Type 0 where
  pub nodes : List Node
  -- what stands for it, with types
  pub value : A

abbrev pub outline : {A : Type 0} → List Node → A → Outline A
outline nodes value = record { nodes = nodes; value = value }

abbrev pub ty_of : Answer Ty → Ty
ty_of (Ok t) = t
ty_of (Err f) = ty.Int

-- ---- expressions

-- an expression, by its place and the types of the names before
abbrev pub Reads : Type 0 → Type 0
Reads A = Place → Env → Outline A

abbrev pub Judged : Type 0
Judged = TypedKind × Ty

-- one after the other, each at its place in a call of this signature; the first has this number
abbrev pub each : {A : Type 0} → Signature → ℕ → List (Reads A) → Env → Outline (List A)
each s at [] env = outline [] []
each s at (part ∷ parts) env =
    let head = part (place_at s at) env in
    let tail = each s (at + 1) parts env in
    outline (head.nodes ++ tail.nodes) (head.value ∷ tail.value)

-- the nodes of the parts, and then the node itself with what its rule says
abbrev pub shape_outline : Shape (Reads TypedExpr) → Env → Outline Judged
shape_outline (shapes.leaf kind rule) env = outline (fault_of rule ∷ []) (kind, ty_of rule)
shape_outline (shapes.one a make rule) env =
    let x = a None env in
    outline (x.nodes ++ fault_of (rule x.value) ∷ []) (make x.value, ty_of (rule x.value))
shape_outline (shapes.two a b make rule) env =
    let x = a None env in
    let y = b None env in
    outline (x.nodes ++ (y.nodes ++ fault_of (rule x.value y.value) ∷ []))
    (make x.value y.value, ty_of (rule x.value y.value))
shape_outline (shapes.many s parts make rule) env =
    let xs = each s 0 parts env in
    outline (xs.nodes ++ fault_of (rule xs.value) ∷ []) (make xs.value, ty_of (rule xs.value))

abbrev pub kind_outline : KindLayer (Span → Reads Judged) (Reads TypedExpr) → Span → Reads Judged
kind_outline layer span place env = shape_outline (shape layer span place env) env

abbrev pub expr_outline : Expr-F Slot (Unit {0}) (Span → Reads Judged) (Reads TypedExpr) → Reads TypedExpr
expr_outline e place env =
    let kind = e.kind e.span place env in
    outline kind.nodes (typed kind.value.0 kind.value.1 e.span)

abbrev pub outline_of : Expr Slot (Unit {0}) → Reads TypedExpr
outline_of = fold-Expr Slot (Unit {0}) (Span → Reads Judged) (Reads TypedExpr) kind_outline expr_outline

-- ---- statements

-- a part that may define names: with it come the types after it
abbrev pub Scopes : Type 0 → Type 0
Scopes A = Env → Outline (A × Env)

abbrev pub run : {A : Type 0} → List (Scopes A) → Scopes (List A)
run [] env = outline [] ([], env)
run (part ∷ parts) env =
    let head = part env in
    let tail = run parts head.value.1 in
    outline (head.nodes ++ tail.nodes) (head.value.0 ∷ tail.value.0, tail.value.1)

-- the statements after `else`, where there are any
abbrev pub other : {A : Type 0} → Option (List (Scopes A)) → Scopes (Option (List A))
other None env = outline [] (None, env)
other (Some parts) env =
    let all = run parts env in
    outline all.nodes (Some all.value.0, all.value.1)

-- The statement itself comes after all its parts, and the blocks of an `if` are parts.
abbrev pub stmt_shape_outline : StmtShape (Scopes TypedStmt) → Scopes TypedStmtKind
stmt_shape_outline (shapes.simple e make rule after) env =
    let v = outline_of e None env in
    outline (v.nodes ++ fault_of (rule v.value) ∷ []) (make v.value, after)
stmt_shape_outline (shapes.branching test body others rule) env =
    let t = outline_of test None env in
    let y = run body env in
    let n = other others y.value.1 in
    outline (t.nodes ++ (y.nodes ++ (n.nodes ++ fault_of (rule t.value) ∷ [])))
    (stmts.If t.value y.value.0 n.value.0, n.value.1)

abbrev pub stmt_kind_outline : StmtLayer (Span → Scopes TypedStmtKind) (Scopes TypedStmt) → Span → Scopes TypedStmtKind
stmt_kind_outline layer span env = stmt_shape_outline (stmt_shape layer span env) env

abbrev pub stmt_outline : Stmt-F Slot (Unit {0}) (Span → Scopes TypedStmtKind) (Scopes TypedStmt) → Scopes TypedStmt
stmt_outline s env =
    let kind = s.kind s.span env in
    outline kind.nodes (stmt_of Ty kind.value.0 s.span, kind.value.1)

abbrev pub outline_of_stmt : Stmt Slot (Unit {0}) → Scopes TypedStmt
outline_of_stmt = fold-Stmt Slot (Unit {0}) (Span → Scopes TypedStmtKind) (Scopes TypedStmt) stmt_kind_outline
    stmt_outline

-- ---- functions

abbrev pub NamedFunction : Type 0
NamedFunction = Function Slot (Unit {0})

abbrev pub TypedFunction : Type 0
TypedFunction = Function Slot Ty

abbrev pub NamedContract : Type 0
NamedContract = Contract Slot (Unit {0})

abbrev pub TypedContract : Type 0
TypedContract = Contract Slot Ty

-- the function with these statements
abbrev pub function_of : NamedFunction → List TypedStmt → TypedFunction
function_of f body = record { name = f.name; span = f.span; params = f.params; body = body }

-- After the statements stands the function itself, which is refused where its body doesn't end rightly. The names of
-- a function are known in it alone.
abbrev pub function_outline : Env → NamedFunction → Outline TypedFunction
function_outline env f =
    let body = run (map outline_of_stmt f.body) (with_params f.params env) in
    outline (body.nodes ++ fault_of (final f) ∷ []) (function_of f body.value.0)

abbrev pub functions_outline : Env → List NamedFunction → Outline (List TypedFunction)
functions_outline env [] = outline [] []
functions_outline env (f ∷ fs) =
    let head = function_outline env f in
    let tail = functions_outline env fs in
    outline (head.nodes ++ tail.nodes) (head.value ∷ tail.value)

-- the contract with these functions
abbrev pub contract_of : NamedContract → List TypedFunction → TypedContract
contract_of c functions =
    record { name = c.name; span = c.span; pragmas = c.pragmas; params = c.params; functions = functions }

abbrev pub contract_outline : NamedContract → Outline TypedContract
contract_outline c =
    let all = functions_outline (with_params c.params []) c.functions in
    outline all.nodes (contract_of c all.value)
