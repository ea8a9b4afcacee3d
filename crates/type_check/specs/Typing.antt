-- Which contract with types types a contract. The rule of each kind of node is its line in `Shapes`.
use Rattle.std.specs.Prelude.{◌≡◌, ℕ, ◌+◌, List, [], ◌∷◌, Some, None, true, Ok}
use Rattle.cash_base.specs.declared.place.Span.{Span}
use Rattle.cash_tree.specs.declared.Ty.{Ty}
use Rattle.cash_tree.specs.declared.StmtKind.TheVariants as stmts
use Rattle.type_tables.specs.declared.rules.Signature.{Signature}
use Rattle.type_tables.specs.Tables.{Answer, TypedExpr, Env, place_at}
use Rattle.type_check.specs.Shapes as shapes
use Rattle.type_check.specs.Shapes.{Shape, StmtShape, Place, NamedExpr, NamedKind, TypedKind, NamedStmt, NamedStmtKind, TypedStmt, TypedStmtKind, shape, stmt_shape, opened, opened_stmt, expr, typed, stmt, stmt_of, with_params}
use Rattle.type_check.specs.Ends.{ends_rightly}
use Rattle.type_check.specs.Outline.{NamedFunction, TypedFunction, NamedContract, TypedContract, function_of, contract_of}

-- An expression has the type that stands on the typed one, by its place and by the types of the names before. All spans
-- and slots stay.
mutual
  pub data HasType (env : Env) : Place → NamedExpr → TypedExpr → Type 0 where
    node : (place : Place) (k : NamedKind) (m : TypedKind) (span : Span) (t : Ty)
        → HasShape env (shape (opened k) span place env) m t → HasType env place (expr k span) (typed m t span)

  -- Its parts have types, and its rule gives its own by them.
  pub data HasShape (env : Env) : Shape NamedExpr → TypedKind → Ty → Type 0 where
    leaf : (m : TypedKind) (rule : Answer Ty) (t : Ty) → rule ≡ Ok t → HasShape env (shapes.leaf m rule) m t
    one : (a : NamedExpr) (x : TypedExpr) (make : TypedExpr → TypedKind) (rule : TypedExpr → Answer Ty) (t : Ty)
        → HasType env None a x → rule x ≡ Ok t → HasShape env (shapes.one a make rule) (make x) t
    two : (a b : NamedExpr) (x y : TypedExpr) (make : TypedExpr → TypedExpr → TypedKind)
        (rule : TypedExpr → TypedExpr → Answer Ty) (t : Ty)
        → HasType env None a x → HasType env None b y → rule x y ≡ Ok t
        → HasShape env (shapes.two a b make rule) (make x y) t
    many : (s : Signature) (es : List NamedExpr) (xs : List TypedExpr) (make : List TypedExpr → TypedKind)
        (rule : List TypedExpr → Answer Ty) (t : Ty)
        → HaveTypes env s 0 es xs → rule xs ≡ Ok t → HasShape env (shapes.many s es make rule) (make xs) t

  -- one after the other; the first has this number
  pub data HaveTypes (env : Env) : Signature → ℕ → List NamedExpr → List TypedExpr → Type 0 where
    none : (s : Signature) (at : ℕ) → HaveTypes env s at [] []
    next : (s : Signature) (at : ℕ) (e : NamedExpr) (es : List NamedExpr) (x : TypedExpr) (xs : List TypedExpr)
        → HasType env (place_at s at) e x → HaveTypes env s (at + 1) es xs → HaveTypes env s at (e ∷ es) (x ∷ xs)

-- A statement, from the types of the names before it to those after it.
mutual
  pub data TypesStmt : Env → NamedStmt → TypedStmt → Env → Type 0 where
    statement : (env after : Env) (k : NamedStmtKind) (m : TypedStmtKind) (span : Span)
        → TypesShape env (stmt_shape (opened_stmt k) span env) m after
        → TypesStmt env (stmt k span) (stmt_of Ty m span) after

  -- Its expression and its blocks have types, and its rule allows the expression's.
  pub data TypesShape : Env → StmtShape NamedStmt → TypedStmtKind → Env → Type 0 where
    held : (env after : Env) (e : NamedExpr) (x : TypedExpr) (make : TypedExpr → TypedStmtKind)
        (rule : TypedExpr → Answer (Unit {0}))
        → HasType env None e x → rule x ≡ Ok tt → TypesShape env (shapes.simple e make rule after) (make x) after
    if_only : (env after : Env) (e : NamedExpr) (x : TypedExpr) (ss : List NamedStmt) (ts : List TypedStmt)
        (rule : TypedExpr → Answer (Unit {0}))
        → HasType env None e x → TypesRun env ss ts after → rule x ≡ Ok tt
        → TypesShape env (shapes.branching e ss None rule) (stmts.If x ts None) after
    if_else : (env middle after : Env) (e : NamedExpr) (x : TypedExpr) (ss us : List NamedStmt)
        (ts vs : List TypedStmt) (rule : TypedExpr → Answer (Unit {0}))
        → HasType env None e x → TypesRun env ss ts middle → TypesRun middle us vs after → rule x ≡ Ok tt
        → TypesShape env (shapes.branching e ss (Some us) rule) (stmts.If x ts (Some vs)) after

  pub data TypesRun : Env → List NamedStmt → List TypedStmt → Env → Type 0 where
    done : (env : Env) → TypesRun env [] [] env
    step : (env middle after : Env) (s : NamedStmt) (ss : List NamedStmt) (t : TypedStmt) (ts : List TypedStmt)
        → TypesStmt env s t middle → TypesRun middle ss ts after → TypesRun env (s ∷ ss) (t ∷ ts) after

-- A function, by the types of the constructor's parameters: its body is typed, and ends rightly.
pub data TypesFunction (env : Env) : NamedFunction → TypedFunction → Type 0 where
  function : (f : NamedFunction) (body : List TypedStmt) (after : Env)
      → TypesRun (with_params f.params env) f.body body after
      → ends_rightly f.body ≡ true → TypesFunction env f (function_of f body)

pub data TypesFunctions (env : Env) : List NamedFunction → List TypedFunction → Type 0 where
  no_more : TypesFunctions env [] []
  one_more : (f : NamedFunction) (fs : List NamedFunction) (g : TypedFunction) (gs : List TypedFunction)
      → TypesFunction env f g → TypesFunctions env fs gs → TypesFunctions env (f ∷ fs) (g ∷ gs)

-- The contract with types: its name, spans, pragmas and parameters stay.
pub data TypesContract : NamedContract → TypedContract → Type 0 where
  contract : (c : NamedContract) (functions : List TypedFunction)
      → TypesFunctions (with_params c.params []) c.functions functions
      → TypesContract c (contract_of c functions)
