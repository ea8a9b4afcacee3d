-- What types a contract is the contract, but for its types.
use Rattle.std.proofs.Common.{◌≡◌, ◌∙◌, ap, sym, subst, refl, ℕ, ◌+◌, List, [], ◌∷◌, map}
use Rattle.std.specs.Prelude.{Some, None}
use Rattle.cash_base.specs.declared.place.Span.{Span}
use Rattle.cash_base.specs.declared.place.Slot.{Slot}
use Rattle.cash_tree.specs.declared.Ty.{Ty}
use Rattle.cash_tree.specs.declared.ExprKind.TheVariants as exprs
use Rattle.cash_tree.specs.declared.ExprKind.TheOpen.{ExprKind-F, Expr-F}
use Rattle.cash_tree.specs.declared.ExprKind.TheViews.{roll-ExprKind, roll-out-ExprKind}
use Rattle.cash_tree.specs.declared.ExprKind.TheFolds.{fold-ExprKind, fold-roll-Expr, fold-roll-ExprKind, map-ExprKind}
use Rattle.cash_tree.specs.declared.StmtKind.TheVariants as stmts
use Rattle.cash_tree.specs.declared.StmtKind.TheOpen.{StmtKind-F, Stmt-F}
use Rattle.cash_tree.specs.declared.StmtKind.TheViews.{roll-StmtKind, roll-out-StmtKind}
use Rattle.cash_tree.specs.declared.StmtKind.TheFolds.{fold-StmtKind, fold-roll-Stmt, fold-roll-StmtKind, map-StmtKind}
use Rattle.type_tables.specs.declared.rules.Signature.{Signature}
use Rattle.type_tables.specs.Tables.{TypedExpr, Env, place_at}
use Rattle.type_check.specs.Shapes as shapes
use Rattle.type_check.specs.Shapes.{Shape, StmtShape, Place, TypedKind, TypedStmt, TypedStmtKind, NamedExpr, NamedKind, NamedStmt, NamedStmtKind, KindLayer, StmtLayer, shape, stmt_shape, opened, opened_stmt, expr, typed, stmt, stmt_of, with_params}
use Rattle.type_check.specs.Outline.{NamedFunction, TypedFunction, NamedContract, TypedContract, function_of, contract_of}
use Rattle.type_check.specs.Typing as rule
use Rattle.type_check.specs.Typing.{HasType, HasShape, HaveTypes, node, none, next, TypesStmt, TypesShape, TypesRun, statement, held, if_only, if_else, done, step, TypesFunction, TypesFunctions, TypesContract, function, no_more, one_more, contract}
use Rattle.type_check.specs.Untyped.{kind_untyped, expr_untyped, untyped, stmt_kind_untyped, stmt_untyped, untyped_stmt, untyped_with, untyped_function, untyped_contract_with, untyped_contract}

-- ---- expressions

abbrev pub untyped_kind : TypedKind → NamedKind
untyped_kind = fold-ExprKind Slot Ty NamedKind NamedExpr kind_untyped expr_untyped

abbrev pub Layer : Type 0
Layer = ExprKind-F Slot Ty TypedKind TypedExpr

-- the layer's kind, without its types
pub layer_kept : (layer : Layer) → untyped_kind (roll-ExprKind Slot Ty layer)
    ≡ kind_untyped (map-ExprKind Slot Ty TypedKind TypedExpr NamedKind NamedExpr untyped_kind untyped layer)
layer_kept layer = fold-roll-ExprKind Slot Ty NamedKind NamedExpr kind_untyped expr_untyped layer

-- what a node is with typed parts is the node, once they are their parts
abbrev MakesKind : Shape NamedExpr → NamedKind → Type 0
MakesKind (shapes.leaf m r) k = untyped_kind m ≡ k
MakesKind (shapes.one a make r) k = (x : TypedExpr) → untyped x ≡ a → untyped_kind (make x) ≡ k
MakesKind (shapes.two a b make r) k =
    (x y : TypedExpr) → untyped x ≡ a → untyped y ≡ b → untyped_kind (make x y) ≡ k
MakesKind (shapes.many s es make r) k =
    (xs : List TypedExpr) → map untyped xs ≡ es → untyped_kind (make xs) ≡ k

shape_makes : (layer : KindLayer NamedKind NamedExpr) (span : Span) (place : Place) (env : Env)
    → MakesKind (shape layer span place env) (roll-ExprKind Slot (Unit {0}) layer)
unfolding roll-ExprKind denote.Hole.Carrier.roll
shape_makes (ExprKind-F.Int digits unit) span place env =
    let l : Layer = ExprKind-F.Int digits unit in layer_kept l
shape_makes (ExprKind-F.Bool b) span place env =
    let l : Layer = ExprKind-F.Bool b in layer_kept l
shape_makes (ExprKind-F.Hex bytes) span place env =
    let l : Layer = ExprKind-F.Hex bytes in layer_kept l
shape_makes (ExprKind-F.Text bytes) span place env =
    let l : Layer = ExprKind-F.Text bytes in layer_kept l
shape_makes (ExprKind-F.Date seconds) span place env =
    let l : Layer = ExprKind-F.Date seconds in layer_kept l
shape_makes (ExprKind-F.Name slot) span place env =
    let l : Layer = ExprKind-F.Name slot in layer_kept l
shape_makes (ExprKind-F.Unary op a) span place env = λ x p.
    let l : Layer = ExprKind-F.Unary op x in layer_kept l ∙ ap (λ a. exprs.Unary op a) p
shape_makes (ExprKind-F.Binary op a b) span place env = λ x y p q.
    let l : Layer = ExprKind-F.Binary op x y in
    layer_kept l ∙ ap (λ a. exprs.Binary op a (untyped y)) p ∙ ap (λ b. exprs.Binary op a b) q
shape_makes (ExprKind-F.Length a) span place env = λ x p.
    let l : Layer = ExprKind-F.Length x in layer_kept l ∙ ap (λ a. exprs.Length a) p
shape_makes (ExprKind-F.Reverse a) span place env = λ x p.
    let l : Layer = ExprKind-F.Reverse x in layer_kept l ∙ ap (λ a. exprs.Reverse a) p
shape_makes (ExprKind-F.Split a b) span place env = λ x y p q.
    let l : Layer = ExprKind-F.Split x y in
    layer_kept l ∙ ap (λ a. exprs.Split a (untyped y)) p ∙ ap (λ b. exprs.Split a b) q
shape_makes (ExprKind-F.Index a number) span place env = λ x p.
    let l : Layer = ExprKind-F.Index x number in layer_kept l ∙ ap (λ a. exprs.Index a number) p
shape_makes (ExprKind-F.Cast to a None) span place env = λ x p.
    let l : Layer = ExprKind-F.Cast to x None in layer_kept l ∙ ap (λ a. exprs.Cast to a None) p
shape_makes (ExprKind-F.Cast to a (Some b)) span place env = λ x y p q.
    let l : Layer = ExprKind-F.Cast to x (Some y) in
    layer_kept l ∙ ap (λ a. exprs.Cast to a (Some (untyped y))) p ∙ ap (λ b. exprs.Cast to a (Some b)) q
shape_makes (ExprKind-F.Call callee args) span place env = λ xs p.
    let l : Layer = ExprKind-F.Call callee xs in layer_kept l ∙ ap (λ es. exprs.Call callee es) p
shape_makes (ExprKind-F.New callee args) span place env = λ xs p.
    let l : Layer = ExprKind-F.New callee xs in layer_kept l ∙ ap (λ es. exprs.New callee es) p
shape_makes (ExprKind-F.Array parts) span place env = λ xs p.
    let l : Layer = ExprKind-F.Array xs in layer_kept l ∙ ap (λ es. exprs.Array es) p
shape_makes (ExprKind-F.Look0 look) span place env =
    let l : Layer = ExprKind-F.Look0 look in layer_kept l
shape_makes (ExprKind-F.LookAt look a) span place env = λ x p.
    let l : Layer = ExprKind-F.LookAt look x in layer_kept l ∙ ap (λ a. exprs.LookAt look a) p

kind_makes : (k : NamedKind) (span : Span) (place : Place) (env : Env) → MakesKind (shape (opened k) span place env) k
kind_makes k span place env =
    subst (MakesKind (shape (opened k) span place env)) (roll-out-ExprKind Slot (Unit {0}) k)
    (shape_makes (opened k) span place env)

-- the expression of a kind that is kept
pub expr_kept : (k : NamedKind) (m : TypedKind) (span : Span) (t : Ty) → untyped_kind m ≡ k
    → untyped (typed m t span) ≡ expr k span
expr_kept k m span t p =
    let layer : Expr-F Slot Ty TypedKind TypedExpr = record { kind = m; ty = t; span = span } in
    fold-roll-Expr Slot Ty NamedKind NamedExpr kind_untyped expr_untyped layer ∙ ap (λ k. expr k span) p

mutual
  kept : (env : Env) (place : Place) (e : NamedExpr) (x : TypedExpr) → HasType env place e x → untyped x ≡ e
  kept env _ _ _ (node place k m span t h) =
      expr_kept k m span t
      (shape_kept env (shape (opened k) span place env) m t k (kind_makes k span place env) h)

  shape_kept : (env : Env) (s : Shape NamedExpr) (m : TypedKind) (t : Ty) (k : NamedKind) → MakesKind s k
      → HasShape env s m t → untyped_kind m ≡ k
  shape_kept env _ _ _ k makes (rule.leaf m r t is) = makes
  shape_kept env _ _ _ k makes (rule.one a x make r t h is) = makes x (kept env None a x h)
  shape_kept env _ _ _ k makes (rule.two a b x y make r t h i is) =
      makes x y (kept env None a x h) (kept env None b y i)
  shape_kept env _ _ _ k makes (rule.many s es xs make r t h is) = makes xs (each_kept env s 0 es xs h)

  each_kept : (env : Env) (s : Signature) (at : ℕ) (es : List NamedExpr) (xs : List TypedExpr)
      → HaveTypes env s at es xs → map untyped xs ≡ es
  each_kept env _ _ _ _ (none s at) = refl
  each_kept env _ _ _ _ (next s at e es x xs h hs) =
      ap (λ e. e ∷ map untyped xs) (kept env (place_at s at) e x h)
      ∙ ap (λ es. e ∷ es) (each_kept env s (at + 1) es xs hs)

-- ---- statements

abbrev pub untyped_stmt_kind : TypedStmtKind → NamedStmtKind
untyped_stmt_kind = fold-StmtKind Slot Ty NamedStmtKind NamedStmt stmt_kind_untyped stmt_untyped

abbrev pub TypedLayer : Type 0
TypedLayer = StmtKind-F Slot Ty TypedStmtKind TypedStmt

pub stmt_layer_kept : (layer : TypedLayer) → untyped_stmt_kind (roll-StmtKind Slot Ty layer)
    ≡ stmt_kind_untyped (map-StmtKind Slot Ty TypedStmtKind TypedStmt NamedStmtKind NamedStmt untyped_stmt_kind
    untyped_stmt layer)
stmt_layer_kept layer = fold-roll-StmtKind Slot Ty NamedStmtKind NamedStmt stmt_kind_untyped stmt_untyped layer

abbrev MakesStmt : StmtShape NamedStmt → NamedStmtKind → Type 0
MakesStmt (shapes.simple e make r after) k = (x : TypedExpr) → untyped x ≡ e → untyped_stmt_kind (make x) ≡ k
MakesStmt (shapes.branching e ss None r) k =
    (x : TypedExpr) (ts : List TypedStmt) → untyped x ≡ e → map untyped_stmt ts ≡ ss
    → untyped_stmt_kind (stmts.If x ts None) ≡ k
MakesStmt (shapes.branching e ss (Some us) r) k =
    (x : TypedExpr) (ts vs : List TypedStmt) → untyped x ≡ e → map untyped_stmt ts ≡ ss → map untyped_stmt vs ≡ us
    → untyped_stmt_kind (stmts.If x ts (Some vs)) ≡ k

stmt_shape_makes : (layer : StmtLayer NamedStmtKind NamedStmt) (span : Span) (env : Env)
    → MakesStmt (stmt_shape layer span env) (roll-StmtKind Slot (Unit {0}) layer)
unfolding roll-StmtKind denote.Hole.Carrier.roll
stmt_shape_makes (StmtKind-F.Define t constant name place e) span env = λ x p.
    let l : TypedLayer = StmtKind-F.Define t constant name place x in
    stmt_layer_kept l ∙ ap (λ e. stmts.Define t constant name place e) p
stmt_shape_makes (StmtKind-F.Pair left right e) span env = λ x p.
    let l : TypedLayer = StmtKind-F.Pair left right x in
    stmt_layer_kept l ∙ ap (λ e. stmts.Pair left right e) p
stmt_shape_makes (StmtKind-F.Assign name e) span env = λ x p.
    let l : TypedLayer = StmtKind-F.Assign name x in stmt_layer_kept l ∙ ap (λ e. stmts.Assign name e) p
stmt_shape_makes (StmtKind-F.Time e) span env = λ x p.
    let l : TypedLayer = StmtKind-F.Time x in stmt_layer_kept l ∙ ap (λ e. stmts.Time e) p
stmt_shape_makes (StmtKind-F.Age e) span env = λ x p.
    let l : TypedLayer = StmtKind-F.Age x in stmt_layer_kept l ∙ ap (λ e. stmts.Age e) p
stmt_shape_makes (StmtKind-F.Require e) span env = λ x p.
    let l : TypedLayer = StmtKind-F.Require x in stmt_layer_kept l ∙ ap (λ e. stmts.Require e) p
stmt_shape_makes (StmtKind-F.If e ss None) span env = λ x ts p q.
    let l : TypedLayer = StmtKind-F.If x ts None in
    stmt_layer_kept l ∙ ap (λ e. stmts.If e (map untyped_stmt ts) None) p ∙ ap (λ ss. stmts.If e ss None) q
stmt_shape_makes (StmtKind-F.If e ss (Some us)) span env = λ x ts vs p q r.
    let l : TypedLayer = StmtKind-F.If x ts (Some vs) in
    stmt_layer_kept l ∙ ap (λ e. stmts.If e (map untyped_stmt ts) (Some (map untyped_stmt vs))) p
    ∙ ap (λ ss. stmts.If e ss (Some (map untyped_stmt vs))) q ∙ ap (λ us. stmts.If e ss (Some us)) r

stmt_kind_makes : (k : NamedStmtKind) (span : Span) (env : Env) → MakesStmt (stmt_shape (opened_stmt k) span env) k
stmt_kind_makes k span env =
    subst (MakesStmt (stmt_shape (opened_stmt k) span env)) (roll-out-StmtKind Slot (Unit {0}) k)
    (stmt_shape_makes (opened_stmt k) span env)

-- the statement of a kind that is kept
pub stmt_is_kept : (k : NamedStmtKind) (m : TypedStmtKind) (span : Span) → untyped_stmt_kind m ≡ k
    → untyped_stmt (stmt_of Ty m span) ≡ stmt k span
stmt_is_kept k m span p =
    let layer : Stmt-F Slot Ty TypedStmtKind TypedStmt = record { kind = m; span = span } in
    fold-roll-Stmt Slot Ty NamedStmtKind NamedStmt stmt_kind_untyped stmt_untyped layer ∙ ap (λ k. stmt k span) p

mutual
  stmt_kept : (env : Env) (s : NamedStmt) (t : TypedStmt) (after : Env) → TypesStmt env s t after → untyped_stmt t ≡ s
  stmt_kept _ _ _ _ (statement env after k m span h) =
      stmt_is_kept k m span
      (stmt_shape_kept env (stmt_shape (opened_stmt k) span env) m after k (stmt_kind_makes k span env) h)

  stmt_shape_kept : (env : Env) (s : StmtShape NamedStmt) (m : TypedStmtKind) (after : Env) (k : NamedStmtKind)
      → MakesStmt s k → TypesShape env s m after → untyped_stmt_kind m ≡ k
  stmt_shape_kept _ _ _ _ k makes (held env after e x make r h is) = makes x (kept env None e x h)
  stmt_shape_kept _ _ _ _ k makes (if_only env after e x ss ts r h hs is) =
      makes x ts (kept env None e x h) (run_kept env ss ts after hs)
  stmt_shape_kept _ _ _ _ k makes (if_else env middle after e x ss us ts vs r h hs is fit) =
      makes x ts vs (kept env None e x h) (run_kept env ss ts middle hs) (run_kept middle us vs after is)

  run_kept : (env : Env) (ss : List NamedStmt) (ts : List TypedStmt) (after : Env) → TypesRun env ss ts after
      → map untyped_stmt ts ≡ ss
  run_kept _ _ _ _ (done env) = refl
  run_kept _ _ _ _ (step env middle after s ss t ts h hs) =
      ap (λ s. s ∷ map untyped_stmt ts) (stmt_kept env s t middle h)
      ∙ ap (λ ss. s ∷ ss) (run_kept middle ss ts after hs)

-- ---- functions

function_kept : (env : Env) (f : NamedFunction) (g : TypedFunction) → TypesFunction env f g → untyped_function g ≡ f
function_kept env _ _ (function f body after h ends) =
    ap (λ ss. untyped_with (function_of f body) ss) (run_kept (with_params f.params env) f.body body after h)

functions_kept : (env : Env) (fs : List NamedFunction) (gs : List TypedFunction) → TypesFunctions env fs gs
    → map untyped_function gs ≡ fs
functions_kept env _ _ no_more = refl
functions_kept env _ _ (one_more f fs g gs h hs) =
    ap (λ f. f ∷ map untyped_function gs) (function_kept env f g h) ∙ ap (λ fs. f ∷ fs) (functions_kept env fs gs hs)

pub contract_kept : (tree : NamedContract) (typed : TypedContract) → TypesContract tree typed
    → untyped_contract typed ≡ tree
contract_kept _ _ (contract c functions h) =
    ap (λ fs. untyped_contract_with (contract_of c functions) fs)
    (functions_kept (with_params c.params []) c.functions functions h)
