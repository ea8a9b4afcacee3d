-- Every span that stands in a tree, whatever its names and types are. Which spans a name itself stands for is a
-- parameter: before names are resolved a name is its span, and a slot has none.
use Rattle.std.specs.Prelude.{List, [], ◌∷◌, ◌++◌, map, Option, Some, None}
use Rattle.cash_base.specs.declared.place.Span.{Span}
use Rattle.cash_tree.specs.declared.Callee.{Callee}
use Rattle.cash_tree.specs.declared.Callee.TheVariants as callees
use Rattle.cash_tree.specs.declared.Expr.{Expr}
use Rattle.cash_tree.specs.declared.ExprKind.TheOpen.{ExprKind-F, Expr-F}
use Rattle.cash_tree.specs.declared.ExprKind.TheFolds.{fold-Expr}
use Rattle.cash_tree.specs.declared.Param.{Param}
use Rattle.cash_tree.specs.declared.Stmt.{Stmt}
use Rattle.cash_tree.specs.declared.StmtKind.TheOpen.{StmtKind-F, Stmt-F}
use Rattle.cash_tree.specs.declared.StmtKind.TheFolds.{fold-Stmt}
use Rattle.cash_tree.specs.declared.Constraint.{Constraint}
use Rattle.cash_tree.specs.declared.Function.{Function}
use Rattle.cash_tree.specs.declared.Contract.{Contract}
use Rattle.cash_tree.specs.Nodes.{joined, joined_or_none}

-- a name that is a span
abbrev pub itself : Span → List Span
itself span = span ∷ []

-- a name that holds no span
abbrev pub nothing : {N : Type 0} → N → List Span
nothing name = []

abbrev pub some_or_none : Option (List Span) → List Span
some_or_none (Some spans) = spans
some_or_none None = []

abbrev pub callee_spans : Callee → List Span
callee_spans (callees.Known builtin) = []
callee_spans (callees.Unknown span) = span ∷ []

abbrev pub expression_kind_spans : {N T : Type 0} → (N → List Span) → ExprKind-F N T (List Span) (List Span)
    → List Span
expression_kind_spans of_name (ExprKind-F.Name name) = of_name name
expression_kind_spans of_name (ExprKind-F.Unary op value) = value
expression_kind_spans of_name (ExprKind-F.Binary op left right) = left ++ right
expression_kind_spans of_name (ExprKind-F.Length value) = value
expression_kind_spans of_name (ExprKind-F.Reverse value) = value
expression_kind_spans of_name (ExprKind-F.Split value at) = value ++ at
expression_kind_spans of_name (ExprKind-F.Index pair number) = pair
expression_kind_spans of_name (ExprKind-F.Cast to value size) = value ++ some_or_none size
expression_kind_spans of_name (ExprKind-F.Call callee args) = callee_spans callee ++ joined args
expression_kind_spans of_name (ExprKind-F.New callee args) = callee_spans callee ++ joined args
expression_kind_spans of_name (ExprKind-F.Array items) = joined items
expression_kind_spans of_name (ExprKind-F.LookAt look index) = index
expression_kind_spans of_name _ = []

abbrev pub node_spans : {N T : Type 0} → Expr-F N T (List Span) (List Span) → List Span
node_spans e = e.span ∷ e.kind

-- an expression's, those of a name or of an unknown callee, and those of the expressions in it
abbrev pub expression_spans : {N T : Type 0} → (N → List Span) → Expr N T → List Span
expression_spans {N} {T} of_name =
    fold-Expr N T (List Span) (List Span) (expression_kind_spans of_name) node_spans

abbrev pub param_spans : {N : Type 0} → (N → List Span) → Param N → List Span
param_spans of_name param = of_name param.name ++ (param.place ∷ [])

abbrev pub statement_kind_spans : {N T : Type 0} → (N → List Span) → StmtKind-F N T (List Span) (List Span)
    → List Span
statement_kind_spans of_name (StmtKind-F.Define ty constant name place value) =
    of_name name ++ (place ∷ expression_spans of_name value)
statement_kind_spans of_name (StmtKind-F.Pair left right value) =
    param_spans of_name left ++ (param_spans of_name right ++ expression_spans of_name value)
statement_kind_spans of_name (StmtKind-F.Assign name value) = of_name name ++ expression_spans of_name value
statement_kind_spans of_name (StmtKind-F.Time value) = expression_spans of_name value
statement_kind_spans of_name (StmtKind-F.Age value) = expression_spans of_name value
statement_kind_spans of_name (StmtKind-F.Require value) = expression_spans of_name value
statement_kind_spans of_name (StmtKind-F.If test body other) =
    expression_spans of_name test ++ (joined body ++ joined_or_none other)

abbrev pub stmt_spans : {N T : Type 0} → Stmt-F N T (List Span) (List Span) → List Span
stmt_spans s = s.span ∷ s.kind

-- a statement's, those of the names that it defines or assigns, and those of the expressions and statements in it
abbrev pub statement_spans : {N T : Type 0} → (N → List Span) → Stmt N T → List Span
statement_spans {N} {T} of_name =
    fold-Stmt N T (List Span) (List Span) (statement_kind_spans of_name) stmt_spans

abbrev pub function_spans : {N T : Type 0} → (N → List Span) → Function N T → List Span
function_spans of_name f =
    f.name ∷ f.span ∷ (joined (map (param_spans of_name) f.params) ++ joined (map (statement_spans of_name) f.body))

abbrev pub sign_spans : Option Span → List Span
sign_spans (Some sign) = sign ∷ []
sign_spans None = []

abbrev pub constraint_spans : Constraint → List Span
constraint_spans constraint = constraint.version ∷ constraint.span ∷ sign_spans constraint.sign

abbrev pub tree_spans : {N T : Type 0} → (N → List Span) → Contract N T → List Span
tree_spans of_name tree =
    tree.name ∷ tree.span ∷ (joined (map constraint_spans tree.pragmas) ++
    (joined (map (param_spans of_name) tree.params) ++ joined (map (function_spans of_name) tree.functions)))
