-- How many nodes an expression has, and which expressions stand in a tree, whatever its names and types are.
use Rattle.std.specs.Prelude.{ℕ, ◌+◌, ◌≤◌, List, [], ◌∷◌, ◌++◌, map, Option, Some, None}
use Rattle.cash_tree.specs.declared.Expr.{Expr}
use Rattle.cash_tree.specs.declared.ExprKind.TheOpen.{ExprKind-F, Expr-F}
use Rattle.cash_tree.specs.declared.ExprKind.TheFolds.{fold-Expr}
use Rattle.cash_tree.specs.declared.Stmt.{Stmt}
use Rattle.cash_tree.specs.declared.StmtKind.TheOpen.{StmtKind-F, Stmt-F}
use Rattle.cash_tree.specs.declared.StmtKind.TheFolds.{fold-Stmt}
use Rattle.cash_tree.specs.declared.Contract.{Contract}

-- ---- the nodes of an expression

-- an expression of a parsed tree has at most so many
abbrev pub most_nodes : ℕ
most_nodes = 1000

abbrev pub total : List ℕ → ℕ
total [] = 0
total (n ∷ ns) = n + total ns

abbrev pub or_none : Option ℕ → ℕ
or_none (Some n) = n
or_none None = 0

abbrev pub kind_nodes : {N T : Type 0} → ExprKind-F N T ℕ ℕ → ℕ
kind_nodes (ExprKind-F.Unary op value) = value + 1
kind_nodes (ExprKind-F.Binary op left right) = left + right + 1
kind_nodes (ExprKind-F.Length value) = value + 1
kind_nodes (ExprKind-F.Reverse value) = value + 1
kind_nodes (ExprKind-F.Split value at) = value + at + 1
kind_nodes (ExprKind-F.Index pair number) = pair + 1
kind_nodes (ExprKind-F.Cast to value size) = value + or_none size + 1
kind_nodes (ExprKind-F.Call callee args) = total args + 1
kind_nodes (ExprKind-F.New callee args) = total args + 1
kind_nodes (ExprKind-F.Array items) = total items + 1
kind_nodes (ExprKind-F.LookAt look index) = index + 1
kind_nodes _ = 1

abbrev pub node_nodes : {N T : Type 0} → Expr-F N T ℕ ℕ → ℕ
node_nodes e = e.kind

-- how many nodes an expression has, itself and those in it
abbrev pub nodes : {N T : Type 0} → Expr N T → ℕ
nodes {N} {T} = fold-Expr N T ℕ ℕ kind_nodes node_nodes

-- ---- the expressions of a tree that stand in no other

abbrev pub joined : {A : Type 0} → List (List A) → List A
joined [] = []
joined (xs ∷ more) = xs ++ joined more

abbrev pub joined_or_none : {A : Type 0} → Option (List (List A)) → List A
joined_or_none (Some more) = joined more
joined_or_none None = []

abbrev pub kind_values : {N T : Type 0} → StmtKind-F N T (List (Expr N T)) (List (Expr N T)) → List (Expr N T)
kind_values (StmtKind-F.Define ty constant name place value) = value ∷ []
kind_values (StmtKind-F.Pair left right value) = value ∷ []
kind_values (StmtKind-F.Assign name value) = value ∷ []
kind_values (StmtKind-F.Time value) = value ∷ []
kind_values (StmtKind-F.Age value) = value ∷ []
kind_values (StmtKind-F.Require value) = value ∷ []
kind_values (StmtKind-F.If test body other) = test ∷ (joined body ++ joined_or_none other)

abbrev pub stmt_values : {N T : Type 0} → Stmt-F N T (List (Expr N T)) (List (Expr N T)) → List (Expr N T)
stmt_values s = s.kind

-- those of a statement, and of the statements in it
abbrev pub values : {N T : Type 0} → Stmt N T → List (Expr N T)
values {N} {T} = fold-Stmt N T (List (Expr N T)) (List (Expr N T)) kind_values stmt_values

abbrev pub tree_values : {N T : Type 0} → Contract N T → List (Expr N T)
tree_values tree = joined (map (λ f. joined (map values f.body)) tree.functions)

abbrev pub AreSmall : {N T : Type 0} → List (Expr N T) → Type 0
AreSmall [] = Unit {0}
AreSmall (e ∷ es) = (nodes e ≤ most_nodes) × AreSmall es
