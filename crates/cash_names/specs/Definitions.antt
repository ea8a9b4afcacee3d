-- Which names a tree declares and uses, in text order, and how their slots are numbered.
use Rattle.std.specs.Prelude.{◌≡◌, ℕ, ◌+◌, ◌<◌, List, [], ◌∷◌, ◌++◌, map, length, Option, Some, None}
use Rattle.std.specs.List.{AllByRecursion}
use Rattle.cash_base.specs.declared.place.Span.{Span}
use Rattle.cash_base.specs.declared.place.Slot.{Slot}
use Rattle.cash_tree.specs.declared.Expr.{Expr}
use Rattle.cash_tree.specs.declared.ExprKind.TheOpen.{ExprKind-F, Expr-F}
use Rattle.cash_tree.specs.declared.ExprKind.TheFolds.{fold-Expr}
use Rattle.cash_tree.specs.declared.Stmt.{Stmt}
use Rattle.cash_tree.specs.declared.StmtKind.TheOpen.{StmtKind-F, Stmt-F}
use Rattle.cash_tree.specs.declared.StmtKind.TheFolds.{fold-Stmt}
use Rattle.cash_tree.specs.declared.Param.{Param}
use Rattle.cash_tree.specs.declared.Function.{Function}
use Rattle.cash_tree.specs.declared.Contract.{Contract}
use Rattle.cash_tree.specs.Nodes.{joined, joined_or_none}

-- a name that is declared, and the span of its word
pub record Definition (N : Type 0) : Type 0 where
  pub name : N
  pub place : Span

abbrev pub definition : {N : Type 0} → N → Span → Definition N
definition name place = record { name = name; place = place }

abbrev pub kind_definitions : {N T : Type 0} → StmtKind-F N T (List (Definition N)) (List (Definition N)) → List (Definition N)
kind_definitions (StmtKind-F.Define ty constant name place value) = definition name place ∷ []
kind_definitions (StmtKind-F.Pair left right value) =
    definition left.name left.place ∷ definition right.name right.place ∷ []
kind_definitions (StmtKind-F.If test body other) = joined body ++ joined_or_none other
kind_definitions _ = []

abbrev pub stmt_definitions : {N T : Type 0} → Stmt-F N T (List (Definition N)) (List (Definition N)) → List (Definition N)
stmt_definitions s = s.kind

-- those of a statement, and of the statements in it
abbrev pub definitions : {N T : Type 0} → Stmt N T → List (Definition N)
definitions {N} {T} =
    fold-Stmt N T (List (Definition N)) (List (Definition N)) kind_definitions stmt_definitions

abbrev pub param_definitions : {N : Type 0} → List (Param N) → List (Definition N)
param_definitions params = map (λ param. definition param.name param.place) params

-- a function's parameters, and the names that its body defines
abbrev pub function_definitions : {N T : Type 0} → Function N T → List (Definition N)
function_definitions f = param_definitions f.params ++ joined (map definitions f.body)

-- ---- the words of a tree's names, by their spans

abbrev pub places : {N : Type 0} → List (Definition N) → List Span
places defined = map (λ d. d.place) defined

abbrev pub function_words : {N T : Type 0} → Function N T → List Span
function_words f = f.name ∷ places (function_definitions f)

-- that of the contract, of the constructor's parameters, of each function, and of all that it declares
abbrev pub words : {N T : Type 0} → Contract N T → List Span
words tree =
    tree.name ∷ (places (param_definitions tree.params) ++ joined (map function_words tree.functions))

-- ---- the names that a function reads or assigns

abbrev pub or_none : {N : Type 0} → Option (List N) → List N
or_none (Some names) = names
or_none None = []

abbrev pub expression_kind_uses : {N T : Type 0} → ExprKind-F N T (List N) (List N) → List N
expression_kind_uses (ExprKind-F.Name name) = name ∷ []
expression_kind_uses (ExprKind-F.Unary op value) = value
expression_kind_uses (ExprKind-F.Binary op left right) = left ++ right
expression_kind_uses (ExprKind-F.Length value) = value
expression_kind_uses (ExprKind-F.Reverse value) = value
expression_kind_uses (ExprKind-F.Split value at) = value ++ at
expression_kind_uses (ExprKind-F.Index pair number) = pair
expression_kind_uses (ExprKind-F.Cast to value size) = value ++ or_none size
expression_kind_uses (ExprKind-F.Call callee args) = joined args
expression_kind_uses (ExprKind-F.New callee args) = joined args
expression_kind_uses (ExprKind-F.Array items) = joined items
expression_kind_uses (ExprKind-F.LookAt look index) = index
expression_kind_uses _ = []

abbrev pub node_uses : {N T : Type 0} → Expr-F N T (List N) (List N) → List N
node_uses e = e.kind

abbrev pub expression_uses : {N T : Type 0} → Expr N T → List N
expression_uses {N} {T} = fold-Expr N T (List N) (List N) expression_kind_uses node_uses

abbrev pub kind_uses : {N T : Type 0} → StmtKind-F N T (List N) (List N) → List N
kind_uses (StmtKind-F.Define ty constant name place value) = expression_uses value
kind_uses (StmtKind-F.Pair left right value) = expression_uses value
kind_uses (StmtKind-F.Assign name value) = name ∷ expression_uses value
kind_uses (StmtKind-F.Time value) = expression_uses value
kind_uses (StmtKind-F.Age value) = expression_uses value
kind_uses (StmtKind-F.Require value) = expression_uses value
kind_uses (StmtKind-F.If test body other) = expression_uses test ++ (joined body ++ joined_or_none other)

abbrev pub stmt_uses : {N T : Type 0} → Stmt-F N T (List N) (List N) → List N
stmt_uses s = s.kind

-- those of a statement, and of the statements in it
abbrev pub uses : {N T : Type 0} → Stmt N T → List N
uses {N} {T} = fold-Stmt N T (List N) (List N) kind_uses stmt_uses

abbrev pub function_uses : {N T : Type 0} → Function N T → List N
function_uses f = joined (map uses f.body)

-- ---- slots

-- one after the other, from this number on
abbrev pub AreNumbered : ℕ → List (Definition Slot) → Type 0
AreNumbered from [] = Unit {0}
AreNumbered from (d ∷ defined) = (d.name.0 ≡ from) × AreNumbered (from + 1) defined

-- The constructor's parameters are numbered from 0, and after them, in each function anew, its parameters and the
-- names that its body defines. So no two names that are declared for a function have one slot.
abbrev pub HasSlotsInOrder : {T : Type 0} → Contract Slot T → Type 0
HasSlotsInOrder tree =
    AreNumbered 0 (param_definitions tree.params)
    × AllByRecursion (λ f. AreNumbered (length tree.params) (function_definitions f)) tree.functions

-- Each slot that a function reads or assigns is that of a parameter of the constructor, or of a name that the function
-- declares.
abbrev pub HasSlotsDefined : {T : Type 0} → Contract Slot T → Type 0
HasSlotsDefined tree =
    AllByRecursion
    (λ f. AllByRecursion (λ slot. slot.0 < length tree.params + length (function_definitions f)) (function_uses f))
    tree.functions
