-- The names in an expression, in text order, and the expression with slots in their place.
use Rattle.std.specs.Prelude.{List, [], ◌∷◌, ◌++◌, Option, None, Some}
use Rattle.cash_base.specs.declared.place.Span.{Span}
use Rattle.cash_base.specs.declared.place.Slot.{Slot}
use Rattle.cash_tree.specs.declared.Callee.{Callee}
use Rattle.cash_tree.specs.declared.Callee.TheVariants.{Known, Unknown}
use Rattle.cash_tree.specs.declared.Expr.{Expr}
use Rattle.cash_tree.specs.declared.ExprKind.{ExprKind}
use Rattle.cash_tree.specs.declared.ExprKind.TheVariants as nodes
use Rattle.cash_tree.specs.declared.ExprKind.TheOpen.{ExprKind-F, Expr-F}
use Rattle.cash_tree.specs.declared.ExprKind.TheFolds.{fold-Expr}
use Rattle.name_scopes.specs.Names.{Names}
use Rattle.name_scopes.specs.Wants.{Want, is_known, is_callable}

-- as parsed: names are spans
abbrev pub Expression : Type 0
Expression = Expr Span (Unit {0})

abbrev pub Kind : Type 0
Kind = ExprKind Span (Unit {0})

-- names are slots
abbrev pub NamedExpr : Type 0
NamedExpr = Expr Slot (Unit {0})

abbrev pub NamedKind : Type 0
NamedKind = ExprKind Slot (Unit {0})

-- ---- what an expression wants of its names, by the names in scope

-- one after the other
abbrev pub joined : List (List Want) → List Want
joined [] = []
joined (wants ∷ more) = wants ++ joined more

abbrev pub or_none : Option (List Want) → List Want
or_none (Some wants) = wants
or_none None = []

abbrev pub callee_wants : Callee → List Want
callee_wants (Known builtin) = []
callee_wants (Unknown span) = is_callable span ∷ []

abbrev pub kind_wants : Names → ExprKind-F Span (Unit {0}) (List Want) (List Want) → List Want
kind_wants names (ExprKind-F.Name span) = is_known names span ∷ []
kind_wants names (ExprKind-F.Unary op value) = value
kind_wants names (ExprKind-F.Binary op left right) = left ++ right
kind_wants names (ExprKind-F.Length value) = value
kind_wants names (ExprKind-F.Reverse value) = value
kind_wants names (ExprKind-F.Split value at) = value ++ at
kind_wants names (ExprKind-F.Index pair number) = pair
kind_wants names (ExprKind-F.Cast to value size) = value ++ or_none size
kind_wants names (ExprKind-F.Call callee args) = callee_wants callee ++ joined args
kind_wants names (ExprKind-F.New callee args) = callee_wants callee ++ joined args
kind_wants names (ExprKind-F.Array items) = joined items
kind_wants names (ExprKind-F.LookAt look index) = index
kind_wants names _ = []

abbrev pub node_wants : Expr-F Span (Unit {0}) (List Want) (List Want) → List Want
node_wants e = e.kind

abbrev pub wants_of : Names → Expression → List Want
wants_of names = fold-Expr Span (Unit {0}) (List Want) (List Want) (kind_wants names) node_wants

-- ---- the same expression, with slots for names

abbrev pub kind_with_slots : (Span → Slot) → ExprKind-F Span (Unit {0}) NamedKind NamedExpr → NamedKind
kind_with_slots slot_of (ExprKind-F.Int digits unit) = nodes.Int digits unit
kind_with_slots slot_of (ExprKind-F.Bool b) = nodes.Bool b
kind_with_slots slot_of (ExprKind-F.Hex bytes) = nodes.Hex bytes
kind_with_slots slot_of (ExprKind-F.Text bytes) = nodes.Text bytes
kind_with_slots slot_of (ExprKind-F.Date seconds) = nodes.Date seconds
kind_with_slots slot_of (ExprKind-F.Name span) = nodes.Name (slot_of span)
kind_with_slots slot_of (ExprKind-F.Unary op value) = nodes.Unary op value
kind_with_slots slot_of (ExprKind-F.Binary op left right) = nodes.Binary op left right
kind_with_slots slot_of (ExprKind-F.Length value) = nodes.Length value
kind_with_slots slot_of (ExprKind-F.Reverse value) = nodes.Reverse value
kind_with_slots slot_of (ExprKind-F.Split value at) = nodes.Split value at
kind_with_slots slot_of (ExprKind-F.Index pair number) = nodes.Index pair number
kind_with_slots slot_of (ExprKind-F.Cast to value size) = nodes.Cast to value size
kind_with_slots slot_of (ExprKind-F.Call callee args) = nodes.Call callee args
kind_with_slots slot_of (ExprKind-F.New callee args) = nodes.New callee args
kind_with_slots slot_of (ExprKind-F.Array items) = nodes.Array items
kind_with_slots slot_of (ExprKind-F.Look0 look) = nodes.Look0 look
kind_with_slots slot_of (ExprKind-F.LookAt look index) = nodes.LookAt look index

abbrev pub node_with_slots : Expr-F Span (Unit {0}) NamedKind NamedExpr → NamedExpr
node_with_slots e = record { kind = e.kind; ty = tt; span = e.span }

abbrev pub with_slots : (Span → Slot) → Expression → NamedExpr
with_slots slot_of = fold-Expr Span (Unit {0}) NamedKind NamedExpr (kind_with_slots slot_of) node_with_slots
