-- The spans of each kind of expression, by its line in the definition.
use Rattle.std.proofs.Common.{◌≡◌, ℕ, ℤ, Bool, List, [], ◌∷◌, ◌++◌, map}
use Rattle.std.specs.Prelude.{Some, None}
use Rattle.cash_base.specs.declared.place.Span.{Span}
use Rattle.cash_base.specs.declared.place.Slot.{Slot}
use Rattle.cash_base.specs.declared.look.Look0.{Look0}
use Rattle.cash_base.specs.declared.look.LookAt.{LookAt}
use Rattle.cash_tree.specs.declared.Ty.{Ty}
use Rattle.cash_tree.specs.declared.UnaryOp.{UnaryOp}
use Rattle.cash_tree.specs.declared.BinaryOp.{BinaryOp}
use Rattle.cash_tree.specs.declared.Callee.{Callee}
use Rattle.cash_tree.specs.declared.ExprKind.{ExprKind}
use Rattle.cash_tree.specs.declared.ExprKind.TheVariants as exprs
use Rattle.cash_tree.specs.declared.ExprKind.TheOpen.{ExprKind-F, Expr-F}
use Rattle.cash_tree.specs.declared.ExprKind.TheViews.{roll-ExprKind}
use Rattle.cash_tree.specs.declared.ExprKind.TheFolds.{fold-roll-Expr, fold-roll-ExprKind}
use Rattle.cash_tree.specs.Nodes.{joined}
use Rattle.cash_tree.specs.Spans.{nothing as no_name, callee_spans, expression_kind_spans, node_spans}
use Rattle.type_tables.specs.Tables.{TypedExpr}
use Rattle.slot_expressions.specs.Spans.{own_spans, own_spans_at}

abbrev Layer : Type 0
Layer = ExprKind-F Slot Ty (ExprKind Slot Ty) TypedExpr

abbrev Whole : Type 0
Whole = Expr-F Slot Ty (ExprKind Slot Ty) TypedExpr

pub whole_spanned : (e : TypedExpr) → own_spans e ≡ e.span ∷ own_spans_at e.kind
unfolding own_spans own_spans_at
whole_spanned e =
    let layer : Whole = record { kind = e.kind; ty = e.ty; span = e.span } in
    fold-roll-Expr Slot Ty (List Span) (List Span) (expression_kind_spans no_name) node_spans layer

pub int_spanned : (digits unit : ℕ) → own_spans_at (exprs.Int digits unit) ≡ []
unfolding own_spans own_spans_at roll-ExprKind denote.Hole.Carrier.roll
int_spanned digits unit =
    let layer : Layer = ExprKind-F.Int digits unit in fold-roll-ExprKind Slot Ty (List Span) (List Span) (expression_kind_spans no_name) node_spans layer

pub bool_spanned : (b : Bool) → own_spans_at (exprs.Bool b) ≡ []
unfolding own_spans own_spans_at roll-ExprKind denote.Hole.Carrier.roll
bool_spanned b =
    let layer : Layer = ExprKind-F.Bool b in fold-roll-ExprKind Slot Ty (List Span) (List Span) (expression_kind_spans no_name) node_spans layer

pub hex_spanned : (bytes : List ℕ) → own_spans_at (exprs.Hex bytes) ≡ []
unfolding own_spans own_spans_at roll-ExprKind denote.Hole.Carrier.roll
hex_spanned bytes =
    let layer : Layer = ExprKind-F.Hex bytes in fold-roll-ExprKind Slot Ty (List Span) (List Span) (expression_kind_spans no_name) node_spans layer

pub text_spanned : (bytes : List ℕ) → own_spans_at (exprs.Text bytes) ≡ []
unfolding own_spans own_spans_at roll-ExprKind denote.Hole.Carrier.roll
text_spanned bytes =
    let layer : Layer = ExprKind-F.Text bytes in fold-roll-ExprKind Slot Ty (List Span) (List Span) (expression_kind_spans no_name) node_spans layer

pub date_spanned : (seconds : ℤ) → own_spans_at (exprs.Date seconds) ≡ []
unfolding own_spans own_spans_at roll-ExprKind denote.Hole.Carrier.roll
date_spanned seconds =
    let layer : Layer = ExprKind-F.Date seconds in fold-roll-ExprKind Slot Ty (List Span) (List Span) (expression_kind_spans no_name) node_spans layer

pub name_spanned : (slot : Slot) → own_spans_at (exprs.Name slot) ≡ []
unfolding own_spans own_spans_at roll-ExprKind denote.Hole.Carrier.roll
name_spanned slot =
    let layer : Layer = ExprKind-F.Name slot in fold-roll-ExprKind Slot Ty (List Span) (List Span) (expression_kind_spans no_name) node_spans layer

pub unary_spanned : (op : UnaryOp) (a : TypedExpr) → own_spans_at (exprs.Unary op a) ≡ own_spans a
unfolding own_spans own_spans_at roll-ExprKind denote.Hole.Carrier.roll
unary_spanned op a =
    let layer : Layer = ExprKind-F.Unary op a in fold-roll-ExprKind Slot Ty (List Span) (List Span) (expression_kind_spans no_name) node_spans layer

pub binary_spanned : (op : BinaryOp) (a b : TypedExpr) → own_spans_at (exprs.Binary op a b) ≡ own_spans a ++ own_spans b
unfolding own_spans own_spans_at roll-ExprKind denote.Hole.Carrier.roll
binary_spanned op a b =
    let layer : Layer = ExprKind-F.Binary op a b in fold-roll-ExprKind Slot Ty (List Span) (List Span) (expression_kind_spans no_name) node_spans layer

pub length_spanned : (a : TypedExpr) → own_spans_at (exprs.Length a) ≡ own_spans a
unfolding own_spans own_spans_at roll-ExprKind denote.Hole.Carrier.roll
length_spanned a =
    let layer : Layer = ExprKind-F.Length a in fold-roll-ExprKind Slot Ty (List Span) (List Span) (expression_kind_spans no_name) node_spans layer

pub reverse_spanned : (a : TypedExpr) → own_spans_at (exprs.Reverse a) ≡ own_spans a
unfolding own_spans own_spans_at roll-ExprKind denote.Hole.Carrier.roll
reverse_spanned a =
    let layer : Layer = ExprKind-F.Reverse a in fold-roll-ExprKind Slot Ty (List Span) (List Span) (expression_kind_spans no_name) node_spans layer

pub split_spanned : (a b : TypedExpr) → own_spans_at (exprs.Split a b) ≡ own_spans a ++ own_spans b
unfolding own_spans own_spans_at roll-ExprKind denote.Hole.Carrier.roll
split_spanned a b =
    let layer : Layer = ExprKind-F.Split a b in fold-roll-ExprKind Slot Ty (List Span) (List Span) (expression_kind_spans no_name) node_spans layer

pub index_spanned : (a : TypedExpr) (number : ℕ) → own_spans_at (exprs.Index a number) ≡ own_spans a
unfolding own_spans own_spans_at roll-ExprKind denote.Hole.Carrier.roll
index_spanned a number =
    let layer : Layer = ExprKind-F.Index a number in fold-roll-ExprKind Slot Ty (List Span) (List Span) (expression_kind_spans no_name) node_spans layer

pub cast_spanned : (to : Ty) (a : TypedExpr) → own_spans_at (exprs.Cast to a None) ≡ own_spans a ++ []
unfolding own_spans own_spans_at roll-ExprKind denote.Hole.Carrier.roll
cast_spanned to a =
    let layer : Layer = ExprKind-F.Cast to a None in fold-roll-ExprKind Slot Ty (List Span) (List Span) (expression_kind_spans no_name) node_spans layer

pub sized_cast_spanned : (to : Ty) (a b : TypedExpr) → own_spans_at (exprs.Cast to a (Some b)) ≡ own_spans a ++ own_spans b
unfolding own_spans own_spans_at roll-ExprKind denote.Hole.Carrier.roll
sized_cast_spanned to a b =
    let layer : Layer = ExprKind-F.Cast to a (Some b) in fold-roll-ExprKind Slot Ty (List Span) (List Span) (expression_kind_spans no_name) node_spans layer

pub call_spanned : (callee : Callee) (args : List TypedExpr) → own_spans_at (exprs.Call callee args) ≡ callee_spans callee ++ joined (map own_spans args)
unfolding own_spans own_spans_at roll-ExprKind denote.Hole.Carrier.roll
call_spanned callee args =
    let layer : Layer = ExprKind-F.Call callee args in fold-roll-ExprKind Slot Ty (List Span) (List Span) (expression_kind_spans no_name) node_spans layer

pub new_spanned : (callee : Callee) (args : List TypedExpr) → own_spans_at (exprs.New callee args) ≡ callee_spans callee ++ joined (map own_spans args)
unfolding own_spans own_spans_at roll-ExprKind denote.Hole.Carrier.roll
new_spanned callee args =
    let layer : Layer = ExprKind-F.New callee args in fold-roll-ExprKind Slot Ty (List Span) (List Span) (expression_kind_spans no_name) node_spans layer

pub array_spanned : (items : List TypedExpr) → own_spans_at (exprs.Array items) ≡ joined (map own_spans items)
unfolding own_spans own_spans_at roll-ExprKind denote.Hole.Carrier.roll
array_spanned items =
    let layer : Layer = ExprKind-F.Array items in fold-roll-ExprKind Slot Ty (List Span) (List Span) (expression_kind_spans no_name) node_spans layer

pub look0_spanned : (what : Look0) → own_spans_at (exprs.Look0 what) ≡ []
unfolding own_spans own_spans_at roll-ExprKind denote.Hole.Carrier.roll
look0_spanned what =
    let layer : Layer = ExprKind-F.Look0 what in fold-roll-ExprKind Slot Ty (List Span) (List Span) (expression_kind_spans no_name) node_spans layer

pub look_at_spanned : (what : LookAt) (a : TypedExpr) → own_spans_at (exprs.LookAt what a) ≡ own_spans a
unfolding own_spans own_spans_at roll-ExprKind denote.Hole.Carrier.roll
look_at_spanned what a =
    let layer : Layer = ExprKind-F.LookAt what a in fold-roll-ExprKind Slot Ty (List Span) (List Span) (expression_kind_spans no_name) node_spans layer
