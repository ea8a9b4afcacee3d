-- An expression without its types has the same spans.
use Rattle.std.proofs.Common.{◌≡◌, ◌∙◌, ap, sym, subst, refl, ℕ, ◌+◌, List, [], ◌∷◌, ◌++◌, map}
use Rattle.std.specs.Prelude.{Option, Some, None}
use Rattle.cash_base.specs.declared.place.Span.{Span}
use Rattle.cash_base.specs.declared.place.Slot.{Slot}
use Rattle.cash_tree.specs.declared.Ty.{Ty}
use Rattle.cash_tree.specs.declared.ExprKind.{ExprKind}
use Rattle.cash_tree.specs.declared.ExprKind.TheOpen.{ExprKind-F, Expr-F}
use Rattle.cash_tree.specs.declared.ExprKind.TheViews.{roll-Expr, roll-ExprKind}
use Rattle.cash_tree.specs.declared.ExprKind.TheFolds.{fold-ExprKind, ind-Expr, fold-roll-Expr, fold-roll-ExprKind, map-ExprKind}
use Rattle.cash_tree.specs.Nodes.{joined}
use Rattle.cash_tree.specs.Spans.{callee_spans, expression_kind_spans, node_spans, expression_spans}
use Rattle.type_tables.specs.Tables.{TypedExpr}
use Rattle.type_check.specs.Shapes.{NamedExpr, NamedKind, TypedKind, KindLayer, expr}
use Rattle.type_check.specs.Untyped.{kind_untyped, untyped}
use Rattle.type_check.proofs.Kept.{untyped_kind, layer_kept, expr_kept}

abbrev spans_of_kind : {T : Type 0} → (Slot → List Span) → ExprKind Slot T → List Span
spans_of_kind {T} of_name = fold-ExprKind Slot T (List Span) (List Span) (expression_kind_spans of_name) node_spans

abbrev KindAlike : (Slot → List Span) → TypedKind → Type 0
KindAlike of_name k = spans_of_kind of_name k ≡ spans_of_kind of_name (untyped_kind k)

abbrev Alike : (Slot → List Span) → TypedExpr → Type 0
Alike of_name x = expression_spans of_name x ≡ expression_spans of_name (untyped x)

abbrev Kinds : (Slot → List Span) → Type 0
Kinds of_name = (k : TypedKind) × KindAlike of_name k

abbrev Exprs : (Slot → List Span) → Type 0
Exprs of_name = (x : TypedExpr) × Alike of_name x

abbrev exprs_of : (of_name : Slot → List Span) → List (Exprs of_name) → List TypedExpr
exprs_of of_name xs = map (λ x. x.0) xs

abbrev Layer : (Slot → List Span) → Type 0
Layer of_name = ExprKind-F Slot Ty (Kinds of_name) (Exprs of_name)

abbrev kind_parts : (of_name : Slot → List Span) → Layer of_name → ExprKind-F Slot Ty TypedKind TypedExpr
kind_parts of_name =
    map-ExprKind Slot Ty (Kinds of_name) (Exprs of_name) TypedKind TypedExpr (λ k. k.0) (λ x. x.0)

each_step : (of_name : Slot → List Span) (xs : List (Exprs of_name))
    → joined (map (expression_spans of_name) (exprs_of of_name xs))
    ≡ joined (map (expression_spans of_name) (map untyped (exprs_of of_name xs)))
each_step of_name [] = refl
each_step of_name (x ∷ xs) =
    ap (λ l. l ++ joined (map (expression_spans of_name) (exprs_of of_name xs))) x.1
    ∙ ap (λ l. expression_spans of_name (untyped x.0) ++ l) (each_step of_name xs)

unrolled : (of_name : Slot → List Span) (layer : KindLayer NamedKind NamedExpr)
    → spans_of_kind of_name (roll-ExprKind Slot (Unit {0}) layer)
    ≡ expression_kind_spans of_name (map-ExprKind Slot (Unit {0}) NamedKind NamedExpr (List Span) (List Span)
    (spans_of_kind of_name) (expression_spans of_name) layer)
unrolled of_name layer =
    fold-roll-ExprKind Slot (Unit {0}) (List Span) (List Span) (expression_kind_spans of_name) node_spans layer

kind_step : (of_name : Slot → List Span) (y : Layer of_name)
    → expression_kind_spans of_name (map-ExprKind Slot Ty TypedKind TypedExpr (List Span) (List Span)
    (spans_of_kind of_name) (expression_spans of_name) (kind_parts of_name y))
    ≡ spans_of_kind of_name (kind_untyped (map-ExprKind Slot Ty TypedKind TypedExpr NamedKind NamedExpr untyped_kind
    untyped (kind_parts of_name y)))
unfolding roll-ExprKind denote.Hole.Carrier.roll
kind_step of_name (ExprKind-F.Int digits unit) =
    let l : KindLayer NamedKind NamedExpr = ExprKind-F.Int digits unit in sym (unrolled of_name l)
kind_step of_name (ExprKind-F.Bool b) =
    let l : KindLayer NamedKind NamedExpr = ExprKind-F.Bool b in sym (unrolled of_name l)
kind_step of_name (ExprKind-F.Hex bytes) =
    let l : KindLayer NamedKind NamedExpr = ExprKind-F.Hex bytes in sym (unrolled of_name l)
kind_step of_name (ExprKind-F.Text bytes) =
    let l : KindLayer NamedKind NamedExpr = ExprKind-F.Text bytes in sym (unrolled of_name l)
kind_step of_name (ExprKind-F.Date seconds) =
    let l : KindLayer NamedKind NamedExpr = ExprKind-F.Date seconds in sym (unrolled of_name l)
kind_step of_name (ExprKind-F.Name slot) =
    let l : KindLayer NamedKind NamedExpr = ExprKind-F.Name slot in sym (unrolled of_name l)
kind_step of_name (ExprKind-F.Unary op a) =
    let l : KindLayer NamedKind NamedExpr = ExprKind-F.Unary op (untyped a.0) in
    a.1 ∙ sym (unrolled of_name l)
kind_step of_name (ExprKind-F.Binary op a b) =
    let l : KindLayer NamedKind NamedExpr = ExprKind-F.Binary op (untyped a.0) (untyped b.0) in
    ap (λ l. l ++ expression_spans of_name b.0) a.1 ∙ ap (λ l. expression_spans of_name (untyped a.0) ++ l) b.1 ∙ sym (unrolled of_name l)
kind_step of_name (ExprKind-F.Length a) =
    let l : KindLayer NamedKind NamedExpr = ExprKind-F.Length (untyped a.0) in
    a.1 ∙ sym (unrolled of_name l)
kind_step of_name (ExprKind-F.Reverse a) =
    let l : KindLayer NamedKind NamedExpr = ExprKind-F.Reverse (untyped a.0) in
    a.1 ∙ sym (unrolled of_name l)
kind_step of_name (ExprKind-F.Split a b) =
    let l : KindLayer NamedKind NamedExpr = ExprKind-F.Split (untyped a.0) (untyped b.0) in
    ap (λ l. l ++ expression_spans of_name b.0) a.1 ∙ ap (λ l. expression_spans of_name (untyped a.0) ++ l) b.1 ∙ sym (unrolled of_name l)
kind_step of_name (ExprKind-F.Index a number) =
    let l : KindLayer NamedKind NamedExpr = ExprKind-F.Index (untyped a.0) number in
    a.1 ∙ sym (unrolled of_name l)
kind_step of_name (ExprKind-F.Cast to a None) =
    let l : KindLayer NamedKind NamedExpr = ExprKind-F.Cast to (untyped a.0) None in
    ap (λ l. l ++ []) a.1 ∙ sym (unrolled of_name l)
kind_step of_name (ExprKind-F.Cast to a (Some b)) =
    let l : KindLayer NamedKind NamedExpr = ExprKind-F.Cast to (untyped a.0) (Some (untyped b.0)) in
    ap (λ l. l ++ expression_spans of_name b.0) a.1 ∙ ap (λ l. expression_spans of_name (untyped a.0) ++ l) b.1 ∙ sym (unrolled of_name l)
kind_step of_name (ExprKind-F.Call callee parts) =
    let l : KindLayer NamedKind NamedExpr = ExprKind-F.Call callee (map untyped (exprs_of of_name parts)) in
    ap (λ l. callee_spans callee ++ l) (each_step of_name parts) ∙ sym (unrolled of_name l)
kind_step of_name (ExprKind-F.New callee parts) =
    let l : KindLayer NamedKind NamedExpr = ExprKind-F.New callee (map untyped (exprs_of of_name parts)) in
    ap (λ l. callee_spans callee ++ l) (each_step of_name parts) ∙ sym (unrolled of_name l)
kind_step of_name (ExprKind-F.Array parts) =
    let l : KindLayer NamedKind NamedExpr = ExprKind-F.Array (map untyped (exprs_of of_name parts)) in
    each_step of_name parts ∙ sym (unrolled of_name l)
kind_step of_name (ExprKind-F.Look0 look) =
    let l : KindLayer NamedKind NamedExpr = ExprKind-F.Look0 look in sym (unrolled of_name l)
kind_step of_name (ExprKind-F.LookAt look a) =
    let l : KindLayer NamedKind NamedExpr = ExprKind-F.LookAt look (untyped a.0) in
    a.1 ∙ sym (unrolled of_name l)

kind_alike : (of_name : Slot → List Span) (y : Layer of_name)
    → KindAlike of_name (roll-ExprKind Slot Ty (kind_parts of_name y))
kind_alike of_name y =
    fold-roll-ExprKind Slot Ty (List Span) (List Span) (expression_kind_spans of_name) node_spans
    (kind_parts of_name y)
    ∙ kind_step of_name y ∙ ap (spans_of_kind of_name) (sym (layer_kept (kind_parts of_name y)))

pub spans_alike : (of_name : Slot → List Span) (x : TypedExpr) → Alike of_name x
spans_alike of_name = ind-Expr Slot Ty (KindAlike of_name) (Alike of_name)
    (λ x y is. subst (λ z. KindAlike of_name (roll-ExprKind Slot Ty z)) is (kind_alike of_name y))
    (λ x y is. subst (λ z. Alike of_name (roll-Expr Slot Ty z)) is (
    let layer : Expr-F Slot Ty TypedKind TypedExpr = record { kind = y.kind.0; ty = y.ty; span = y.span } in
    let bare : Expr-F Slot (Unit {0}) NamedKind NamedExpr = record
    { kind = untyped_kind y.kind.0; ty = tt; span = y.span } in
    fold-roll-Expr Slot Ty (List Span) (List Span) (expression_kind_spans of_name) node_spans layer
    ∙ ap (λ l. y.span ∷ l) y.kind.1
    ∙ sym (fold-roll-Expr Slot (Unit {0}) (List Span) (List Span) (expression_kind_spans of_name) node_spans bare)
    ∙ ap (expression_spans of_name) (sym (expr_kept (untyped_kind y.kind.0) y.kind.0 y.span y.ty refl))))
