-- An expression without its types has as many nodes.
use Rattle.std.proofs.Common.{◌≡◌, ◌∙◌, ap, sym, subst, refl, ℕ, ◌+◌, List, [], ◌∷◌, ◌++◌, map}
use Rattle.std.specs.Prelude.{Option, Some, None}
use Rattle.cash_base.specs.declared.place.Span.{Span}
use Rattle.cash_base.specs.declared.place.Slot.{Slot}
use Rattle.cash_tree.specs.declared.Ty.{Ty}
use Rattle.cash_tree.specs.declared.ExprKind.{ExprKind}
use Rattle.cash_tree.specs.declared.ExprKind.TheOpen.{ExprKind-F, Expr-F}
use Rattle.cash_tree.specs.declared.ExprKind.TheViews.{roll-Expr, roll-ExprKind}
use Rattle.cash_tree.specs.declared.ExprKind.TheFolds.{fold-ExprKind, ind-Expr, fold-roll-Expr, fold-roll-ExprKind, map-ExprKind}
use Rattle.cash_tree.specs.Nodes.{kind_nodes, node_nodes, nodes, total}
use Rattle.type_tables.specs.Tables.{TypedExpr}
use Rattle.type_check.specs.Shapes.{NamedExpr, NamedKind, TypedKind, KindLayer, expr}
use Rattle.type_check.specs.Untyped.{kind_untyped, untyped}
use Rattle.type_check.proofs.Kept.{untyped_kind, layer_kept, expr_kept}

abbrev nodes_of_kind : {T : Type 0} → ExprKind Slot T → ℕ
nodes_of_kind {T} = fold-ExprKind Slot T ℕ ℕ kind_nodes node_nodes

abbrev KindAlike : TypedKind → Type 0
KindAlike k = nodes_of_kind k ≡ nodes_of_kind (untyped_kind k)

abbrev Alike : TypedExpr → Type 0
Alike x = nodes x ≡ nodes (untyped x)

abbrev Kinds : Type 0
Kinds = (k : TypedKind) × KindAlike k

abbrev Exprs : Type 0
Exprs = (x : TypedExpr) × Alike x

abbrev exprs_of : List Exprs → List TypedExpr
exprs_of xs = map (λ x. x.0) xs

abbrev kind_parts : ExprKind-F Slot Ty Kinds Exprs → ExprKind-F Slot Ty TypedKind TypedExpr
kind_parts = map-ExprKind Slot Ty Kinds Exprs TypedKind TypedExpr (λ k. k.0) (λ x. x.0)

each_step : (xs : List Exprs) → total (map nodes (exprs_of xs)) ≡ total (map nodes (map untyped (exprs_of xs)))
each_step [] = refl
each_step (x ∷ xs) =
    ap (λ n. n + total (map nodes (exprs_of xs))) x.1 ∙ ap (λ n. nodes (untyped x.0) + n) (each_step xs)

unrolled : (layer : KindLayer NamedKind NamedExpr) → nodes_of_kind (roll-ExprKind Slot (Unit {0}) layer)
    ≡ kind_nodes (map-ExprKind Slot (Unit {0}) NamedKind NamedExpr ℕ ℕ nodes_of_kind nodes layer)
unrolled layer = fold-roll-ExprKind Slot (Unit {0}) ℕ ℕ kind_nodes node_nodes layer

kind_step : (y : ExprKind-F Slot Ty Kinds Exprs)
    → kind_nodes (map-ExprKind Slot Ty TypedKind TypedExpr ℕ ℕ nodes_of_kind nodes (kind_parts y))
    ≡ nodes_of_kind (kind_untyped (map-ExprKind Slot Ty TypedKind TypedExpr NamedKind NamedExpr untyped_kind untyped
    (kind_parts y)))
unfolding roll-ExprKind denote.Hole.Carrier.roll
kind_step (ExprKind-F.Int digits unit) =
    let l : KindLayer NamedKind NamedExpr = ExprKind-F.Int digits unit in sym (unrolled l)
kind_step (ExprKind-F.Bool b) =
    let l : KindLayer NamedKind NamedExpr = ExprKind-F.Bool b in sym (unrolled l)
kind_step (ExprKind-F.Hex bytes) =
    let l : KindLayer NamedKind NamedExpr = ExprKind-F.Hex bytes in sym (unrolled l)
kind_step (ExprKind-F.Text bytes) =
    let l : KindLayer NamedKind NamedExpr = ExprKind-F.Text bytes in sym (unrolled l)
kind_step (ExprKind-F.Date seconds) =
    let l : KindLayer NamedKind NamedExpr = ExprKind-F.Date seconds in sym (unrolled l)
kind_step (ExprKind-F.Name slot) =
    let l : KindLayer NamedKind NamedExpr = ExprKind-F.Name slot in sym (unrolled l)
kind_step (ExprKind-F.Unary op a) =
    let l : KindLayer NamedKind NamedExpr = ExprKind-F.Unary op (untyped a.0) in
    ap (λ n. n + 1) a.1 ∙ sym (unrolled l)
kind_step (ExprKind-F.Binary op a b) =
    let l : KindLayer NamedKind NamedExpr = ExprKind-F.Binary op (untyped a.0) (untyped b.0) in
    ap (λ n. n + nodes b.0 + 1) a.1 ∙ ap (λ n. nodes (untyped a.0) + n + 1) b.1 ∙ sym (unrolled l)
kind_step (ExprKind-F.Length a) =
    let l : KindLayer NamedKind NamedExpr = ExprKind-F.Length (untyped a.0) in
    ap (λ n. n + 1) a.1 ∙ sym (unrolled l)
kind_step (ExprKind-F.Reverse a) =
    let l : KindLayer NamedKind NamedExpr = ExprKind-F.Reverse (untyped a.0) in
    ap (λ n. n + 1) a.1 ∙ sym (unrolled l)
kind_step (ExprKind-F.Split a b) =
    let l : KindLayer NamedKind NamedExpr = ExprKind-F.Split (untyped a.0) (untyped b.0) in
    ap (λ n. n + nodes b.0 + 1) a.1 ∙ ap (λ n. nodes (untyped a.0) + n + 1) b.1 ∙ sym (unrolled l)
kind_step (ExprKind-F.Index a number) =
    let l : KindLayer NamedKind NamedExpr = ExprKind-F.Index (untyped a.0) number in
    ap (λ n. n + 1) a.1 ∙ sym (unrolled l)
kind_step (ExprKind-F.Cast to a None) =
    let l : KindLayer NamedKind NamedExpr = ExprKind-F.Cast to (untyped a.0) None in
    ap (λ n. n + 0 + 1) a.1 ∙ sym (unrolled l)
kind_step (ExprKind-F.Cast to a (Some b)) =
    let l : KindLayer NamedKind NamedExpr = ExprKind-F.Cast to (untyped a.0) (Some (untyped b.0)) in
    ap (λ n. n + nodes b.0 + 1) a.1 ∙ ap (λ n. nodes (untyped a.0) + n + 1) b.1 ∙ sym (unrolled l)
kind_step (ExprKind-F.Call callee parts) =
    let l : KindLayer NamedKind NamedExpr = ExprKind-F.Call callee (map untyped (exprs_of parts)) in
    ap (λ n. n + 1) (each_step parts) ∙ sym (unrolled l)
kind_step (ExprKind-F.New callee parts) =
    let l : KindLayer NamedKind NamedExpr = ExprKind-F.New callee (map untyped (exprs_of parts)) in
    ap (λ n. n + 1) (each_step parts) ∙ sym (unrolled l)
kind_step (ExprKind-F.Array parts) =
    let l : KindLayer NamedKind NamedExpr = ExprKind-F.Array (map untyped (exprs_of parts)) in
    ap (λ n. n + 1) (each_step parts) ∙ sym (unrolled l)
kind_step (ExprKind-F.Look0 look) =
    let l : KindLayer NamedKind NamedExpr = ExprKind-F.Look0 look in sym (unrolled l)
kind_step (ExprKind-F.LookAt look a) =
    let l : KindLayer NamedKind NamedExpr = ExprKind-F.LookAt look (untyped a.0) in
    ap (λ n. n + 1) a.1 ∙ sym (unrolled l)

kind_alike : (y : ExprKind-F Slot Ty Kinds Exprs) → KindAlike (roll-ExprKind Slot Ty (kind_parts y))
kind_alike y =
    fold-roll-ExprKind Slot Ty ℕ ℕ kind_nodes node_nodes (kind_parts y) ∙ kind_step y
    ∙ ap nodes_of_kind (sym (layer_kept (kind_parts y)))

pub nodes_alike : (x : TypedExpr) → Alike x
nodes_alike = ind-Expr Slot Ty KindAlike Alike
    (λ x y is. subst (λ z. KindAlike (roll-ExprKind Slot Ty z)) is (kind_alike y))
    (λ x y is. subst (λ z. Alike (roll-Expr Slot Ty z)) is (
    let layer : Expr-F Slot Ty TypedKind TypedExpr = record { kind = y.kind.0; ty = y.ty; span = y.span } in
    let bare : Expr-F Slot (Unit {0}) NamedKind NamedExpr = record
    { kind = untyped_kind y.kind.0; ty = tt; span = y.span } in
    fold-roll-Expr Slot Ty ℕ ℕ kind_nodes node_nodes layer ∙ y.kind.1
    ∙ sym (fold-roll-Expr Slot (Unit {0}) ℕ ℕ kind_nodes node_nodes bare)
    ∙ ap nodes (sym (expr_kept (untyped_kind y.kind.0) y.kind.0 y.span y.ty refl))))
