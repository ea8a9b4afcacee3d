-- What is asked of a typed expression, by its layer.
use Rattle.std.proofs.Common.{◌≡◌, ◌∙◌, ap, sym, refl, ℕ, Bool, List, length}
use Rattle.std.specs.Prelude.{◌&&◌}
use Rattle.std.specs.List.{list_all}
use Rattle.cash_base.specs.declared.place.Span.{Span}
use Rattle.cash_base.specs.declared.place.Slot.{Slot}
use Rattle.cash_tree.specs.declared.Ty.{Ty}
use Rattle.cash_tree.specs.declared.ExprKind.TheOpen.{ExprKind-F, Expr-F}
use Rattle.cash_tree.specs.declared.ExprKind.TheViews.{out-roll-ExprKind}
use Rattle.cash_tree.specs.declared.ExprKind.TheFolds.{fold-Expr, fold-ExprKind, fold-roll-Expr, fold-roll-ExprKind, map-ExprKind}
use Rattle.cash_names.specs.Definitions.{expression_kind_uses, node_uses, expression_uses}
use Rattle.type_tables.specs.Tables.{TypedExpr, item_count, kind_items as kind_count, node_items as node_count}
use Rattle.type_check.specs.Shapes.{TypedKind, typed}
use Rattle.type_soundness.proofs.View.{Layer, kind_of_layer}
use Rattle.slot_expressions.specs.Ready.{Known-names, Node, Kind, kind_ready, kind_items, kind_step, node_step, ready_node, ready_kind, is_ready, ready_items}
use Rattle.slot_lowering.specs.Scoped.{is_split, is_split_layer}
use Rattle.lowering_laws.specs.Laws.{kind_fits, node_fits, nodes_fit, kind_nodes_fit}

abbrev Whole : Type 0
Whole = Expr-F Slot Ty TypedKind TypedExpr

abbrev whole : Layer → Ty → Span → Whole
whole layer t span = record { kind = kind_of_layer layer; ty = t; span = span }

-- ---- ready

abbrev pub readied : Known-names → Layer → ExprKind-F Slot Ty Kind Node
readied known layer = map-ExprKind Slot Ty TypedKind TypedExpr Kind Node (ready_kind known) (ready_node known) layer

abbrev pub node_at : Known-names → Layer → Ty → Node
node_at known layer t = record { ty = t; ready = kind_ready known (readied known layer); items = kind_items (readied known layer) }

node_is : (known : Known-names) (layer : Layer) (t : Ty) (span : Span) → ready_node known (typed (kind_of_layer layer) t span) ≡ node_at known layer t
unfolding ready_node ready_kind
node_is known layer t span =
    fold-roll-Expr Slot Ty Kind Node (kind_step known) node_step (whole layer t span)
    ∙ ap (λ (k : Kind). node_step (record { kind = k; ty = t; span = span })) (fold-roll-ExprKind Slot Ty Kind Node (kind_step known) node_step layer)

pub ready_is : (known : Known-names) (layer : Layer) (t : Ty) (span : Span) → is_ready known (typed (kind_of_layer layer) t span) ≡ kind_ready known (readied known layer)
ready_is known layer t span = ap (λ (n : Node). n.ready) (node_is known layer t span)

pub items_are : (known : Known-names) (layer : Layer) (t : Ty) (span : Span) → ready_items known (typed (kind_of_layer layer) t span) ≡ kind_items (readied known layer)
items_are known layer t span = ap (λ (n : Node). n.items) (node_is known layer t span)

-- ---- names

abbrev uses_of_kind : TypedKind → List Slot
uses_of_kind = fold-ExprKind Slot Ty (List Slot) (List Slot) expression_kind_uses node_uses

abbrev pub used : Layer → ExprKind-F Slot Ty (List Slot) (List Slot)
used layer = map-ExprKind Slot Ty TypedKind TypedExpr (List Slot) (List Slot) uses_of_kind expression_uses layer

pub uses_are : (layer : Layer) (t : Ty) (span : Span) → expression_uses (typed (kind_of_layer layer) t span) ≡ expression_kind_uses (used layer)
uses_are layer t span =
    fold-roll-Expr Slot Ty (List Slot) (List Slot) expression_kind_uses node_uses (whole layer t span)
    ∙ fold-roll-ExprKind Slot Ty (List Slot) (List Slot) expression_kind_uses node_uses layer

-- ---- lengths

abbrev pub fitted : Layer → ExprKind-F Slot Ty Bool Bool
fitted layer = map-ExprKind Slot Ty TypedKind TypedExpr Bool Bool kind_nodes_fit nodes_fit layer

pub fits_are : (layer : Layer) (t : Ty) (span : Span) → nodes_fit (typed (kind_of_layer layer) t span) ≡ kind_fits (fitted layer)
unfolding nodes_fit kind_nodes_fit
fits_are layer t span =
    fold-roll-Expr Slot Ty Bool Bool kind_fits node_fits (whole layer t span)
    ∙ fold-roll-ExprKind Slot Ty Bool Bool kind_fits node_fits layer

-- ---- items and splits

abbrev counts_node : TypedExpr → ℕ
counts_node = fold-Expr Slot Ty ℕ ℕ kind_count node_count

abbrev pub counted : Layer → ExprKind-F Slot Ty ℕ ℕ
counted layer = map-ExprKind Slot Ty TypedKind TypedExpr ℕ ℕ item_count counts_node layer

pub count_is : (layer : Layer) → item_count (kind_of_layer layer) ≡ kind_count (counted layer)
count_is layer = fold-roll-ExprKind Slot Ty ℕ ℕ kind_count node_count layer

pub split_is : (layer : Layer) (t : Ty) (span : Span) → is_split (typed (kind_of_layer layer) t span) ≡ is_split_layer layer
unfolding is_split
split_is layer t span = ap is_split_layer (out-roll-ExprKind Slot Ty layer)
