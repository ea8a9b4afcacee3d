-- Whether the casts and calls of a node fit, by its layer.
use Rattle.std.proofs.Common.{◌≡◌, ◌∙◌, ap, refl, Bool, ◌&&◌, map}
use Rattle.std.specs.List.{list_all}
use Rattle.cash_tree.specs.declared.Expr.{Expr}
use Rattle.cash_tree.specs.declared.ExprKind.{ExprKind}
use Rattle.cash_tree.specs.declared.ExprKind.TheOpen.{ExprKind-F, Expr-F}
use Rattle.cash_tree.specs.declared.ExprKind.TheViews.{roll-Expr, roll-ExprKind}
use Rattle.cash_tree.specs.declared.ExprKind.TheFolds.{fold-roll-Expr, fold-roll-ExprKind, map-ExprKind}
use Rattle.type_soundness.specs.Literals.{parts}
use Rattle.type_soundness.proofs.View.{parts_mapped}
use Rattle.lowering_laws.specs.Laws.{own_fits, kind_fits, node_fits, nodes_fit, kind_nodes_fit}

pub own_mapped : {N T K E L F : Type 0} (g : K → L) (f : E → F) (layer : ExprKind-F N T K E) → own_fits (map-ExprKind N T K E L F g f layer) ≡ own_fits layer
own_mapped g f (ExprKind-F.Int digits unit) = refl
own_mapped g f _ = refl

pub fits_kind : (N T : Type 0) (layer : Expr-F N T (ExprKind N T) (Expr N T)) → nodes_fit (roll-Expr N T layer) ≡ kind_nodes_fit layer.kind
unfolding nodes_fit kind_nodes_fit
fits_kind N T layer = fold-roll-Expr N T Bool Bool kind_fits node_fits layer

pub fits_layer : (N T : Type 0) (layer : ExprKind-F N T (ExprKind N T) (Expr N T))
    → kind_nodes_fit (roll-ExprKind N T layer) ≡ (own_fits layer && list_all (λ b. b) (map nodes_fit (parts layer)))
unfolding nodes_fit kind_nodes_fit
fits_layer N T layer =
    fold-roll-ExprKind N T Bool Bool kind_fits node_fits layer
    ∙ ap (λ b. b && list_all (λ c. c) (parts (map-ExprKind N T (ExprKind N T) (Expr N T) Bool Bool kind_nodes_fit nodes_fit layer))) (own_mapped kind_nodes_fit nodes_fit layer)
    ∙ ap (λ bs. own_fits layer && list_all (λ c. c) bs) (parts_mapped kind_nodes_fit nodes_fit layer)
