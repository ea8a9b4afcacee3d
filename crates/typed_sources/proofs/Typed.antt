-- Types leave casts and calls as they are, and the types of parameters.
use Rattle.std.proofs.Common.{◌≡◌, ◌∙◌, ap, sym, subst, refl, Bool, true, ◌&&◌, List, [], ◌∷◌, map, Some, None}
use Rattle.std.specs.List.{list_all, AllByRecursion}
use Rattle.cash_base.specs.declared.place.Slot.{Slot}
use Rattle.cash_tree.specs.declared.Ty.{Ty}
use Rattle.cash_tree.specs.declared.ExprKind.TheOpen.{ExprKind-F, Expr-F}
use Rattle.cash_tree.specs.declared.ExprKind.TheViews.{roll-Expr, roll-ExprKind}
use Rattle.cash_tree.specs.declared.ExprKind.TheFolds.{ind-Expr, map-ExprKind}
use Rattle.type_tables.specs.Tables.{TypedExpr}
use Rattle.type_check.specs.Shapes.{TypedKind, NamedKind, NamedExpr}
use Rattle.type_check.specs.Outline.{TypedFunction}
use Rattle.type_check.specs.Untyped.{untyped, kind_untyped, untyped_function}
use Rattle.type_check.proofs.Kept.{untyped_kind, layer_kept, expr_kept}
use Rattle.type_soundness.specs.Literals.{parts}
use Rattle.type_soundness.proofs.View.{parts_mapped}
use Rattle.lowering_laws.specs.Laws.{own_fits, nodes_fit, kind_nodes_fit}
use Rattle.typed_sources.proofs.Layers.{own_mapped, fits_kind, fits_layer}
use Rattle.typed_sources.proofs.Named.{ParamsAre}

-- ---- a layer without types

abbrev bare : {K E : Type 0} → ExprKind-F Slot Ty K E → ExprKind-F Slot (Unit {0}) K E
bare (ExprKind-F.Int digits unit) = ExprKind-F.Int digits unit
bare (ExprKind-F.Bool b) = ExprKind-F.Bool b
bare (ExprKind-F.Hex bytes) = ExprKind-F.Hex bytes
bare (ExprKind-F.Text bytes) = ExprKind-F.Text bytes
bare (ExprKind-F.Date seconds) = ExprKind-F.Date seconds
bare (ExprKind-F.Name slot) = ExprKind-F.Name slot
bare (ExprKind-F.Unary op a) = ExprKind-F.Unary op a
bare (ExprKind-F.Binary op a b) = ExprKind-F.Binary op a b
bare (ExprKind-F.Length a) = ExprKind-F.Length a
bare (ExprKind-F.Reverse a) = ExprKind-F.Reverse a
bare (ExprKind-F.Split a b) = ExprKind-F.Split a b
bare (ExprKind-F.Index a number) = ExprKind-F.Index a number
bare (ExprKind-F.Cast to a size) = ExprKind-F.Cast to a size
bare (ExprKind-F.Call callee args) = ExprKind-F.Call callee args
bare (ExprKind-F.New callee args) = ExprKind-F.New callee args
bare (ExprKind-F.Array items) = ExprKind-F.Array items
bare (ExprKind-F.Look0 look) = ExprKind-F.Look0 look
bare (ExprKind-F.LookAt look a) = ExprKind-F.LookAt look a

as_layer : (y : ExprKind-F Slot Ty NamedKind NamedExpr) → kind_untyped y ≡ roll-ExprKind Slot (Unit {0}) (bare y)
unfolding roll-ExprKind denote.Hole.Carrier.roll
as_layer (ExprKind-F.Cast to a None) = refl
as_layer (ExprKind-F.Cast to a (Some b)) = refl
as_layer _ = refl

own_bare : {K E : Type 0} (y : ExprKind-F Slot Ty K E) → own_fits (bare y) ≡ own_fits y
own_bare (ExprKind-F.Int digits unit) = refl
own_bare _ = refl

parts_bare : {K E : Type 0} (y : ExprKind-F Slot Ty K E) → parts (bare y) ≡ parts y
parts_bare (ExprKind-F.Cast to a None) = refl
parts_bare (ExprKind-F.Cast to a (Some b)) = refl
parts_bare _ = refl

-- ---- by induction

abbrev KindAlike : TypedKind → Type 0
KindAlike k = kind_nodes_fit k ≡ kind_nodes_fit (untyped_kind k)

abbrev Alike : TypedExpr → Type 0
Alike x = nodes_fit x ≡ nodes_fit (untyped x)

abbrev Kinds : Type 0
Kinds = (k : TypedKind) × KindAlike k

abbrev Exprs : Type 0
Exprs = (x : TypedExpr) × Alike x

abbrev TypedLayer : Type 0
TypedLayer = ExprKind-F Slot Ty TypedKind TypedExpr

abbrev kind_parts : ExprKind-F Slot Ty Kinds Exprs → TypedLayer
kind_parts = map-ExprKind Slot Ty Kinds Exprs TypedKind TypedExpr (λ k. k.0) (λ x. x.0)

abbrev all_fit : List Bool → Bool
all_fit bs = list_all (λ b. b) bs

each_step : (xs : List Exprs) → all_fit (map nodes_fit (map (λ x. x.0) xs)) ≡ all_fit (map nodes_fit (map untyped (map (λ x. x.0) xs)))
each_step [] = refl
each_step (x ∷ xs) =
    ap (λ b. b && all_fit (map nodes_fit (map (λ x. x.0) xs))) x.1 ∙ ap (λ b. nodes_fit (untyped x.0) && b) (each_step xs)

parts_step : (y : ExprKind-F Slot Ty Kinds Exprs) → all_fit (map nodes_fit (parts (kind_parts y))) ≡ all_fit (map nodes_fit (map untyped (parts (kind_parts y))))
parts_step y =
    let first : Kinds → TypedKind = λ k. k.0 in
    let of_expr : Exprs → TypedExpr = λ x. x.0 in
    let same = parts_mapped first of_expr y in
    ap (λ (es : List TypedExpr). all_fit (map nodes_fit es)) same ∙ each_step (parts y) ∙ sym (ap (λ (es : List TypedExpr). all_fit (map nodes_fit (map untyped es))) same)

-- what a layer without types is
bare_fits : (p : TypedLayer) → kind_nodes_fit (untyped_kind (roll-ExprKind Slot Ty p)) ≡ (own_fits p && all_fit (map nodes_fit (map untyped (parts p))))
bare_fits p =
    let q = map-ExprKind Slot Ty TypedKind TypedExpr NamedKind NamedExpr untyped_kind untyped p in
    ap kind_nodes_fit (layer_kept p ∙ as_layer q) ∙ fits_layer Slot (Unit {0}) (bare q)
    ∙ ap (λ b. b && all_fit (map nodes_fit (parts (bare q)))) (own_bare q ∙ own_mapped untyped_kind untyped p)
    ∙ ap (λ (es : List NamedExpr). own_fits p && all_fit (map nodes_fit es)) (parts_bare q ∙ parts_mapped untyped_kind untyped p)

kind_alike : (y : ExprKind-F Slot Ty Kinds Exprs) → KindAlike (roll-ExprKind Slot Ty (kind_parts y))
kind_alike y =
    fits_layer Slot Ty (kind_parts y) ∙ ap (λ b. own_fits (kind_parts y) && b) (parts_step y) ∙ sym (bare_fits (kind_parts y))

types_fit : (x : TypedExpr) → Alike x
types_fit = ind-Expr Slot Ty KindAlike Alike
    (λ x y is. subst (λ z. KindAlike (roll-ExprKind Slot Ty z)) is (kind_alike y))
    (λ x y is. subst (λ z. Alike (roll-Expr Slot Ty z)) is (
    let layer : Expr-F Slot Ty TypedKind TypedExpr = record { kind = y.kind.0; ty = y.ty; span = y.span } in
    let bare_layer : Expr-F Slot (Unit {0}) NamedKind NamedExpr = record { kind = untyped_kind y.kind.0; ty = tt; span = y.span } in
    fits_kind Slot Ty layer ∙ y.kind.1 ∙ sym (fits_kind Slot (Unit {0}) bare_layer)
    ∙ ap nodes_fit (sym (expr_kept (untyped_kind y.kind.0) y.kind.0 y.span y.ty refl))))

pub all_typed : (xs : List TypedExpr) → AllByRecursion (λ e. nodes_fit e ≡ true) (map untyped xs) → AllByRecursion (λ e. nodes_fit e ≡ true) xs
all_typed [] all = tt
all_typed (x ∷ xs) all = (types_fit x ∙ all.0, all_typed xs all.1)

-- ---- parameters

pub functions_typed : (R : Ty → Type 0) (fs : List TypedFunction) → AllByRecursion (λ f. ParamsAre R f.params) (map untyped_function fs) → AllByRecursion (λ f. ParamsAre R f.params) fs
functions_typed R [] all = tt
functions_typed R (f ∷ fs) all = (all.0, functions_typed R fs all.1)
