-- A typed node by its layer: its parts, its rule, and what its parts give it.
use Rattle.std.proofs.Common.{◌≡◌, ◌∙◌, ap, sym, subst, refl, ℕ, ◌+◌, Bool, ◌&&◌, List, [], ◌∷◌, length, map, Some, None, Ok}
use Rattle.std.specs.List.{list_all, AllByRecursion}
use Rattle.cash_base.specs.declared.place.Span.{Span}
use Rattle.cash_base.specs.declared.place.Slot.{Slot}
use Rattle.cash_tree.specs.declared.Ty.{Ty}
use Rattle.cash_tree.specs.declared.Ty.TheVariants as ty
use Rattle.cash_tree.specs.declared.ExprKind.TheOpen.{ExprKind-F, Expr-F}
use Rattle.cash_tree.specs.declared.ExprKind.TheViews.{roll-ExprKind}
use Rattle.cash_tree.specs.declared.ExprKind.TheFolds.{fold-roll-Expr, fold-roll-ExprKind, map-ExprKind}
use Rattle.type_tables.specs.declared.rules.Signature.{Signature}
use Rattle.type_tables.specs.Tables.{Answer, TypedExpr, Env, place_at, number_type, date_type, hex_type, text_type, type_at, unary_type, binary_type, length_type, reverse_type, split_type, literal_of, index_type, cast_type, sized_cast_type, call_type, array_type, look0_type, look_at_type}
use Rattle.type_check.specs.Shapes as shapes
use Rattle.type_check.specs.Shapes.{Shape, Place, NamedExpr, NamedKind, TypedKind, KindLayer, shape, opened, typed, types}
use Rattle.type_check.specs.Typing as rule
use Rattle.type_check.specs.Typing.{HasType, HasShape, HaveTypes, node, none, next}
use Rattle.type_soundness.specs.Literals.{parts, spells_bytes, kind_spells, node_spells, holds_bytes, kind_holds_bytes}

abbrev pub Layer : Type 0
Layer = ExprKind-F Slot Ty TypedKind TypedExpr

abbrev pub kind_of_layer : Layer → TypedKind
kind_of_layer layer = roll-ExprKind Slot Ty layer

-- the rule of a node with typed parts
abbrev pub rule_of : Layer → Span → Place → Env → Answer Ty
rule_of (ExprKind-F.Int digits unit) span place env = number_type span digits unit
rule_of (ExprKind-F.Bool b) span place env = Ok ty.Bool
rule_of (ExprKind-F.Hex bytes) span place env = hex_type span (length bytes)
rule_of (ExprKind-F.Text bytes) span place env = text_type span (length bytes)
rule_of (ExprKind-F.Date seconds) span place env = date_type span seconds
rule_of (ExprKind-F.Name slot) span place env = Ok (type_at slot env)
rule_of (ExprKind-F.Unary op a) span place env = unary_type span op a.ty
rule_of (ExprKind-F.Binary op a b) span place env = binary_type span op a.ty b.ty
rule_of (ExprKind-F.Length a) span place env = length_type span a.ty
rule_of (ExprKind-F.Reverse a) span place env = reverse_type span a.ty
rule_of (ExprKind-F.Split a b) span place env = split_type span a.ty b.ty (literal_of b)
rule_of (ExprKind-F.Index a number) span place env = index_type span number a.ty
rule_of (ExprKind-F.Cast to a None) span place env = cast_type span to a.ty
rule_of (ExprKind-F.Cast to a (Some b)) span place env = sized_cast_type span to a.ty b.ty
rule_of (ExprKind-F.Call callee args) span place env = call_type span callee args
rule_of (ExprKind-F.New callee args) span place env = call_type span callee args
rule_of (ExprKind-F.Array items) span place env = array_type span place (types items)
rule_of (ExprKind-F.Look0 look) span place env = Ok (look0_type look)
rule_of (ExprKind-F.LookAt look a) span place env = look_at_type span look a.ty

-- a typed kind is that of a layer with these parts and this rule
pub record Views (m : TypedKind) (xs : List TypedExpr) (answer : Answer Ty) (span : Span) (place : Place) (env : Env) : Type 0 where
  pub layer : Layer
  pub is : m ≡ kind_of_layer layer
  pub parts_are : parts layer ≡ xs
  pub rule_is : rule_of layer span place env ≡ answer

abbrev ShapeViews : Shape NamedExpr → Span → Place → Env → Type 0
ShapeViews (shapes.leaf m r) span place env = Views m [] r span place env
ShapeViews (shapes.one a make r) span place env = (x : TypedExpr) → Views (make x) (x ∷ []) (r x) span place env
ShapeViews (shapes.two a b make r) span place env = (x y : TypedExpr) → Views (make x y) (x ∷ y ∷ []) (r x y) span place env
ShapeViews (shapes.many s es make r) span place env = (xs : List TypedExpr) → Views (make xs) xs (r xs) span place env

layer_views : (layer : KindLayer NamedKind NamedExpr) (span : Span) (place : Place) (env : Env) → ShapeViews (shape layer span place env) span place env
unfolding roll-ExprKind denote.Hole.Carrier.roll
layer_views (ExprKind-F.Int digits unit) span place env = record { layer = ExprKind-F.Int digits unit; is = refl; parts_are = refl; rule_is = refl }
layer_views (ExprKind-F.Bool b) span place env = record { layer = ExprKind-F.Bool b; is = refl; parts_are = refl; rule_is = refl }
layer_views (ExprKind-F.Hex bytes) span place env = record { layer = ExprKind-F.Hex bytes; is = refl; parts_are = refl; rule_is = refl }
layer_views (ExprKind-F.Text bytes) span place env = record { layer = ExprKind-F.Text bytes; is = refl; parts_are = refl; rule_is = refl }
layer_views (ExprKind-F.Date seconds) span place env = record { layer = ExprKind-F.Date seconds; is = refl; parts_are = refl; rule_is = refl }
layer_views (ExprKind-F.Name slot) span place env = record { layer = ExprKind-F.Name slot; is = refl; parts_are = refl; rule_is = refl }
layer_views (ExprKind-F.Unary op a) span place env = λ x. record { layer = ExprKind-F.Unary op x; is = refl; parts_are = refl; rule_is = refl }
layer_views (ExprKind-F.Binary op a b) span place env = λ x y. record { layer = ExprKind-F.Binary op x y; is = refl; parts_are = refl; rule_is = refl }
layer_views (ExprKind-F.Length a) span place env = λ x. record { layer = ExprKind-F.Length x; is = refl; parts_are = refl; rule_is = refl }
layer_views (ExprKind-F.Reverse a) span place env = λ x. record { layer = ExprKind-F.Reverse x; is = refl; parts_are = refl; rule_is = refl }
layer_views (ExprKind-F.Split a b) span place env = λ x y. record { layer = ExprKind-F.Split x y; is = refl; parts_are = refl; rule_is = refl }
layer_views (ExprKind-F.Index a number) span place env = λ x. record { layer = ExprKind-F.Index x number; is = refl; parts_are = refl; rule_is = refl }
layer_views (ExprKind-F.Cast to a None) span place env = λ x. record { layer = ExprKind-F.Cast to x None; is = refl; parts_are = refl; rule_is = refl }
layer_views (ExprKind-F.Cast to a (Some b)) span place env = λ x y. record { layer = ExprKind-F.Cast to x (Some y); is = refl; parts_are = refl; rule_is = refl }
layer_views (ExprKind-F.Call callee args) span place env = λ xs. record { layer = ExprKind-F.Call callee xs; is = refl; parts_are = refl; rule_is = refl }
layer_views (ExprKind-F.New callee args) span place env = λ xs. record { layer = ExprKind-F.New callee xs; is = refl; parts_are = refl; rule_is = refl }
layer_views (ExprKind-F.Array items) span place env = λ xs. record { layer = ExprKind-F.Array xs; is = refl; parts_are = refl; rule_is = refl }
layer_views (ExprKind-F.Look0 look) span place env = record { layer = ExprKind-F.Look0 look; is = refl; parts_are = refl; rule_is = refl }
layer_views (ExprKind-F.LookAt look a) span place env = λ x. record { layer = ExprKind-F.LookAt look x; is = refl; parts_are = refl; rule_is = refl }

-- ---- literals

pub parts_mapped : {N T K E L F : Type 0} (g : K → L) (f : E → F) (layer : ExprKind-F N T K E) → parts (map-ExprKind N T K E L F g f layer) ≡ map f (parts layer)
parts_mapped g f (ExprKind-F.Int digits unit) = refl
parts_mapped g f (ExprKind-F.Bool b) = refl
parts_mapped g f (ExprKind-F.Hex bytes) = refl
parts_mapped g f (ExprKind-F.Text bytes) = refl
parts_mapped g f (ExprKind-F.Date seconds) = refl
parts_mapped g f (ExprKind-F.Name slot) = refl
parts_mapped g f (ExprKind-F.Unary op a) = refl
parts_mapped g f (ExprKind-F.Binary op a b) = refl
parts_mapped g f (ExprKind-F.Length a) = refl
parts_mapped g f (ExprKind-F.Reverse a) = refl
parts_mapped g f (ExprKind-F.Split a b) = refl
parts_mapped g f (ExprKind-F.Index a number) = refl
parts_mapped g f (ExprKind-F.Cast to a None) = refl
parts_mapped g f (ExprKind-F.Cast to a (Some b)) = refl
parts_mapped g f (ExprKind-F.Call callee args) = refl
parts_mapped g f (ExprKind-F.New callee args) = refl
parts_mapped g f (ExprKind-F.Array items) = refl
parts_mapped g f (ExprKind-F.Look0 look) = refl
parts_mapped g f (ExprKind-F.LookAt look a) = refl

pub spelling_mapped : {N T K E L F : Type 0} (g : K → L) (f : E → F) (layer : ExprKind-F N T K E) → spells_bytes (map-ExprKind N T K E L F g f layer) ≡ spells_bytes layer
spelling_mapped g f (ExprKind-F.Int digits unit) = refl
spelling_mapped g f (ExprKind-F.Bool b) = refl
spelling_mapped g f (ExprKind-F.Hex bytes) = refl
spelling_mapped g f (ExprKind-F.Text bytes) = refl
spelling_mapped g f (ExprKind-F.Date seconds) = refl
spelling_mapped g f (ExprKind-F.Name slot) = refl
spelling_mapped g f (ExprKind-F.Unary op a) = refl
spelling_mapped g f (ExprKind-F.Binary op a b) = refl
spelling_mapped g f (ExprKind-F.Length a) = refl
spelling_mapped g f (ExprKind-F.Reverse a) = refl
spelling_mapped g f (ExprKind-F.Split a b) = refl
spelling_mapped g f (ExprKind-F.Index a number) = refl
spelling_mapped g f (ExprKind-F.Cast to a None) = refl
spelling_mapped g f (ExprKind-F.Cast to a (Some b)) = refl
spelling_mapped g f (ExprKind-F.Call callee args) = refl
spelling_mapped g f (ExprKind-F.New callee args) = refl
spelling_mapped g f (ExprKind-F.Array items) = refl
spelling_mapped g f (ExprKind-F.Look0 look) = refl
spelling_mapped g f (ExprKind-F.LookAt look a) = refl

pub kind_spelled : (layer : Layer) → kind_holds_bytes (kind_of_layer layer) ≡ (spells_bytes layer && list_all (λ b. b) (map holds_bytes (parts layer)))
unfolding kind_holds_bytes holds_bytes
kind_spelled layer =
    fold-roll-ExprKind Slot Ty Bool Bool kind_spells node_spells layer
    ∙ ap (λ b. b && list_all (λ c. c) (parts (map-ExprKind Slot Ty TypedKind TypedExpr Bool Bool kind_holds_bytes holds_bytes layer))) (spelling_mapped kind_holds_bytes holds_bytes layer)
    ∙ ap (λ bs. spells_bytes layer && list_all (λ c. c) bs) (parts_mapped kind_holds_bytes holds_bytes layer)

pub expr_spelled : (m : TypedKind) (t : Ty) (span : Span) → holds_bytes (typed m t span) ≡ kind_holds_bytes m
unfolding kind_holds_bytes holds_bytes
expr_spelled m t span =
    let layer : Expr-F Slot Ty TypedKind TypedExpr = record { kind = m; ty = t; span = span } in
    fold-roll-Expr Slot Ty Bool Bool kind_spells node_spells layer

-- ---- what has a type, by its layer

-- A fact of expressions that follows at each node from that of its parts: it holds of what has a type. It may speak of types
-- and of spans.
abbrev pub Follows : (TypedExpr → Type 0) → Env → Type 0
Follows P env = (layer : Layer) (span : Span) (place : Place) (t : Ty) → AllByRecursion P (parts layer) → rule_of layer span place env ≡ Ok t
    → P (typed (kind_of_layer layer) t span)

by_view : (P : TypedExpr → Type 0) (env : Env) (m : TypedKind) (xs : List TypedExpr) (answer : Answer Ty) (span : Span) (place : Place) (t : Ty) → Follows P env
    → Views m xs answer span place env → AllByRecursion P xs → answer ≡ Ok t → P (typed m t span)
by_view P env m xs answer span place t follows view all is =
    subst (λ k. P (typed k t span)) (sym view.is)
    (follows view.layer span place t (subst (AllByRecursion P) (sym view.parts_are) all) (view.rule_is ∙ is))

mutual
  pub of_each : (P : TypedExpr → Type 0) (env : Env) → Follows P env → (place : Place) (e : NamedExpr) (x : TypedExpr) → HasType env place e x → P x
  of_each P env follows _ _ _ (node place k m span t h) =
      of_shape P env follows (shape (opened k) span place env) m t span place (layer_views (opened k) span place env) h

  of_shape : (P : TypedExpr → Type 0) (env : Env) → Follows P env → (s : Shape NamedExpr) (m : TypedKind) (t : Ty) (span : Span) (place : Place)
      → ShapeViews s span place env → HasShape env s m t → P (typed m t span)
  of_shape P env follows _ _ _ span place view (rule.leaf m r t is) = by_view P env m [] r span place t follows view tt is
  of_shape P env follows _ _ _ span place view (rule.one a x make r t h is) =
      by_view P env (make x) (x ∷ []) (r x) span place t follows (view x) (of_each P env follows None a x h, tt) is
  of_shape P env follows _ _ _ span place view (rule.two a b x y make r t h i is) =
      by_view P env (make x y) (x ∷ y ∷ []) (r x y) span place t follows (view x y)
      (of_each P env follows None a x h, (of_each P env follows None b y i, tt)) is
  of_shape P env follows _ _ _ span place view (rule.many s es xs make r t h is) =
      by_view P env (make xs) xs (r xs) span place t follows (view xs) (of_all P env follows s 0 es xs h) is

  of_all : (P : TypedExpr → Type 0) (env : Env) → Follows P env → (s : Signature) (at : ℕ) (es : List NamedExpr) (xs : List TypedExpr)
      → HaveTypes env s at es xs → AllByRecursion P xs
  of_all P env follows _ _ _ _ (none s at) = tt
  of_all P env follows _ _ _ _ (next s at e es x xs h hs) =
      (of_each P env follows (place_at s at) e x h, of_all P env follows s (at + 1) es xs hs)
