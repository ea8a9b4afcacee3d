-- A fact of a typed node at its place that follows from that of its parts at theirs.
use Rattle.std.proofs.Common.{◌≡◌, ◌∙◌, sym, subst, refl, ℕ, ◌+◌, List, [], ◌∷◌, Some, None, Ok}
use Rattle.cash_base.specs.declared.place.Span.{Span}
use Rattle.cash_base.specs.declared.place.Slot.{Slot}
use Rattle.cash_tree.specs.declared.Ty.{Ty}
use Rattle.cash_tree.specs.declared.ExprKind.TheOpen.{ExprKind-F}
use Rattle.cash_tree.specs.declared.ExprKind.TheViews.{roll-ExprKind}
use Rattle.type_tables.specs.declared.rules.Signature.{Signature}
use Rattle.type_tables.specs.Tables.{Answer, TypedExpr, Env, place_at, nothing, signature}
use Rattle.type_check.specs.Shapes as shapes
use Rattle.type_check.specs.Shapes.{Shape, Place, NamedExpr, NamedKind, TypedKind, KindLayer, shape, opened, typed}
use Rattle.type_check.specs.Typing as rule
use Rattle.type_check.specs.Typing.{HasType, HasShape, HaveTypes, node, none, next}
use Rattle.type_soundness.proofs.View.{Layer, kind_of_layer, rule_of}

abbrev pub Fact : Type 1
Fact = Place → TypedExpr → Type 0

-- of the parts that have their places in a call of this signature, from this number on
abbrev pub AllAt : Fact → Signature → ℕ → List TypedExpr → Type 0
AllAt P s at [] = Unit {0}
AllAt P s at (x ∷ xs) = P (place_at s at) x × AllAt P s (at + 1) xs

abbrev pub OfParts : Fact → Layer → Type 0
OfParts P (ExprKind-F.Unary op a) = P None a
OfParts P (ExprKind-F.Binary op a b) = P None a × P None b
OfParts P (ExprKind-F.Length a) = P None a
OfParts P (ExprKind-F.Reverse a) = P None a
OfParts P (ExprKind-F.Split a b) = P None a × P None b
OfParts P (ExprKind-F.Index a number) = P None a
OfParts P (ExprKind-F.Cast to a None) = P None a
OfParts P (ExprKind-F.Cast to a (Some b)) = P None a × P None b
OfParts P (ExprKind-F.Call callee args) = AllAt P (signature callee) 0 args
OfParts P (ExprKind-F.New callee args) = AllAt P (signature callee) 0 args
OfParts P (ExprKind-F.Array items) = AllAt P nothing 0 items
OfParts P (ExprKind-F.LookAt look a) = P None a
OfParts P _ = Unit {0}

abbrev pub Follows : Fact → Env → Type 0
Follows P env = (layer : Layer) (span : Span) (place : Place) (t : Ty) → OfParts P layer → rule_of layer span place env ≡ Ok t
    → P place (typed (kind_of_layer layer) t span)

-- a typed kind is that of a layer with these parts and this rule
record Views (P : Fact) (m : TypedKind) (held : Type 0) (answer : Answer Ty) (span : Span) (place : Place) (env : Env) : Type 0 where
  layer : Layer
  is : m ≡ kind_of_layer layer
  parts : held → OfParts P layer
  rule_is : rule_of layer span place env ≡ answer

abbrev ShapeViews : Fact → Shape NamedExpr → Span → Place → Env → Type 0
ShapeViews P (shapes.leaf m r) span place env = Views P m (Unit {0}) r span place env
ShapeViews P (shapes.one a make r) span place env = (x : TypedExpr) → Views P (make x) (P None x) (r x) span place env
ShapeViews P (shapes.two a b make r) span place env = (x y : TypedExpr) → Views P (make x y) (P None x × P None y) (r x y) span place env
ShapeViews P (shapes.many s es make r) span place env = (xs : List TypedExpr) → Views P (make xs) (AllAt P s 0 xs) (r xs) span place env

layer_views : (P : Fact) (layer : KindLayer NamedKind NamedExpr) (span : Span) (place : Place) (env : Env) → ShapeViews P (shape layer span place env) span place env
unfolding roll-ExprKind denote.Hole.Carrier.roll
layer_views P (ExprKind-F.Int digits unit) span place env = record { layer = ExprKind-F.Int digits unit; is = refl; parts = λ h. tt; rule_is = refl }
layer_views P (ExprKind-F.Bool b) span place env = record { layer = ExprKind-F.Bool b; is = refl; parts = λ h. tt; rule_is = refl }
layer_views P (ExprKind-F.Hex bytes) span place env = record { layer = ExprKind-F.Hex bytes; is = refl; parts = λ h. tt; rule_is = refl }
layer_views P (ExprKind-F.Text bytes) span place env = record { layer = ExprKind-F.Text bytes; is = refl; parts = λ h. tt; rule_is = refl }
layer_views P (ExprKind-F.Date seconds) span place env = record { layer = ExprKind-F.Date seconds; is = refl; parts = λ h. tt; rule_is = refl }
layer_views P (ExprKind-F.Name slot) span place env = record { layer = ExprKind-F.Name slot; is = refl; parts = λ h. tt; rule_is = refl }
layer_views P (ExprKind-F.Unary op a) span place env = λ x. record { layer = ExprKind-F.Unary op x; is = refl; parts = λ h. h; rule_is = refl }
layer_views P (ExprKind-F.Binary op a b) span place env = λ x y. record { layer = ExprKind-F.Binary op x y; is = refl; parts = λ h. h; rule_is = refl }
layer_views P (ExprKind-F.Length a) span place env = λ x. record { layer = ExprKind-F.Length x; is = refl; parts = λ h. h; rule_is = refl }
layer_views P (ExprKind-F.Reverse a) span place env = λ x. record { layer = ExprKind-F.Reverse x; is = refl; parts = λ h. h; rule_is = refl }
layer_views P (ExprKind-F.Split a b) span place env = λ x y. record { layer = ExprKind-F.Split x y; is = refl; parts = λ h. h; rule_is = refl }
layer_views P (ExprKind-F.Index a number) span place env = λ x. record { layer = ExprKind-F.Index x number; is = refl; parts = λ h. h; rule_is = refl }
layer_views P (ExprKind-F.Cast to a None) span place env = λ x. record { layer = ExprKind-F.Cast to x None; is = refl; parts = λ h. h; rule_is = refl }
layer_views P (ExprKind-F.Cast to a (Some b)) span place env = λ x y. record { layer = ExprKind-F.Cast to x (Some y); is = refl; parts = λ h. h; rule_is = refl }
layer_views P (ExprKind-F.Call callee args) span place env = λ xs. record { layer = ExprKind-F.Call callee xs; is = refl; parts = λ h. h; rule_is = refl }
layer_views P (ExprKind-F.New callee args) span place env = λ xs. record { layer = ExprKind-F.New callee xs; is = refl; parts = λ h. h; rule_is = refl }
layer_views P (ExprKind-F.Array items) span place env = λ xs. record { layer = ExprKind-F.Array xs; is = refl; parts = λ h. h; rule_is = refl }
layer_views P (ExprKind-F.Look0 look) span place env = record { layer = ExprKind-F.Look0 look; is = refl; parts = λ h. tt; rule_is = refl }
layer_views P (ExprKind-F.LookAt look a) span place env = λ x. record { layer = ExprKind-F.LookAt look x; is = refl; parts = λ h. h; rule_is = refl }

by_view : (P : Fact) (env : Env) (m : TypedKind) (held : Type 0) (answer : Answer Ty) (span : Span) (place : Place) (t : Ty) → Follows P env
    → Views P m held answer span place env → held → answer ≡ Ok t → P place (typed m t span)
by_view P env m held answer span place t follows view h is =
    subst (λ k. P place (typed k t span)) (sym view.is) (follows view.layer span place t (view.parts h) (view.rule_is ∙ is))

mutual
  pub of_each : (P : Fact) (env : Env) → Follows P env → (place : Place) (e : NamedExpr) (x : TypedExpr) → HasType env place e x → P place x
  of_each P env follows _ _ _ (node place k m span t h) =
      of_shape P env follows (shape (opened k) span place env) m t span place (layer_views P (opened k) span place env) h

  of_shape : (P : Fact) (env : Env) → Follows P env → (s : Shape NamedExpr) (m : TypedKind) (t : Ty) (span : Span) (place : Place)
      → ShapeViews P s span place env → HasShape env s m t → P place (typed m t span)
  of_shape P env follows _ _ _ span place view (rule.leaf m r t is) = by_view P env m (Unit {0}) r span place t follows view tt is
  of_shape P env follows _ _ _ span place view (rule.one a x make r t h is) =
      by_view P env (make x) (P None x) (r x) span place t follows (view x) (of_each P env follows None a x h) is
  of_shape P env follows _ _ _ span place view (rule.two a b x y make r t h i is) =
      by_view P env (make x y) (P None x × P None y) (r x y) span place t follows (view x y) (of_each P env follows None a x h, of_each P env follows None b y i) is
  of_shape P env follows _ _ _ span place view (rule.many s es xs make r t h is) =
      by_view P env (make xs) (AllAt P s 0 xs) (r xs) span place t follows (view xs) (of_all P env follows s 0 es xs h) is

  of_all : (P : Fact) (env : Env) → Follows P env → (s : Signature) (at : ℕ) (es : List NamedExpr) (xs : List TypedExpr)
      → HaveTypes env s at es xs → AllAt P s at xs
  of_all P env follows _ _ _ _ (none s at) = tt
  of_all P env follows _ _ _ _ (next s at e es x xs h hs) =
      (of_each P env follows (place_at s at) e x h, of_all P env follows s (at + 1) es xs hs)
