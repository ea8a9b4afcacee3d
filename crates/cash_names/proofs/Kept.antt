-- A fold over an expression with slots is one over the expression as parsed: so its nodes and its spans stay.
use Rattle.std.proofs.Common.{◌≡◌, ◌∙◌, ap, sym, subst, refl, ℕ, List, [], ◌∷◌, map, Some, None}
use Rattle.std.proofs.Math.Path.{fun_ext}
use Rattle.cash_base.specs.declared.place.Span.{Span}
use Rattle.cash_base.specs.declared.place.Slot.{Slot}
use Rattle.cash_tree.specs.declared.ExprKind.TheOpen.{ExprKind-F, Expr-F}
use Rattle.cash_tree.specs.declared.ExprKind.TheViews.{roll-Expr, roll-ExprKind}
use Rattle.cash_tree.specs.declared.ExprKind.TheFolds.{fold-Expr, fold-ExprKind, ind-Expr, fold-roll-Expr, fold-roll-ExprKind, map-ExprKind}
use Rattle.cash_tree.specs.Nodes.{kind_nodes, node_nodes, nodes}
use Rattle.cash_tree.specs.Spans.{nothing, expression_kind_spans, node_spans, expression_spans}
use Rattle.cash_names.specs.Expressions.{Expression, Kind, NamedExpr, NamedKind, kind_with_slots, node_with_slots, with_slots}

-- ---- a layer with slots

abbrev pub layer : {K E : Type 0} → (Span → Slot) → ExprKind-F Span (Unit {0}) K E → ExprKind-F Slot (Unit {0}) K E
layer f (ExprKind-F.Int digits unit) = ExprKind-F.Int digits unit
layer f (ExprKind-F.Bool b) = ExprKind-F.Bool b
layer f (ExprKind-F.Hex bytes) = ExprKind-F.Hex bytes
layer f (ExprKind-F.Text bytes) = ExprKind-F.Text bytes
layer f (ExprKind-F.Date seconds) = ExprKind-F.Date seconds
layer f (ExprKind-F.Name span) = ExprKind-F.Name (f span)
layer f (ExprKind-F.Unary op value) = ExprKind-F.Unary op value
layer f (ExprKind-F.Binary op left right) = ExprKind-F.Binary op left right
layer f (ExprKind-F.Length value) = ExprKind-F.Length value
layer f (ExprKind-F.Reverse value) = ExprKind-F.Reverse value
layer f (ExprKind-F.Split value at) = ExprKind-F.Split value at
layer f (ExprKind-F.Index pair number) = ExprKind-F.Index pair number
layer f (ExprKind-F.Cast to value size) = ExprKind-F.Cast to value size
layer f (ExprKind-F.Call callee args) = ExprKind-F.Call callee args
layer f (ExprKind-F.New callee args) = ExprKind-F.New callee args
layer f (ExprKind-F.Array items) = ExprKind-F.Array items
layer f (ExprKind-F.Look0 look) = ExprKind-F.Look0 look
layer f (ExprKind-F.LookAt look index) = ExprKind-F.LookAt look index

abbrev pub node : {K E : Type 0} → Expr-F Span (Unit {0}) K E → Expr-F Slot (Unit {0}) K E
node e = record { kind = e.kind; ty = tt; span = e.span }

abbrev pub kind_slots : (Span → Slot) → Kind → NamedKind
kind_slots f = fold-ExprKind Span (Unit {0}) NamedKind NamedExpr (kind_with_slots f) node_with_slots

abbrev kind_named : (Span → Slot) → ExprKind-F Span (Unit {0}) Kind Expression
    → ExprKind-F Span (Unit {0}) NamedKind NamedExpr
kind_named f = map-ExprKind Span (Unit {0}) Kind Expression NamedKind NamedExpr (kind_slots f) (with_slots f)

as_layer : (f : Span → Slot) (y : ExprKind-F Span (Unit {0}) NamedKind NamedExpr)
    → kind_with_slots f y ≡ roll-ExprKind Slot (Unit {0}) (layer f y)
unfolding roll-ExprKind denote.Hole.Carrier.roll
as_layer f (ExprKind-F.Int digits unit) = refl
as_layer f (ExprKind-F.Bool b) = refl
as_layer f (ExprKind-F.Hex bytes) = refl
as_layer f (ExprKind-F.Text bytes) = refl
as_layer f (ExprKind-F.Date seconds) = refl
as_layer f (ExprKind-F.Name span) = refl
as_layer f (ExprKind-F.Unary op value) = refl
as_layer f (ExprKind-F.Binary op left right) = refl
as_layer f (ExprKind-F.Length value) = refl
as_layer f (ExprKind-F.Reverse value) = refl
as_layer f (ExprKind-F.Split value at) = refl
as_layer f (ExprKind-F.Index pair number) = refl
as_layer f (ExprKind-F.Cast to value None) = refl
as_layer f (ExprKind-F.Cast to value (Some size)) = refl
as_layer f (ExprKind-F.Call callee args) = refl
as_layer f (ExprKind-F.New callee args) = refl
as_layer f (ExprKind-F.Array items) = refl
as_layer f (ExprKind-F.Look0 look) = refl
as_layer f (ExprKind-F.LookAt look index) = refl

-- ---- two folds, of what has slots and of what has none

abbrev pub OnKind : Type 0 → Type 0 → Type 0
OnKind K E = ExprKind-F Slot (Unit {0}) K E → K

abbrev pub OnNode : Type 0 → Type 0 → Type 0
OnNode K E = Expr-F Slot (Unit {0}) K E → E

abbrev pub late_kind : {K E : Type 0} → OnKind K E → OnNode K E → NamedKind → K
late_kind {K} {E} k n = fold-ExprKind Slot (Unit {0}) K E k n

abbrev pub late : {K E : Type 0} → OnKind K E → OnNode K E → NamedExpr → E
late {K} {E} k n = fold-Expr Slot (Unit {0}) K E k n

abbrev pub early_kind : {K E : Type 0} → (Span → Slot) → OnKind K E → OnNode K E → Kind → K
early_kind {K} {E} f k n = fold-ExprKind Span (Unit {0}) K E (λ y. k (layer f y)) (λ e. n (node e))

abbrev pub early : {K E : Type 0} → (Span → Slot) → OnKind K E → OnNode K E → Expression → E
early {K} {E} f k n = fold-Expr Span (Unit {0}) K E (λ y. k (layer f y)) (λ e. n (node e))

abbrev pub KindFused : {K E : Type 0} → (Span → Slot) → OnKind K E → OnNode K E → Kind → Type 0
KindFused f k n kind = late_kind k n (kind_slots f kind) ≡ early_kind f k n kind

abbrev pub Fused : {K E : Type 0} → (Span → Slot) → OnKind K E → OnNode K E → Expression → Type 0
Fused f k n e = late k n (with_slots f e) ≡ early f k n e

abbrev Kinds : {K E : Type 0} → (Span → Slot) → OnKind K E → OnNode K E → Type 0
Kinds f k n = (kind : Kind) × KindFused f k n kind

abbrev Exprs : {K E : Type 0} → (Span → Slot) → OnKind K E → OnNode K E → Type 0
Exprs f k n = (e : Expression) × Fused f k n e

abbrev kind_parts : {K E : Type 0} (f : Span → Slot) (k : OnKind K E) (n : OnNode K E)
    → ExprKind-F Span (Unit {0}) (Kinds f k n) (Exprs f k n) → ExprKind-F Span (Unit {0}) Kind Expression
kind_parts f k n = map-ExprKind Span (Unit {0}) (Kinds f k n) (Exprs f k n) Kind Expression (λ x. x.0) (λ x. x.0)

list_fused : {K E : Type 0} (f : Span → Slot) (k : OnKind K E) (n : OnNode K E) (es : List (Exprs f k n))
    → map (late k n) (map (with_slots f) (map (λ x. x.0) es)) ≡ map (early f k n) (map (λ x. x.0) es)
list_fused f k n [] = refl
list_fused f k n (e ∷ es) =
    ap (λ x. x ∷ map (late k n) (map (with_slots f) (map (λ x. x.0) es))) e.1
    ∙ ap (λ xs. early f k n e.0 ∷ xs) (list_fused f k n es)

abbrev of_late : {K E : Type 0} → OnKind K E → OnNode K E → ExprKind-F Slot (Unit {0}) NamedKind NamedExpr
    → ExprKind-F Slot (Unit {0}) K E
of_late {K} {E} k n = map-ExprKind Slot (Unit {0}) NamedKind NamedExpr K E (late_kind k n) (late k n)

abbrev of_early : {K E : Type 0} → (Span → Slot) → OnKind K E → OnNode K E → ExprKind-F Span (Unit {0}) Kind Expression
    → ExprKind-F Span (Unit {0}) K E
of_early {K} {E} f k n = map-ExprKind Span (Unit {0}) Kind Expression K E (early_kind f k n) (early f k n)

-- one part, two, and a list
step_one : {K E : Type 0} (f : Span → Slot) (k : OnKind K E) (n : OnNode K E) (x : Exprs f k n)
    (h : E → ExprKind-F Slot (Unit {0}) K E) → h (late k n (with_slots f x.0)) ≡ h (early f k n x.0)
step_one f k n x h = ap h x.1

step_two : {K E : Type 0} (f : Span → Slot) (k : OnKind K E) (n : OnNode K E) (x y : Exprs f k n)
    (h : E → E → ExprKind-F Slot (Unit {0}) K E)
    → h (late k n (with_slots f x.0)) (late k n (with_slots f y.0)) ≡ h (early f k n x.0) (early f k n y.0)
step_two f k n x y h = ap (λ a. h a (late k n (with_slots f y.0))) x.1 ∙ ap (λ b. h (early f k n x.0) b) y.1

step : {K E : Type 0} (f : Span → Slot) (k : OnKind K E) (n : OnNode K E)
    (y : ExprKind-F Span (Unit {0}) (Kinds f k n) (Exprs f k n))
    → of_late k n (layer f (kind_named f (kind_parts f k n y))) ≡ layer f (of_early f k n (kind_parts f k n y))
step f k n (ExprKind-F.Int digits unit) = refl
step f k n (ExprKind-F.Bool b) = refl
step f k n (ExprKind-F.Hex bytes) = refl
step f k n (ExprKind-F.Text bytes) = refl
step f k n (ExprKind-F.Date seconds) = refl
step f k n (ExprKind-F.Name span) = refl
step f k n (ExprKind-F.Unary op value) = step_one f k n value (λ v. ExprKind-F.Unary op v)
step f k n (ExprKind-F.Binary op left right) = step_two f k n left right (λ l r. ExprKind-F.Binary op l r)
step f k n (ExprKind-F.Length value) = step_one f k n value (λ v. ExprKind-F.Length v)
step f k n (ExprKind-F.Reverse value) = step_one f k n value (λ v. ExprKind-F.Reverse v)
step f k n (ExprKind-F.Split value at) = step_two f k n value at (λ v a. ExprKind-F.Split v a)
step f k n (ExprKind-F.Index pair number) = step_one f k n pair (λ p. ExprKind-F.Index p number)
step f k n (ExprKind-F.Cast to value None) = step_one f k n value (λ v. ExprKind-F.Cast to v None)
step f k n (ExprKind-F.Cast to value (Some size)) =
    step_two f k n value size (λ v s. ExprKind-F.Cast to v (Some s))
step f k n (ExprKind-F.Call callee args) = ap (λ l. ExprKind-F.Call callee l) (list_fused f k n args)
step f k n (ExprKind-F.New callee args) = ap (λ l. ExprKind-F.New callee l) (list_fused f k n args)
step f k n (ExprKind-F.Array items) = ap (λ l. ExprKind-F.Array l) (list_fused f k n items)
step f k n (ExprKind-F.Look0 look) = refl
step f k n (ExprKind-F.LookAt look index) = step_one f k n index (λ i. ExprKind-F.LookAt look i)

pub fused : {K E : Type 0} (f : Span → Slot) (k : OnKind K E) (n : OnNode K E) (e : Expression) → Fused f k n e
fused {K} {E} f k n = ind-Expr Span (Unit {0}) (KindFused f k n) (Fused f k n)
    (λ x y is. subst (λ z. KindFused f k n (roll-ExprKind Span (Unit {0}) z)) is (
    let p = kind_parts f k n y in
    ap (late_kind k n) (fold-roll-ExprKind Span (Unit {0}) NamedKind NamedExpr (kind_with_slots f) node_with_slots p ∙ as_layer f (kind_named f p))
    ∙ fold-roll-ExprKind Slot (Unit {0}) K E k n (layer f (kind_named f p))
    ∙ ap k (step f k n y)
    ∙ sym (fold-roll-ExprKind Span (Unit {0}) K E (λ y. k (layer f y)) (λ e. n (node e)) p)))
    (λ x y is. subst (λ z. Fused f k n (roll-Expr Span (Unit {0}) z)) is (
    let e : Expr-F Span (Unit {0}) Kind Expression = record { kind = y.kind.0; ty = y.ty; span = y.span } in
    let g : Expr-F Slot (Unit {0}) NamedKind NamedExpr = record { kind = kind_slots f y.kind.0; ty = tt; span = y.span } in
    let made : K → Expr-F Slot (Unit {0}) K E = (λ a. record { kind = a; ty = tt; span = y.span }) in
    ap (late k n) (fold-roll-Expr Span (Unit {0}) NamedKind NamedExpr (kind_with_slots f) node_with_slots e)
    ∙ fold-roll-Expr Slot (Unit {0}) K E k n g
    ∙ ap (λ a. n (made a)) y.kind.1
    ∙ sym (fold-roll-Expr Span (Unit {0}) K E (λ y. k (layer f y)) (λ e. n (node e)) e)))

-- ---- nodes and spans

nodes_alike : (f : Span → Slot) (y : ExprKind-F Span (Unit {0}) ℕ ℕ) → kind_nodes (layer f y) ≡ kind_nodes y
nodes_alike f (ExprKind-F.Int digits unit) = refl
nodes_alike f _ = refl

pub nodes_kept : (f : Span → Slot) (e : Expression) → nodes (with_slots f e) ≡ nodes e
nodes_kept f e =
    fused f kind_nodes node_nodes e
    ∙ ap (λ k. fold-Expr Span (Unit {0}) ℕ ℕ k node_nodes e) (fun_ext (nodes_alike f))

spans_alike : (f : Span → Slot) (y : ExprKind-F Span (Unit {0}) (List Span) (List Span))
    → expression_kind_spans nothing (layer f y) ≡ expression_kind_spans nothing y
spans_alike f (ExprKind-F.Int digits unit) = refl
spans_alike f _ = refl

pub spans_kept : (f : Span → Slot) (e : Expression) → expression_spans nothing (with_slots f e) ≡ expression_spans nothing e
spans_kept f e =
    fused f (expression_kind_spans nothing) node_spans e
    ∙ ap (λ k. fold-Expr Span (Unit {0}) (List Span) (List Span) k node_spans e) (fun_ext (spans_alike f))
