-- Reading an expression tells the first node that has no type.
use Rattle.std.proofs.Common.{◌≡◌, ◌∙◌, ap, sym, subst, refl, ℕ, ◌+◌, List, [], ◌∷◌, ◌++◌, map, length, append_assoc}
use Rattle.std.specs.Prelude.{Some, None, Ok, Err}
use Rattle.std.proofs.lemmas.List.{append-nil}
use Rattle.cash_base.specs.declared.place.Span.{Span}
use Rattle.cash_base.specs.declared.place.Slot.{Slot}
use Rattle.cash_base.specs.Failing.{◌>>=◌}
use Rattle.cash_tree.specs.declared.Ty.{Ty}
use Rattle.cash_tree.specs.declared.ExprKind.TheOpen.{Expr-F}
use Rattle.cash_tree.specs.declared.ExprKind.TheViews.{roll-Expr, roll-ExprKind}
use Rattle.cash_tree.specs.declared.ExprKind.TheFolds.{fold-ExprKind, ind-Expr, fold-roll-Expr, fold-roll-ExprKind, map-ExprKind}
use Rattle.type_tables.specs.declared.rules.Signature.{Signature}
use Rattle.type_tables.specs.Tables.{Answer, TypedExpr, Env, place_at}
use Rattle.type_tables.specs.Places.{Node, ◌or◌, first_fault, fault_of, granted}
use Rattle.type_check.specs.Shapes as shapes
use Rattle.type_check.specs.Shapes.{Shape, Place, NamedExpr, NamedKind, TypedKind, KindLayer, shape, typed}
use Rattle.type_check.specs.Outline.{Outline, Reads, Judged, ty_of, each, shape_outline, kind_outline, expr_outline, outline_of}
use Rattle.type_check.specs.Reading.{each_from, with_type, shape_reading, reading_of, reading_of_kind}
use Rattle.type_tables.proofs.Lists.{grown}
use Rattle.type_check.proofs.First.{first_append}
use Rattle.type_check.proofs.ShapeMaps.{map_shape, shape_map}
use Rattle.type_check.proofs.Unfolds.{layer_read, expr_read}

-- the value, or the first fault
abbrev pub verdict : {A : Type 0} → Outline A → Answer A
verdict o = granted (first_fault o.nodes) o.value

bind_granted : {A B : Type 0} (p q : Node) (v : A) (g : A → Answer B) (w : B) → g v ≡ granted q w
    → (granted p v >>= g) ≡ granted (p or q) w
bind_granted None q v g w e = e
bind_granted (Some f) q v g w e = refl

-- a part, and then what follows it
pub both : {A B : Type 0} (r : Answer A) (o : Outline A) (g : A → Answer B) (rest : List Node) (w : B) → r ≡ verdict o
    → g o.value ≡ granted (first_fault rest) w
    → (r >>= g) ≡ granted (first_fault (o.nodes ++ rest)) w
both r o g rest w e d =
    ap (λ s. s >>= g) e ∙ bind_granted (first_fault o.nodes) (first_fault rest) o.value g w d
    ∙ ap (λ p. granted p w) (sym (first_append o.nodes rest))

bind_last : {A B : Type 0} (p : Node) (v : A) (h : A → B) → (granted p v >>= (λ x. Ok (h x))) ≡ granted p (h v)
bind_last None v h = refl
bind_last (Some f) v h = refl

-- the last part
pub last : {A B : Type 0} (r : Answer A) (o : Outline A) (h : A → B) → r ≡ verdict o → (r >>= (λ x. Ok (h x)))
    ≡ granted (first_fault o.nodes) (h o.value)
last r o h e = ap (λ s. s >>= (λ x. Ok (h x))) e ∙ bind_last (first_fault o.nodes) o.value h

-- the node itself, whose rule gives its type
pub judged : {B : Type 0} (r : Answer Ty) (h : Ty → B) → (r >>= (λ t. Ok (h t)))
    ≡ granted (first_fault (fault_of r ∷ [])) (h (ty_of r))
judged (Ok t) h = refl
judged (Err f) h = refl

-- the node itself, whose rule gives nothing
pub allowed : {B : Type 0} (r : Answer (Unit {0})) (w : B) → (r >>= (λ u. Ok w))
    ≡ granted (first_fault (fault_of r ∷ [])) w
allowed (Ok u) w = refl
allowed (Err f) w = refl

-- ---- expressions

abbrev outline_of_kind : NamedKind → Span → Reads Judged
outline_of_kind = fold-ExprKind Slot (Unit {0}) (Span → Reads Judged) (Reads TypedExpr) kind_outline expr_outline

abbrev KindAgrees : NamedKind → Type 0
KindAgrees kind = (span : Span) (place : Place) (env : Env) → reading_of_kind kind span place env
    ≡ verdict (outline_of_kind kind span place env)

abbrev pub Agrees : NamedExpr → Type 0
Agrees e = (place : Place) (env : Env) → reading_of e place env ≡ verdict (outline_of e place env)

abbrev Kinds : Type 0
Kinds = (kind : NamedKind) × KindAgrees kind

abbrev Exprs : Type 0
Exprs = (e : NamedExpr) × Agrees e

abbrev exprs_of : List Exprs → List NamedExpr
exprs_of es = map (λ e. e.0) es

each_agrees : (s : Signature) (es : List Exprs) (done : List TypedExpr) (env : Env) (at : ℕ) → length done ≡ at
    → each_from s done (map reading_of (exprs_of es)) env
    ≡ granted (first_fault (each s at (map outline_of (exprs_of es)) env).nodes)
    (done ++ (each s at (map outline_of (exprs_of es)) env).value)
each_agrees s [] done env at here = ap Ok (sym (append-nil done))
each_agrees s (e ∷ es) done env at here =
    let head = outline_of e.0 (place_at s at) env in
    let tail = each s (at + 1) (map outline_of (exprs_of es)) env in
    ap (λ n. reading_of e.0 (place_at s n)
    env >>= (λ x. each_from s (done ++ x ∷ []) (map reading_of (exprs_of es)) env)) here
    ∙ both (reading_of e.0 (place_at s at) env) head
    (λ x. each_from s (done ++ x ∷ []) (map reading_of (exprs_of es)) env) tail.nodes
    (done ++ head.value ∷ tail.value) (e.1 (place_at s at) env)
    (each_agrees s es (done ++ head.value ∷ []) env (at + 1) (grown done head.value at here)
    ∙ ap (λ l. granted (first_fault tail.nodes) l) (append_assoc done (head.value ∷ []) tail.value))

abbrev parts_of : Shape Exprs → Shape NamedExpr
parts_of s = map_shape (λ e. e.0) s

shape_agrees : (s : Shape Exprs) (env : Env) → shape_reading (map_shape reading_of (parts_of s)) env
    ≡ verdict (shape_outline (map_shape outline_of (parts_of s)) env)
shape_agrees (shapes.leaf kind rule) env = judged rule (λ t. (kind, t))
shape_agrees (shapes.one e make rule) env =
    let x = outline_of e.0 None env in
    let t = rule x.value in
    let w : Judged = (make x.value, ty_of t) in
    both (reading_of e.0 None env) x (λ x. with_type (make x) (rule x)) (fault_of t ∷ []) w (e.1 None env)
    (judged t (λ t. (make x.value, t)))
shape_agrees (shapes.two e f make rule) env =
    let x = outline_of e.0 None env in
    let y = outline_of f.0 None env in
    let t = rule x.value y.value in
    let w : Judged = (make x.value y.value, ty_of t) in
    both (reading_of e.0 None env) x (λ x. reading_of f.0 None env >>= (λ y. with_type (make x y) (rule x y)))
    (y.nodes ++ fault_of t ∷ []) w (e.1 None env)
    (both (reading_of f.0 None env) y (λ y. with_type (make x.value y) (rule x.value y)) (fault_of t ∷ []) w
    (f.1 None env) (judged t (λ t. (make x.value y.value, t))))
shape_agrees (shapes.many s es make rule) env =
    let xs = each s 0 (map outline_of (exprs_of es)) env in
    let t = rule xs.value in
    let w : Judged = (make xs.value, ty_of t) in
    both (each_from s [] (map reading_of (exprs_of es)) env) xs (λ xs. with_type (make xs) (rule xs))
    (fault_of t ∷ []) w (each_agrees s es [] env 0 refl) (judged t (λ t. (make xs.value, t)))

abbrev kind_parts : KindLayer Kinds Exprs → KindLayer NamedKind NamedExpr
kind_parts = map-ExprKind Slot (Unit {0}) Kinds Exprs NamedKind NamedExpr (λ k. k.0) (λ e. e.0)

kind_step : (y : KindLayer Kinds Exprs) (span : Span) (place : Place) (env : Env)
    → reading_of_kind (roll-ExprKind Slot (Unit {0}) (kind_parts y)) span place env
    ≡ verdict (outline_of_kind (roll-ExprKind Slot (Unit {0}) (kind_parts y)) span place env)
kind_step y span place env =
    let parts = shape_map (λ (k : Kinds). k.0) (λ (e : Exprs). e.0) y span place env in
    layer_read (kind_parts y) span place env
    ∙ ap (λ s. shape_reading (map_shape reading_of s) env) parts
    ∙ shape_agrees (shape y span place env) env
    ∙ ap (λ s. verdict (shape_outline (map_shape outline_of s) env)) (sym parts)
    ∙ ap (λ s. verdict (shape_outline s env)) (sym (shape_map outline_of_kind outline_of (kind_parts y) span place env))
    ∙ ap (λ f. verdict (f span place env))
    (sym (fold-roll-ExprKind Slot (Unit {0}) (Span → Reads Judged) (Reads TypedExpr) kind_outline expr_outline
    (kind_parts y)))

pub agrees : (e : NamedExpr) → Agrees e
agrees = ind-Expr Slot (Unit {0}) KindAgrees Agrees
    (λ x y is. subst (λ z. KindAgrees (roll-ExprKind Slot (Unit {0}) z)) is (kind_step y))
    (λ x y is. subst (λ z. Agrees (roll-Expr Slot (Unit {0}) z)) is (λ place env.
    let make : Judged → TypedExpr = (λ k. typed k.0 k.1 y.span) in
    let e : Expr-F Slot (Unit {0}) NamedKind NamedExpr = record { kind = y.kind.0; ty = y.ty; span = y.span } in
    expr_read y.kind.0 y.span place env
    ∙ last (reading_of_kind y.kind.0 y.span place env) (outline_of_kind y.kind.0 y.span place env) make
    (y.kind.1 y.span place env)
    ∙ ap (λ f. verdict (f place env))
    (sym (fold-roll-Expr Slot (Unit {0}) (Span → Reads Judged) (Reads TypedExpr) kind_outline expr_outline e))))
