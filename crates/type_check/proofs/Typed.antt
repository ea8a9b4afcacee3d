-- Reading an expression gives exactly what types it.
use Rattle.std.proofs.Common.{◌≡◌, ◌∙◌, ap, sym, subst, refl, ℕ, ◌+◌, List, [], ◌∷◌, ◌++◌, map, length, append_assoc}
use Rattle.std.specs.Prelude.{Some, None, Ok, Err}
use Rattle.std.proofs.lemmas.List.{append-nil}
use Rattle.cash_base.specs.declared.place.Span.{Span}
use Rattle.cash_base.specs.declared.place.Slot.{Slot}
use Rattle.cash_base.specs.Failing.{◌>>=◌}
use Rattle.cash_tree.specs.declared.Ty.{Ty}
use Rattle.cash_tree.specs.declared.ExprKind.TheOpen.{ExprKind-F, Expr-F}
use Rattle.cash_tree.specs.declared.ExprKind.TheViews.{roll-Expr, roll-ExprKind, out-roll-ExprKind}
use Rattle.cash_tree.specs.declared.ExprKind.TheFolds.{ind-Expr, map-ExprKind}
use Rattle.type_tables.specs.declared.rules.Signature.{Signature}
use Rattle.type_tables.specs.Tables.{Answer, TypedExpr, Env, place_at}
use Rattle.type_check.specs.Shapes as shapes
use Rattle.type_check.specs.Shapes.{Shape, Place, NamedExpr, NamedKind, TypedKind, KindLayer, shape, opened, expr, typed}
use Rattle.type_check.specs.Outline.{Judged}
use Rattle.type_check.specs.Reading.{each_from, with_type, shape_reading, reading_of, reading_of_kind}
use Rattle.type_check.specs.Typing as rule
use Rattle.type_check.specs.Typing.{HasType, HasShape, HaveTypes, node, none, next}
use Rattle.type_tables.proofs.Lists.{grown}
use Rattle.type_check.proofs.ShapeMaps.{map_shape, shape_map}
use Rattle.type_check.proofs.Unfolds.{layer_read, kind_read, expr_read}

-- ---- what has a type is read

judged : (k : TypedKind) (r : Answer Ty) (t : Ty) → r ≡ Ok t → with_type k r ≡ Ok (k, t)
judged k r t is = ap (with_type k) is

mutual
  pub complete : (env : Env) (place : Place) (e : NamedExpr) (x : TypedExpr) → HasType env place e x
      → reading_of e place env ≡ Ok x
  complete env _ _ _ (node place k m span t h) =
      expr_read k span place env
      ∙ ap (λ r. r >>= (λ j. Ok (typed j.0 j.1 span)))
      (kind_read k span place env ∙ shape_complete env (shape (opened k) span place env) m t h)

  shape_complete : (env : Env) (s : Shape NamedExpr) (m : TypedKind) (t : Ty) → HasShape env s m t
      → shape_reading (map_shape reading_of s) env ≡ Ok (m, t)
  shape_complete env _ _ _ (rule.leaf m r t is) = judged m r t is
  shape_complete env _ _ _ (rule.one a x make r t h is) =
      ap (λ p. p >>= (λ x. with_type (make x) (r x))) (complete env None a x h) ∙ judged (make x) (r x) t is
  shape_complete env _ _ _ (rule.two a b x y make r t h i is) =
      ap (λ p. p >>= (λ x. reading_of b None env >>= (λ y. with_type (make x y) (r x y)))) (complete env None a x h)
      ∙ ap (λ p. p >>= (λ y. with_type (make x y) (r x y))) (complete env None b y i)
      ∙ judged (make x y) (r x y) t is
  shape_complete env _ _ _ (rule.many s es xs make r t h is) =
      ap (λ p. p >>= (λ xs. with_type (make xs) (r xs))) (complete_each env s 0 es xs h [] refl)
      ∙ judged (make xs) (r xs) t is

  complete_each : (env : Env) (s : Signature) (at : ℕ) (es : List NamedExpr) (xs : List TypedExpr)
      → HaveTypes env s at es xs
      → (done : List TypedExpr) → length done ≡ at → each_from s done (map reading_of es) env ≡ Ok (done ++ xs)
  complete_each env _ _ _ _ (none s at) done here = ap Ok (sym (append-nil done))
  complete_each env _ _ _ _ (next s at e es x xs h hs) done here =
      ap (λ n. reading_of e (place_at s n) env >>= (λ x. each_from s (done ++ x ∷ []) (map reading_of es) env)) here
      ∙ ap (λ r. r >>= (λ x. each_from s (done ++ x ∷ []) (map reading_of es) env))
      (complete env (place_at s at) e x h)
      ∙ complete_each env s (at + 1) es xs hs (done ++ x ∷ []) (grown done x at here)
      ∙ ap Ok (append_assoc done (x ∷ []) xs)

-- ---- what is read has a type

pub ok_bind : {A B : Type 0} (r : Answer A) (g : A → Answer B) (z : B) → (r >>= g) ≡ Ok z → (v : A) × (r ≡ Ok v)
    × (g v ≡ Ok z)
ok_bind (Ok v) g z e = (v, refl, e)
ok_bind (Err f) g z e = let no : ⊥ = cc in absurd no

abbrev pub ok : {A : Type 0} → A → Answer A
ok x = Ok x

pub ok_same : {A : Type 0} (x y : A) → ok x ≡ Ok y → x ≡ y
ok_same x y e = cc

pub ok_inner : {A : Type 0} (x y : A) (r : Answer A) → r ≡ Ok x → r ≡ Ok y → x ≡ y
ok_inner x y r d e = cc

pub via : {A B : Type 0} (f : A → B) (a b : A) (k : B) → a ≡ b → f b ≡ k → f a ≡ k
via f a b k e d = ap f e ∙ d

abbrev KindSound : NamedKind → Type 0
KindSound kind = (env : Env) (place : Place) (k : Judged) (span : Span) → reading_of_kind kind span place env ≡ Ok k
    → HasShape env (shape (opened kind) span place env) k.0 k.1

abbrev pub Sound : NamedExpr → Type 0
Sound e = (env : Env) (place : Place) (x : TypedExpr) → reading_of e place env ≡ Ok x → HasType env place e x

abbrev Kinds : Type 0
Kinds = (kind : NamedKind) × KindSound kind

abbrev Exprs : Type 0
Exprs = (e : NamedExpr) × Sound e

abbrev exprs_of : List Exprs → List NamedExpr
exprs_of es = map (λ e. e.0) es

abbrev kind_parts : KindLayer Kinds Exprs → KindLayer NamedKind NamedExpr
kind_parts = map-ExprKind Slot (Unit {0}) Kinds Exprs NamedKind NamedExpr (λ k. k.0) (λ e. e.0)

abbrev parts_of : Shape Exprs → Shape NamedExpr
parts_of s = map_shape (λ e. e.0) s

each_sound : (s : Signature) (es : List Exprs) (done : List TypedExpr) (env : Env) (zs : List TypedExpr) (at : ℕ)
    → length done ≡ at
    → each_from s done (map reading_of (exprs_of es)) env ≡ Ok zs → (xs : List TypedExpr) × (zs ≡ done ++ xs)
    × HaveTypes env s at (exprs_of es) xs
each_sound s [] done env zs at here e =
    ([], ok_inner zs done (Ok done) e refl ∙ sym (append-nil done), none s at)
each_sound s (e ∷ es) done env zs at here is =
    let rest = exprs_of es in
    let b = ok_bind (reading_of e.0 (place_at s at) env) (λ x. each_from s (done ++ x ∷ []) (map reading_of rest) env)
    zs
    (ap (λ n. reading_of e.0 (place_at s n) env >>= (λ x. each_from s (done ++ x ∷ []) (map reading_of rest) env))
    (sym here) ∙ is) in
    let r = each_sound s es (done ++ b.0 ∷ []) env zs (at + 1) (grown done b.0 at here) b.2 in (
      b.0 ∷ r.0,
      r.1 ∙ append_assoc done (b.0 ∷ []) r.0,
      next s at e.0 rest b.0 r.0 (e.1 env (place_at s at) b.0 b.1)
          r.2,
    )

-- the node itself
node_sound : (env : Env) (s : Shape NamedExpr) (make : TypedKind) (r : Answer Ty) (z : Judged)
    → ((t : Ty) → r ≡ Ok t → HasShape env s make t) → with_type make r ≡ Ok z → HasShape env s z.0 z.1
node_sound env s make r z has e =
    let t = ok_bind r (λ t. Ok (make, t)) z e in
    let made : Judged = (make, t.0) in
    subst (λ z. HasShape env s z.0 z.1) {x = made} (ok_same made z t.2) (has t.0 t.1)

shape_sound : (s : Shape Exprs) (env : Env) (z : Judged) → shape_reading (map_shape reading_of (parts_of s)) env ≡ Ok z
    → HasShape env (parts_of s) z.0 z.1
shape_sound (shapes.leaf m r) env z e = node_sound env (shapes.leaf m r) m r z (rule.leaf m r) e
shape_sound (shapes.one a make r) env z e =
    let p = ok_bind (reading_of a.0 None env) (λ x. with_type (make x) (r x)) z e in
    node_sound env (shapes.one a.0 make r) (make p.0) (r p.0) z
    (λ t is. rule.one a.0 p.0 make r t (a.1 env None p.0 p.1) is) p.2
shape_sound (shapes.two a b make r) env z e =
    let p = ok_bind (reading_of a.0 None env)
    (λ x. reading_of b.0 None env >>= (λ y. with_type (make x y) (r x y))) z e in
    let q = ok_bind (reading_of b.0 None env) (λ y. with_type (make p.0 y) (r p.0 y)) z p.2 in
    node_sound env (shapes.two a.0 b.0 make r) (make p.0 q.0) (r p.0 q.0) z
    (λ t is. rule.two a.0 b.0 p.0 q.0 make r t (a.1 env None p.0 p.1) (b.1 env None q.0 q.1) is) q.2
shape_sound (shapes.many s es make r) env z e =
    let p = ok_bind (each_from s [] (map reading_of (exprs_of es)) env) (λ xs. with_type (make xs) (r xs)) z e in
    let all = each_sound s es [] env p.0 0 refl p.1 in
    node_sound env (shapes.many s (exprs_of es) make r) (make p.0) (r p.0) z
    (λ t is. rule.many s (exprs_of es) p.0 make r t
    (subst (λ xs. HaveTypes env s 0 (exprs_of es) xs) (sym all.1) all.2) is) p.2

kind_step : (y : KindLayer Kinds Exprs) → KindSound (roll-ExprKind Slot (Unit {0}) (kind_parts y))
kind_step y env place z span e =
    let parts = shape_map (λ (k : Kinds). k.0) (λ (e : Exprs). e.0) y span place env in
    subst (λ l. HasShape env (shape l span place env) z.0 z.1) (sym (out-roll-ExprKind Slot (Unit {0}) (kind_parts y)))
    (subst (λ s. HasShape env s z.0 z.1) (sym parts)
    (shape_sound (shape y span place env) env z
    (sym (layer_read (kind_parts y) span place env
    ∙ ap (λ s. shape_reading (map_shape reading_of s) env) parts) ∙ e)))

pub sound : (e : NamedExpr) → Sound e
sound = ind-Expr Slot (Unit {0}) KindSound Sound
    (λ x y is. subst (λ z. KindSound (roll-ExprKind Slot (Unit {0}) z)) is (kind_step y))
    (λ x y is. subst (λ z. Sound (roll-Expr Slot (Unit {0}) z)) is (λ env place x e.
    let make : Judged → TypedExpr = (λ k. typed k.0 k.1 y.span) in
    let b = ok_bind (reading_of_kind y.kind.0 y.span place env) (λ k. Ok (make k)) x
    (sym (expr_read y.kind.0 y.span place env) ∙ e) in
    subst (λ x. HasType env place (expr y.kind.0 y.span) x) (ok_same (make b.0) x b.2)
    (node place y.kind.0 b.0.0 y.span b.0.1 (y.kind.1 env place b.0 y.span b.1))))
