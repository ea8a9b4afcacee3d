-- Where all spans of an expression lie in a source, so do those that are left once its names hold none.
use Rattle.std.proofs.Common.{◌≡◌, sym, subst, ℕ, List, [], ◌∷◌, ◌++◌, map, Some, None}
use Rattle.cash_base.specs.declared.place.Span.{Span}
use Rattle.cash_base.specs.Source.{AreInside}
use Rattle.cash_tree.specs.declared.ExprKind.TheOpen.{ExprKind-F, Expr-F}
use Rattle.cash_tree.specs.declared.ExprKind.TheViews.{roll-Expr, roll-ExprKind}
use Rattle.cash_tree.specs.declared.ExprKind.TheFolds.{fold-ExprKind, ind-Expr, fold-roll-Expr, fold-roll-ExprKind, map-ExprKind}
use Rattle.cash_tree.specs.Nodes.{joined}
use Rattle.cash_tree.specs.Spans.{itself, nothing, callee_spans, expression_kind_spans, node_spans, expression_spans}
use Rattle.cash_names.specs.Expressions.{Expression, Kind}

-- where the first lie in a source, so do the second
pub record Less (len : ℕ) (a b : List Span) : Type 0 where
  pub run : AreInside len a → AreInside len b

apart : (len : ℕ) (a b : List Span) → AreInside len (a ++ b) → AreInside len a × AreInside len b
apart len [] b h = (tt, h)
apart len (s ∷ a) b h = let r = apart len a b h.1 in ((h.0, r.0), r.1)

together : (len : ℕ) (a b : List Span) → AreInside len a → AreInside len b → AreInside len (a ++ b)
together len [] b h k = k
together len (s ∷ a) b h k = (h.0, together len a b h.1 k)

pub same_less : (len : ℕ) (a : List Span) → Less len a a
same_less len a = record { run = λ h. h }

-- two lists joined, and one more span in front
pub both_less : {len : ℕ} {a b c d : List Span} → Less len a b → Less len c d → Less len (a ++ c) (b ++ d)
both_less {len} {a} {b} {c} {d} p q = record { run = λ h. let r = apart len a c h in together len b d (p.run r.0) (q.run r.1) }

pub more_less : {len : ℕ} {a b : List Span} (s : Span) → Less len a b → Less len (s ∷ a) (s ∷ b)
more_less s p = record { run = λ h. (h.0, p.run h.1) }

-- a span that is left out
pub drop_less : {len : ℕ} {a b : List Span} (s : Span) → Less len a b → Less len (s ∷ a) b
drop_less s p = record { run = λ h. p.run h.1 }

pub less_by : {len : ℕ} {a b c d : List Span} → a ≡ b → c ≡ d → Less len b d → Less len a c
less_by {len} p q less = record { run = λ h. subst (AreInside len) (sym q) (less.run (subst (AreInside len) p h)) }

-- ---- expressions

abbrev kind_spans : (Span → List Span) → Kind → List Span
kind_spans of_name = fold-ExprKind Span (Unit {0}) (List Span) (List Span) (expression_kind_spans of_name) node_spans

abbrev KindLess : ℕ → Kind → Type 0
KindLess len kind = Less len (kind_spans itself kind) (kind_spans nothing kind)

abbrev ExprLess : ℕ → Expression → Type 0
ExprLess len e = Less len (expression_spans itself e) (expression_spans nothing e)

abbrev Kinds : ℕ → Type 0
Kinds len = (kind : Kind) × KindLess len kind

abbrev Exprs : ℕ → Type 0
Exprs len = (e : Expression) × ExprLess len e

abbrev kind_parts : (len : ℕ) → ExprKind-F Span (Unit {0}) (Kinds len) (Exprs len) → ExprKind-F Span (Unit {0}) Kind Expression
kind_parts len = map-ExprKind Span (Unit {0}) (Kinds len) (Exprs len) Kind Expression (λ x. x.0) (λ x. x.0)

abbrev lists : (Span → List Span) → ExprKind-F Span (Unit {0}) Kind Expression → ExprKind-F Span (Unit {0}) (List Span) (List Span)
lists of_name = map-ExprKind Span (Unit {0}) Kind Expression (List Span) (List Span) (kind_spans of_name) (expression_spans of_name)

abbrev all_spans : (Span → List Span) → {len : ℕ} → List (Exprs len) → List Span
all_spans of_name es = joined (map (expression_spans of_name) (map (λ x. x.0) es))

list_less : (len : ℕ) (es : List (Exprs len)) → Less len (all_spans itself es) (all_spans nothing es)
list_less len [] = same_less len []
list_less len (e ∷ es) = both_less e.1 (list_less len es)

step : (len : ℕ) (y : ExprKind-F Span (Unit {0}) (Kinds len) (Exprs len))
    → Less len (expression_kind_spans itself (lists itself (kind_parts len y))) (expression_kind_spans nothing (lists nothing (kind_parts len y)))
step len (ExprKind-F.Name span) = drop_less span (same_less len [])
step len (ExprKind-F.Unary op value) = value.1
step len (ExprKind-F.Binary op left right) = both_less left.1 right.1
step len (ExprKind-F.Length value) = value.1
step len (ExprKind-F.Reverse value) = value.1
step len (ExprKind-F.Split value at) = both_less value.1 at.1
step len (ExprKind-F.Index pair number) = pair.1
step len (ExprKind-F.Cast to value None) = both_less value.1 (same_less len [])
step len (ExprKind-F.Cast to value (Some size)) = both_less value.1 size.1
step len (ExprKind-F.Call callee args) = both_less (same_less len (callee_spans callee)) (list_less len args)
step len (ExprKind-F.New callee args) = both_less (same_less len (callee_spans callee)) (list_less len args)
step len (ExprKind-F.Array items) = list_less len items
step len (ExprKind-F.LookAt look index) = index.1
step len _ = same_less len []

pub expression_less : (len : ℕ) (e : Expression) → ExprLess len e
expression_less len = ind-Expr Span (Unit {0}) (KindLess len) (ExprLess len)
    (λ x y is. subst (λ z. KindLess len (roll-ExprKind Span (Unit {0}) z)) is (
    let p = kind_parts len y in
    less_by
    (fold-roll-ExprKind Span (Unit {0}) (List Span) (List Span) (expression_kind_spans itself) node_spans p)
    (fold-roll-ExprKind Span (Unit {0}) (List Span) (List Span) (expression_kind_spans nothing) node_spans p)
    (step len y)))
    (λ x y is. subst (λ z. ExprLess len (roll-Expr Span (Unit {0}) z)) is (
    let e : Expr-F Span (Unit {0}) Kind Expression = record { kind = y.kind.0; ty = y.ty; span = y.span } in
    less_by
    (fold-roll-Expr Span (Unit {0}) (List Span) (List Span) (expression_kind_spans itself) node_spans e)
    (fold-roll-Expr Span (Unit {0}) (List Span) (List Span) (expression_kind_spans nothing) node_spans e)
    (more_less y.span y.kind.1)))
