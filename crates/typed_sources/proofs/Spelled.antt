-- The casts and calls of an expression that a source spells fit, where its names are granted.
use Rattle.std.proofs.Common.{◌≡◌, ◌∙◌, ap, sym, subst, refl, ℕ, true, ◌&&◌, List, [], ◌∷◌, map}
use Rattle.std.specs.List.{list_all, AllByRecursion}
use Rattle.cash_base.specs.declared.place.Span.{Span}
use Rattle.cash_tree.specs.declared.ExprKind.TheOpen.{ExprKind-F, Expr-F}
use Rattle.cash_tree.specs.declared.ExprKind.TheViews.{roll-ExprKind}
use Rattle.name_scopes.specs.Names.{Names}
use Rattle.name_scopes.specs.Wants.{AreGranted}
use Rattle.cash_names.specs.Expressions.{wants_of}
use Rattle.cash_expressions.specs.Grammar.{Expression, Kind, expr}
use Rattle.type_soundness.specs.Literals.{parts}
use Rattle.lowering_laws.specs.Laws.{own_fits, nodes_fit, kind_nodes_fit}
use Rattle.plain_trees.proofs.Spelled.{Layer, OwnAre, Follows}
use Rattle.typed_sources.proofs.Layers.{fits_kind, fits_layer}
use Rattle.typed_sources.proofs.Granted.{wants_kind, wants_layer, AllGranted, calls_known, parts_granted}
use Rattle.typed_sources.proofs.Symbols.{IsNamedSymbol, named_has_length}

-- whatever names are in scope
abbrev pub FitsGranted : List ℕ → Expression → Type 0
FitsGranted source e = (names : Names) → AreGranted source (wants_of names e) → nodes_fit e ≡ true

of_kind : (kind : Kind) (span : Span) → nodes_fit (expr kind span) ≡ kind_nodes_fit kind
of_kind kind span =
    let layer : Expr-F Span (Unit {0}) Kind Expression = record { kind = kind; ty = tt; span = span } in
    fits_kind Span (Unit {0}) layer

own_fit : (layer : Layer) → OwnAre IsNamedSymbol layer → calls_known layer ≡ true → own_fits layer ≡ true
own_fit (ExprKind-F.Cast to value size) own known = named_has_length to own
own_fit (ExprKind-F.Call callee args) own known = known
own_fit (ExprKind-F.New callee args) own known = known
own_fit _ own known = refl

all_fit : (source : List ℕ) (names : Names) (es : List Expression) → AllByRecursion (FitsGranted source) es → AllGranted source names es → list_all (λ b. b) (map nodes_fit es) ≡ true
all_fit source names [] h granted = refl
all_fit source names (e ∷ es) h granted =
    ap (λ b. b && list_all (λ c. c) (map nodes_fit es)) (h.0 names granted.0) ∙ all_fit source names es h.1 granted.1

node_fits : (source : List ℕ) (layer : Layer) (span : Span) → OwnAre IsNamedSymbol layer → AllByRecursion (FitsGranted source) (parts layer)
    → FitsGranted source (expr (roll-ExprKind Span (Unit {0}) layer) span)
node_fits source layer span own all = λ names granted.
    let g = parts_granted source names layer (subst (AreGranted source) (wants_layer names layer span) granted) in
    of_kind (roll-ExprKind Span (Unit {0}) layer) span ∙ fits_layer Span (Unit {0}) layer
    ∙ ap (λ b. b && list_all (λ c. c) (map nodes_fit (parts layer))) (own_fit layer own g.own)
    ∙ all_fit source names (parts layer) all g.all

same_kind : (source : List ℕ) (e : Expression) (span : Span) → FitsGranted source e → FitsGranted source (expr e.kind span)
same_kind source e span fits = λ names granted.
    let same = wants_kind names e.kind span ∙ sym (wants_kind names e.kind e.span) in
    of_kind e.kind span ∙ sym (of_kind e.kind e.span) ∙ fits names (subst (AreGranted source) same granted)

pub fits_follow : (source : List ℕ) → Follows IsNamedSymbol (FitsGranted source)
fits_follow source = record { node = node_fits source; brackets = same_kind source }
