-- What a node wants of its names, by its layer: where it is granted, so is what its parts want, and its own call is known.
use Rattle.std.proofs.Common.{◌≡◌, ◌∙◌, refl, Bool, true, List, [], ◌∷◌, ◌++◌, map, ℕ, Some, None}
use Rattle.std.specs.List.{AllByRecursion}
use Rattle.cash_base.specs.declared.place.Span.{Span}
use Rattle.cash_tree.specs.declared.Callee.{Callee}
use Rattle.cash_tree.specs.declared.Callee.TheVariants.{Known, Unknown}
use Rattle.cash_tree.specs.declared.ExprKind.TheOpen.{ExprKind-F, Expr-F}
use Rattle.cash_tree.specs.declared.ExprKind.TheViews.{roll-ExprKind}
use Rattle.cash_tree.specs.declared.ExprKind.TheFolds.{fold-ExprKind, fold-roll-Expr, fold-roll-ExprKind, map-ExprKind}
use Rattle.name_scopes.specs.Names.{Names}
use Rattle.name_scopes.specs.Wants.{Want, AreGranted}
use Rattle.cash_names.specs.Expressions.{Expression, Kind, joined, callee_wants, kind_wants, node_wants, wants_of}
use Rattle.cash_expressions.specs.Grammar.{expr}
use Rattle.type_soundness.specs.Literals.{parts}
use Rattle.lowering_laws.specs.Laws.{is_of_language}

abbrev Layer : Type 0
Layer = ExprKind-F Span (Unit {0}) Kind Expression

-- ---- a node by its layer

abbrev wants_of_kind : Names → Kind → List Want
wants_of_kind names = fold-ExprKind Span (Unit {0}) (List Want) (List Want) (kind_wants names) node_wants

abbrev wanted : Names → Layer → ExprKind-F Span (Unit {0}) (List Want) (List Want)
wanted names layer = map-ExprKind Span (Unit {0}) Kind Expression (List Want) (List Want) (wants_of_kind names) (wants_of names) layer

pub wants_kind : (names : Names) (kind : Kind) (span : Span) → wants_of names (expr kind span) ≡ wants_of_kind names kind
wants_kind names kind span =
    let layer : Expr-F Span (Unit {0}) Kind Expression = record { kind = kind; ty = tt; span = span } in
    fold-roll-Expr Span (Unit {0}) (List Want) (List Want) (kind_wants names) node_wants layer

pub wants_layer : (names : Names) (layer : Layer) (span : Span) → wants_of names (expr (roll-ExprKind Span (Unit {0}) layer) span) ≡ kind_wants names (wanted names layer)
wants_layer names layer span =
    wants_kind names (roll-ExprKind Span (Unit {0}) layer) span
    ∙ fold-roll-ExprKind Span (Unit {0}) (List Want) (List Want) (kind_wants names) node_wants layer

-- ---- what is granted

apart : (source : List ℕ) (a b : List Want) → AreGranted source (a ++ b) → AreGranted source a × AreGranted source b
apart source [] b h = (tt, h)
apart source (w ∷ a) b h = let rest = apart source a b h.1 in ((h.0, rest.0), rest.1)

abbrev pub AllGranted : List ℕ → Names → List Expression → Type 0
AllGranted source names es = AllByRecursion (λ e. AreGranted source (wants_of names e)) es

each : (source : List ℕ) (names : Names) (es : List Expression) → AreGranted source (joined (map (wants_of names) es)) → AllGranted source names es
each source names [] h = tt
each source names (e ∷ es) h =
    let both = apart source (wants_of names e) (joined (map (wants_of names) es)) h in (both.0, each source names es both.1)

callee_known : (source : List ℕ) (callee : Callee) → AreGranted source (callee_wants callee) → is_of_language callee ≡ true
callee_known source (Known f) h = refl
callee_known source (Unknown span) h = absurd h.0

-- a call of the node itself is of what the language has
abbrev pub calls_known : Layer → Bool
calls_known (ExprKind-F.Call callee args) = is_of_language callee
calls_known (ExprKind-F.New callee args) = is_of_language callee
calls_known _ = true

pub record GrantedParts (source : List ℕ) (names : Names) (layer : Layer) : Type 0 where
  pub own : calls_known layer ≡ true
  pub all : AllGranted source names (parts layer)

call_granted : (source : List ℕ) (names : Names) (callee : Callee) (args : List Expression) → AreGranted source (callee_wants callee ++ joined (map (wants_of names) args))
    → (is_of_language callee ≡ true) × AllGranted source names args
call_granted source names callee args h =
    let both = apart source (callee_wants callee) (joined (map (wants_of names) args)) h in
    (callee_known source callee both.0, each source names args both.1)

two_granted : (source : List ℕ) (names : Names) (a b : Expression) → AreGranted source (wants_of names a ++ wants_of names b) → AllGranted source names (a ∷ b ∷ [])
two_granted source names a b h = let both = apart source (wants_of names a) (wants_of names b) h in (both.0, (both.1, tt))

pub parts_granted : (source : List ℕ) (names : Names) (layer : Layer) → AreGranted source (kind_wants names (wanted names layer)) → GrantedParts source names layer
parts_granted source names (ExprKind-F.Int digits unit) h = record { own = refl; all = tt }
parts_granted source names (ExprKind-F.Bool b) h = record { own = refl; all = tt }
parts_granted source names (ExprKind-F.Hex bytes) h = record { own = refl; all = tt }
parts_granted source names (ExprKind-F.Text bytes) h = record { own = refl; all = tt }
parts_granted source names (ExprKind-F.Date seconds) h = record { own = refl; all = tt }
parts_granted source names (ExprKind-F.Name name) h = record { own = refl; all = tt }
parts_granted source names (ExprKind-F.Unary op a) h = record { own = refl; all = (h, tt) }
parts_granted source names (ExprKind-F.Binary op a b) h = record { own = refl; all = two_granted source names a b h }
parts_granted source names (ExprKind-F.Length a) h = record { own = refl; all = (h, tt) }
parts_granted source names (ExprKind-F.Reverse a) h = record { own = refl; all = (h, tt) }
parts_granted source names (ExprKind-F.Split a b) h = record { own = refl; all = two_granted source names a b h }
parts_granted source names (ExprKind-F.Index a number) h = record { own = refl; all = (h, tt) }
parts_granted source names (ExprKind-F.Cast to a None) h = record { own = refl; all = ((apart source (wants_of names a) [] h).0, tt) }
parts_granted source names (ExprKind-F.Cast to a (Some b)) h = record { own = refl; all = two_granted source names a b h }
parts_granted source names (ExprKind-F.Call callee args) h = let both = call_granted source names callee args h in record { own = both.0; all = both.1 }
parts_granted source names (ExprKind-F.New callee args) h = let both = call_granted source names callee args h in record { own = both.0; all = both.1 }
parts_granted source names (ExprKind-F.Array items) h = record { own = refl; all = each source names items h }
parts_granted source names (ExprKind-F.Look0 look) h = record { own = refl; all = tt }
parts_granted source names (ExprKind-F.LookAt look a) h = record { own = refl; all = (h, tt) }
