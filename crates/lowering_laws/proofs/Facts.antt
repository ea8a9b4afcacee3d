-- What is shown of a typed expression at its place.
use Rattle.std.proofs.Common.{◌≡◌, ◌∙◌, ap, sym, subst, refl, ℕ, Bool, true, false, List, [], ◌∷◌, ◌++◌, length, map, Some}
use Rattle.std.specs.Prelude.{◌&&◌}
use Rattle.std.specs.List.{list_all, AllByRecursion}
use Rattle.std.proofs.lemmas.List.Folds.{list_all-append}
use Rattle.std.proofs.lemmas.Bool.{and_parts}
use Rattle.cash_base.specs.declared.place.Span.{Span}
use Rattle.cash_base.specs.declared.place.Slot.{Slot}
use Rattle.cash_tree.specs.declared.Ty.{Ty}
use Rattle.cash_tree.specs.declared.Ty.TheViews.{out-Ty}
use Rattle.cash_tree.specs.Nodes.{joined}
use Rattle.cash_names.specs.Definitions.{expression_uses}
use Rattle.type_tables.specs.declared.rules.Item.{Item}
use Rattle.type_tables.specs.Tables.{TypedExpr, is_single, item_count, kind_items as kind_count}
use Rattle.type_check.specs.Shapes.{Place, typed}
use Rattle.source_meaning.specs.Runnable.{all_of}
use Rattle.type_soundness.proofs.View.{Layer, kind_of_layer}
use Rattle.slot_expressions.specs.Ready.{Known-names, kind_ready, kind_items, is_ready, ready_items}
use Rattle.slot_lowering.specs.Scoped.{is_split}
use Rattle.lowering_laws.specs.Laws.{nodes_fit}
use Rattle.lowering_laws.proofs.Layers.{readied, counted, ready_is, items_are, count_is}
use Rattle.lowering_laws.proofs.Singles.{is_array, is_pair, Halves, no_array, no_pair, halves}

-- its names are known, and its casts and calls as they should be
pub record Asked (known : Known-names) (x : TypedExpr) : Type 0 where
  pub names : list_all known (expression_uses x) ≡ true
  pub fits : nodes_fit x ≡ true

pub record Fine (known : Known-names) (place : Place) (x : TypedExpr) : Type 0 where
  -- what isn't an array is ready, and of an array whose items are wanted as such each of them
  pub value : is_array x.ty ≡ false → Asked known x → is_ready known x ≡ true
  pub items : (item : Item) → place ≡ Some item → is_array x.ty ≡ true → Asked known x → all_of (ready_items known x) ≡ true
  pub count : length (ready_items known x) ≡ item_count x.kind
  -- a pair is both parts of a split
  pub pair : is_pair x.ty ≡ true → is_split x ≡ true
  pub parts : Halves (out-Ty x.ty)

contrary : (b : Bool) → b ≡ false → b ≡ true → ⊥
contrary b no_is is = let both : false ≡ true = sym no_is ∙ is in absurd cc

-- a node with a single type
pub single_fine : (known : Known-names) (place : Place) (layer : Layer) (span : Span) (t : Ty) → is_single t ≡ true
    → (Asked known (typed (kind_of_layer layer) t span) → kind_ready known (readied known layer) ≡ true)
    → kind_items (readied known layer) ≡ [] → kind_count (counted layer) ≡ 0 → Fine known place (typed (kind_of_layer layer) t span)
single_fine known place layer span t single ready none zero = record {
  value = λ other asked. ready_is known layer t span ∙ ready asked;
  items = λ item at array asked. absurd (contrary (is_array t) (no_array t single) array);
  count = ap length (items_are known layer t span) ∙ ap length none ∙ sym (count_is layer ∙ zero);
  pair = λ pair. absurd (contrary (is_pair t) (no_pair t single) pair);
  parts = halves t single;
}

-- ---- what is asked of the parts

pub one_asked : {known : Known-names} {x : TypedExpr} (a : TypedExpr) → expression_uses x ≡ expression_uses a → nodes_fit x ≡ (nodes_fit a && true) → Asked known x → Asked known a
one_asked {known} {x} a uses fits h = record {
  names = sym (ap (list_all known) uses) ∙ h.names;
  fits = (and_parts (nodes_fit a) true (sym fits ∙ h.fits)).0;
}

pub two_asked : {known : Known-names} {x : TypedExpr} (a b : TypedExpr) → expression_uses x ≡ expression_uses a ++ expression_uses b → nodes_fit x ≡ (nodes_fit a && (nodes_fit b && true))
    → Asked known x → Asked known a × Asked known b
two_asked {known} {x} a b uses fits h =
    let names = and_parts (list_all known (expression_uses a)) (list_all known (expression_uses b)) (sym (ap (list_all known) uses ∙ list_all-append known (expression_uses a) (expression_uses b)) ∙ h.names) in
    let fit = and_parts (nodes_fit a) (nodes_fit b && true) (sym fits ∙ h.fits) in
    (record { names = names.0; fits = fit.0 }, record { names = names.1; fits = (and_parts (nodes_fit b) true fit.1).0 })

pub all_asked : (known : Known-names) (args : List TypedExpr) → list_all known (joined (map expression_uses args)) ≡ true → list_all (λ b. b) (map nodes_fit args) ≡ true → AllByRecursion (Asked known) args
all_asked known [] names fits = tt
all_asked known (a ∷ args) names fits =
    let both = and_parts (list_all known (expression_uses a)) (list_all known (joined (map expression_uses args))) (sym (list_all-append known (expression_uses a) (joined (map expression_uses args))) ∙ names) in
    let fit = and_parts (nodes_fit a) (list_all (λ b. b) (map nodes_fit args)) fits in
    (record { names = both.0; fits = fit.0 }, all_asked known args both.1 fit.1)
