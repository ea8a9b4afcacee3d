-- What types leave as it is.
use Rattle.std.proofs.Common.{◌≡◌, ◌∙◌, ap, sym, subst, refl, ◌≤◌, List, [], ◌∷◌, map}
use Rattle.cash_base.specs.declared.place.Span.{Span}
use Rattle.cash_base.specs.declared.place.Slot.{Slot}
use Rattle.cash_tree.specs.Nodes.{nodes, most_nodes, tree_values, AreSmall}
use Rattle.cash_tree.specs.Spans.{tree_spans}
use Rattle.type_tables.specs.Tables.{TypedExpr}
use Rattle.type_check.specs.Shapes.{NamedExpr}
use Rattle.type_check.specs.Outline.{NamedContract, TypedContract}
use Rattle.type_check.specs.Typing.{TypesContract}
use Rattle.type_check.specs.Untyped.{untyped, untyped_contract}
use Rattle.type_check.specs.Laws.{IsAlike, AreAlike}
use Rattle.type_check.proofs.Kept.{untyped_kind, expr_kept, contract_kept}
use Rattle.type_check.proofs.Counted.{nodes_alike}
use Rattle.type_check.proofs.Spanned.{spans_alike}
use Rattle.type_check.proofs.Valued.{values_alike}
use Rattle.type_check.proofs.StmtSpanned.{tree_alike}

all_small : (xs : List TypedExpr) → AreSmall (map untyped xs) → AreSmall xs
all_small [] small = tt
all_small (x ∷ xs) small =
    (subst (λ n. n ≤ most_nodes) (sym (nodes_alike x)) small.0, all_small xs small.1)

pub alike : (x : TypedExpr) → IsAlike x
alike x = record {
  own_span = ap (λ (e : NamedExpr). e.span) (expr_kept (untyped_kind x.kind) x.kind x.span x.ty refl);
  all_spans = λ of_name. sym (spans_alike of_name x);
  count = sym (nodes_alike x);
}

pub are_alike : (tree : NamedContract) (typed : TypedContract) → TypesContract tree typed → AreAlike tree typed
are_alike tree typed h =
    let same = contract_kept tree typed h in
    let values : tree_values tree ≡ map untyped (tree_values typed) =
    ap tree_values (sym same) ∙ sym (values_alike typed) in
    record {
      shape = same;
      expressions = values;
      spans = λ of_name. ap (tree_spans of_name) (sym same) ∙ sym (tree_alike of_name typed);
      small = λ small. all_small (tree_values typed) (subst AreSmall values small);
    }
