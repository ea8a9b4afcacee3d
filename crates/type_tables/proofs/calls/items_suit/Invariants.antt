use Rattle.std.proofs.Common.{◌≡◌, map, drop}
use Rattle.type_tables.specs.Tables.{all_suit, item_type}
use Rattle.type_tables.proofs.calls.items_suit.Given as goal

abbrev pub invariant-loop-found : goal.invariant-loop-found
invariant-loop-found l =
    all_suit l.span (item_type l.item) (map (λ x. x.ty) (drop l.found-index l.items))
    ≡ all_suit l.span (item_type l.item) (map (λ x. x.ty) l.items)
