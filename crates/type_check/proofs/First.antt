-- The first fault of two lists of nodes.
use Rattle.std.proofs.Common.{◌≡◌, ◌∙◌, ap, refl, List, [], ◌∷◌, ◌++◌}
use Rattle.std.specs.Prelude.{Some, None}
use Rattle.type_tables.specs.Places.{Node, ◌or◌, first_fault}

or_assoc : (x y z : Node) → (x or (y or z)) ≡ ((x or y) or z)
or_assoc None y z = refl
or_assoc (Some f) y z = refl

pub first_append : (a b : List Node) → first_fault (a ++ b) ≡ (first_fault a or first_fault b)
first_append [] b = refl
first_append (w ∷ a) b =
    ap (λ x. w or x) (first_append a b) ∙ or_assoc w (first_fault a) (first_fault b)
