-- Open conditions in either order.
use Rattle.std.proofs.Common.{◌≡◌, Bool, true, false, ◌&&◌, List, [], ◌∷◌, ◌++◌, reverse, refl, ap, ◌∙◌}
use Rattle.std.proofs.Math.Bool.{and_comm}
use Rattle.std.proofs.lemmas.List.Folds.{list_all-append}
use Rattle.std.proofs.lemmas.List.{reverse-append}
use Rattle.std.proofs.lemmas.Grind.{reverse_onto}
use Rattle.std.specs.List.{list_all}
use Rattle.bch_vm.specs.Board.{outer}

and_true : (a : Bool) → (a && true) ≡ a
and_true true = refl
and_true false = refl

pub list_all_reverse : (conditions : List Bool) → list_all (λ c. c) (reverse conditions) ≡ list_all (λ c. c) conditions
list_all_reverse [] = refl
list_all_reverse (c ∷ conditions) =
    ap (list_all (λ c. c)) (reverse_onto conditions c [])
    ∙ list_all-append (λ c. c) (reverse conditions) (c ∷ [])
    ∙ ap (λ t. t && (c && true)) (list_all_reverse conditions)
    ∙ ap (λ t. list_all (λ c. c) conditions && t) (and_true c)
    ∙ and_comm (list_all (λ c. c) conditions) c

-- all but the innermost, which stands last
pub live_around : (conditions around : List Bool) (last : Bool) → conditions ≡ around ++ last ∷ [] → list_all (λ c. c) (outer (reverse conditions)) ≡ list_all (λ c. c) around
live_around conditions around last is =
    ap (λ o. list_all (λ c. c) (outer (reverse o))) is
    ∙ ap (λ o. list_all (λ c. c) (outer o)) (reverse-append around (last ∷ []))
    ∙ list_all_reverse around
