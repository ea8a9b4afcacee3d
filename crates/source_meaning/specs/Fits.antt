-- Which elements are values of a type.
use Rattle.std.specs.Prelude.{◌≡◌, ◌⊎◌, ℕ, ℤ, List, [], ◌∷◌, Some}
use Rattle.cash_base.specs.Number.{number_of}
use Rattle.cash_tree.specs.declared.Ty.{Ty}
use Rattle.cash_tree.specs.declared.Ty.TheOpen.{Ty-F}
use Rattle.cash_tree.specs.declared.Ty.TheViews.{out-Ty}
use Rattle.meaning_room.specs.Meaning.{Given, left_of, right_of}

-- an int is a number, and a truth value is the empty element or 01; of every other type any element is a value
abbrev pub LayerFits : Ty-F Ty → List ℕ → Type 0
LayerFits Ty-F.Int e = (n : ℤ) × (number_of e ≡ Some n)
LayerFits Ty-F.Bool e = (e ≡ []) ⊎ (e ≡ 1 ∷ [])
LayerFits _ e = Unit {0}

abbrev pub Fits : Ty → List ℕ → Type 0
Fits t e = LayerFits (out-Ty t) e

-- so of what an expression gives: of a pair both parts
abbrev pub LayerGivenFits : Ty-F Ty → Given → Type 0
LayerGivenFits (Ty-F.Pair left right) given = Fits left (left_of given) × Fits right (right_of given)
LayerGivenFits layer given = LayerFits layer (left_of given)

abbrev pub GivenFits : Ty → Given → Type 0
GivenFits t given = LayerGivenFits (out-Ty t) given
