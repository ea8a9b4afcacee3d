-- The values of a run, the latest first, and how many of them an expression leaves.
use Rattle.std.specs.Prelude.{ℕ, Bool, List, [], ◌∷◌, Result, Ok}
use Rattle.cash_base.specs.Failing.{◌>>=◌}
use Rattle.cash_base.specs.Number.{truth_of}
use Rattle.meaning_room.specs.declared.operands.Width.{Width}
use Rattle.meaning_room.specs.declared.operands.Width.TheVariants as widths
use Rattle.meaning_room.specs.declared.outcome.Failure.{Failure}
use Rattle.meaning_room.specs.Meaning.{Given, One, Two, Value, element}

abbrev pub Stack : Type 0
Stack = List (List ℕ)

-- the latest value; where there is none, the empty one
abbrev pub top : Stack → List ℕ
top [] = []
top (e ∷ rest) = e

abbrev pub below : Stack → Stack
below [] = []
below (e ∷ rest) = rest

abbrev pub size : Width → ℕ
size widths.One = 1
size widths.Two = 2

-- what the top of a stack holds: an element, or both parts of a split, of which the right one is the upper
abbrev pub given_on : Width → Stack → Given
given_on widths.One stack = One (top stack)
given_on widths.Two stack = Two (top (below stack)) (top stack)

-- what lies under it
abbrev pub under : Width → Stack → Stack
under widths.One stack = below stack
under widths.Two stack = below (below stack)

-- the elements of these values, one after the other, or the first failure
abbrev pub pushed_all : List Value → Stack → Result Stack Failure
pushed_all [] stack = Ok stack
pushed_all (value ∷ values) stack = do
  e ← element value
  pushed_all values (e ∷ stack)

-- whether an element is true
abbrev pub tested : Result (List ℕ) Failure → Result Bool Failure
tested value = do
  e ← value
  Ok (truth_of e)
