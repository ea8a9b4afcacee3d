-- What an element is.
use Rattle.std.specs.Prelude.{ℕ, ◌≤◌, List, length}
use Rattle.cash_base.specs.Number.{IsBytes}

-- at most 520 bytes
pub record IsElement (e : List ℕ) : Type 0 where
  pub size : length e ≤ 520
  pub bytes : IsBytes e
