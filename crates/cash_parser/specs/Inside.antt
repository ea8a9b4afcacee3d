-- The order of tokens.
use Rattle.std.specs.Prelude.{ℕ, ◌≤◌, List, [], ◌∷◌}
use Rattle.cash_tree.specs.declared.Token.{Token}

-- Tokens stand one after the other, from one place of a source to another.
abbrev pub StandInOrder : ℕ → List Token → ℕ → Type 0
StandInOrder from [] to = from ≤ to
StandInOrder from (token ∷ tokens) to =
    (from ≤ token.span.from) × (token.span.from ≤ token.span.to) × StandInOrder token.span.to tokens to
