-- Numbers that look like chance, by a linear congruence modulo 2^64, each from a state.
use Rattle.std.specs.Prelude.{ℕ, ◌+◌, ◌*◌, ◌/◌, ◌%◌, ◌^◌}

abbrev pub next_state : ℕ → ℕ
next_state x = (x * 6364136223846793005 + 1442695040888963407) % 2 ^ 64

-- the number below m that a state gives, from its upper half
abbrev pub below : ℕ → ℕ → ℕ
below m x = (x / 2 ^ 33) % m

-- what is drawn, and the state behind it
pub record Drawn (A : Type 0) : Type 0 where
  pub value : A
  pub state : ℕ

abbrev pub draw : ℕ → ℕ → Drawn ℕ
draw m x = record { value = below m (next_state x); state = next_state x }
