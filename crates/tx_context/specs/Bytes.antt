-- What the types of bytes give, as a test.
use Rattle.std.specs.Prelude.{ℕ, Bool, nat_lt, List}
use Rattle.std.specs.List.{list_all}

-- each is below 256
abbrev pub are_bytes : List ℕ → Bool
are_bytes bytes = list_all (λ b. nat_lt b 256) bytes
