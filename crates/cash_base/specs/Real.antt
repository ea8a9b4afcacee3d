-- What the sink over a writer shows.
use Rattle.std.specs.Prelude.{ℕ, List, Option}

-- a writer as a sink: what the writer holds, where it says, and the faults
pub record Stream : Type 0 where
  pub contents : Option (List ℕ)
  pub faults : ℕ
