use Rattle.std.proofs.Common.{◌≤◌, vec_len}
use Rattle.std.specs.Io.KnownBytes.{Consumes}
use Rattle.cash_base.proofs.real.read_whole.Given as goal

-- what was read is within the limit
abbrev pub invariant-loop : goal.invariant-loop
invariant-loop g l = (vec_len l.into ≤ l.limit) × Consumes (g.F.Read.remaining l.initial.file) (g.F.Read.remaining l.file) l.into.items
