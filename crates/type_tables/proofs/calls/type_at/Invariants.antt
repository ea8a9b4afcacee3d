use Rattle.std.proofs.Common.{◌≡◌, drop}
use Rattle.type_tables.specs.Tables.{type_at}
use Rattle.type_tables.proofs.calls.type_at.Given as goal

abbrev pub invariant-loop-binding : goal.invariant-loop-binding
invariant-loop-binding l = type_at l.slot (drop l.binding-index l.env) ≡ type_at l.slot l.env
