use Rattle.std.proofs.Common.{◌≡◌, map, drop}
use Rattle.name_scopes.specs.Wants.{is_admitted, first_refused}
use Rattle.name_scopes.proofs.pragma.all_admitted.Given as goal

-- nothing is refused so far
abbrev pub invariant-loop-constraint : goal.invariant-loop-constraint
invariant-loop-constraint l =
    first_refused l.source (map is_admitted (drop l.constraint-index l.constraints))
    ≡ first_refused l.source (map is_admitted l.constraints)
