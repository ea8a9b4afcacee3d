use Rattle.std.proofs.Common.{◌≡◌, [], map, drop}
use Rattle.name_scopes.specs.Names.{names_of}
use Rattle.cash_names.specs.Reading.{each_from, reading_of}
use Rattle.cash_names.proofs.expressions.+expression.Given as goal

-- what is left, from here on, makes the whole
abbrev pub invariant-each-loop-e : goal.invariant-each-loop-e
invariant-each-loop-e l =
    each_from l.items (map (reading_of l.source) (drop l.e-index l.es)) (names_of l.scope)
    ≡ each_from [] (map (reading_of l.source) l.es) (names_of l.scope)
