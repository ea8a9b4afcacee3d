use Rattle.std.proofs.Common.{◌≡◌, ◌≤◌, [], map, drop, take, length}
use Rattle.name_scopes.specs.Names.{names_of}
use Rattle.cash_names.specs.Reading.{run_from, reading_of_stmt}
use Rattle.cash_names.proofs.statements.+statement.Given as goal

-- what is left, from here on, makes the whole, and the names from outside still stand in front
abbrev pub invariant-resolve_block-loop-s : goal.invariant-resolve_block-loop-s
invariant-resolve_block-loop-s l = record {
  rest : run_from l.statements (map (reading_of_stmt l.source) (drop l.s-index l.block)) (names_of l.scope)
      ≡ run_from [] (map (reading_of_stmt l.source) l.block) (names_of l.initial.scope);
  within : l.outer ≤ length (names_of l.scope).known;
  front : take l.outer (names_of l.scope).known ≡ (names_of l.initial.scope).known;
}
