use Rattle.std.proofs.Common.{◌≡◌, ◌≤◌, [], map, drop, take, length}
use Rattle.name_scopes.specs.Names.{names_of}
use Rattle.cash_names.specs.Reading.{run_from, param_reading}
use Rattle.cash_names.proofs.resolving.resolve_params.Given as goal

-- what is left, from here on, makes the whole, the names from outside still stand in front, and there is room
abbrev pub invariant-loop-param : goal.invariant-loop-param
invariant-loop-param l = record {
  rest : run_from l.named (map (param_reading l.source) (drop l.param-index l.params)) (names_of l.scope)
      ≡ run_from [] (map (param_reading l.source) l.params) (names_of l.initial.scope);
  within : length (names_of l.initial.scope).known ≤ length (names_of l.scope).known;
  front : take (length (names_of l.initial.scope).known) (names_of l.scope).known ≡ (names_of l.initial.scope).known;
  room : (names_of l.scope).next ≤ (names_of l.scope).limit;
  limit : (names_of l.scope).limit ≡ (names_of l.initial.scope).limit;
}
