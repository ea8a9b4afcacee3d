use Rattle.std.proofs.Common.{◌≡◌, [], map, drop}
use Rattle.name_scopes.specs.Names.{names_of, opened, most_functions, no_names}
use Rattle.cash_names.specs.Reading.{run_from, function_reading}
use Rattle.cash_names.proofs.resolving.resolve_functions.Given as goal

-- what is left, from here on, makes the whole, and each function begins with the same names
abbrev pub invariant-loop-function : goal.invariant-loop-function
invariant-loop-function l = record {
  rest : run_from l.named (map (function_reading l.source (names_of l.initial.scope)) (drop l.function-index l.functions)) (names_of l.names)
      ≡ run_from [] (map (function_reading l.source (names_of l.initial.scope)) l.functions) (opened most_functions no_names);
  same : names_of l.scope ≡ names_of l.initial.scope;
}
