use Rattle.std.proofs.Common.{◌≡◌, [], drop}
use Rattle.type_check.specs.Shapes.{with_params}
use Rattle.type_check.specs.Reading.{functions_from}
use Rattle.type_check.proofs.contract.check_functions.Given as goal

-- what is left, from here on, makes the whole
abbrev pub invariant-loop-function : goal.invariant-loop-function
invariant-loop-function l =
    functions_from (with_params l.ctor []) l.checked (drop l.function-index l.functions)
    ≡ functions_from (with_params l.ctor []) [] l.functions
