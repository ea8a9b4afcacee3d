use Rattle.cash_compile.specs.Code.{LeftCodes}
use Rattle.cash_compile.proofs.functions.codes_of.Given as goal

-- what is left, from here on, makes the whole
abbrev pub invariant-loop-function : goal.invariant-loop-function
invariant-loop-function l = LeftCodes l.lowered l.codes.items l.function-index
