use Rattle.std.proofs.Common.{◌≡◌, ◌++◌, drop}
use Rattle.cash_tree.proofs.copies.copy_of_functions.Given as goal

-- the copies so far, and after them what is left, are the whole
abbrev pub invariant-loop-function : goal.invariant-loop-function
invariant-loop-function l = l.copies ++ drop l.function-index l.functions ≡ l.functions
