use Rattle.std.proofs.Common.{◌≡◌, ◌++◌, drop}
use Rattle.cash_tree.proofs.copies.copy_of_params.Given as goal

-- the copies so far, and after them what is left, are the whole
abbrev pub invariant-loop-param : goal.invariant-loop-param
invariant-loop-param l = l.copies ++ drop l.param-index l.params ≡ l.params
