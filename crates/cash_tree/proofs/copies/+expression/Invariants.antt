use Rattle.std.proofs.Common.{◌≡◌, ◌++◌, drop}
use Rattle.cash_tree.proofs.copies.+expression.Given as goal

-- the copies so far, and after them what is left, are the whole
abbrev pub invariant-copy_of_expressions-loop-expression : goal.invariant-copy_of_expressions-loop-expression
invariant-copy_of_expressions-loop-expression l = l.copies ++ drop l.expression-index l.expressions ≡ l.expressions
