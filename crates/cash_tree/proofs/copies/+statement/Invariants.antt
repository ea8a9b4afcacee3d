use Rattle.std.proofs.Common.{◌≡◌, ◌++◌, drop}
use Rattle.cash_tree.proofs.copies.+statement.Given as goal

-- the copies so far, and after them what is left, are the whole
abbrev pub invariant-copy_of_statements-loop-statement : goal.invariant-copy_of_statements-loop-statement
invariant-copy_of_statements-loop-statement l = l.copies ++ drop l.statement-index l.statements ≡ l.statements
