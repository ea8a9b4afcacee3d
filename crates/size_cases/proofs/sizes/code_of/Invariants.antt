use Rattle.std.proofs.Common.{◌≡◌, ◌++◌}
use Rattle.row_runs.specs.Rows.{instructions}
use Rattle.size_cases.proofs.sizes.code_of.Given as goal

-- the rows so far and those that are left make the whole
abbrev pub invariant-loop-row : goal.invariant-loop-row
invariant-loop-row l = l.code.items ++ instructions l.row-iterator.rest.items ≡ instructions l.fn.rows.items
