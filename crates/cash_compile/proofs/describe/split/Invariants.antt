use Rattle.std.proofs.Common.{◌≡◌, ◌++◌, map}
use Rattle.row_runs.specs.Rows.{instructions}
use Rattle.tidied_code.specs.Ends.{places}
use Rattle.cash_compile.proofs.describe.split.Given as goal

-- the rows so far and those that are left make the whole
abbrev pub invariant-loop-row : goal.invariant-loop-row
invariant-loop-row l =
    (l.code.items ++ instructions l.row-iterator.rest.items ≡ instructions l.fn.rows.items)
    × (l.spans.items ++ map places l.row-iterator.rest.items ≡ map places l.fn.rows.items)
