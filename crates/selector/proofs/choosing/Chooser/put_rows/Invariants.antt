use Rattle.std.proofs.Common.{◌≡◌, ◌++◌, drop}
use Rattle.selector.proofs.choosing.Chooser.put_rows.Given as goal

-- the rows so far and those that are left make the whole
abbrev pub invariant-loop-row : goal.invariant-loop-row
invariant-loop-row l = record {
  code : l.self.code.items ++ drop l.row-index l.rows ≡ l.initial.self.code.items ++ l.rows;
  marks : l.self.marks ≡ l.initial.self.marks;
  contract : l.self.contract ≡ l.initial.self.contract;
}
