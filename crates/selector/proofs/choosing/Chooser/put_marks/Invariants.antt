use Rattle.std.proofs.Common.{◌≡◌, ◌++◌, map, drop}
use Rattle.selector.specs.Pieces.{mark_behind}
use Rattle.selector.proofs.choosing.Chooser.put_marks.Given as goal

-- the marks so far and those that are left make the whole
abbrev pub invariant-loop-mark : goal.invariant-loop-mark
invariant-loop-mark l = record {
  marks : l.self.marks.items ++ map (mark_behind l.before) (drop l.mark-index l.marks)
      ≡ l.initial.self.marks.items ++ map (mark_behind l.before) l.marks;
  code : l.self.code ≡ l.initial.self.code;
  contract : l.self.contract ≡ l.initial.self.contract;
}
