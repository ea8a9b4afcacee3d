use Rattle.std.proofs.Common.{◌≡◌, length}
use Rattle.selector.specs.Selection.{AreNested, AreUnseparated}
use Rattle.selector_cases.proofs.functions.code_of.Given as goal

abbrev pub invariant-loop-n : goal.invariant-loop-n
invariant-loop-n l = record {
  nested : AreNested l.all.items;
  unseparated : AreUnseparated l.all.items;
  count : length l.all.items ≡ l.n;
}
