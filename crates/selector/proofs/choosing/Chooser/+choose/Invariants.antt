use Rattle.std.proofs.Common.{length}
use Rattle.selector.proofs.choosing.Chooser.+choose.Given as goal

abbrev pub decreases-choose : goal.decreases-choose
decreases-choose l = length l.functions.now
