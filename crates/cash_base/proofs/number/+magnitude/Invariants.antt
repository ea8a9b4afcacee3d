use Rattle.std.proofs.Common.{length}
use Rattle.cash_base.proofs.number.+magnitude.Given as goal

abbrev pub decreases-magnitude : goal.decreases-magnitude
decreases-magnitude l = length l.e.now
