use Rattle.std.proofs.Common.{length}
use Rattle.workload.proofs.trying.+add_spends.Given as goal

abbrev pub decreases-add_spends : goal.decreases-add_spends
decreases-add_spends l = length l.spends.now
