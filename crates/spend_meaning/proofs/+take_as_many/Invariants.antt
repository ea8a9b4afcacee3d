use Rattle.std.proofs.Common.{length}
use Rattle.spend_meaning.proofs.+take_as_many.Given as goal

abbrev pub decreases-take_as_many : goal.decreases-take_as_many
decreases-take_as_many l = length l.calls.now
