use Rattle.std.proofs.Common.{length}
use Rattle.tx_context.proofs.signature.+walk.Given as goal

-- the keys that are left
abbrev pub decreases-walk : goal.decreases-walk
decreases-walk l = length l.keys.now
