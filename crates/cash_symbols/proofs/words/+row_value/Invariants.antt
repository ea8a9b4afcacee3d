use Rattle.std.proofs.Common.{length}
use Rattle.cash_symbols.proofs.words.+row_value.Given as goal

abbrev pub decreases-row_value : goal.decreases-row_value
decreases-row_value g l = length l.rows.now
