use Rattle.spend_trace.proofs.Low.{spend_low}
use Rattle.spend_trace.proofs.tracing.rows_are_low.Goals as goal

pub returns : goal.returns
returns c = spend_low
