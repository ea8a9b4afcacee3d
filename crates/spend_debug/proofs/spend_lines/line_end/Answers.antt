use Rattle.spend_debug.proofs.Cuts.{within_of, ended_of}
use Rattle.spend_debug.proofs.spend_lines.line_end.Goals as goal

pub returns-clause-within : goal.returns-clause-within
returns-clause-within c = within_of c.args.bytes.now c.line_feed.result c.line_feed.ensures

pub returns-clause-ended : goal.returns-clause-ended
returns-clause-ended c = ended_of c.args.bytes.now c.line_feed.result c.line_feed.ensures
