use Rattle.slot_expressions.proofs.Readies.{few_ready}
use Rattle.slot_expressions.proofs.expressions.items_are_ready.Goals as goal

pub returns : goal.returns
returns c = few_ready c.args.e.now c.requires.kind c.requires.ready
