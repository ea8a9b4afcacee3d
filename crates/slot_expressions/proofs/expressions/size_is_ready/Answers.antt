use Rattle.slot_expressions.proofs.Readies.{size_readies}
use Rattle.slot_expressions.proofs.expressions.size_is_ready.Goals as goal

pub returns : goal.returns
returns c = size_readies c.args.value.now c.requires.kind c.requires.ready
