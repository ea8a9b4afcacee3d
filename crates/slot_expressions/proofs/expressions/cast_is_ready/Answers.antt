use Rattle.slot_expressions.proofs.Readies.{cast_readies}
use Rattle.slot_expressions.proofs.expressions.cast_is_ready.Goals as goal

pub returns : goal.returns
returns c = cast_readies c.args.size.now c.requires.kind c.requires.ready
