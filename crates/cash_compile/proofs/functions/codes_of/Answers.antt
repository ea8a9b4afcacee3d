use Rattle.cash_compile.proofs.Left.{left_done}
use Rattle.cash_compile.proofs.functions.codes_of.Goals as goal

pub returns : goal.returns
returns c = left_done c.loop-function.invariant c.loop-function-test.false
