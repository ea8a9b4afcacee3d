use Rattle.std.proofs.Common.{◌-◌, arith}
use Rattle.cash_base.proofs.Writing.{digits_pushed, digits_ended, digits_zero, digits_nowhere}
use Rattle.cash_base.proofs.number.digits.Goals as goal

pub loop-preserved : goal.loop-preserved
loop-preserved c = (
  digits_pushed _ _ _ c.loop.counter c.loop.left (omega arith) c.if-left-eq0.false c.push.ensures.items c.loop.invariant.0,
  omega arith,
)

pub returns-after-loop-clause-value : goal.returns-after-loop-clause-value
returns-after-loop-clause-value c =
    digits_ended _ _ (8 - c.loop.counter) c.loop.left (digits_nowhere _ _ (omega arith)) c.loop.invariant.0

pub returns-then-left-eq0-clause-value : goal.returns-then-left-eq0-clause-value
returns-then-left-eq0-clause-value c =
    digits_ended _ _ (8 - c.loop.counter) c.loop.left (digits_zero _ _ c.if-left-eq0.true) c.loop.invariant.0
