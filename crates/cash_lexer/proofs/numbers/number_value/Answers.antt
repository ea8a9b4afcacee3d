use Rattle.cash_lexer.proofs.Values.{wide_power}
use Rattle.cash_lexer.proofs.numbers.number_value.Goals as goal

pub returns-in_default : goal.returns-in_default
returns-in_default c = wide_power c.args.digits.now c.args.exponent.now c.in_ok-value.value c.in-Some.exponent c.in_ok-value.ensures c.if-value-eq0.false c.in-Some.ensures c.if-exponent-le38.false
