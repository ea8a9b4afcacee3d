use Rattle.cash_compile.proofs.Spends.{spends_decide}
use Rattle.cash_compile.proofs.laws.correct_decides.Goals as goal

pub returns : goal.returns
returns c = λ source contract program h. spends_decide contract program.code h.rows h.agrees
