use Rattle.cash_compile.proofs.Spends.{spends_meet_none}
use Rattle.cash_compile.proofs.laws.no_limit_is_met.Goals as goal

pub returns : goal.returns
returns c = λ source contract program h. spends_meet_none contract program.code h.rows h.agrees
