use Rattle.cash_compile.proofs.Tidied.{tidied_is_code}
use Rattle.cash_compile.proofs.compile.code_of.Goals as goal

pub returns : goal.returns
returns c = tidied_is_code c.args.contract.now c.in_ok-rows.rows.items c.in_ok-shorter.shorter.items c.in_ok-rows.ensures.code c.in_ok-shorter.ensures
