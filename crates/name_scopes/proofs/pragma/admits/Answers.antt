use Rattle.name_scopes.proofs.Requirement.{of_text, of_bytes}
use Rattle.name_scopes.proofs.pragma.admits.Goals as goal

pub returns-in-Ok-clause-ok : goal.returns-in-Ok-clause-ok
returns-in-Ok-clause-ok c =
    of_text c.args.text.now c.in-Ok.text.now c.is_met.result c.in-Ok.ensures.cases.0 c.in-Ok.ensures.cases.1 c.is_met.ensures.ok

pub returns-in-Err-clause-ok : goal.returns-in-Err-clause-ok
returns-in-Err-clause-ok c = of_bytes c.args.text.now c.in-Err.ensures.cases.0
