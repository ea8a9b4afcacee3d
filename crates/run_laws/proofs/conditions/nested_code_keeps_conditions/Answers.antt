use Rattle.run_laws.proofs.Nesting.{keeps_conditions}
use Rattle.run_laws.proofs.Outer.{goes_under_any}
use Rattle.run_laws.proofs.conditions.nested_code_keeps_conditions.Goals as goal

pub returns : goal.returns
returns c = record { same = λ setting code s nested. keeps_conditions setting code s nested; any = goes_under_any }
