use Rattle.run_laws.proofs.Matched.{nested_in_turn, nested_one, nested_two}
use Rattle.run_laws.proofs.conditions.nested_code_composes.Goals as goal

pub returns : goal.returns
returns c = record { in_turn = nested_in_turn; one = nested_one; two = nested_two }
