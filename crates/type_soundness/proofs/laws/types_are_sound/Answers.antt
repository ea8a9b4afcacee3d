use Rattle.type_soundness.proofs.Whole.{expressions_fit, runs_find_numbers}
use Rattle.type_soundness.proofs.laws.types_are_sound.Goals as goal

pub returns-clause-expressions : goal.returns-clause-expressions
returns-clause-expressions c =
    expressions_fit (record {
      one = c.operations_on_one_obey.ensures;
      two = c.operations_on_two_obey.ensures;
      three = c.operations_on_three_obey.ensures;
      split = c.splits_obey.ensures;
    })

pub returns-clause-runs : goal.returns-clause-runs
returns-clause-runs c =
    runs_find_numbers (record {
      one = c.operations_on_one_obey.ensures;
      two = c.operations_on_two_obey.ensures;
      three = c.operations_on_three_obey.ensures;
      split = c.splits_obey.ensures;
    })
