use Rattle.counting_laws.proofs.Counting.{pushes_none}
use Rattle.counting_laws.proofs.laws.pushes_count_nothing.Goals as goal

pub returns : goal.returns
returns c = pushes_none c.code_counts.ensures
