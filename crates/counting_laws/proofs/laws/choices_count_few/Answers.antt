use Rattle.counting_laws.proofs.Choosing.{choices_few}
use Rattle.counting_laws.proofs.laws.choices_count_few.Goals as goal

pub returns : goal.returns
returns c = choices_few c.code_counts.ensures
