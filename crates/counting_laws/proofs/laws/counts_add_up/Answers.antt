use Rattle.counting_laws.proofs.Counting.{adds_up}
use Rattle.counting_laws.proofs.laws.counts_add_up.Goals as goal

pub returns : goal.returns
returns c = adds_up c.code_counts.ensures
