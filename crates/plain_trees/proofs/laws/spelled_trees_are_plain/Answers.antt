use Rattle.plain_trees.proofs.Trees.{source_plain}
use Rattle.plain_trees.proofs.laws.spelled_trees_are_plain.Goals as goal

pub returns : goal.returns
returns c = source_plain
