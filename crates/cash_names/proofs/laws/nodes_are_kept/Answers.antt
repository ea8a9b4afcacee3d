use Rattle.cash_names.proofs.Kept.{nodes_kept}
use Rattle.cash_names.proofs.TreeKept.{tree_nodes_kept, tree_small}
use Rattle.cash_names.proofs.laws.nodes_are_kept.Goals as goal

pub returns-clause-expression : goal.returns-clause-expression
returns-clause-expression c = nodes_kept

pub returns-clause-tree : goal.returns-clause-tree
returns-clause-tree c = tree_nodes_kept

pub returns-clause-small : goal.returns-clause-small
returns-clause-small c = tree_small
