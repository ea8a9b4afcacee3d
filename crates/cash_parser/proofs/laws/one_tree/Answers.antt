use Rattle.cash_parser.proofs.FileComplete.{one_tree_is, tree_or_none}
use Rattle.cash_parser.proofs.laws.one_tree.Goals as goal

pub returns-clause-one : goal.returns-clause-one
returns-clause-one c = one_tree_is

pub returns-clause-either : goal.returns-clause-either
returns-clause-either c = tree_or_none
