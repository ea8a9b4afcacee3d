use Rattle.cash_parser.proofs.SmallTree.{spelled_small}
use Rattle.cash_parser.proofs.InsideTree.{spelled_inside}
use Rattle.cash_parser.proofs.laws.trees_hold.Goals as goal

pub returns-clause-small : goal.returns-clause-small
returns-clause-small c = spelled_small

pub returns-clause-inside : goal.returns-clause-inside
returns-clause-inside c = spelled_inside
