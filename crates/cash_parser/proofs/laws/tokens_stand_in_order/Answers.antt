use Rattle.cash_parser.proofs.InsideTree.{tokens_in_order}
use Rattle.cash_parser.proofs.laws.tokens_stand_in_order.Goals as goal

pub returns : goal.returns
returns c = λ source tokens found. tokens_in_order source tokens (c.tokens_cut_the_source.ensures source tokens found)
