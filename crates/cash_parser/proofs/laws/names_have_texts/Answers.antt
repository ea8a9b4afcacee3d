use Rattle.cash_parser.proofs.Names.{names_have}
use Rattle.cash_parser.proofs.laws.names_have_texts.Goals as goal

pub returns : goal.returns
returns c = names_have
