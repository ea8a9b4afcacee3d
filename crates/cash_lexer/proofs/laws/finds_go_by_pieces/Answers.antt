use Rattle.cash_lexer.proofs.Found.{finds_by_pieces}
use Rattle.cash_lexer.proofs.laws.finds_go_by_pieces.Goals as goal

pub returns : goal.returns
returns c = finds_by_pieces
