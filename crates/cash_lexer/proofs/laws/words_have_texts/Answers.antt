use Rattle.cash_lexer.proofs.Texts.{words_suit}
use Rattle.cash_lexer.proofs.laws.words_have_texts.Goals as goal

pub returns : goal.returns
returns c = words_suit
