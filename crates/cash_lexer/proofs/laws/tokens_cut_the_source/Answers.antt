use Rattle.cash_lexer.proofs.Cut.{lexed_cuts}
use Rattle.cash_lexer.proofs.laws.tokens_cut_the_source.Goals as goal

pub returns : goal.returns
returns c = lexed_cuts
