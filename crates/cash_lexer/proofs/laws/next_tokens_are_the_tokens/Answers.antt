use Rattle.cash_lexer.proofs.Cut.{lexed_next}
use Rattle.cash_lexer.proofs.laws.next_tokens_are_the_tokens.Goals as goal

pub returns : goal.returns
returns c = lexed_next
