use Rattle.std.proofs.Common.{length}
use Rattle.cash_symbols.specs.Lexemes.{lexemes}
use Rattle.cash_statements.proofs.statements.+constants.Given as goal

abbrev pub decreases-constants : goal.decreases-constants
decreases-constants l = length (lexemes l.source.now l.tokens.now)
