use Rattle.std.proofs.Common.{◌≡◌, ◌≤◌, ◌+◌, ◌*◌, length}
use Rattle.cash_symbols.specs.Lexemes.{lexemes}
use Rattle.cash_statements.specs.StatementReading.{run, statement_reading}
use Rattle.cash_statements.proofs.StatementLoop.{with_front}
use Rattle.cash_statements.proofs.statements.+statements.Given as goal

abbrev pub decreases-one : goal.decreases-one
decreases-one l = 2 * length (lexemes l.source.now l.tokens.now)

abbrev pub decreases-body : goal.decreases-body
decreases-body l = 2 * length (lexemes l.source.now l.tokens.now) + 1

abbrev pub decreases-several : goal.decreases-several
decreases-several l = 2 * length (lexemes l.source.now l.tokens.now) + 1

abbrev pub invariant-several-loop-close : goal.invariant-several-loop-close
invariant-several-loop-close l = record {
  shorter : length (lexemes l.source l.rest) ≤ length (lexemes l.source l.tokens);
  same : with_front l.statements (statement_reading run (lexemes l.source l.rest))
      ≡ statement_reading run (lexemes l.source l.tokens);
}

abbrev pub decreases-several-loop-close : goal.decreases-several-loop-close
decreases-several-loop-close l = length (lexemes l.source l.rest)
