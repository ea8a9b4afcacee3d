use Rattle.std.proofs.Common.{◌≡◌, ◌≤◌, ◌+◌, ◌*◌, length}
use Rattle.cash_symbols.specs.Lexemes.{lexemes}
use Rattle.cash_expressions.specs.Reading.{reading}
use Rattle.cash_expressions.specs.Reading as spec
use Rattle.cash_expressions.proofs.Loops.{with_front}
use Rattle.cash_expressions.proofs.expressions.+parser.Given as goal

-- A call reads fewer tokens, or as many of a part that stands deeper in the grammar.
abbrev pub decreases-expression : goal.decreases-expression
decreases-expression l = 16 * length (lexemes l.source.now l.tokens.now) + 13

abbrev pub decreases-binary : goal.decreases-binary
decreases-binary l = 16 * length (lexemes l.source.now l.tokens.now) + (l.loosest + 3)

abbrev pub decreases-operators : goal.decreases-operators
decreases-operators l = 16 * length (lexemes l.source.now l.tokens.now) + (l.loosest + 3)

abbrev pub decreases-sign : goal.decreases-sign
decreases-sign l = 16 * length (lexemes l.source.now l.tokens.now) + 2

abbrev pub decreases-suffixed : goal.decreases-suffixed
decreases-suffixed l = 16 * length (lexemes l.source.now l.tokens.now) + 1

abbrev pub decreases-suffixes : goal.decreases-suffixes
decreases-suffixes l = 16 * length (lexemes l.source.now l.tokens.now)

abbrev pub decreases-with_word : goal.decreases-with_word
decreases-with_word l = 16 * length (lexemes l.source.now l.tokens.now) + 1

abbrev pub decreases-single : goal.decreases-single
decreases-single l = 16 * length (lexemes l.source.now l.tokens.now)

abbrev pub decreases-in_brackets : goal.decreases-in_brackets
decreases-in_brackets l = 16 * length (lexemes l.source.now l.tokens.now) + 14

abbrev pub decreases-array : goal.decreases-array
decreases-array l = 16 * length (lexemes l.source.now l.tokens.now) + 15

abbrev pub decreases-instantiation : goal.decreases-instantiation
decreases-instantiation l = 16 * length (lexemes l.source.now l.tokens.now) + 15

abbrev pub decreases-of_transaction : goal.decreases-of_transaction
decreases-of_transaction l = 16 * length (lexemes l.source.now l.tokens.now) + 15

abbrev pub decreases-of_side : goal.decreases-of_side
decreases-of_side l = 16 * length (lexemes l.source.now l.tokens.now) + 14

abbrev pub decreases-cast : goal.decreases-cast
decreases-cast l = 16 * length (lexemes l.source.now l.tokens.now) + 15

abbrev pub decreases-named : goal.decreases-named
decreases-named l = 16 * length (lexemes l.source.now l.tokens.now) + 15

abbrev pub decreases-items : goal.decreases-items
decreases-items l = 16 * length (lexemes l.source.now l.tokens.now) + 14

-- What is left gives from here on what the whole gives.
abbrev pub invariant-items-loop-end : goal.invariant-items-loop-end
invariant-items-loop-end l = record {
  shorter : length (lexemes l.source l.rest) ≤ length (lexemes l.source l.tokens);
  same : with_front l.found (reading (spec.items l.close) (lexemes l.source l.rest))
      ≡ reading (spec.items l.close) (lexemes l.source l.tokens);
}

abbrev pub decreases-items-loop-end : goal.decreases-items-loop-end
decreases-items-loop-end l = length (lexemes l.source l.rest)
