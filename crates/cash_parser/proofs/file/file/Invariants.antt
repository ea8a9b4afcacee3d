use Rattle.std.proofs.Common.{◌≡◌, length}
use Rattle.cash_symbols.specs.Lexemes.{lexemes}
use Rattle.cash_parser.specs.FileReading.{with_pragmas, file_reading}
use Rattle.cash_parser.specs.FileReading as spec
use Rattle.cash_parser.proofs.file.file.Given as goal

abbrev pub invariant-loop-after : goal.invariant-loop-after
invariant-loop-after l =
    with_pragmas l.pragmas (file_reading spec.file (lexemes l.source l.rest))
    ≡ file_reading spec.file (lexemes l.source l.tokens)

abbrev pub decreases-loop-after : goal.decreases-loop-after
decreases-loop-after l = length (lexemes l.source l.rest)
