use Rattle.std.proofs.Common.{◌≡◌, length}
use Rattle.cash_symbols.specs.Lexemes.{lexemes}
use Rattle.cash_parser.specs.FileReading.{functions, file_reading}
use Rattle.cash_parser.proofs.FileLoop.{with_front}
use Rattle.cash_parser.proofs.file.functions.Given as goal

abbrev pub invariant-loop-end : goal.invariant-loop-end
invariant-loop-end l =
    with_front l.found (file_reading functions (lexemes l.source l.rest))
    ≡ file_reading functions (lexemes l.source l.tokens)

abbrev pub decreases-loop-end : goal.decreases-loop-end
decreases-loop-end l = length (lexemes l.source l.rest)
