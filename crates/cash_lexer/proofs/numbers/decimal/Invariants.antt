use Rattle.std.proofs.Common.{◌≡◌, ◌<◌, ◌^◌, drop}
use Rattle.std.specs.Prelude.{fold}
use Rattle.cash_lexer.specs.Numbers.{with_digit, decimal}
use Rattle.cash_lexer.proofs.numbers.decimal.Given as goal

-- the digits that are left, after those read, spell the whole number
abbrev pub invariant-loop-digit : goal.invariant-loop-digit
invariant-loop-digit l = record {
  narrow : l.value < 2 ^ 128;
  whole : fold with_digit l.value (drop l.digit-index l.digits) ≡ decimal l.digits;
}
