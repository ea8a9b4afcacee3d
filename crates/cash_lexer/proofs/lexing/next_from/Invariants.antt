use Rattle.std.proofs.Common.{◌≡◌, ◌-◌, ◌≤◌, length, drop}
use Rattle.cash_lexer.specs.Tokens.{first_found}
use Rattle.cash_lexer.proofs.lexing.next_from.Given as goal

-- what is left has the first token, or fault, that the whole has
abbrev pub invariant-loop-len : goal.invariant-loop-len
invariant-loop-len l = record {
  within : l.at ≤ length l.source;
  first : first_found l.at (drop l.at l.source) ≡ first_found l.from (drop l.from l.source);
}

abbrev pub decreases-loop-len : goal.decreases-loop-len
decreases-loop-len l = length l.source - l.at
