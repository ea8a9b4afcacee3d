use Rattle.std.proofs.Common.{◌≡◌, ◌-◌, ◌≤◌, length, drop}
use Rattle.cash_lexer.specs.Tokens.{finds, with_front, all_of, lexed}
use Rattle.cash_lexer.proofs.lexing.tokens.Given as goal

-- the tokens so far, in front of those of what is left, are those of the whole
abbrev pub invariant-loop-tokens : goal.invariant-loop-tokens
invariant-loop-tokens l = record {
  within : l.at ≤ length l.fn.source;
  whole : with_front l.tokens.items (all_of (finds l.at (drop l.at l.fn.source))) ≡ lexed l.fn.source;
}

abbrev pub decreases-loop-tokens : goal.decreases-loop-tokens
decreases-loop-tokens l = length l.fn.source - l.at
