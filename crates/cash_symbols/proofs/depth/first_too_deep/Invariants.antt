use Rattle.std.proofs.Common.{◌≡◌, ◌≤◌, length}
use Rattle.cash_symbols.specs.Lexemes.{lexemes}
use Rattle.cash_symbols.specs.DepthRules.{nothing_open, deep_after}
use Rattle.cash_symbols.proofs.depth.first_too_deep.Given as goal

-- what is left gives from here on what the whole gives
abbrev pub invariant-loop-rest : goal.invariant-loop-rest
invariant-loop-rest l = record {
  brackets : l.depth.brackets ≤ 64;
  braces : l.depth.braces ≤ 32;
  run : l.depth.run ≤ 1000;
  branches : l.depth.branches ≤ 128;
  same : deep_after l.depth (lexemes l.source l.rest) ≡ deep_after nothing_open (lexemes l.source l.tokens);
}

abbrev pub decreases-loop-rest : goal.decreases-loop-rest
decreases-loop-rest l = length l.rest
