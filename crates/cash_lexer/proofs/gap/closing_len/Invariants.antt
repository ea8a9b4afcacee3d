use Rattle.std.proofs.Common.{◌≡◌, ◌+◌, drop}
use Rattle.std.specs.Option.{option_map}
use Rattle.cash_lexer.specs.Gap.{closing_len}
use Rattle.cash_lexer.proofs.gap.closing_len.Given as goal

-- what is left closes where the whole does
abbrev pub invariant-loop-i : goal.invariant-loop-i
invariant-loop-i l = option_map (λ n. n + l.i) (closing_len (drop l.i l.text)) ≡ closing_len l.text
