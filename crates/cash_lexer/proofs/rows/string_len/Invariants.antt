use Rattle.std.proofs.Common.{◌≡◌, ◌+◌, drop, false}
use Rattle.std.specs.Option.{option_map}
use Rattle.cash_lexer.proofs.Lengths.{walked_len}
use Rattle.cash_lexer.proofs.rows.string_len.Given as goal

-- what is left closes where the whole does
abbrev pub invariant-loop-i : goal.invariant-loop-i
invariant-loop-i l = option_map (λ n. n + l.i) (walked_len l.quote l.escaped (drop l.i l.text)) ≡ walked_len l.quote false l.text
