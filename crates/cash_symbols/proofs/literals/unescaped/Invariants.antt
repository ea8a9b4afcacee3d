use Rattle.std.proofs.Common.{◌≡◌, ◌++◌, length}
use Rattle.cash_symbols.specs.Lexemes.{unescaped}
use Rattle.cash_symbols.proofs.literals.unescaped.Given as goal

-- the bytes so far, and after them those of what is left, are the whole
abbrev pub invariant-loop-rest : goal.invariant-loop-rest
invariant-loop-rest l = l.bytes ++ unescaped l.rest ≡ unescaped l.text

abbrev pub decreases-loop-rest : goal.decreases-loop-rest
decreases-loop-rest l = length l.rest
