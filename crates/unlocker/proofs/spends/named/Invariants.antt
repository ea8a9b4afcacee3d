use Rattle.std.proofs.Common.{◌≡◌, drop}
use Rattle.std.specs.List.{position_from}
use Rattle.std.specs.Str.{bytes_eq}
use Rattle.unlocker.proofs.spends.named.Given as goal

-- the first of what is left, counted from here, is the first of all
abbrev pub invariant-loop-place : goal.invariant-loop-place
invariant-loop-place l =
    position_from (λ function. bytes_eq function.name l.name) l.place (drop l.place l.functions)
    ≡ position_from (λ function. bytes_eq function.name l.name) 0 l.functions
