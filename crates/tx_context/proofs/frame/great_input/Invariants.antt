use Rattle.std.proofs.Common.{◌≡◌, drop, map}
use Rattle.std.specs.List.{position_from}
use Rattle.tx_context.specs.Limits.{is_great_value}
use Rattle.tx_context.proofs.frame.great_input.Given as goal

-- the first of what is left, counted from here, is the first of all
abbrev pub invariant-loop-i : goal.invariant-loop-i
invariant-loop-i l =
    position_from is_great_value l.i (map (λ x. x.value) (drop l.i l.inputs))
    ≡ position_from is_great_value 0 (map (λ x. x.value) l.inputs)
