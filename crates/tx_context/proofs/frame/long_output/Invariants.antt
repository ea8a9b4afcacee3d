use Rattle.std.proofs.Common.{◌≡◌, ◌+◌, drop, map}
use Rattle.std.specs.Prelude.{option_to_list}
use Rattle.std.specs.List.{position_from, list_any, list_all}
use Rattle.tx_context.specs.Limits.{is_long, is_typed_output}
use Rattle.tx_context.proofs.frame.long_output.Given as goal

-- the first of what is left, counted from here, is the first of all, and what is left is typed where all is
abbrev pub invariant-loop-place : goal.invariant-loop-place
invariant-loop-place l =
    (position_from (list_any is_long) (l.inputs + l.place) (map (λ o. option_to_list o.locking) (drop l.place l.outputs))
    ≡ position_from (list_any is_long) l.inputs (map (λ o. option_to_list o.locking) l.outputs))
    × (list_all (is_typed_output option_to_list) (drop l.place l.outputs) ≡ list_all (is_typed_output option_to_list) l.outputs)
