use Rattle.std.proofs.Common.{◌≡◌, drop, map}
use Rattle.std.specs.Prelude.{option_to_list}
use Rattle.std.specs.List.{position_from, list_any, list_all}
use Rattle.tx_context.specs.Limits.{is_long, bytecodes_of, is_typed_input}
use Rattle.tx_context.proofs.frame.long_input.Given as goal

-- the first of what is left, counted from here, is the first of all, and what is left is typed where all is
abbrev pub invariant-loop-place : goal.invariant-loop-place
invariant-loop-place l =
    (position_from (list_any is_long) l.place (map (bytecodes_of option_to_list) (drop l.place l.inputs))
    ≡ position_from (list_any is_long) 0 (map (bytecodes_of option_to_list) l.inputs))
    × (list_all (is_typed_input option_to_list) (drop l.place l.inputs) ≡ list_all (is_typed_input option_to_list) l.inputs)
