use Rattle.std.proofs.Common.{◌≡◌, map, drop}
use Rattle.slot_code.specs.Shape.{is_over, shapes_of}
use Rattle.slot_liveness.proofs.live.is_over.Given as goal

abbrev pub invariant-loop-instr : goal.invariant-loop-instr
invariant-loop-instr l = is_over (map shapes_of (drop l.instr-index l.rest)) ≡ is_over (map shapes_of l.rest)
