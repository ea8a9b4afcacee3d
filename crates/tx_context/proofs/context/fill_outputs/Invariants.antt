use Rattle.std.proofs.Common.{◌≡◌, ◌++◌, drop, map}
use Rattle.tx_context.specs.World.{filled_output}
use Rattle.tx_context.proofs.context.fill_outputs.Given as goal

-- what is filled and what is left make the whole
abbrev pub invariant-loop-output : goal.invariant-loop-output
invariant-loop-output l =
    l.filled.items ++ map (filled_output l.locking) (drop l.output-index l.outputs)
    ≡ map (filled_output l.locking) l.outputs
