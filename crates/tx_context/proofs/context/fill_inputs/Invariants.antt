use Rattle.std.proofs.Common.{◌≡◌, ◌++◌, drop}
use Rattle.std.specs.List.{enumerate_from}
use Rattle.tx_context.specs.World.{filled_inputs}
use Rattle.tx_context.proofs.context.fill_inputs.Given as goal

-- what is filled and what is left make the whole
abbrev pub invariant-loop-place : goal.invariant-loop-place
invariant-loop-place l =
    l.filled.items ++ filled_inputs l.active l.locking l.unlocking (enumerate_from l.place (drop l.place l.inputs))
    ≡ filled_inputs l.active l.locking l.unlocking (enumerate_from 0 l.inputs)
