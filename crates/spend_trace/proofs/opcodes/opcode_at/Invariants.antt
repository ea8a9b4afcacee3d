use Rattle.std.proofs.Common.{◌≡◌, ◌-◌, ◌≤◌, length, drop}
use Rattle.spend_trace.specs.Traced.{opcode_at}
use Rattle.spend_trace.proofs.opcodes.opcode_at.Given as goal

-- the instruction that is sought is one of what is left
abbrev pub invariant-left : goal.invariant-left
invariant-left l =
    (opcode_at (drop l.place l.script) l.left ≡ opcode_at l.script l.at)
    × (l.place ≤ length l.script)

abbrev pub decreases-left : goal.decreases-left
decreases-left l = length l.script - l.place
