use Rattle.std.proofs.Common.{◌≡◌, map, drop}
use Rattle.slot_liveness.specs.Live.{reads_of, all_later}
use Rattle.slot_liveness.proofs.live.+reads.Given as goal

abbrev pub invariant-reads_all-loop-instr : goal.invariant-reads_all-loop-instr
invariant-reads_all-loop-instr l =
    all_later (map reads_of (drop l.instr-index l.instrs)) l.slot l.after ≡ all_later (map reads_of l.instrs) l.slot l.after
