use Rattle.std.proofs.Common.{◌≡◌, fold, drop}
use Rattle.ripemd160.specs.Ripemd160.{round_steps, stepped}
use Rattle.ripemd160.specs.Rounds.{function_of, steps_of}
use Rattle.ripemd160.proofs.compress.after_round.Given as goal

-- the steps that are left, from here on, end as the whole round does
abbrev pub invariant-loop-i : goal.invariant-loop-i
invariant-loop-i l =
    fold (stepped l.words) l.state
    (round_steps (function_of l.round.function) l.round.constant (drop l.i l.round.words) (drop l.i l.round.shifts))
    ≡ fold (stepped l.words) l.fn.start (steps_of l.round)
