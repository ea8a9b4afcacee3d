use Rattle.std.proofs.Common.{◌≡◌, fold, drop}
use Rattle.std.specs.List.{flat_map}
use Rattle.ripemd160.specs.Ripemd160.{stepped}
use Rattle.ripemd160.specs.Rounds.{steps_of}
use Rattle.ripemd160.proofs.compress.line.Given as goal

-- the rounds that are left, from here on, end as all of them do
abbrev pub invariant-loop-round : goal.invariant-loop-round
invariant-loop-round l =
    fold (stepped l.words) l.state (flat_map steps_of (drop l.round-index l.rounds))
    ≡ fold (stepped l.words) l.fn.start (flat_map steps_of l.rounds)
