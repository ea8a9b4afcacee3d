use Rattle.std.proofs.Common.{refl, arith}
use Rattle.branch_layout.proofs.Drops.{left_small, one_more}
use Rattle.branch_layout.proofs.moves.keep_only.Goals as goal

pub pass-requires : goal.pass-requires
pass-requires c = let s = left_small _ _ _ _ _ c.loop-slot.invariant in omega (arith, s, c.requires)

pub loop-slot-preserved : goal.loop-slot-preserved
loop-slot-preserved c =
    one_more _ _ _ _ _ _ _ _ _ _ c.loop-slot.invariant c.loop-slot-test.true c.requires refl c.contains.ensures
    c.in_ok-pass.ensures.slots c.in_ok-pass.ensures.moves
