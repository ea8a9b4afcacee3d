use Rattle.std.proofs.Common.{◌≡◌, fold, drop}
use Rattle.ripemd160.specs.Ripemd160.{compressed}
use Rattle.ripemd160.proofs.after_blocks.Given as goal

-- the blocks that are left, from here on, end as all of them do
abbrev pub invariant-loop-block : goal.invariant-loop-block
invariant-loop-block l = fold compressed l.state (drop l.block-index l.blocks) ≡ fold compressed l.fn.start l.blocks
