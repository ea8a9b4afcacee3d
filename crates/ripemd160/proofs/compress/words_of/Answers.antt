use Rattle.std.proofs.Common.{◌≡◌, arith}
use Rattle.ripemd160.proofs.Blocks.{words_all}
use Rattle.ripemd160.proofs.compress.words_of.Goals as goal

pub returns : goal.returns
returns c =
    let done : c.loop-i.i ≡ 16 = omega arith in
    words_all c.loop-i.words c.as_chunks.result.0.now c.args.block.now (omega arith) (omega arith)
    (rw done at c.loop-i.invariant.1) (rw c.told-block at c.as_chunks.ensures.front)
