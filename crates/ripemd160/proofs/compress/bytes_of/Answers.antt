use Rattle.std.proofs.Common.{rules, arith, ◌∙◌}
use Rattle.std.proofs.lemmas.Slice.{overwrites}
use Rattle.ripemd160.proofs.Lists.{bytes_more}
use Rattle.ripemd160.proofs.compress.bytes_of.Goals as goal

pub loop-i-preserved : goal.loop-i-preserved
loop-i-preserved c = (
  search (rules, overwrites),
  bytes_more c.loop-i.bytes _ _ _ c.loop-i.i _ (omega arith) (omega arith)
      (c.copy_from_slice.ensures.after ∙ c.to_le_bytes.ensures) c.loop-i.invariant.1,
)
