use Rattle.std.proofs.Common.{arith}
use Rattle.script_codec.proofs.Sizes.{below_three}
use Rattle.script_codec.proofs.reading.+little_endian.Goals as goal

pub overflow_mul-result : goal.overflow_mul-result
overflow_mul-result t c =
    let below = below_three c.little_endian.result _ (omega arith) c.little_endian.ensures.bound in
    omega (arith, below)

pub overflow_add-result : goal.overflow_add-result
overflow_add-result t c =
    let below = below_three c.little_endian.result _ (omega arith) c.little_endian.ensures.bound in
    omega (arith, below)
