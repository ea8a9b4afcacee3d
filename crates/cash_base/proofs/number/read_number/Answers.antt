use Rattle.std.proofs.Common.{◌≡◌, pos, neg_ℤ, ◌-ℤ◌, Some, ap, sym, ◌∙◌, arith, length, true, false, to_z, of_z, w64}
use Rattle.std.proofs.lemmas.Int.{ints}
use Rattle.cash_base.specs.Number.{signed, has_sign}
use Rattle.cash_base.proofs.Reading.{number_read, below_limit}
use Rattle.cash_base.proofs.number.read_number.Goals as goal

pub overflow_cast-n : goal.overflow_cast-n
overflow_cast-n c =
    let below = below_limit c.magnitude-n.result (length c.args.e.now) (omega arith) c.magnitude-n.ensures.bound in
    omega (arith, ints, below)

pub overflow_sub-result : goal.overflow_sub-result
overflow_sub-result c =
    let below = below_limit c.magnitude-n.result (length c.args.e.now) (omega arith) c.magnitude-n.ensures.bound in
    omega (arith, ints, below)

pub returns-then-has_sign : goal.returns-then-has_sign
returns-then-has_sign c =
    let m = c.magnitude-n.result in
    let below = below_limit m (length c.args.e.now) (omega arith) c.magnitude-n.ensures.bound in
    let is : to_z w64 (of_z w64 (pos 0 -ℤ to_z w64 m)) ≡ neg_ℤ (pos m) = omega (arith, ints, below) in
    let negative : true ≡ has_sign c.args.e.now = cc in
    let read = number_read c.args.e.now (omega arith) (cc) in
    ap Some is ∙ ap (λ b. Some (signed b m)) negative ∙ ap (λ n. Some (signed (has_sign c.args.e.now) n)) c.magnitude-n.ensures.value ∙ sym read

pub returns-else-has_sign : goal.returns-else-has_sign
returns-else-has_sign c =
    let m = c.magnitude-n.result in
    let below = below_limit m (length c.args.e.now) (omega arith) c.magnitude-n.ensures.bound in
    let is : to_z w64 m ≡ pos m = omega (arith, ints, below) in
    let positive : false ≡ has_sign c.args.e.now = cc in
    let read = number_read c.args.e.now (omega arith) (cc) in
    ap Some is ∙ ap (λ b. Some (signed b m)) positive ∙ ap (λ n. Some (signed (has_sign c.args.e.now) n)) c.magnitude-n.ensures.value ∙ sym read
