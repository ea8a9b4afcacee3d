use Rattle.std.proofs.Common.{◌≡◌, length, ap, ◌∙◌, arith}
use Rattle.cash_base.specs.Number.{with_sign}
use Rattle.element_ops.specs.Width.{trimmed, without_sign}
use Rattle.element_ops.proofs.Widths.{shortest_of, length-made, length-without_sign, IsBytes_of}
use Rattle.element_ops.proofs.width.shortest.Goals as goal

pub copy_of-requires : goal.copy_of-requires
copy_of-requires c = let same = length-without_sign c.args.e.now in let copied : length c.as_slice.result.now ≡ length (without_sign c.args.e.now) = cc in omega (arith, same, copied)

pub with_sign-requires : goal.with_sign-requires
with_sign-requires c =
    let digits : c.copy_of.result.items ≡ trimmed (without_sign c.args.e.now) = cc in
    let short = length-made c.args.e.now c.has_sign.result c.copy_of.result.items digits c.has_sign.ensures (IsBytes_of c.args.e.now c.type_inv.e) in
    omega (arith, short)

pub returns-clause-value : goal.returns-clause-value
returns-clause-value c =
    let digits : c.copy_of.result.items ≡ trimmed (without_sign c.args.e.now) = cc in
    c.with_sign.ensures ∙ ap (with_sign c.has_sign.result) digits ∙ shortest_of c.args.e.now c.has_sign.result c.has_sign.ensures (IsBytes_of c.args.e.now c.type_inv.e)

pub returns-clause-shorter : goal.returns-clause-shorter
returns-clause-shorter c =
    let digits : c.copy_of.result.items ≡ trimmed (without_sign c.args.e.now) = cc in
    let short = length-made c.args.e.now c.has_sign.result c.copy_of.result.items digits c.has_sign.ensures (IsBytes_of c.args.e.now c.type_inv.e) in
    let written = ap length c.with_sign.ensures in
    omega (arith, short, written)
