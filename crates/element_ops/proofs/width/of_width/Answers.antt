use Rattle.std.proofs.Common.{◌≡◌, length, ap, ◌∙◌, arith}
use Rattle.cash_base.specs.Number.{with_sign, has_sign, magnitude}
use Rattle.element_ops.specs.Width
use Rattle.element_ops.specs.Width.{places, padded, without_sign}
use Rattle.element_ops.proofs.Widths.{length-without_sign, IsBytes_of, padded-without_sign, length-of_width}
use Rattle.element_ops.proofs.width.of_width.Goals as goal

pub pad-requires-clause-wide : goal.pad-requires-clause-wide
pad-requires-clause-wide c =
    let same = length-without_sign (Width.shortest c.args.e.now) in
    let digits : c.unsigned_copy-digits.result.items ≡ without_sign (Width.shortest c.args.e.now) = cc in
    let count = ap length digits in
    omega (arith, same, count)

pub with_sign-requires : goal.with_sign-requires
with_sign-requires c =
    let digits : c.pad.new.digits.items ≡ padded c.args.width (without_sign (Width.shortest c.args.e.now)) = cc in
    let exact = length-of_width c.has_sign-negative.result c.args.width (Width.shortest c.args.e.now) c.requires.wide in
    let same = ap (λ ds. length (with_sign c.has_sign-negative.result ds)) digits in
    omega (arith, exact, same)

pub returns : goal.returns
returns c =
    let digits : c.pad.new.digits.items ≡ padded c.args.width (without_sign (Width.shortest c.args.e.now)) = cc in
    let sign : c.has_sign-negative.result ≡ has_sign (Width.shortest c.args.e.now) = cc in
    c.with_sign.ensures ∙ ap (with_sign c.has_sign-negative.result) (digits ∙ padded-without_sign c.args.width c.args.e.now (IsBytes_of c.args.e.now c.type_inv.e) c.requires.wide)
    ∙ ap (λ n. with_sign n (places c.args.width (magnitude c.args.e.now))) sign
