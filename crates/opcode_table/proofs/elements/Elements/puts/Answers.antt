use Rattle.std.proofs.Common.{◌≡◌, ◌+◌, length, ap, arith}
use Rattle.std.proofs.lemmas.List.{length-take-le}
use Rattle.opcode_table.specs.Stack.{Stack}
use Rattle.opcode_table.proofs.Turned.{length_turned}
use Rattle.opcode_table.proofs.elements.Elements.puts.Goals as goal

pub put_all-requires : goal.put_all-requires
put_all-requires c =
    let old = c.self.inside.items.items in
    let below = length c.in_ok-rest.rest.now in
    let few = length_turned c.truncate.new.self.items in
    let cut = ap length c.truncate.ensures.items in
    let slice = ap length c.as_slice.ensures.value in
    let whole = ap (λ (s : Stack). length s) c.self.view_is in
    let many = length_turned old in
    let all = c.in_ok-rest.ensures.all in
    let kept = length-take-le below old (omega (arith, slice, all)) in
    record { places = omega (arith, few, cut, slice, whole, many, all, kept) }

pub returns-clause-height : goal.returns-clause-height
returns-clause-height c =
    let old = c.self.inside.items.items in
    let below = length c.in_ok-rest.rest.now in
    let few = length_turned c.truncate.new.self.items in
    let cut = ap length c.truncate.ensures.items in
    let slice = ap length c.as_slice.ensures.value in
    let whole = ap (λ (s : Stack). length s) c.self.view_is in
    let many = length_turned old in
    let all = c.in_ok-rest.ensures.all in
    let kept = length-take-le below old (omega (arith, slice, all)) in
    let put = c.put_all.ensures.height in
    omega (arith, few, cut, slice, whole, many, all, kept, put)
