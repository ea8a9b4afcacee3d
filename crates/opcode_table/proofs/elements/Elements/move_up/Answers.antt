use Rattle.std.proofs.Common.{◌≡◌, ◌∷◌, ◌-◌, length, map, Ok, reverse, sym, ap, ◌∙◌, arith}
use Rattle.opcode_table.specs.Deeds.{moved}
use Rattle.opcode_table.proofs.Turned.{moved_up, length_turned}
use Rattle.opcode_table.proofs.elements.Elements.move_up.Goals as goal

pub returns-clause-ok : goal.returns-clause-ok
returns-clause-ok c =
    let xs = c.self.inside.items.items in
    ap (moved c.args.below) (sym c.self.view_is)
    ∙ moved_up c.args.below (c.len-height.result - 1 - c.args.below) xs c.remove-element.result (omega arith) c.remove-element.ensures.value
    ∙ ap (λ l. Ok (c.remove-element.result.items ∷ reverse (map (λ e. e.items) l))) (sym c.remove-element.ensures.items)
    ∙ ap Ok (sym c.push.ensures)
