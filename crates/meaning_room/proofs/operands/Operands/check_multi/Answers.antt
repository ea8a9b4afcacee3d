use Rattle.std.proofs.Common.{◌≡◌, ◌+◌, ◌-◌, ◌∙◌, ap, drop, length, map, arith}
use Rattle.std.specs.Prelude.{reverse}
use Rattle.std.proofs.lemmas.List.{length-map, length-reverse}
use Rattle.meaning_room.specs.Stack.{Stack, below}
use Rattle.meaning_room.proofs.Under.{under_all}
use Rattle.meaning_room.proofs.operands.Operands.check_multi.Goals as goal

pub returns-clause-rest : goal.returns-clause-rest
returns-clause-rest c =
    let items = c.self.inside.items.items in
    let height = c.len.result - c.args.keys - c.args.sigs in
    let count = length-reverse (map (λ e. e.items) items) in
    let counted = length-map items (λ e. e.items) in
    let whole = ap length c.self.view_is in
    let len = c.self.inside.items.ok.0 in
    let is : height + (c.args.sigs + c.args.keys) ≡ length items = omega arith in
    ap below c.push.ensures ∙ ap (λ l. reverse (map (λ e. e.items) l)) c.truncate.ensures.items
    ∙ under_all (λ e. e.items) items height (c.args.sigs + c.args.keys) is ∙ ap (λ (s : Stack). drop (c.args.sigs + c.args.keys) s) c.self.view_is
