use Rattle.std.proofs.Common.{rules}
use Rattle.std.specs.Prelude.{option_to_list}
use Rattle.peephole.proofs.Ends.{begins, pushed, cut_back, finished, turned_few}
use Rattle.peephole.proofs.tidying.tidied.Goals as goal

pub rows-init : goal.rows-init
rows-init c = begins _ _ _ c.new-done.ensures.items c.reverse.ensures.items

pub rows-preserved : goal.rows-preserved
rows-preserved c =
    let found = c.in-Some-any_found.found in
    cut_back c.args.code.items c.rows.done.items c.push.new.self.items c.truncate.new.self.items c.rows.left.items c.pop.new.self.items c.put_back.new.left.items (option_to_list found.replacement.code) c.in-Some.row c.is_last-last.result found.start c.rows.invariant (search rules) (search rules) (search rules) (search rules) c.truncate.ensures.items (search rules) (turned_few found.replacement.code)

pub rows-preserved-in_default-any_found : goal.rows-preserved-in_default-any_found
rows-preserved-in_default-any_found c =
    pushed c.args.code.items c.rows.done.items c.push.new.self.items c.rows.left.items c.pop.new.self.items c.in-Some.row c.is_last-last.result c.rows.invariant (search rules) (search rules) (search rules) (search rules)

pub returns : goal.returns
returns c = finished c.args.code.items c.rows.done.items c.rows.left.items c.rows.invariant (search rules)
