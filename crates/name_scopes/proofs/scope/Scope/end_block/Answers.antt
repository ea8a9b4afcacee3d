use Rattle.std.proofs.Common.{◌∙◌, ap, map}
use Rattle.name_scopes.specs.Names.{seen}
use Rattle.name_scopes.proofs.Scoping.{seen_take}
use Rattle.name_scopes.proofs.scope.Scope.end_block.Goals as goal

pub returns : goal.returns
returns c =
    ap (λ known. record { known = known; next = c.args.self.now.next; limit = c.args.self.now.limit })
    (ap (map seen) c.truncate.ensures.entries ∙ seen_take c.args.len c.args.self.now.known.entries)
