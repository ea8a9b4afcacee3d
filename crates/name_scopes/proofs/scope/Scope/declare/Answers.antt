use Rattle.std.proofs.Common.{◌∙◌, ap, map, ◌+◌}
use Rattle.name_scopes.specs.Names.{seen, variable}
use Rattle.name_scopes.proofs.Scoping.{seen_insert}
use Rattle.name_scopes.proofs.scope.Scope.declare.Goals as goal

pub returns-clause-names : goal.returns-clause-names
returns-clause-names c =
    let s = c.args.self.now in
    ap (λ known. record { known = known; next = s.next + 1; limit = s.limit })
    (ap (map seen) c.in_ok-insert.ensures.entries ∙ seen_insert s.known c.args.name (variable s.next c.args.constant) c.requires.fresh)
