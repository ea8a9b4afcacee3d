use Rattle.std.proofs.Common.{◌∙◌, ap, sym, refl, map}
use Rattle.semver.specs.Identifiers.{comparator_view}
use Rattle.semver.proofs.EvalViews.{matches_all-read}
use Rattle.name_scopes.specs.Pragmas.{language, is_met}
use Rattle.name_scopes.proofs.pragma.is_met.Goals as goal

pub returns-in-Ok-clause-ok : goal.returns-in-Ok-clause-ok
returns-in-Ok-clause-ok c =
    let read = c.in-Ok.requirement.comparators.items in
    c.matches.ensures ∙ matches_all-read read c.new.result (map comparator_view read) language refl c.new.ensures
    ∙ sym (ap is_met c.in-Ok.ensures.ok)
