use Rattle.std.proofs.Common.{◌∙◌, sym}
use Rattle.name_scopes.proofs.Scoping.{find_seen}
use Rattle.name_scopes.proofs.scope.Scope.find.Goals as goal

pub returns : goal.returns
returns c = c.copied.ensures ∙ c.get.ensures.value ∙ sym (find_seen c.args.name c.args.self.now.known.entries)
