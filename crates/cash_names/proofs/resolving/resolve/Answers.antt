use Rattle.std.proofs.Common.{subst, IfOk, IfErr}
use Rattle.cash_names.specs.Scopes.{IsNamed}
use Rattle.cash_names.specs.Answer.{IsFaultOf}
use Rattle.cash_names.proofs.Whole.{named_from, fault_from}
use Rattle.cash_names.proofs.resolving.resolve.Goals as goal

pub returns-clause-named : goal.returns-clause-named
returns-clause-named c =
    subst (λ s. IfOk c.resolve_tree.result (IsNamed s c.args.tree.now)) c.as_bytes.ensures.value
    (named_from c.as_bytes.result.now c.args.tree.now c.resolve_tree.result c.resolve_tree.ensures)

pub returns-clause-first : goal.returns-clause-first
returns-clause-first c =
    subst (λ s. IfErr c.resolve_tree.result (IsFaultOf s c.args.tree.now)) c.as_bytes.ensures.value
    (fault_from c.as_bytes.result.now c.args.tree.now c.resolve_tree.result c.resolve_tree.ensures)
