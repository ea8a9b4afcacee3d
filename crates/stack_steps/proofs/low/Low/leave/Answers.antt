use Rattle.std.proofs.Common.{◌≡◌, ◌∙◌, subst, Some}
use Rattle.slot_liveness.specs.Counts.{place_of}
use Rattle.slot_liveness.proofs.Counts.{removed, less_is}
use Rattle.stack_steps.proofs.low.Low.leave.Goals as goal

pub returns-clause-scope : goal.returns-clause-scope
returns-clause-scope c =
    c.remove.ensures.rest ∙ removed c.args.slot c.args.self.now.scope c.place-at.result (subst (λ l. place_of c.args.slot l ≡ Some c.place-at.result) c.as_slice.ensures c.place-at.ensures) ∙ less_is c.args.slot c.args.self.now.scope c.requires.once
