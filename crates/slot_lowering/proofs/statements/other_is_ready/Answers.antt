use Rattle.std.proofs.Common.{[], subst}
use Rattle.std.specs.Prelude.{unwrap_or}
use Rattle.slot_lowering.specs.Scoped.{ReadyBody}
use Rattle.slot_lowering.proofs.Values.{of_if}
use Rattle.slot_lowering.proofs.statements.other_is_ready.Goals as goal

pub returns : goal.returns
returns c =
    let values = of_if c.args.s.now.kind c.args.test.now c.args.yes.now c.args.no.now c.requires.kind c.requires.ready in
    subst (λ o. ReadyBody (unwrap_or o [])) c.requires.other values.other
