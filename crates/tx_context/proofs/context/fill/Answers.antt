use Rattle.std.proofs.Common.{◌≡◌, subst}
use Rattle.tx_context.specs.Transaction.{transaction}
use Rattle.tx_context.specs.Limits.{IsContext}
use Rattle.tx_context.specs.World.{filled_context}
use Rattle.tx_context.proofs.Filling.{context_of_frame}
use Rattle.tx_context.proofs.context.fill.Goals as goal

pub invariant_of-result : goal.invariant_of-result
invariant_of-result c =
    let whole = context_of_frame c.args.frame.now c.args.locking.now c.args.unlocking.now c.inputs.ensures.frame c.are_below_256.ensures c.are_below_256-2.ensures c.requires.locking_length c.requires.unlocking_length in
    let same : filled_context c.args.frame.now c.args.locking.now c.args.unlocking.now
    ≡ transaction c.version.result c.locktime.result c.in_ok-inputs.inputs.items c.in_ok-outputs.outputs.items c.active-2.result =
    cc (c.in_ok-inputs.ensures, c.in_ok-outputs.ensures, c.inputs.ensures.value, c.outputs.ensures.value, c.active.ensures.value, c.active-2.ensures.value, c.version.ensures.value, c.locktime.ensures.value) in
    subst IsContext same whole
