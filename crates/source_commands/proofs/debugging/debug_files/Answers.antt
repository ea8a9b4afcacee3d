use Rattle.source_commands.proofs.Causes.{no_spend_stopped}
use Rattle.source_commands.proofs.debugging.debug_files.Goals as goal

pub returns-clause-stopped : goal.returns-clause-stopped
returns-clause-stopped g c =
    let files = g.S.Store.files in
    let faults = g.S.Store.faults in
    let compiled = c.in_ok-compiled.compiled in
    no_spend_stopped (files c.args.store.now) (files c.compiled_in.new.store) c.args.source.now c.args.spend.now compiled.contract compiled.program
    (faults c.args.store.now) (faults c.compiled_in.new.store) (faults c.debugged_in.new.store) c.in-Err.stop
    c.in_ok-compiled.ensures.built c.in_ok-compiled.ensures.files c.in_ok-compiled.ensures.later c.in-Err.ensures.stopped
