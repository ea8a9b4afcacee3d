use Rattle.source_commands.proofs.Ready.{parameters_told}
use Rattle.source_commands.proofs.runnable.can_be_run.Goals as goal

pub returns-clause-room : goal.returns-clause-room
returns-clause-room c =
    let compiled = c.args.compiled.now in
    c.accepted_contracts_run.ensures compiled.program.source compiled.contract c.requires.accepted

pub returns-clause-told : goal.returns-clause-told
returns-clause-told c =
    let compiled = c.args.compiled.now in
    parameters_told compiled.program.source compiled.contract compiled.program c.requires
