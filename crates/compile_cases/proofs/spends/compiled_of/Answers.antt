use Rattle.compile_cases.proofs.spends.compiled_of.Goals as goal

pub returns-clause-room : goal.returns-clause-room
returns-clause-room c =
    c.accepted_contracts_run.ensures c.as_bytes.result.now c.in_ok-compiled.compiled.contract c.in_ok-compiled.ensures.compiled.accepted
