use Rattle.cash_compile.proofs.reading.typed_contract_of.Goals as goal

pub returns-in-Err-clause-refused : goal.returns-in-Err-clause-refused
returns-in-Err-clause-refused c = c.refusal_of.ensures c.args.source.now c.in-Err.ensures.refused
