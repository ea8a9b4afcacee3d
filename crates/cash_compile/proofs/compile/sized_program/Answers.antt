use Rattle.cash_compile.proofs.Whole.{uncompiled}
use Rattle.cash_compile.proofs.compile.sized_program.Goals as goal

pub returns-in-Err-clause-refused : goal.returns-in-Err-clause-refused
returns-in-Err-clause-refused c = λ some.
    uncompiled c.args.source.now c.args.contract.now c.args.rows.items c.in_ok-code.field-0.code.items c.in-Err.refusal c.requires.accepted c.requires.code
    c.in_ok-code.ensures.code (c.in-Err.ensures.over some)
