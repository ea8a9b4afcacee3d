use Rattle.cash_compile.proofs.Ways.{Laws, decided_is, never_both_are, one_refusal_is}
use Rattle.cash_compile.proofs.laws.one_way.Goals as goal

pub returns : goal.returns
returns c =
    let way = c.one_way.ensures in
    let laws : Laws = record { either = way.either; never_both = way.never_both; one_fault = way.one_fault } in
    record { either = decided_is laws; never_both = never_both_are laws; one_refusal = one_refusal_is laws }
