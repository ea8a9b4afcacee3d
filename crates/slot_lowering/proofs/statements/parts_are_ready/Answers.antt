use Rattle.slot_lowering.proofs.Values.{of_if}
use Rattle.slot_lowering.proofs.statements.parts_are_ready.Goals as goal

pub returns-clause-test : goal.returns-clause-test
returns-clause-test c = (of_if c.args.s.now.kind c.args.test.now c.args.yes.now c.args.no.now c.requires.kind c.requires.ready).test

pub returns-clause-block : goal.returns-clause-block
returns-clause-block c = (of_if c.args.s.now.kind c.args.test.now c.args.yes.now c.args.no.now c.requires.kind c.requires.ready).block
