use Rattle.source_meaning.proofs.StmtSteps.{of_if}
use Rattle.source_meaning.proofs.execute.parts_have_room.Goals as goal

pub returns-clause-test : goal.returns-clause-test
returns-clause-test c = (of_if c.args.s.now.kind c.args.test.now c.args.yes.now c.args.no.now c.requires.kind c.requires.room).test_fits

pub returns-clause-block : goal.returns-clause-block
returns-clause-block c = (of_if c.args.s.now.kind c.args.test.now c.args.yes.now c.args.no.now c.requires.kind c.requires.room).block_fits
