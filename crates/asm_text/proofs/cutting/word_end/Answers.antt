use Rattle.asm_text.proofs.Cut.{within_of, ended_of}
use Rattle.asm_text.proofs.cutting.word_end.Goals as goal

pub returns-clause-within : goal.returns-clause-within
returns-clause-within c = within_of c.args.text.now c.first_blank.result c.requires c.first_blank.ensures

pub returns-clause-ended : goal.returns-clause-ended
returns-clause-ended c = ended_of c.args.text.now c.first_blank.result c.requires c.first_blank.ensures
