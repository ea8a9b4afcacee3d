use Rattle.branch_layout.proofs.Raised.{all_arranged}
use Rattle.branch_layout.proofs.moves.arrange.Goals as goal

pub returns-clause-arranges : goal.returns-clause-arranges
returns-clause-arranges c = all_arranged _ _ _ _ _ c.in_ok-raise_all.ensures c.requires.same
