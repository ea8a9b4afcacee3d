use Rattle.tidied_code.proofs.Whole.{keeps}
use Rattle.tidied_code.proofs.tidied.Goals as goal

pub returns : goal.returns
returns c = keeps c.rows_run_anywhere.ensures _ _ c.requires c.in_ok-code.ensures.tidied
