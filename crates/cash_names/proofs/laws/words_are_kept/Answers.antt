use Rattle.cash_names.proofs.TreeKept.{tree_words_kept}
use Rattle.cash_names.proofs.laws.words_are_kept.Goals as goal

pub returns : goal.returns
returns c = tree_words_kept
