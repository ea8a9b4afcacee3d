use Rattle.cash_names.proofs.TreeKept.{tree_spans_kept, tree_inside}
use Rattle.cash_names.proofs.laws.spans_are_kept.Goals as goal

pub returns-clause-kept : goal.returns-clause-kept
returns-clause-kept c = tree_spans_kept

pub returns-clause-inside : goal.returns-clause-inside
returns-clause-inside c = tree_inside
