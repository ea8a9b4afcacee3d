use Rattle.element_ops.proofs.Widths.{shortest-IsShortestOf}
use Rattle.element_ops.proofs.laws.shortest_keeps.Goals as goal

pub returns : goal.returns
returns c = shortest-IsShortestOf
