use Rattle.std.proofs.Common.{length}
use Rattle.source_commands.proofs.parts.+are_elements.Given as goal

abbrev pub decreases-are_elements : goal.decreases-are_elements
decreases-are_elements l = length l.elements.now
