use Rattle.spend_debug.proofs.spend_lines.+has_more_lines.Given as goal

abbrev pub decreases-has_more_lines : goal.decreases-has_more_lines
decreases-has_more_lines l = l.most
