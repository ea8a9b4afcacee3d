use Rattle.spend_debug.proofs.spend_lines.+read_lines.Given as goal

abbrev pub decreases-read_lines : goal.decreases-read_lines
decreases-read_lines l = l.most
