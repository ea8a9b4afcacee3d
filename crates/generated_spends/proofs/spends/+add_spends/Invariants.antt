use Rattle.generated_spends.proofs.spends.+add_spends.Given as goal

abbrev pub decreases-add_spends : goal.decreases-add_spends
decreases-add_spends l = l.count
