use Rattle.workload.proofs.trying.+add_contracts.Given as goal

abbrev pub decreases-add_contracts : goal.decreases-add_contracts
decreases-add_contracts l = l.count
