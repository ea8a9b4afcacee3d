use Rattle.run_laws.proofs.Arms.{runs_the_first, runs_the_second, runs_the_only, runs_none}
use Rattle.run_laws.proofs.conditions.picked_arm_runs.Goals as goal

pub returns : goal.returns
returns c =
    let turn = c.runs_in_turn.ensures.states in
    record { first = runs_the_first turn; second = runs_the_second turn; only = runs_the_only turn; none = runs_none turn }
