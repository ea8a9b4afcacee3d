use Rattle.slot_lowering.specs.Functions.{LeftFunctions}
use Rattle.slot_lowering.proofs.contract.all_functions.Given as goal

-- what is left, from here on, makes the whole
abbrev pub invariant-loop-f : goal.invariant-loop-f
invariant-loop-f l = LeftFunctions l.contract l.lowered.items l.f-index
