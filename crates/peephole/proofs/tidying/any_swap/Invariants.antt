use Rattle.std.proofs.Common.{map, take}
use Rattle.rewrite_rules.specs.Rules.{swap_then}
use Rattle.peephole.specs.Tidy.{EachRule, EndsFreeOf}
use Rattle.peephole.proofs.tidying.any_swap.Given as goal

-- the rule fits at no operation so far
abbrev pub invariant-loop-op : goal.invariant-loop-op
invariant-loop-op l = EachRule (EndsFreeOf l.code l.last) (map swap_then (take l.op-index l.op-items))
