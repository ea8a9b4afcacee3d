use Rattle.std.proofs.Common.{◌≡◌, ◌+◌, ◌≤◌, length, map, drop}
use Rattle.cash_tree.specs.Nodes.{total}
use Rattle.meaning_room.specs.Meaning.{value_of, with_chunks}
use Rattle.source_meaning.specs.Runnable.{node_count}
use Rattle.meaning_room.specs.Names.{env_of}
use Rattle.meaning_room.specs.Stack.{top, below, pushed_all}
use Rattle.source_meaning.proofs.evaluate.+expression.Given as goal

-- what is left, pushed from here on, is the whole; and it has places
abbrev pub invariant-all-loop-part : goal.invariant-all-loop-part
invariant-all-loop-part l =
    (pushed_all (map (value_of l.world (env_of l.names)) (drop l.part-index l.parts)) l.operands
    ≡ pushed_all (map (value_of l.world (env_of l.names)) l.parts) l.initial.operands)
    × (length l.operands ≡ length l.initial.operands + l.part-index)
    × (length l.operands + total (map node_count (drop l.part-index l.parts)) ≤ 1000)

-- what is left, appended from here on, is the whole; and it has places
abbrev pub invariant-chunks-loop-part : goal.invariant-chunks-loop-part
invariant-chunks-loop-part l =
    (with_chunks l.span (top l.operands) (map (value_of l.world (env_of l.names)) (drop l.part-index l.parts))
    ≡ with_chunks l.span (top l.initial.operands) (map (value_of l.world (env_of l.names)) l.parts))
    × (below l.operands ≡ below l.initial.operands)
    × (length l.operands ≡ length l.initial.operands)
    × (length l.operands + total (map node_count (drop l.part-index l.parts)) ≤ 1000)
