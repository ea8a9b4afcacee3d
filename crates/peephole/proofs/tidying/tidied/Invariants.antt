use Rattle.std.proofs.Common.{◌+◌, ◌*◌, reverse, vec_len}
use Rattle.peephole.specs.Tidy.{Tidying}
use Rattle.peephole.proofs.tidying.tidied.Given as goal

-- the code so far has no window that a rule would rewrite, and with what is left stands for the whole
abbrev pub invariant-rows : goal.invariant-rows
invariant-rows l = Tidying l.fn.code.items l.done.items (reverse l.left.items)

abbrev pub decreases-rows : goal.decreases-rows
decreases-rows l = 2 * (vec_len l.done + vec_len l.left) + vec_len l.left
