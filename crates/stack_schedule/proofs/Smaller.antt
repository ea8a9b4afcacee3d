-- The blocks of a choice are smaller than it: what a recursion on slot code rests on.
use Rattle.std.proofs.Common.{◌≡◌, ◌<◌, List, rules}
use denote.Param.Weighed.{most}
use borrow.Author.Sizes.{sizes, same_size}
use Rattle.slot_code.specs.declared.slots.SlotInstr.{SlotInstr}
use Rattle.slot_code.specs.declared.slots.SlotKind.TheVariants.{If}
use Rattle.slot_code.specs.declared.slots.SlotKind.TheFolds.{the_lemmas}
use Rattle.slot_code.proofs.slots.SlotInstr.TheLaws.{the_size}

pub first_smaller : (instr : SlotInstr) (ys ns : List SlotInstr) → instr.kind ≡ If ys ns → most {X = SlotInstr} (λ x. the_size x) ys < the_size instr
first_smaller instr ys ns e = search (rules, the_lemmas, sizes, same_size (λ (x : SlotInstr). the_size x))

pub second_smaller : (instr : SlotInstr) (ys ns : List SlotInstr) → instr.kind ≡ If ys ns → most {X = SlotInstr} (λ x. the_size x) ns < the_size instr
second_smaller instr ys ns e = search (rules, the_lemmas, sizes, same_size (λ (x : SlotInstr). the_size x))
