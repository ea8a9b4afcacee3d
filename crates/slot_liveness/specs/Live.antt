-- Which slots some path reads, and which names are kept on the stack. A read after a later assignment counts: each definition
-- has a slot of its own.
use Rattle.std.specs.Prelude.{Bool, true, false, ◌&&◌, ◌||◌, ◌==◌, not, List, [], ◌∷◌, map, filter, ℕ, length}
use Rattle.std.specs.List.{list_all}
use Rattle.cash_base.specs.declared.place.Slot.{Slot}
use Rattle.slot_code.specs.declared.slots.SlotInstr.{SlotInstr}
use Rattle.slot_code.specs.declared.slots.SlotKind.TheOpen.{SlotKind-F, SlotInstr-F}
use Rattle.slot_code.specs.declared.slots.SlotKind.TheFolds.{fold-SlotInstr}
use Rattle.slot_code.specs.Shape.{has}

-- which slots
abbrev pub Slots : Type 0
Slots = Slot → Bool

-- whether one of them reads the slot, or what comes after them all does
abbrev pub all_later : List Slots → Slot → Bool → Bool
all_later [] slot after = after
all_later (reads ∷ more) slot after = reads slot || all_later more slot after

-- the slots that some path through an instruction reads
abbrev pub kind_reads : SlotKind-F Slots Slots → Slots
kind_reads (SlotKind-F.Get slot) other = slot.0 == other.0
kind_reads (SlotKind-F.If a b) other = all_later a other false || all_later b other false
kind_reads _ other = false

abbrev pub instr_reads : SlotInstr-F Slots Slots → Slots
instr_reads instr = instr.kind

abbrev pub reads_of : SlotInstr → Slots
reads_of = fold-SlotInstr Slots Slots kind_reads instr_reads

-- the slots that some path reads: one through the rest of the block, or one that goes on after the block
abbrev pub later : List SlotInstr → List Slot → Slots
later rest after slot = all_later (map reads_of rest) slot (has slot after)

abbrev pub read_in : List SlotInstr → Slots
read_in instrs slot = all_later (map reads_of instrs) slot false

-- what stays although no path reads it: what the function never reads, and what is held for the other block of an `if` around
abbrev pub hold : List SlotInstr → List Slot → Slots
hold body held slot = has slot held || not (read_in body slot)

-- what the other block reads and the own block doesn't
abbrev pub only_other : List SlotInstr → List SlotInstr → Slots
only_other own other slot = read_in other slot && not (read_in own slot)

abbrev pub kept : Slots → Slots → Slots
kept later hold slot = later slot || hold slot

-- read by an instruction, or after it
abbrev pub either : Slots → Slots → Slots
either reads later slot = reads slot || later slot

-- the slots in scope that are live
abbrev pub live : List Slot → Slots → Slots
live scope later slot = has slot scope && later slot

-- how many names in scope are kept
abbrev pub kept_count : List Slot → Slots → ℕ
kept_count scope keeps = length (filter keeps scope)
