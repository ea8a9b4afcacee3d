-- The places of rows and of values, at each kind of instruction.
use Rattle.std.proofs.Common.{◌≡◌, ℕ, Bool, List, rules}
use Rattle.cash_base.specs.declared.look.Look0.{Look0}
use Rattle.cash_base.specs.declared.look.LookAt.{LookAt}
use Rattle.cash_base.specs.declared.place.Slot.{Slot}
use Rattle.element_ops.specs.declared.op.Op1.{Op1}
use Rattle.element_ops.specs.declared.op.Op2.{Op2}
use Rattle.element_ops.specs.declared.op.Op3.{Op3}
use Rattle.slot_code.specs.declared.slots.SlotInstr.{SlotInstr}
use Rattle.slot_code.specs.declared.slots.SlotKind.TheVariants as SlotKind
use Rattle.slot_code.specs.declared.slots.SlotKind.TheOpen.{SlotKind-F}
use Rattle.slot_code.specs.declared.slots.SlotKind.TheFolds.{the_lemmas}
use Rattle.stack_steps.specs.Steps.{places_of, kind_places}

pub places_lit : (instr : SlotInstr) (bytes : List ℕ) → instr.kind ≡ SlotKind.Lit (record { items = bytes }) → places_of instr ≡ kind_places (SlotKind-F.Lit (record { items = bytes }))
unfolding places_of
places_lit instr bytes e = search (rules, the_lemmas)

pub places_get : (instr : SlotInstr) (slot : Slot) → instr.kind ≡ SlotKind.Get slot → places_of instr ≡ kind_places (SlotKind-F.Get slot)
unfolding places_of
places_get instr slot e = search (rules, the_lemmas)

pub places_do1 : (instr : SlotInstr) (o : Op1) → instr.kind ≡ SlotKind.Do1 o → places_of instr ≡ kind_places (SlotKind-F.Do1 o)
unfolding places_of
places_do1 instr o e = search (rules, the_lemmas)

pub places_do2 : (instr : SlotInstr) (o : Op2) → instr.kind ≡ SlotKind.Do2 o → places_of instr ≡ kind_places (SlotKind-F.Do2 o)
unfolding places_of
places_do2 instr o e = search (rules, the_lemmas)

pub places_do3 : (instr : SlotInstr) (o : Op3) → instr.kind ≡ SlotKind.Do3 o → places_of instr ≡ kind_places (SlotKind-F.Do3 o)
unfolding places_of
places_do3 instr o e = search (rules, the_lemmas)

pub places_split : (instr : SlotInstr) → instr.kind ≡ SlotKind.Split → places_of instr ≡ kind_places SlotKind-F.Split
unfolding places_of
places_split instr e = search (rules, the_lemmas)

pub places_keep : (instr : SlotInstr) (right : Bool) → instr.kind ≡ SlotKind.Keep right → places_of instr ≡ kind_places (SlotKind-F.Keep right)
unfolding places_of
places_keep instr right e = search (rules, the_lemmas)

pub places_look0 : (instr : SlotInstr) (what : Look0) → instr.kind ≡ SlotKind.Look0 what → places_of instr ≡ kind_places (SlotKind-F.Look0 what)
unfolding places_of
places_look0 instr what e = search (rules, the_lemmas)

pub places_look_at : (instr : SlotInstr) (what : LookAt) → instr.kind ≡ SlotKind.LookAt what → places_of instr ≡ kind_places (SlotKind-F.LookAt what)
unfolding places_of
places_look_at instr what e = search (rules, the_lemmas)

pub places_check_sig : (instr : SlotInstr) → instr.kind ≡ SlotKind.CheckSig → places_of instr ≡ kind_places SlotKind-F.CheckSig
unfolding places_of
places_check_sig instr e = search (rules, the_lemmas)

pub places_check_data : (instr : SlotInstr) → instr.kind ≡ SlotKind.CheckData → places_of instr ≡ kind_places SlotKind-F.CheckData
unfolding places_of
places_check_data instr e = search (rules, the_lemmas)

pub places_check_multi : (instr : SlotInstr) (sigs keys : ℕ) → instr.kind ≡ SlotKind.CheckMulti sigs keys → places_of instr ≡ kind_places (SlotKind-F.CheckMulti sigs keys)
unfolding places_of
places_check_multi instr sigs keys e = search (rules, the_lemmas)

pub places_time : (instr : SlotInstr) → instr.kind ≡ SlotKind.Time → places_of instr ≡ kind_places SlotKind-F.Time
unfolding places_of
places_time instr e = search (rules, the_lemmas)

pub places_age : (instr : SlotInstr) → instr.kind ≡ SlotKind.Age → places_of instr ≡ kind_places SlotKind-F.Age
unfolding places_of
places_age instr e = search (rules, the_lemmas)

pub places_require : (instr : SlotInstr) → instr.kind ≡ SlotKind.Require → places_of instr ≡ kind_places SlotKind-F.Require
unfolding places_of
places_require instr e = search (rules, the_lemmas)

pub places_chunk : (instr : SlotInstr) → instr.kind ≡ SlotKind.Chunk → places_of instr ≡ kind_places SlotKind-F.Chunk
unfolding places_of
places_chunk instr e = search (rules, the_lemmas)

pub places_define : (instr : SlotInstr) (slot : Slot) → instr.kind ≡ SlotKind.Define slot → places_of instr ≡ kind_places (SlotKind-F.Define slot)
unfolding places_of
places_define instr slot e = search (rules, the_lemmas)

pub places_define_pair : (instr : SlotInstr) (left right : Slot) → instr.kind ≡ SlotKind.DefinePair left right → places_of instr ≡ kind_places (SlotKind-F.DefinePair left right)
unfolding places_of
places_define_pair instr left right e = search (rules, the_lemmas)

pub places_assign : (instr : SlotInstr) (slot : Slot) → instr.kind ≡ SlotKind.Assign slot → places_of instr ≡ kind_places (SlotKind-F.Assign slot)
unfolding places_of
places_assign instr slot e = search (rules, the_lemmas)

pub places_end : (instr : SlotInstr) (slot : Slot) → instr.kind ≡ SlotKind.End slot → places_of instr ≡ kind_places (SlotKind-F.End slot)
unfolding places_of
places_end instr slot e = search (rules, the_lemmas)
