-- What slot code weighs, at each kind of instruction.
use Rattle.std.proofs.Common.{◌≡◌, ℕ, Bool, List, rules}
use Rattle.cash_base.specs.declared.look.Look0.{Look0}
use Rattle.cash_base.specs.declared.look.LookAt.{LookAt}
use Rattle.cash_base.specs.declared.place.Slot.{Slot}
use Rattle.element_ops.specs.declared.op.Op1.{Op1}
use Rattle.element_ops.specs.declared.op.Op2.{Op2}
use Rattle.element_ops.specs.declared.op.Op3.{Op3}
use Rattle.slot_code.specs.declared.slots.SlotInstr.{SlotInstr}
use Rattle.slot_code.specs.declared.slots.SlotKind.TheVariants as SlotKind
use Rattle.slot_code.specs.declared.slots.SlotKind.TheOpen.{SlotKind-F}
use Rattle.slot_code.specs.declared.slots.SlotKind.TheFolds.{the_lemmas}
use Rattle.slot_code.specs.Weight.{weighs_of, kind_weighs}

pub weighs_lit : (instr : SlotInstr) (bytes : List ℕ) → instr.kind ≡ SlotKind.Lit (record { items = bytes }) → weighs_of instr ≡ kind_weighs (SlotKind-F.Lit (record { items = bytes }))
unfolding weighs_of
weighs_lit instr bytes e = search (rules, the_lemmas)

pub weighs_get : (instr : SlotInstr) (slot : Slot) → instr.kind ≡ SlotKind.Get slot → weighs_of instr ≡ kind_weighs (SlotKind-F.Get slot)
unfolding weighs_of
weighs_get instr slot e = search (rules, the_lemmas)

pub weighs_do1 : (instr : SlotInstr) (o : Op1) → instr.kind ≡ SlotKind.Do1 o → weighs_of instr ≡ kind_weighs (SlotKind-F.Do1 o)
unfolding weighs_of
weighs_do1 instr o e = search (rules, the_lemmas)

pub weighs_do2 : (instr : SlotInstr) (o : Op2) → instr.kind ≡ SlotKind.Do2 o → weighs_of instr ≡ kind_weighs (SlotKind-F.Do2 o)
unfolding weighs_of
weighs_do2 instr o e = search (rules, the_lemmas)

pub weighs_do3 : (instr : SlotInstr) (o : Op3) → instr.kind ≡ SlotKind.Do3 o → weighs_of instr ≡ kind_weighs (SlotKind-F.Do3 o)
unfolding weighs_of
weighs_do3 instr o e = search (rules, the_lemmas)

pub weighs_split : (instr : SlotInstr) → instr.kind ≡ SlotKind.Split → weighs_of instr ≡ kind_weighs SlotKind-F.Split
unfolding weighs_of
weighs_split instr e = search (rules, the_lemmas)

pub weighs_keep : (instr : SlotInstr) (right : Bool) → instr.kind ≡ SlotKind.Keep right → weighs_of instr ≡ kind_weighs (SlotKind-F.Keep right)
unfolding weighs_of
weighs_keep instr right e = search (rules, the_lemmas)

pub weighs_look0 : (instr : SlotInstr) (what : Look0) → instr.kind ≡ SlotKind.Look0 what → weighs_of instr ≡ kind_weighs (SlotKind-F.Look0 what)
unfolding weighs_of
weighs_look0 instr what e = search (rules, the_lemmas)

pub weighs_look_at : (instr : SlotInstr) (what : LookAt) → instr.kind ≡ SlotKind.LookAt what → weighs_of instr ≡ kind_weighs (SlotKind-F.LookAt what)
unfolding weighs_of
weighs_look_at instr what e = search (rules, the_lemmas)

pub weighs_check_sig : (instr : SlotInstr) → instr.kind ≡ SlotKind.CheckSig → weighs_of instr ≡ kind_weighs SlotKind-F.CheckSig
unfolding weighs_of
weighs_check_sig instr e = search (rules, the_lemmas)

pub weighs_check_data : (instr : SlotInstr) → instr.kind ≡ SlotKind.CheckData → weighs_of instr ≡ kind_weighs SlotKind-F.CheckData
unfolding weighs_of
weighs_check_data instr e = search (rules, the_lemmas)

pub weighs_check_multi : (instr : SlotInstr) (sigs keys : ℕ) → instr.kind ≡ SlotKind.CheckMulti sigs keys → weighs_of instr ≡ kind_weighs (SlotKind-F.CheckMulti sigs keys)
unfolding weighs_of
weighs_check_multi instr sigs keys e = search (rules, the_lemmas)

pub weighs_time : (instr : SlotInstr) → instr.kind ≡ SlotKind.Time → weighs_of instr ≡ kind_weighs SlotKind-F.Time
unfolding weighs_of
weighs_time instr e = search (rules, the_lemmas)

pub weighs_age : (instr : SlotInstr) → instr.kind ≡ SlotKind.Age → weighs_of instr ≡ kind_weighs SlotKind-F.Age
unfolding weighs_of
weighs_age instr e = search (rules, the_lemmas)

pub weighs_require : (instr : SlotInstr) → instr.kind ≡ SlotKind.Require → weighs_of instr ≡ kind_weighs SlotKind-F.Require
unfolding weighs_of
weighs_require instr e = search (rules, the_lemmas)

pub weighs_chunk : (instr : SlotInstr) → instr.kind ≡ SlotKind.Chunk → weighs_of instr ≡ kind_weighs SlotKind-F.Chunk
unfolding weighs_of
weighs_chunk instr e = search (rules, the_lemmas)

pub weighs_define : (instr : SlotInstr) (slot : Slot) → instr.kind ≡ SlotKind.Define slot → weighs_of instr ≡ kind_weighs (SlotKind-F.Define slot)
unfolding weighs_of
weighs_define instr slot e = search (rules, the_lemmas)

pub weighs_define_pair : (instr : SlotInstr) (left right : Slot) → instr.kind ≡ SlotKind.DefinePair left right → weighs_of instr ≡ kind_weighs (SlotKind-F.DefinePair left right)
unfolding weighs_of
weighs_define_pair instr left right e = search (rules, the_lemmas)

pub weighs_assign : (instr : SlotInstr) (slot : Slot) → instr.kind ≡ SlotKind.Assign slot → weighs_of instr ≡ kind_weighs (SlotKind-F.Assign slot)
unfolding weighs_of
weighs_assign instr slot e = search (rules, the_lemmas)

pub weighs_end : (instr : SlotInstr) (slot : Slot) → instr.kind ≡ SlotKind.End slot → weighs_of instr ≡ kind_weighs (SlotKind-F.End slot)
unfolding weighs_of
weighs_end instr slot e = search (rules, the_lemmas)
