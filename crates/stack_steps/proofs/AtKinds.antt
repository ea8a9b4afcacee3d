-- The definitions over slot code, at each kind of instruction.
use Rattle.std.proofs.Common.{◌≡◌, ℕ, Bool, List, map, rules}
use Rattle.cash_base.specs.declared.look.Look0.{Look0}
use Rattle.cash_base.specs.declared.look.LookAt.{LookAt}
use Rattle.cash_base.specs.declared.place.Slot.{Slot}
use Rattle.element_ops.specs.declared.op.Op1.{Op1}
use Rattle.element_ops.specs.declared.op.Op2.{Op2}
use Rattle.element_ops.specs.declared.op.Op3.{Op3}
use Rattle.tx_context.specs.World.{World}
use Rattle.slot_code.specs.declared.slots.SlotInstr.{SlotInstr}
use Rattle.slot_code.specs.declared.slots.SlotKind.TheVariants as SlotKind
use Rattle.slot_code.specs.declared.slots.SlotKind.TheOpen.{SlotKind-F}
use Rattle.slot_code.specs.declared.slots.SlotKind.TheFolds.{the_lemmas}
use Rattle.slot_code.specs.Meaning.{act_of, kind_act}
use Rattle.slot_code.specs.Shape.{Shapes, shapes_of, kind_shapes, stands_in}
use Rattle.slot_liveness.specs.Live.{Slots, reads_of, kind_reads}
use Rattle.stack_emitter.specs.Correct.{Deed}

pub record At (instr : SlotInstr) (deed : Deed) (shapes : Shapes) (reads : Slots) : Type 0 where
  pub act_is : (world : World) → act_of world instr ≡ deed world
  pub shapes_is : shapes_of instr ≡ stands_in instr.checking shapes
  pub reads_is : reads_of instr ≡ reads

pub at_lit : (instr : SlotInstr) (bytes : List ℕ) → instr.kind ≡ SlotKind.Lit (record { items = bytes })
    → At instr (λ world. kind_act world (SlotKind-F.Lit (record { items = bytes })) instr.doing instr.checking) (kind_shapes (SlotKind-F.Lit (record { items = bytes }))) (kind_reads (SlotKind-F.Lit (record { items = bytes })))
unfolding act_of shapes_of
at_lit instr bytes e =
    record { act_is = λ world. search (rules, the_lemmas); shapes_is = search (rules, the_lemmas); reads_is = search (rules, the_lemmas) }

pub at_get : (instr : SlotInstr) (slot : Slot) → instr.kind ≡ SlotKind.Get slot
    → At instr (λ world. kind_act world (SlotKind-F.Get slot) instr.doing instr.checking) (kind_shapes (SlotKind-F.Get slot)) (kind_reads (SlotKind-F.Get slot))
unfolding act_of shapes_of
at_get instr slot e =
    record { act_is = λ world. search (rules, the_lemmas); shapes_is = search (rules, the_lemmas); reads_is = search (rules, the_lemmas) }

pub at_do1 : (instr : SlotInstr) (op : Op1) → instr.kind ≡ SlotKind.Do1 op
    → At instr (λ world. kind_act world (SlotKind-F.Do1 op) instr.doing instr.checking) (kind_shapes (SlotKind-F.Do1 op)) (kind_reads (SlotKind-F.Do1 op))
unfolding act_of shapes_of
at_do1 instr op e =
    record { act_is = λ world. search (rules, the_lemmas); shapes_is = search (rules, the_lemmas); reads_is = search (rules, the_lemmas) }

pub at_do2 : (instr : SlotInstr) (op : Op2) → instr.kind ≡ SlotKind.Do2 op
    → At instr (λ world. kind_act world (SlotKind-F.Do2 op) instr.doing instr.checking) (kind_shapes (SlotKind-F.Do2 op)) (kind_reads (SlotKind-F.Do2 op))
unfolding act_of shapes_of
at_do2 instr op e =
    record { act_is = λ world. search (rules, the_lemmas); shapes_is = search (rules, the_lemmas); reads_is = search (rules, the_lemmas) }

pub at_do3 : (instr : SlotInstr) (op : Op3) → instr.kind ≡ SlotKind.Do3 op
    → At instr (λ world. kind_act world (SlotKind-F.Do3 op) instr.doing instr.checking) (kind_shapes (SlotKind-F.Do3 op)) (kind_reads (SlotKind-F.Do3 op))
unfolding act_of shapes_of
at_do3 instr op e =
    record { act_is = λ world. search (rules, the_lemmas); shapes_is = search (rules, the_lemmas); reads_is = search (rules, the_lemmas) }

pub at_split : (instr : SlotInstr) → instr.kind ≡ SlotKind.Split
    → At instr (λ world. kind_act world SlotKind-F.Split instr.doing instr.checking) (kind_shapes SlotKind-F.Split) (kind_reads SlotKind-F.Split)
unfolding act_of shapes_of
at_split instr e =
    record { act_is = λ world. search (rules, the_lemmas); shapes_is = search (rules, the_lemmas); reads_is = search (rules, the_lemmas) }

pub at_keep : (instr : SlotInstr) (right : Bool) → instr.kind ≡ SlotKind.Keep right
    → At instr (λ world. kind_act world (SlotKind-F.Keep right) instr.doing instr.checking) (kind_shapes (SlotKind-F.Keep right)) (kind_reads (SlotKind-F.Keep right))
unfolding act_of shapes_of
at_keep instr right e =
    record { act_is = λ world. search (rules, the_lemmas); shapes_is = search (rules, the_lemmas); reads_is = search (rules, the_lemmas) }

pub at_look0 : (instr : SlotInstr) (what : Look0) → instr.kind ≡ SlotKind.Look0 what
    → At instr (λ world. kind_act world (SlotKind-F.Look0 what) instr.doing instr.checking) (kind_shapes (SlotKind-F.Look0 what)) (kind_reads (SlotKind-F.Look0 what))
unfolding act_of shapes_of
at_look0 instr what e =
    record { act_is = λ world. search (rules, the_lemmas); shapes_is = search (rules, the_lemmas); reads_is = search (rules, the_lemmas) }

pub at_look_at : (instr : SlotInstr) (what : LookAt) → instr.kind ≡ SlotKind.LookAt what
    → At instr (λ world. kind_act world (SlotKind-F.LookAt what) instr.doing instr.checking) (kind_shapes (SlotKind-F.LookAt what)) (kind_reads (SlotKind-F.LookAt what))
unfolding act_of shapes_of
at_look_at instr what e =
    record { act_is = λ world. search (rules, the_lemmas); shapes_is = search (rules, the_lemmas); reads_is = search (rules, the_lemmas) }

pub at_check_sig : (instr : SlotInstr) → instr.kind ≡ SlotKind.CheckSig
    → At instr (λ world. kind_act world SlotKind-F.CheckSig instr.doing instr.checking) (kind_shapes SlotKind-F.CheckSig) (kind_reads SlotKind-F.CheckSig)
unfolding act_of shapes_of
at_check_sig instr e =
    record { act_is = λ world. search (rules, the_lemmas); shapes_is = search (rules, the_lemmas); reads_is = search (rules, the_lemmas) }

pub at_check_data : (instr : SlotInstr) → instr.kind ≡ SlotKind.CheckData
    → At instr (λ world. kind_act world SlotKind-F.CheckData instr.doing instr.checking) (kind_shapes SlotKind-F.CheckData) (kind_reads SlotKind-F.CheckData)
unfolding act_of shapes_of
at_check_data instr e =
    record { act_is = λ world. search (rules, the_lemmas); shapes_is = search (rules, the_lemmas); reads_is = search (rules, the_lemmas) }

pub at_check_multi : (instr : SlotInstr) (sigs keys : ℕ) → instr.kind ≡ SlotKind.CheckMulti sigs keys
    → At instr (λ world. kind_act world (SlotKind-F.CheckMulti sigs keys) instr.doing instr.checking) (kind_shapes (SlotKind-F.CheckMulti sigs keys)) (kind_reads (SlotKind-F.CheckMulti sigs keys))
unfolding act_of shapes_of
at_check_multi instr sigs keys e =
    record { act_is = λ world. search (rules, the_lemmas); shapes_is = search (rules, the_lemmas); reads_is = search (rules, the_lemmas) }

pub at_time : (instr : SlotInstr) → instr.kind ≡ SlotKind.Time
    → At instr (λ world. kind_act world SlotKind-F.Time instr.doing instr.checking) (kind_shapes SlotKind-F.Time) (kind_reads SlotKind-F.Time)
unfolding act_of shapes_of
at_time instr e =
    record { act_is = λ world. search (rules, the_lemmas); shapes_is = search (rules, the_lemmas); reads_is = search (rules, the_lemmas) }

pub at_age : (instr : SlotInstr) → instr.kind ≡ SlotKind.Age
    → At instr (λ world. kind_act world SlotKind-F.Age instr.doing instr.checking) (kind_shapes SlotKind-F.Age) (kind_reads SlotKind-F.Age)
unfolding act_of shapes_of
at_age instr e =
    record { act_is = λ world. search (rules, the_lemmas); shapes_is = search (rules, the_lemmas); reads_is = search (rules, the_lemmas) }

pub at_require : (instr : SlotInstr) → instr.kind ≡ SlotKind.Require
    → At instr (λ world. kind_act world SlotKind-F.Require instr.doing instr.checking) (kind_shapes SlotKind-F.Require) (kind_reads SlotKind-F.Require)
unfolding act_of shapes_of
at_require instr e =
    record { act_is = λ world. search (rules, the_lemmas); shapes_is = search (rules, the_lemmas); reads_is = search (rules, the_lemmas) }

pub at_chunk : (instr : SlotInstr) → instr.kind ≡ SlotKind.Chunk
    → At instr (λ world. kind_act world SlotKind-F.Chunk instr.doing instr.checking) (kind_shapes SlotKind-F.Chunk) (kind_reads SlotKind-F.Chunk)
unfolding act_of shapes_of
at_chunk instr e =
    record { act_is = λ world. search (rules, the_lemmas); shapes_is = search (rules, the_lemmas); reads_is = search (rules, the_lemmas) }

pub at_define : (instr : SlotInstr) (slot : Slot) → instr.kind ≡ SlotKind.Define slot
    → At instr (λ world. kind_act world (SlotKind-F.Define slot) instr.doing instr.checking) (kind_shapes (SlotKind-F.Define slot)) (kind_reads (SlotKind-F.Define slot))
unfolding act_of shapes_of
at_define instr slot e =
    record { act_is = λ world. search (rules, the_lemmas); shapes_is = search (rules, the_lemmas); reads_is = search (rules, the_lemmas) }

pub at_define_pair : (instr : SlotInstr) (left right : Slot) → instr.kind ≡ SlotKind.DefinePair left right
    → At instr (λ world. kind_act world (SlotKind-F.DefinePair left right) instr.doing instr.checking) (kind_shapes (SlotKind-F.DefinePair left right)) (kind_reads (SlotKind-F.DefinePair left right))
unfolding act_of shapes_of
at_define_pair instr left right e =
    record { act_is = λ world. search (rules, the_lemmas); shapes_is = search (rules, the_lemmas); reads_is = search (rules, the_lemmas) }

pub at_assign : (instr : SlotInstr) (slot : Slot) → instr.kind ≡ SlotKind.Assign slot
    → At instr (λ world. kind_act world (SlotKind-F.Assign slot) instr.doing instr.checking) (kind_shapes (SlotKind-F.Assign slot)) (kind_reads (SlotKind-F.Assign slot))
unfolding act_of shapes_of
at_assign instr slot e =
    record { act_is = λ world. search (rules, the_lemmas); shapes_is = search (rules, the_lemmas); reads_is = search (rules, the_lemmas) }

pub at_end : (instr : SlotInstr) (slot : Slot) → instr.kind ≡ SlotKind.End slot
    → At instr (λ world. kind_act world (SlotKind-F.End slot) instr.doing instr.checking) (kind_shapes (SlotKind-F.End slot)) (kind_reads (SlotKind-F.End slot))
unfolding act_of shapes_of
at_end instr slot e =
    record { act_is = λ world. search (rules, the_lemmas); shapes_is = search (rules, the_lemmas); reads_is = search (rules, the_lemmas) }

pub at_if : (instr : SlotInstr) (a b : List SlotInstr) → instr.kind ≡ SlotKind.If a b
    → At instr (λ world. kind_act world (SlotKind-F.If (map (act_of world) a) (map (act_of world) b)) instr.doing instr.checking)
    (kind_shapes (SlotKind-F.If (map shapes_of a) (map shapes_of b))) (kind_reads (SlotKind-F.If (map reads_of a) (map reads_of b)))
unfolding act_of shapes_of
at_if instr a b e =
    record { act_is = λ world. search (rules, the_lemmas); shapes_is = search (rules, the_lemmas); reads_is = search (rules, the_lemmas) }
