-- What each kind of instruction does, where the values stand around it, what it weighs, and its spans, by its line in the definition.
use Rattle.std.proofs.Common.{◌≡◌, ℕ, Bool, List, [], ◌∷◌, ◌++◌, map}
use Rattle.arrayvec.specs.ArrayVec.{ArrayVec}
use Rattle.cash_base.specs.declared.place.Span.{Span}
use Rattle.cash_base.specs.declared.place.Slot.{Slot}
use Rattle.cash_base.specs.declared.look.Look0.{Look0}
use Rattle.cash_base.specs.declared.look.LookAt.{LookAt}
use Rattle.element_ops.specs.declared.op.Op1.{Op1}
use Rattle.element_ops.specs.declared.op.Op2.{Op2}
use Rattle.element_ops.specs.declared.op.Op3.{Op3}
use Rattle.tx_context.specs.World.{World}
use Rattle.slot_code.specs.declared.slots.SlotInstr.{SlotInstr}
use Rattle.slot_code.specs.declared.slots.SlotKind.{SlotKind}
use Rattle.slot_code.specs.declared.slots.SlotKind.TheVariants as kinds
use Rattle.slot_code.specs.declared.slots.SlotKind.TheOpen.{SlotKind-F, SlotInstr-F}
use Rattle.slot_code.specs.declared.slots.SlotKind.TheViews.{roll-SlotKind}
use Rattle.slot_code.specs.declared.slots.SlotKind.TheFolds.{fold-roll-SlotInstr, fold-roll-SlotKind}
use Rattle.slot_code.specs.Meaning.{Act, act_of, act_at, kind_act, instr_act}
use Rattle.slot_code.specs.Shape.{Shapes, shapes_of, shapes_at, kind_shapes, instr_shapes, stands_in}
use Rattle.slot_code.specs.Weight.{Weighs, weighs_of, weighs_at, kind_weighs, instr_weighs}
use Rattle.slot_code.specs.Spans.{spans_of, spans_at, kind_spans, instr_spans, code_spans}

abbrev Layer : Type 0
Layer = SlotKind-F SlotKind SlotInstr

abbrev Whole : Type 0
Whole = SlotInstr-F SlotKind SlotInstr

-- ---- what is done

pub whole_done : (world : World) (i : SlotInstr) → act_of world i ≡ act_at world i.kind i.doing i.checking
unfolding act_of act_at
whole_done world i =
    let layer : Whole = record { kind = i.kind; doing = i.doing; checking = i.checking } in
    fold-roll-SlotInstr (Span → Span → Act) Act (kind_act world) instr_act layer

pub lit_done : (world : World) (e : ArrayVec ℕ) → act_at world (kinds.Lit e) ≡ kind_act world (SlotKind-F.Lit e)
unfolding act_of act_at roll-SlotKind denote.Hole.Carrier.roll
lit_done world e =
    let layer : Layer = SlotKind-F.Lit e in fold-roll-SlotKind (Span → Span → Act) Act (kind_act world) instr_act layer

pub get_done : (world : World) (slot : Slot) → act_at world (kinds.Get slot) ≡ kind_act world (SlotKind-F.Get slot)
unfolding act_of act_at roll-SlotKind denote.Hole.Carrier.roll
get_done world slot =
    let layer : Layer = SlotKind-F.Get slot in fold-roll-SlotKind (Span → Span → Act) Act (kind_act world) instr_act layer

pub do1_done : (world : World) (op : Op1) → act_at world (kinds.Do1 op) ≡ kind_act world (SlotKind-F.Do1 op)
unfolding act_of act_at roll-SlotKind denote.Hole.Carrier.roll
do1_done world op =
    let layer : Layer = SlotKind-F.Do1 op in fold-roll-SlotKind (Span → Span → Act) Act (kind_act world) instr_act layer

pub do2_done : (world : World) (op : Op2) → act_at world (kinds.Do2 op) ≡ kind_act world (SlotKind-F.Do2 op)
unfolding act_of act_at roll-SlotKind denote.Hole.Carrier.roll
do2_done world op =
    let layer : Layer = SlotKind-F.Do2 op in fold-roll-SlotKind (Span → Span → Act) Act (kind_act world) instr_act layer

pub do3_done : (world : World) (op : Op3) → act_at world (kinds.Do3 op) ≡ kind_act world (SlotKind-F.Do3 op)
unfolding act_of act_at roll-SlotKind denote.Hole.Carrier.roll
do3_done world op =
    let layer : Layer = SlotKind-F.Do3 op in fold-roll-SlotKind (Span → Span → Act) Act (kind_act world) instr_act layer

pub split_done : (world : World) → act_at world kinds.Split ≡ kind_act world SlotKind-F.Split
unfolding act_of act_at roll-SlotKind denote.Hole.Carrier.roll
split_done world =
    let layer : Layer = SlotKind-F.Split in fold-roll-SlotKind (Span → Span → Act) Act (kind_act world) instr_act layer

pub keep_done : (world : World) (right : Bool) → act_at world (kinds.Keep right) ≡ kind_act world (SlotKind-F.Keep right)
unfolding act_of act_at roll-SlotKind denote.Hole.Carrier.roll
keep_done world right =
    let layer : Layer = SlotKind-F.Keep right in fold-roll-SlotKind (Span → Span → Act) Act (kind_act world) instr_act layer

pub look0_done : (world : World) (what : Look0) → act_at world (kinds.Look0 what) ≡ kind_act world (SlotKind-F.Look0 what)
unfolding act_of act_at roll-SlotKind denote.Hole.Carrier.roll
look0_done world what =
    let layer : Layer = SlotKind-F.Look0 what in fold-roll-SlotKind (Span → Span → Act) Act (kind_act world) instr_act layer

pub look_at_done : (world : World) (what : LookAt) → act_at world (kinds.LookAt what) ≡ kind_act world (SlotKind-F.LookAt what)
unfolding act_of act_at roll-SlotKind denote.Hole.Carrier.roll
look_at_done world what =
    let layer : Layer = SlotKind-F.LookAt what in fold-roll-SlotKind (Span → Span → Act) Act (kind_act world) instr_act layer

pub check_sig_done : (world : World) → act_at world kinds.CheckSig ≡ kind_act world SlotKind-F.CheckSig
unfolding act_of act_at roll-SlotKind denote.Hole.Carrier.roll
check_sig_done world =
    let layer : Layer = SlotKind-F.CheckSig in fold-roll-SlotKind (Span → Span → Act) Act (kind_act world) instr_act layer

pub check_data_done : (world : World) → act_at world kinds.CheckData ≡ kind_act world SlotKind-F.CheckData
unfolding act_of act_at roll-SlotKind denote.Hole.Carrier.roll
check_data_done world =
    let layer : Layer = SlotKind-F.CheckData in fold-roll-SlotKind (Span → Span → Act) Act (kind_act world) instr_act layer

pub check_multi_done : (world : World) (sigs keys : ℕ) → act_at world (kinds.CheckMulti sigs keys) ≡ kind_act world (SlotKind-F.CheckMulti sigs keys)
unfolding act_of act_at roll-SlotKind denote.Hole.Carrier.roll
check_multi_done world sigs keys =
    let layer : Layer = SlotKind-F.CheckMulti sigs keys in fold-roll-SlotKind (Span → Span → Act) Act (kind_act world) instr_act layer

pub time_done : (world : World) → act_at world kinds.Time ≡ kind_act world SlotKind-F.Time
unfolding act_of act_at roll-SlotKind denote.Hole.Carrier.roll
time_done world =
    let layer : Layer = SlotKind-F.Time in fold-roll-SlotKind (Span → Span → Act) Act (kind_act world) instr_act layer

pub age_done : (world : World) → act_at world kinds.Age ≡ kind_act world SlotKind-F.Age
unfolding act_of act_at roll-SlotKind denote.Hole.Carrier.roll
age_done world =
    let layer : Layer = SlotKind-F.Age in fold-roll-SlotKind (Span → Span → Act) Act (kind_act world) instr_act layer

pub require_done : (world : World) → act_at world kinds.Require ≡ kind_act world SlotKind-F.Require
unfolding act_of act_at roll-SlotKind denote.Hole.Carrier.roll
require_done world =
    let layer : Layer = SlotKind-F.Require in fold-roll-SlotKind (Span → Span → Act) Act (kind_act world) instr_act layer

pub chunk_done : (world : World) → act_at world kinds.Chunk ≡ kind_act world SlotKind-F.Chunk
unfolding act_of act_at roll-SlotKind denote.Hole.Carrier.roll
chunk_done world =
    let layer : Layer = SlotKind-F.Chunk in fold-roll-SlotKind (Span → Span → Act) Act (kind_act world) instr_act layer

pub define_done : (world : World) (slot : Slot) → act_at world (kinds.Define slot) ≡ kind_act world (SlotKind-F.Define slot)
unfolding act_of act_at roll-SlotKind denote.Hole.Carrier.roll
define_done world slot =
    let layer : Layer = SlotKind-F.Define slot in fold-roll-SlotKind (Span → Span → Act) Act (kind_act world) instr_act layer

pub define_pair_done : (world : World) (left right : Slot) → act_at world (kinds.DefinePair left right) ≡ kind_act world (SlotKind-F.DefinePair left right)
unfolding act_of act_at roll-SlotKind denote.Hole.Carrier.roll
define_pair_done world left right =
    let layer : Layer = SlotKind-F.DefinePair left right in fold-roll-SlotKind (Span → Span → Act) Act (kind_act world) instr_act layer

pub assign_done : (world : World) (slot : Slot) → act_at world (kinds.Assign slot) ≡ kind_act world (SlotKind-F.Assign slot)
unfolding act_of act_at roll-SlotKind denote.Hole.Carrier.roll
assign_done world slot =
    let layer : Layer = SlotKind-F.Assign slot in fold-roll-SlotKind (Span → Span → Act) Act (kind_act world) instr_act layer

pub end_of_done : (world : World) (slot : Slot) → act_at world (kinds.End slot) ≡ kind_act world (SlotKind-F.End slot)
unfolding act_of act_at roll-SlotKind denote.Hole.Carrier.roll
end_of_done world slot =
    let layer : Layer = SlotKind-F.End slot in fold-roll-SlotKind (Span → Span → Act) Act (kind_act world) instr_act layer

pub if_done : (world : World) (a b : List SlotInstr) → act_at world (kinds.If a b) ≡ kind_act world (SlotKind-F.If (map (act_of world) a) (map (act_of world) b))
unfolding act_of act_at roll-SlotKind denote.Hole.Carrier.roll
if_done world a b =
    let layer : Layer = SlotKind-F.If a b in fold-roll-SlotKind (Span → Span → Act) Act (kind_act world) instr_act layer

-- ---- where the values stand

pub whole_stands : (i : SlotInstr) → shapes_of i ≡ stands_in i.checking (shapes_at i.kind)
unfolding shapes_of shapes_at
whole_stands i =
    let layer : Whole = record { kind = i.kind; doing = i.doing; checking = i.checking } in
    fold-roll-SlotInstr Shapes Shapes kind_shapes instr_shapes layer

pub lit_stands : (e : ArrayVec ℕ) → shapes_at (kinds.Lit e) ≡ kind_shapes (SlotKind-F.Lit e)
unfolding shapes_of shapes_at roll-SlotKind denote.Hole.Carrier.roll
lit_stands e =
    let layer : Layer = SlotKind-F.Lit e in fold-roll-SlotKind Shapes Shapes kind_shapes instr_shapes layer

pub get_stands : (slot : Slot) → shapes_at (kinds.Get slot) ≡ kind_shapes (SlotKind-F.Get slot)
unfolding shapes_of shapes_at roll-SlotKind denote.Hole.Carrier.roll
get_stands slot =
    let layer : Layer = SlotKind-F.Get slot in fold-roll-SlotKind Shapes Shapes kind_shapes instr_shapes layer

pub do1_stands : (op : Op1) → shapes_at (kinds.Do1 op) ≡ kind_shapes (SlotKind-F.Do1 op)
unfolding shapes_of shapes_at roll-SlotKind denote.Hole.Carrier.roll
do1_stands op =
    let layer : Layer = SlotKind-F.Do1 op in fold-roll-SlotKind Shapes Shapes kind_shapes instr_shapes layer

pub do2_stands : (op : Op2) → shapes_at (kinds.Do2 op) ≡ kind_shapes (SlotKind-F.Do2 op)
unfolding shapes_of shapes_at roll-SlotKind denote.Hole.Carrier.roll
do2_stands op =
    let layer : Layer = SlotKind-F.Do2 op in fold-roll-SlotKind Shapes Shapes kind_shapes instr_shapes layer

pub do3_stands : (op : Op3) → shapes_at (kinds.Do3 op) ≡ kind_shapes (SlotKind-F.Do3 op)
unfolding shapes_of shapes_at roll-SlotKind denote.Hole.Carrier.roll
do3_stands op =
    let layer : Layer = SlotKind-F.Do3 op in fold-roll-SlotKind Shapes Shapes kind_shapes instr_shapes layer

pub split_stands : shapes_at kinds.Split ≡ kind_shapes SlotKind-F.Split
unfolding shapes_of shapes_at roll-SlotKind denote.Hole.Carrier.roll
split_stands =
    let layer : Layer = SlotKind-F.Split in fold-roll-SlotKind Shapes Shapes kind_shapes instr_shapes layer

pub keep_stands : (right : Bool) → shapes_at (kinds.Keep right) ≡ kind_shapes (SlotKind-F.Keep right)
unfolding shapes_of shapes_at roll-SlotKind denote.Hole.Carrier.roll
keep_stands right =
    let layer : Layer = SlotKind-F.Keep right in fold-roll-SlotKind Shapes Shapes kind_shapes instr_shapes layer

pub look0_stands : (what : Look0) → shapes_at (kinds.Look0 what) ≡ kind_shapes (SlotKind-F.Look0 what)
unfolding shapes_of shapes_at roll-SlotKind denote.Hole.Carrier.roll
look0_stands what =
    let layer : Layer = SlotKind-F.Look0 what in fold-roll-SlotKind Shapes Shapes kind_shapes instr_shapes layer

pub look_at_stands : (what : LookAt) → shapes_at (kinds.LookAt what) ≡ kind_shapes (SlotKind-F.LookAt what)
unfolding shapes_of shapes_at roll-SlotKind denote.Hole.Carrier.roll
look_at_stands what =
    let layer : Layer = SlotKind-F.LookAt what in fold-roll-SlotKind Shapes Shapes kind_shapes instr_shapes layer

pub check_sig_stands : shapes_at kinds.CheckSig ≡ kind_shapes SlotKind-F.CheckSig
unfolding shapes_of shapes_at roll-SlotKind denote.Hole.Carrier.roll
check_sig_stands =
    let layer : Layer = SlotKind-F.CheckSig in fold-roll-SlotKind Shapes Shapes kind_shapes instr_shapes layer

pub check_data_stands : shapes_at kinds.CheckData ≡ kind_shapes SlotKind-F.CheckData
unfolding shapes_of shapes_at roll-SlotKind denote.Hole.Carrier.roll
check_data_stands =
    let layer : Layer = SlotKind-F.CheckData in fold-roll-SlotKind Shapes Shapes kind_shapes instr_shapes layer

pub check_multi_stands : (sigs keys : ℕ) → shapes_at (kinds.CheckMulti sigs keys) ≡ kind_shapes (SlotKind-F.CheckMulti sigs keys)
unfolding shapes_of shapes_at roll-SlotKind denote.Hole.Carrier.roll
check_multi_stands sigs keys =
    let layer : Layer = SlotKind-F.CheckMulti sigs keys in fold-roll-SlotKind Shapes Shapes kind_shapes instr_shapes layer

pub time_stands : shapes_at kinds.Time ≡ kind_shapes SlotKind-F.Time
unfolding shapes_of shapes_at roll-SlotKind denote.Hole.Carrier.roll
time_stands =
    let layer : Layer = SlotKind-F.Time in fold-roll-SlotKind Shapes Shapes kind_shapes instr_shapes layer

pub age_stands : shapes_at kinds.Age ≡ kind_shapes SlotKind-F.Age
unfolding shapes_of shapes_at roll-SlotKind denote.Hole.Carrier.roll
age_stands =
    let layer : Layer = SlotKind-F.Age in fold-roll-SlotKind Shapes Shapes kind_shapes instr_shapes layer

pub require_stands : shapes_at kinds.Require ≡ kind_shapes SlotKind-F.Require
unfolding shapes_of shapes_at roll-SlotKind denote.Hole.Carrier.roll
require_stands =
    let layer : Layer = SlotKind-F.Require in fold-roll-SlotKind Shapes Shapes kind_shapes instr_shapes layer

pub chunk_stands : shapes_at kinds.Chunk ≡ kind_shapes SlotKind-F.Chunk
unfolding shapes_of shapes_at roll-SlotKind denote.Hole.Carrier.roll
chunk_stands =
    let layer : Layer = SlotKind-F.Chunk in fold-roll-SlotKind Shapes Shapes kind_shapes instr_shapes layer

pub define_stands : (slot : Slot) → shapes_at (kinds.Define slot) ≡ kind_shapes (SlotKind-F.Define slot)
unfolding shapes_of shapes_at roll-SlotKind denote.Hole.Carrier.roll
define_stands slot =
    let layer : Layer = SlotKind-F.Define slot in fold-roll-SlotKind Shapes Shapes kind_shapes instr_shapes layer

pub define_pair_stands : (left right : Slot) → shapes_at (kinds.DefinePair left right) ≡ kind_shapes (SlotKind-F.DefinePair left right)
unfolding shapes_of shapes_at roll-SlotKind denote.Hole.Carrier.roll
define_pair_stands left right =
    let layer : Layer = SlotKind-F.DefinePair left right in fold-roll-SlotKind Shapes Shapes kind_shapes instr_shapes layer

pub assign_stands : (slot : Slot) → shapes_at (kinds.Assign slot) ≡ kind_shapes (SlotKind-F.Assign slot)
unfolding shapes_of shapes_at roll-SlotKind denote.Hole.Carrier.roll
assign_stands slot =
    let layer : Layer = SlotKind-F.Assign slot in fold-roll-SlotKind Shapes Shapes kind_shapes instr_shapes layer

pub end_of_stands : (slot : Slot) → shapes_at (kinds.End slot) ≡ kind_shapes (SlotKind-F.End slot)
unfolding shapes_of shapes_at roll-SlotKind denote.Hole.Carrier.roll
end_of_stands slot =
    let layer : Layer = SlotKind-F.End slot in fold-roll-SlotKind Shapes Shapes kind_shapes instr_shapes layer

pub if_stands : (a b : List SlotInstr) → shapes_at (kinds.If a b) ≡ kind_shapes (SlotKind-F.If (map shapes_of a) (map shapes_of b))
unfolding shapes_of shapes_at roll-SlotKind denote.Hole.Carrier.roll
if_stands a b =
    let layer : Layer = SlotKind-F.If a b in fold-roll-SlotKind Shapes Shapes kind_shapes instr_shapes layer

-- ---- what is weighed

pub whole_weighs : (i : SlotInstr) → weighs_of i ≡ weighs_at i.kind
unfolding weighs_of weighs_at
whole_weighs i =
    let layer : Whole = record { kind = i.kind; doing = i.doing; checking = i.checking } in
    fold-roll-SlotInstr Weighs Weighs kind_weighs instr_weighs layer

pub lit_weighs : (e : ArrayVec ℕ) → weighs_at (kinds.Lit e) ≡ kind_weighs (SlotKind-F.Lit e)
unfolding weighs_of weighs_at roll-SlotKind denote.Hole.Carrier.roll
lit_weighs e =
    let layer : Layer = SlotKind-F.Lit e in fold-roll-SlotKind Weighs Weighs kind_weighs instr_weighs layer

pub get_weighs : (slot : Slot) → weighs_at (kinds.Get slot) ≡ kind_weighs (SlotKind-F.Get slot)
unfolding weighs_of weighs_at roll-SlotKind denote.Hole.Carrier.roll
get_weighs slot =
    let layer : Layer = SlotKind-F.Get slot in fold-roll-SlotKind Weighs Weighs kind_weighs instr_weighs layer

pub do1_weighs : (op : Op1) → weighs_at (kinds.Do1 op) ≡ kind_weighs (SlotKind-F.Do1 op)
unfolding weighs_of weighs_at roll-SlotKind denote.Hole.Carrier.roll
do1_weighs op =
    let layer : Layer = SlotKind-F.Do1 op in fold-roll-SlotKind Weighs Weighs kind_weighs instr_weighs layer

pub do2_weighs : (op : Op2) → weighs_at (kinds.Do2 op) ≡ kind_weighs (SlotKind-F.Do2 op)
unfolding weighs_of weighs_at roll-SlotKind denote.Hole.Carrier.roll
do2_weighs op =
    let layer : Layer = SlotKind-F.Do2 op in fold-roll-SlotKind Weighs Weighs kind_weighs instr_weighs layer

pub do3_weighs : (op : Op3) → weighs_at (kinds.Do3 op) ≡ kind_weighs (SlotKind-F.Do3 op)
unfolding weighs_of weighs_at roll-SlotKind denote.Hole.Carrier.roll
do3_weighs op =
    let layer : Layer = SlotKind-F.Do3 op in fold-roll-SlotKind Weighs Weighs kind_weighs instr_weighs layer

pub split_weighs : weighs_at kinds.Split ≡ kind_weighs SlotKind-F.Split
unfolding weighs_of weighs_at roll-SlotKind denote.Hole.Carrier.roll
split_weighs =
    let layer : Layer = SlotKind-F.Split in fold-roll-SlotKind Weighs Weighs kind_weighs instr_weighs layer

pub keep_weighs : (right : Bool) → weighs_at (kinds.Keep right) ≡ kind_weighs (SlotKind-F.Keep right)
unfolding weighs_of weighs_at roll-SlotKind denote.Hole.Carrier.roll
keep_weighs right =
    let layer : Layer = SlotKind-F.Keep right in fold-roll-SlotKind Weighs Weighs kind_weighs instr_weighs layer

pub look0_weighs : (what : Look0) → weighs_at (kinds.Look0 what) ≡ kind_weighs (SlotKind-F.Look0 what)
unfolding weighs_of weighs_at roll-SlotKind denote.Hole.Carrier.roll
look0_weighs what =
    let layer : Layer = SlotKind-F.Look0 what in fold-roll-SlotKind Weighs Weighs kind_weighs instr_weighs layer

pub look_at_weighs : (what : LookAt) → weighs_at (kinds.LookAt what) ≡ kind_weighs (SlotKind-F.LookAt what)
unfolding weighs_of weighs_at roll-SlotKind denote.Hole.Carrier.roll
look_at_weighs what =
    let layer : Layer = SlotKind-F.LookAt what in fold-roll-SlotKind Weighs Weighs kind_weighs instr_weighs layer

pub check_sig_weighs : weighs_at kinds.CheckSig ≡ kind_weighs SlotKind-F.CheckSig
unfolding weighs_of weighs_at roll-SlotKind denote.Hole.Carrier.roll
check_sig_weighs =
    let layer : Layer = SlotKind-F.CheckSig in fold-roll-SlotKind Weighs Weighs kind_weighs instr_weighs layer

pub check_data_weighs : weighs_at kinds.CheckData ≡ kind_weighs SlotKind-F.CheckData
unfolding weighs_of weighs_at roll-SlotKind denote.Hole.Carrier.roll
check_data_weighs =
    let layer : Layer = SlotKind-F.CheckData in fold-roll-SlotKind Weighs Weighs kind_weighs instr_weighs layer

pub check_multi_weighs : (sigs keys : ℕ) → weighs_at (kinds.CheckMulti sigs keys) ≡ kind_weighs (SlotKind-F.CheckMulti sigs keys)
unfolding weighs_of weighs_at roll-SlotKind denote.Hole.Carrier.roll
check_multi_weighs sigs keys =
    let layer : Layer = SlotKind-F.CheckMulti sigs keys in fold-roll-SlotKind Weighs Weighs kind_weighs instr_weighs layer

pub time_weighs : weighs_at kinds.Time ≡ kind_weighs SlotKind-F.Time
unfolding weighs_of weighs_at roll-SlotKind denote.Hole.Carrier.roll
time_weighs =
    let layer : Layer = SlotKind-F.Time in fold-roll-SlotKind Weighs Weighs kind_weighs instr_weighs layer

pub age_weighs : weighs_at kinds.Age ≡ kind_weighs SlotKind-F.Age
unfolding weighs_of weighs_at roll-SlotKind denote.Hole.Carrier.roll
age_weighs =
    let layer : Layer = SlotKind-F.Age in fold-roll-SlotKind Weighs Weighs kind_weighs instr_weighs layer

pub require_weighs : weighs_at kinds.Require ≡ kind_weighs SlotKind-F.Require
unfolding weighs_of weighs_at roll-SlotKind denote.Hole.Carrier.roll
require_weighs =
    let layer : Layer = SlotKind-F.Require in fold-roll-SlotKind Weighs Weighs kind_weighs instr_weighs layer

pub chunk_weighs : weighs_at kinds.Chunk ≡ kind_weighs SlotKind-F.Chunk
unfolding weighs_of weighs_at roll-SlotKind denote.Hole.Carrier.roll
chunk_weighs =
    let layer : Layer = SlotKind-F.Chunk in fold-roll-SlotKind Weighs Weighs kind_weighs instr_weighs layer

pub define_weighs : (slot : Slot) → weighs_at (kinds.Define slot) ≡ kind_weighs (SlotKind-F.Define slot)
unfolding weighs_of weighs_at roll-SlotKind denote.Hole.Carrier.roll
define_weighs slot =
    let layer : Layer = SlotKind-F.Define slot in fold-roll-SlotKind Weighs Weighs kind_weighs instr_weighs layer

pub define_pair_weighs : (left right : Slot) → weighs_at (kinds.DefinePair left right) ≡ kind_weighs (SlotKind-F.DefinePair left right)
unfolding weighs_of weighs_at roll-SlotKind denote.Hole.Carrier.roll
define_pair_weighs left right =
    let layer : Layer = SlotKind-F.DefinePair left right in fold-roll-SlotKind Weighs Weighs kind_weighs instr_weighs layer

pub assign_weighs : (slot : Slot) → weighs_at (kinds.Assign slot) ≡ kind_weighs (SlotKind-F.Assign slot)
unfolding weighs_of weighs_at roll-SlotKind denote.Hole.Carrier.roll
assign_weighs slot =
    let layer : Layer = SlotKind-F.Assign slot in fold-roll-SlotKind Weighs Weighs kind_weighs instr_weighs layer

pub end_of_weighs : (slot : Slot) → weighs_at (kinds.End slot) ≡ kind_weighs (SlotKind-F.End slot)
unfolding weighs_of weighs_at roll-SlotKind denote.Hole.Carrier.roll
end_of_weighs slot =
    let layer : Layer = SlotKind-F.End slot in fold-roll-SlotKind Weighs Weighs kind_weighs instr_weighs layer

pub if_weighs : (a b : List SlotInstr) → weighs_at (kinds.If a b) ≡ kind_weighs (SlotKind-F.If (map weighs_of a) (map weighs_of b))
unfolding weighs_of weighs_at roll-SlotKind denote.Hole.Carrier.roll
if_weighs a b =
    let layer : Layer = SlotKind-F.If a b in fold-roll-SlotKind Weighs Weighs kind_weighs instr_weighs layer

-- ---- its spans

pub whole_spans : (i : SlotInstr) → spans_of i ≡ i.doing ∷ i.checking ∷ spans_at i.kind
unfolding spans_of spans_at
whole_spans i =
    let layer : Whole = record { kind = i.kind; doing = i.doing; checking = i.checking } in
    fold-roll-SlotInstr (List Span) (List Span) kind_spans instr_spans layer

pub lit_spans : (e : ArrayVec ℕ) → spans_at (kinds.Lit e) ≡ []
unfolding spans_of spans_at roll-SlotKind denote.Hole.Carrier.roll
lit_spans e =
    let layer : Layer = SlotKind-F.Lit e in fold-roll-SlotKind (List Span) (List Span) kind_spans instr_spans layer

pub get_spans : (slot : Slot) → spans_at (kinds.Get slot) ≡ []
unfolding spans_of spans_at roll-SlotKind denote.Hole.Carrier.roll
get_spans slot =
    let layer : Layer = SlotKind-F.Get slot in fold-roll-SlotKind (List Span) (List Span) kind_spans instr_spans layer

pub do1_spans : (op : Op1) → spans_at (kinds.Do1 op) ≡ []
unfolding spans_of spans_at roll-SlotKind denote.Hole.Carrier.roll
do1_spans op =
    let layer : Layer = SlotKind-F.Do1 op in fold-roll-SlotKind (List Span) (List Span) kind_spans instr_spans layer

pub do2_spans : (op : Op2) → spans_at (kinds.Do2 op) ≡ []
unfolding spans_of spans_at roll-SlotKind denote.Hole.Carrier.roll
do2_spans op =
    let layer : Layer = SlotKind-F.Do2 op in fold-roll-SlotKind (List Span) (List Span) kind_spans instr_spans layer

pub do3_spans : (op : Op3) → spans_at (kinds.Do3 op) ≡ []
unfolding spans_of spans_at roll-SlotKind denote.Hole.Carrier.roll
do3_spans op =
    let layer : Layer = SlotKind-F.Do3 op in fold-roll-SlotKind (List Span) (List Span) kind_spans instr_spans layer

pub split_spans : spans_at kinds.Split ≡ []
unfolding spans_of spans_at roll-SlotKind denote.Hole.Carrier.roll
split_spans =
    let layer : Layer = SlotKind-F.Split in fold-roll-SlotKind (List Span) (List Span) kind_spans instr_spans layer

pub keep_spans : (right : Bool) → spans_at (kinds.Keep right) ≡ []
unfolding spans_of spans_at roll-SlotKind denote.Hole.Carrier.roll
keep_spans right =
    let layer : Layer = SlotKind-F.Keep right in fold-roll-SlotKind (List Span) (List Span) kind_spans instr_spans layer

pub look0_spans : (what : Look0) → spans_at (kinds.Look0 what) ≡ []
unfolding spans_of spans_at roll-SlotKind denote.Hole.Carrier.roll
look0_spans what =
    let layer : Layer = SlotKind-F.Look0 what in fold-roll-SlotKind (List Span) (List Span) kind_spans instr_spans layer

pub look_at_spans : (what : LookAt) → spans_at (kinds.LookAt what) ≡ []
unfolding spans_of spans_at roll-SlotKind denote.Hole.Carrier.roll
look_at_spans what =
    let layer : Layer = SlotKind-F.LookAt what in fold-roll-SlotKind (List Span) (List Span) kind_spans instr_spans layer

pub check_sig_spans : spans_at kinds.CheckSig ≡ []
unfolding spans_of spans_at roll-SlotKind denote.Hole.Carrier.roll
check_sig_spans =
    let layer : Layer = SlotKind-F.CheckSig in fold-roll-SlotKind (List Span) (List Span) kind_spans instr_spans layer

pub check_data_spans : spans_at kinds.CheckData ≡ []
unfolding spans_of spans_at roll-SlotKind denote.Hole.Carrier.roll
check_data_spans =
    let layer : Layer = SlotKind-F.CheckData in fold-roll-SlotKind (List Span) (List Span) kind_spans instr_spans layer

pub check_multi_spans : (sigs keys : ℕ) → spans_at (kinds.CheckMulti sigs keys) ≡ []
unfolding spans_of spans_at roll-SlotKind denote.Hole.Carrier.roll
check_multi_spans sigs keys =
    let layer : Layer = SlotKind-F.CheckMulti sigs keys in fold-roll-SlotKind (List Span) (List Span) kind_spans instr_spans layer

pub time_spans : spans_at kinds.Time ≡ []
unfolding spans_of spans_at roll-SlotKind denote.Hole.Carrier.roll
time_spans =
    let layer : Layer = SlotKind-F.Time in fold-roll-SlotKind (List Span) (List Span) kind_spans instr_spans layer

pub age_spans : spans_at kinds.Age ≡ []
unfolding spans_of spans_at roll-SlotKind denote.Hole.Carrier.roll
age_spans =
    let layer : Layer = SlotKind-F.Age in fold-roll-SlotKind (List Span) (List Span) kind_spans instr_spans layer

pub require_spans : spans_at kinds.Require ≡ []
unfolding spans_of spans_at roll-SlotKind denote.Hole.Carrier.roll
require_spans =
    let layer : Layer = SlotKind-F.Require in fold-roll-SlotKind (List Span) (List Span) kind_spans instr_spans layer

pub chunk_spans : spans_at kinds.Chunk ≡ []
unfolding spans_of spans_at roll-SlotKind denote.Hole.Carrier.roll
chunk_spans =
    let layer : Layer = SlotKind-F.Chunk in fold-roll-SlotKind (List Span) (List Span) kind_spans instr_spans layer

pub define_spans : (slot : Slot) → spans_at (kinds.Define slot) ≡ []
unfolding spans_of spans_at roll-SlotKind denote.Hole.Carrier.roll
define_spans slot =
    let layer : Layer = SlotKind-F.Define slot in fold-roll-SlotKind (List Span) (List Span) kind_spans instr_spans layer

pub define_pair_spans : (left right : Slot) → spans_at (kinds.DefinePair left right) ≡ []
unfolding spans_of spans_at roll-SlotKind denote.Hole.Carrier.roll
define_pair_spans left right =
    let layer : Layer = SlotKind-F.DefinePair left right in fold-roll-SlotKind (List Span) (List Span) kind_spans instr_spans layer

pub assign_spans : (slot : Slot) → spans_at (kinds.Assign slot) ≡ []
unfolding spans_of spans_at roll-SlotKind denote.Hole.Carrier.roll
assign_spans slot =
    let layer : Layer = SlotKind-F.Assign slot in fold-roll-SlotKind (List Span) (List Span) kind_spans instr_spans layer

pub end_of_spans : (slot : Slot) → spans_at (kinds.End slot) ≡ []
unfolding spans_of spans_at roll-SlotKind denote.Hole.Carrier.roll
end_of_spans slot =
    let layer : Layer = SlotKind-F.End slot in fold-roll-SlotKind (List Span) (List Span) kind_spans instr_spans layer

pub if_spans : (a b : List SlotInstr) → spans_at (kinds.If a b) ≡ code_spans a ++ code_spans b
unfolding spans_of spans_at roll-SlotKind denote.Hole.Carrier.roll
if_spans a b =
    let layer : Layer = SlotKind-F.If a b in fold-roll-SlotKind (List Span) (List Span) kind_spans instr_spans layer
