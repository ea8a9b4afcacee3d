-- Which slots the rows of a value read, row by row.
use Rattle.std.proofs.Common.{◌≡◌, ℕ, Bool, true, List, [], ◌∷◌, ◌++◌, refl, sym, ap, ◌∙◌, arith, append_assoc}
use Rattle.std.specs.Prelude.{Option, Some, None, if◌then◌else◌}
use Rattle.std.proofs.lemmas.List.{append-nil}
use Rattle.std.proofs.lemmas.Bool.Decides.{nat_tests}
use Rattle.arrayvec.specs.ArrayVec.{ArrayVec}
use Rattle.cash_base.specs.declared.place.Span.{Span}
use Rattle.cash_base.specs.declared.place.Slot.{Slot}
use Rattle.cash_base.specs.declared.look.Look0.{Look0}
use Rattle.cash_base.specs.declared.look.LookAt.{LookAt}
use Rattle.element_ops.specs.declared.op.Op1.{Op1}
use Rattle.element_ops.specs.declared.op.Op2.{Op2}
use Rattle.element_ops.specs.declared.op.Op3.{Op3}
use Rattle.slot_code.specs.declared.slots.SlotInstr.{SlotInstr}
use Rattle.slot_code.specs.declared.slots.SlotKind.{SlotKind}
use Rattle.slot_code.specs.declared.slots.SlotKind.TheVariants as kinds
use Rattle.slot_code.specs.declared.slots.SlotKind.TheOpen.{SlotKind-F}
use Rattle.slot_code.specs.declared.slots.SlotKind.TheViews.{roll-SlotKind}
use Rattle.slot_code.specs.declared.slots.SlotKind.TheFolds.{fold-roll-SlotKind}
use Rattle.slot_code.specs.Shape.{is_span}
use Rattle.slot_expressions.specs.Pieces.{instruction}
use Rattle.slot_expressions.specs.Reads.{Gets, all_gets, row_gets, gets_at, in_turn, kind_gets, instr_gets}

abbrev Slots : Type 0
Slots = Option (List Slot)

abbrev Layer : Type 0
Layer = SlotKind-F SlotKind SlotInstr

-- ---- each kind of instruction

pub lit_gets : (e : ArrayVec ℕ) → gets_at (kinds.Lit e) ≡ Some []
unfolding gets_at roll-SlotKind denote.Hole.Carrier.roll
lit_gets e =
    let layer : Layer = SlotKind-F.Lit e in fold-roll-SlotKind Slots Slots kind_gets instr_gets layer

pub get_gets : (slot : Slot) → gets_at (kinds.Get slot) ≡ Some (slot ∷ [])
unfolding gets_at roll-SlotKind denote.Hole.Carrier.roll
get_gets slot =
    let layer : Layer = SlotKind-F.Get slot in fold-roll-SlotKind Slots Slots kind_gets instr_gets layer

pub do1_gets : (op : Op1) → gets_at (kinds.Do1 op) ≡ Some []
unfolding gets_at roll-SlotKind denote.Hole.Carrier.roll
do1_gets op =
    let layer : Layer = SlotKind-F.Do1 op in fold-roll-SlotKind Slots Slots kind_gets instr_gets layer

pub do2_gets : (op : Op2) → gets_at (kinds.Do2 op) ≡ Some []
unfolding gets_at roll-SlotKind denote.Hole.Carrier.roll
do2_gets op =
    let layer : Layer = SlotKind-F.Do2 op in fold-roll-SlotKind Slots Slots kind_gets instr_gets layer

pub do3_gets : (op : Op3) → gets_at (kinds.Do3 op) ≡ Some []
unfolding gets_at roll-SlotKind denote.Hole.Carrier.roll
do3_gets op =
    let layer : Layer = SlotKind-F.Do3 op in fold-roll-SlotKind Slots Slots kind_gets instr_gets layer

pub split_gets : gets_at kinds.Split ≡ Some []
unfolding gets_at roll-SlotKind denote.Hole.Carrier.roll
split_gets =
    let layer : Layer = SlotKind-F.Split in fold-roll-SlotKind Slots Slots kind_gets instr_gets layer

pub keep_gets : (right : Bool) → gets_at (kinds.Keep right) ≡ Some []
unfolding gets_at roll-SlotKind denote.Hole.Carrier.roll
keep_gets right =
    let layer : Layer = SlotKind-F.Keep right in fold-roll-SlotKind Slots Slots kind_gets instr_gets layer

pub look0_gets : (what : Look0) → gets_at (kinds.Look0 what) ≡ Some []
unfolding gets_at roll-SlotKind denote.Hole.Carrier.roll
look0_gets what =
    let layer : Layer = SlotKind-F.Look0 what in fold-roll-SlotKind Slots Slots kind_gets instr_gets layer

pub look_at_gets : (what : LookAt) → gets_at (kinds.LookAt what) ≡ Some []
unfolding gets_at roll-SlotKind denote.Hole.Carrier.roll
look_at_gets what =
    let layer : Layer = SlotKind-F.LookAt what in fold-roll-SlotKind Slots Slots kind_gets instr_gets layer

pub check_sig_gets : gets_at kinds.CheckSig ≡ Some []
unfolding gets_at roll-SlotKind denote.Hole.Carrier.roll
check_sig_gets =
    let layer : Layer = SlotKind-F.CheckSig in fold-roll-SlotKind Slots Slots kind_gets instr_gets layer

pub check_data_gets : gets_at kinds.CheckData ≡ Some []
unfolding gets_at roll-SlotKind denote.Hole.Carrier.roll
check_data_gets =
    let layer : Layer = SlotKind-F.CheckData in fold-roll-SlotKind Slots Slots kind_gets instr_gets layer

pub check_multi_gets : (sigs keys : ℕ) → gets_at (kinds.CheckMulti sigs keys) ≡ Some []
unfolding gets_at roll-SlotKind denote.Hole.Carrier.roll
check_multi_gets sigs keys =
    let layer : Layer = SlotKind-F.CheckMulti sigs keys in fold-roll-SlotKind Slots Slots kind_gets instr_gets layer

pub chunk_gets : gets_at kinds.Chunk ≡ Some []
unfolding gets_at roll-SlotKind denote.Hole.Carrier.roll
chunk_gets =
    let layer : Layer = SlotKind-F.Chunk in fold-roll-SlotKind Slots Slots kind_gets instr_gets layer

-- ---- one after the other

turn_none : (a : Slots) → in_turn (Some []) a ≡ a
turn_none None = refl
turn_none (Some a) = refl

turn_assoc : (a b c : Slots) → in_turn a (in_turn b c) ≡ in_turn (in_turn a b) c
turn_assoc None b c = refl
turn_assoc (Some a) None c = refl
turn_assoc (Some a) (Some b) None = refl
turn_assoc (Some a) (Some b) (Some c) = ap Some (sym (append_assoc a b c))

gets_append : (checking : Span) (a b : List SlotInstr) → all_gets checking (a ++ b) ≡ in_turn (all_gets checking a) (all_gets checking b)
gets_append checking [] b = sym (turn_none (all_gets checking b))
gets_append checking (i ∷ a) b =
    ap (in_turn (row_gets checking i)) (gets_append checking a b) ∙ turn_assoc (row_gets checking i) (all_gets checking a) (all_gets checking b)

pub same_span : (span : Span) → is_span span span ≡ true
same_span span = grind (arith, nat_tests)

-- ---- rows

pub gets_none : {checking : Span} → Gets [] checking []
gets_none = record { is = refl }

pub gets_as : {rows : List SlotInstr} {checking : Span} {a b : List Slot} → a ≡ b → Gets rows checking b → Gets rows checking a
gets_as same h = record { is = h.is ∙ ap Some (sym same) }

pub gets_both : {a b : List SlotInstr} {checking : Span} {x y : List Slot} → Gets a checking x → Gets b checking y → Gets (a ++ b) checking (x ++ y)
gets_both {a} {b} {checking} {x} {y} h t = record {
  is = gets_append checking a b ∙ ap (λ o. in_turn o (all_gets checking b)) h.is ∙ ap (in_turn (Some x)) t.is;
}

-- rows that read nothing more
pub gets_more : {a b : List SlotInstr} {checking : Span} {x : List Slot} → Gets a checking x → Gets b checking [] → Gets (a ++ b) checking x
gets_more {a} {b} {checking} {x} h t = gets_as (sym (append-nil x)) (gets_both h t)

pub gets_row : {names : List Slot} (kind : SlotKind) (doing checking : Span) → gets_at kind ≡ Some names → Gets (instruction kind doing checking ∷ []) checking names
gets_row {names} kind doing checking got = record {
  is = ap (λ b. in_turn (if b then gets_at kind else None) (Some [])) (same_span checking) ∙ ap (λ o. in_turn o (Some [])) got ∙ ap Some (append-nil names);
}

pub gets_then : {rows : List SlotInstr} {checking : Span} {names : List Slot} (kind : SlotKind) (doing : Span) → gets_at kind ≡ Some [] → Gets rows checking names → Gets (rows ++ instruction kind doing checking ∷ []) checking names
gets_then {rows} {checking} kind doing got h = gets_more h (gets_row kind doing checking got)
