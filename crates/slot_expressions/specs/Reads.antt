-- Which slots an expression reads, in the order of the text, and which rows of slot code read them.
use Rattle.std.specs.Prelude.{◌≡◌, if◌then◌else◌, List, [], ◌∷◌, ◌++◌, map, Option, Some, None}
use Rattle.cash_base.specs.declared.place.Span.{Span}
use Rattle.cash_base.specs.declared.place.Slot.{Slot}
use Rattle.cash_tree.specs.declared.Ty.{Ty}
use Rattle.cash_tree.specs.declared.Callee.{Callee}
use Rattle.cash_tree.specs.declared.Callee.TheVariants.{Known, Unknown}
use Rattle.cash_tree.specs.declared.Expr.{Expr}
use Rattle.cash_tree.specs.declared.ExprKind.{ExprKind}
use Rattle.cash_tree.specs.declared.ExprKind.TheOpen.{ExprKind-F, Expr-F}
use Rattle.cash_tree.specs.declared.ExprKind.TheFolds.{fold-Expr, fold-ExprKind}
use Rattle.cash_tree.specs.Nodes.{joined}
use Rattle.form_tables.specs.declared.forms.CallForm.{CallForm}
use Rattle.form_tables.specs.declared.forms.CallForm.TheVariants as forms
use Rattle.form_tables.specs.Forms.{call_form}
use Rattle.slot_code.specs.declared.slots.SlotInstr.{SlotInstr}
use Rattle.slot_code.specs.declared.slots.SlotKind.{SlotKind}
use Rattle.slot_code.specs.declared.slots.SlotKind.TheOpen.{SlotKind-F, SlotInstr-F}
use Rattle.slot_code.specs.declared.slots.SlotKind.TheFolds.{fold-SlotKind}
use Rattle.slot_code.specs.Shape.{is_span}

-- ---- expressions

-- what an expression reads, and what the items of an array read; what is no array has none
pub record Named : Type 0 where
  pub own : List Slot
  pub items : List Slot

abbrev pub owns : List Named → List Slot
owns nodes = joined (map (λ (n : Named). n.own) nodes)

abbrev pub all_items : List Named → List Slot
all_items nodes = joined (map (λ (n : Named). n.items) nodes)

-- where a form takes arrays, their items are read
abbrev pub form_names : CallForm → List Named → List Slot
form_names forms.CheckMulti args = all_items args
form_names forms.HoldsData args = all_items args
form_names _ args = owns args

abbrev pub call_names : Callee → List Named → List Slot
call_names (Known f) args = form_names (call_form f) args
call_names (Unknown name) args = []

-- a name reads its slot, and any other expression what its parts read
abbrev pub kind_names : ExprKind-F Slot Ty Named Named → List Slot
kind_names (ExprKind-F.Name slot) = slot ∷ []
kind_names (ExprKind-F.Unary op a) = a.own
kind_names (ExprKind-F.Binary op a b) = a.own ++ b.own
kind_names (ExprKind-F.Length a) = a.own
kind_names (ExprKind-F.Reverse a) = a.own
kind_names (ExprKind-F.Split a b) = a.own ++ b.own
kind_names (ExprKind-F.Index a number) = a.own
kind_names (ExprKind-F.Cast to a None) = a.own
kind_names (ExprKind-F.Cast to a (Some b)) = a.own ++ b.own
kind_names (ExprKind-F.Call callee args) = call_names callee args
kind_names (ExprKind-F.New callee args) = call_names callee args
kind_names (ExprKind-F.LookAt what a) = a.own
kind_names _ = []

abbrev pub kind_items : ExprKind-F Slot Ty Named Named → List Slot
kind_items (ExprKind-F.Array items) = owns items
kind_items _ = []

abbrev pub kind_step : ExprKind-F Slot Ty Named Named → Named
kind_step kind = record { own = kind_names kind; items = kind_items kind }

abbrev pub node_step : Expr-F Slot Ty Named Named → Named
node_step e = e.kind

unfoldable pub named : Expr Slot Ty → Named
named e = fold-Expr Slot Ty Named Named kind_step node_step e

unfoldable pub named_kind : ExprKind Slot Ty → Named
named_kind kind = fold-ExprKind Slot Ty Named Named kind_step node_step kind

-- the slots that an expression reads, and those that one of this kind does
abbrev pub names_in : Expr Slot Ty → List Slot
names_in e = (named e).own

unfoldable pub names_at : ExprKind Slot Ty → List Slot
names_at kind = (named_kind kind).own

-- ... and those that the items of an array do
abbrev pub item_names : Expr Slot Ty → List Slot
item_names e = (named e).items

unfoldable pub item_names_at : ExprKind Slot Ty → List Slot
item_names_at kind = (named_kind kind).items

-- ---- rows

-- one after the other, where both are known
abbrev pub in_turn : Option (List Slot) → Option (List Slot) → Option (List Slot)
in_turn None b = None
in_turn (Some a) None = None
in_turn (Some a) (Some b) = Some (a ++ b)

-- the slots that an instruction of a value reads; other instructions have none
abbrev pub kind_gets : SlotKind-F (Option (List Slot)) (Option (List Slot)) → Option (List Slot)
kind_gets (SlotKind-F.Get slot) = Some (slot ∷ [])
kind_gets SlotKind-F.Time = None
kind_gets SlotKind-F.Age = None
kind_gets SlotKind-F.Require = None
kind_gets (SlotKind-F.Define slot) = None
kind_gets (SlotKind-F.DefinePair left right) = None
kind_gets (SlotKind-F.Assign slot) = None
kind_gets (SlotKind-F.End slot) = None
kind_gets (SlotKind-F.If a b) = None
kind_gets _ = Some []

abbrev pub instr_gets : SlotInstr-F (Option (List Slot)) (Option (List Slot)) → Option (List Slot)
instr_gets instr = instr.kind

unfoldable pub gets_at : SlotKind → Option (List Slot)
gets_at kind = fold-SlotKind (Option (List Slot)) (Option (List Slot)) kind_gets instr_gets kind

-- a row of the statement at this span
abbrev pub row_gets : Span → SlotInstr → Option (List Slot)
row_gets checking row = if is_span checking row.checking then gets_at row.kind else None

abbrev pub all_gets : Span → List SlotInstr → Option (List Slot)
all_gets checking [] = Some []
all_gets checking (row ∷ rows) = in_turn (row_gets checking row) (all_gets checking rows)

-- The rows are instructions of values, each with this checking span, and read these slots, in order.
pub record Gets (rows : List SlotInstr) (checking : Span) (names : List Slot) : Type 0 where
  pub is : all_gets checking rows ≡ Some names
