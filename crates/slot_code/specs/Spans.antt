-- Every span that stands in slot code.
use Rattle.std.specs.Prelude.{List, [], ◌∷◌, ◌++◌, map}
use Rattle.cash_base.specs.declared.place.Span.{Span}
use Rattle.cash_tree.specs.Nodes.{joined}
use Rattle.slot_code.specs.declared.slots.SlotInstr.{SlotInstr}
use Rattle.slot_code.specs.declared.slots.SlotKind.{SlotKind}
use Rattle.slot_code.specs.declared.slots.SlotFunction.{SlotFunction}
use Rattle.slot_code.specs.declared.slots.SlotKind.TheOpen.{SlotKind-F, SlotInstr-F}
use Rattle.slot_code.specs.declared.slots.SlotKind.TheFolds.{fold-SlotKind, fold-SlotInstr}

abbrev pub kind_spans : SlotKind-F (List Span) (List Span) → List Span
kind_spans (SlotKind-F.If a b) = joined a ++ joined b
kind_spans _ = []

-- both of an instruction, and those in its blocks
abbrev pub instr_spans : SlotInstr-F (List Span) (List Span) → List Span
instr_spans instr = instr.doing ∷ instr.checking ∷ instr.kind

unfoldable pub spans_of : SlotInstr → List Span
spans_of = fold-SlotInstr (List Span) (List Span) kind_spans instr_spans

unfoldable pub spans_at : SlotKind → List Span
spans_at = fold-SlotKind (List Span) (List Span) kind_spans instr_spans

abbrev pub code_spans : List SlotInstr → List Span
code_spans body = joined (map spans_of body)

-- a function's own, and those of its body
abbrev pub slot_spans : SlotFunction → List Span
slot_spans f = f.span ∷ code_spans f.body
