-- Which spans stand in the code of an expression.
use Rattle.std.specs.Prelude.{◌≡◌, Bool, true, List}
use Rattle.std.specs.List.{list_all}
use Rattle.cash_base.specs.declared.place.Span.{Span}
use Rattle.cash_base.specs.declared.place.Slot.{Slot}
use Rattle.cash_tree.specs.declared.Ty.{Ty}
use Rattle.cash_tree.specs.declared.Expr.{Expr}
use Rattle.cash_tree.specs.declared.ExprKind.{ExprKind}
use Rattle.cash_tree.specs.declared.ExprKind.TheFolds.{fold-ExprKind}
use Rattle.cash_tree.specs.Spans.{nothing as no_name, expression_kind_spans, node_spans, expression_spans}
use Rattle.slot_code.specs.declared.slots.SlotInstr.{SlotInstr}
use Rattle.slot_code.specs.Spans.{code_spans}

-- those of an expression, in whose tree a slot has none
unfoldable pub own_spans : Expr Slot Ty → List Span
own_spans e = expression_spans no_name e

unfoldable pub own_spans_at : ExprKind Slot Ty → List Span
own_spans_at kind = fold-ExprKind Slot Ty (List Span) (List Span) (expression_kind_spans no_name) node_spans kind

-- Each span of the rows is the checking one or one of these: a test that holds of them holds of all in the rows.
pub record SpannedBy (rows : List SlotInstr) (checking : Span) (own : List Span) : Type 0 where
  pub all : (test : Span → Bool) → test checking ≡ true → list_all test own ≡ true → list_all test (code_spans rows) ≡ true
