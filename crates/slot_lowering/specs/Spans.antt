-- Which spans stand in the slot code of statements.
use Rattle.std.specs.Prelude.{◌≡◌, Bool, true, List}
use Rattle.std.specs.List.{list_all}
use Rattle.cash_base.specs.declared.place.Span.{Span}
use Rattle.cash_base.specs.declared.place.Slot.{Slot}
use Rattle.cash_tree.specs.declared.Ty.{Ty}
use Rattle.cash_tree.specs.declared.Stmt.{Stmt}
use Rattle.cash_tree.specs.declared.StmtKind.{StmtKind}
use Rattle.cash_tree.specs.declared.StmtKind.TheFolds.{fold-StmtKind}
use Rattle.cash_tree.specs.Spans.{nothing as no_name, statement_kind_spans, stmt_spans, statement_spans}
use Rattle.slot_code.specs.declared.slots.SlotInstr.{SlotInstr}
use Rattle.slot_code.specs.Spans.{code_spans}

-- those of a statement, in whose tree a slot has none
unfoldable pub own_spans : Stmt Slot Ty → List Span
own_spans s = statement_spans no_name s

unfoldable pub own_spans_at : StmtKind Slot Ty → List Span
own_spans_at kind = fold-StmtKind Slot Ty (List Span) (List Span) (statement_kind_spans no_name) stmt_spans kind

-- Each span of the rows is one of these: a test that holds of them holds of all in the rows.
pub record SpansAmong (rows : List SlotInstr) (own : List Span) : Type 0 where
  pub all : (test : Span → Bool) → list_all test own ≡ true → list_all test (code_spans rows) ≡ true
