-- The spans of each kind of statement, by its line in the definition.
use Rattle.std.proofs.Common.{◌≡◌, Bool, List, [], ◌∷◌, ◌++◌, map}
use Rattle.std.specs.Prelude.{Some, None}
use Rattle.cash_base.specs.declared.place.Span.{Span}
use Rattle.cash_base.specs.declared.place.Slot.{Slot}
use Rattle.cash_tree.specs.declared.Ty.{Ty}
use Rattle.cash_tree.specs.declared.Param.{Param}
use Rattle.cash_tree.specs.declared.Stmt.{Stmt}
use Rattle.cash_tree.specs.declared.StmtKind.{StmtKind}
use Rattle.cash_tree.specs.declared.StmtKind.TheVariants as stmts
use Rattle.cash_tree.specs.declared.StmtKind.TheOpen.{StmtKind-F, Stmt-F}
use Rattle.cash_tree.specs.declared.StmtKind.TheViews.{roll-StmtKind}
use Rattle.cash_tree.specs.declared.StmtKind.TheFolds.{fold-roll-Stmt, fold-roll-StmtKind}
use Rattle.cash_tree.specs.Nodes.{joined}
use Rattle.cash_tree.specs.Spans.{nothing as no_name, statement_kind_spans, stmt_spans}
use Rattle.type_tables.specs.Tables.{TypedExpr}
use Rattle.slot_expressions.specs.Spans.{own_spans as value_spans}
use Rattle.slot_lowering.specs.Spans.{own_spans, own_spans_at}

abbrev TypedStmt : Type 0
TypedStmt = Stmt Slot Ty

abbrev Layer : Type 0
Layer = StmtKind-F Slot Ty (StmtKind Slot Ty) TypedStmt

abbrev Whole : Type 0
Whole = Stmt-F Slot Ty (StmtKind Slot Ty) TypedStmt

pub whole_spanned : (s : TypedStmt) → own_spans s ≡ s.span ∷ own_spans_at s.kind
unfolding own_spans own_spans_at
whole_spanned s =
    let layer : Whole = record { kind = s.kind; span = s.span } in
    fold-roll-Stmt Slot Ty (List Span) (List Span) (statement_kind_spans no_name) stmt_spans layer

pub define_spanned : (t : Ty) (constant : Bool) (slot : Slot) (place : Span) (value : TypedExpr) → own_spans_at (stmts.Define t constant slot place value) ≡ place ∷ value_spans value
unfolding own_spans own_spans_at value_spans roll-StmtKind denote.Hole.Carrier.roll
define_spanned t constant slot place value =
    let layer : Layer = StmtKind-F.Define t constant slot place value in
    fold-roll-StmtKind Slot Ty (List Span) (List Span) (statement_kind_spans no_name) stmt_spans layer

pub pair_spanned : (left right : Param Slot) (value : TypedExpr) → own_spans_at (stmts.Pair left right value) ≡ left.place ∷ right.place ∷ value_spans value
unfolding own_spans own_spans_at value_spans roll-StmtKind denote.Hole.Carrier.roll
pair_spanned left right value =
    let layer : Layer = StmtKind-F.Pair left right value in
    fold-roll-StmtKind Slot Ty (List Span) (List Span) (statement_kind_spans no_name) stmt_spans layer

pub assign_spanned : (slot : Slot) (value : TypedExpr) → own_spans_at (stmts.Assign slot value) ≡ value_spans value
unfolding own_spans own_spans_at value_spans roll-StmtKind denote.Hole.Carrier.roll
assign_spanned slot value =
    let layer : Layer = StmtKind-F.Assign slot value in
    fold-roll-StmtKind Slot Ty (List Span) (List Span) (statement_kind_spans no_name) stmt_spans layer

pub time_spanned : (value : TypedExpr) → own_spans_at (stmts.Time value) ≡ value_spans value
unfolding own_spans own_spans_at value_spans roll-StmtKind denote.Hole.Carrier.roll
time_spanned value =
    let layer : Layer = StmtKind-F.Time value in
    fold-roll-StmtKind Slot Ty (List Span) (List Span) (statement_kind_spans no_name) stmt_spans layer

pub age_spanned : (value : TypedExpr) → own_spans_at (stmts.Age value) ≡ value_spans value
unfolding own_spans own_spans_at value_spans roll-StmtKind denote.Hole.Carrier.roll
age_spanned value =
    let layer : Layer = StmtKind-F.Age value in
    fold-roll-StmtKind Slot Ty (List Span) (List Span) (statement_kind_spans no_name) stmt_spans layer

pub require_spanned : (value : TypedExpr) → own_spans_at (stmts.Require value) ≡ value_spans value
unfolding own_spans own_spans_at value_spans roll-StmtKind denote.Hole.Carrier.roll
require_spanned value =
    let layer : Layer = StmtKind-F.Require value in
    fold-roll-StmtKind Slot Ty (List Span) (List Span) (statement_kind_spans no_name) stmt_spans layer

pub if_only_spanned : (test : TypedExpr) (ss : List TypedStmt) → own_spans_at (stmts.If test ss None) ≡ value_spans test ++ (joined (map own_spans ss) ++ [])
unfolding own_spans own_spans_at value_spans roll-StmtKind denote.Hole.Carrier.roll
if_only_spanned test ss =
    let layer : Layer = StmtKind-F.If test ss None in
    fold-roll-StmtKind Slot Ty (List Span) (List Span) (statement_kind_spans no_name) stmt_spans layer

pub if_else_spanned : (test : TypedExpr) (ss us : List TypedStmt) → own_spans_at (stmts.If test ss (Some us)) ≡ value_spans test ++ (joined (map own_spans ss) ++ joined (map own_spans us))
unfolding own_spans own_spans_at value_spans roll-StmtKind denote.Hole.Carrier.roll
if_else_spanned test ss us =
    let layer : Layer = StmtKind-F.If test ss (Some us) in
    fold-roll-StmtKind Slot Ty (List Span) (List Span) (statement_kind_spans no_name) stmt_spans layer
