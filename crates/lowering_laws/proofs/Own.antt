-- When the values of each kind of statement are ready, by its line in the definition.
use Rattle.std.proofs.Common.{◌≡◌, Bool, true, List, map}
use Rattle.std.specs.Prelude.{Some, None, ◌&&◌}
use Rattle.cash_base.specs.declared.place.Span.{Span}
use Rattle.cash_base.specs.declared.place.Slot.{Slot}
use Rattle.cash_tree.specs.declared.Ty.{Ty}
use Rattle.cash_tree.specs.declared.Param.{Param}
use Rattle.cash_tree.specs.declared.Stmt.{Stmt}
use Rattle.cash_tree.specs.declared.StmtKind.{StmtKind}
use Rattle.cash_tree.specs.declared.StmtKind.TheVariants as stmts
use Rattle.cash_tree.specs.declared.StmtKind.TheOpen.{StmtKind-F, Stmt-F}
use Rattle.cash_tree.specs.declared.StmtKind.TheViews.{roll-StmtKind}
use Rattle.cash_tree.specs.declared.StmtKind.TheFolds.{fold-roll-Stmt, fold-roll-StmtKind}
use Rattle.type_tables.specs.Tables.{TypedExpr}
use Rattle.source_meaning.specs.Runnable.{all_of}
use Rattle.slot_expressions.specs.Ready.{any_name, is_ready}
use Rattle.slot_lowering.specs.Scoped.{is_split, kind_ready, stmt_ready, has_values, has_values_kind}

abbrev TypedStmt : Type 0
TypedStmt = Stmt Slot Ty

abbrev Layer : Type 0
Layer = StmtKind-F Slot Ty (StmtKind Slot Ty) TypedStmt

abbrev Whole : Type 0
Whole = Stmt-F Slot Ty (StmtKind Slot Ty) TypedStmt

-- ---- the lines of the definition

pub whole_is : (s : TypedStmt) → has_values s ≡ has_values_kind s.kind
unfolding has_values has_values_kind
whole_is s =
    let layer : Whole = record { kind = s.kind; span = s.span } in fold-roll-Stmt Slot Ty Bool Bool kind_ready stmt_ready layer

pub define_is : (t : Ty) (constant : Bool) (slot : Slot) (place : Span) (value : TypedExpr) → has_values_kind (stmts.Define t constant slot place value) ≡ is_ready any_name value
unfolding has_values has_values_kind roll-StmtKind denote.Hole.Carrier.roll
define_is t constant slot place value =
    let layer : Layer = StmtKind-F.Define t constant slot place value in fold-roll-StmtKind Slot Ty Bool Bool kind_ready stmt_ready layer

pub pair_is : (left right : Param Slot) (value : TypedExpr) → has_values_kind (stmts.Pair left right value) ≡ (is_split value && is_ready any_name value)
unfolding has_values has_values_kind roll-StmtKind denote.Hole.Carrier.roll
pair_is left right value =
    let layer : Layer = StmtKind-F.Pair left right value in fold-roll-StmtKind Slot Ty Bool Bool kind_ready stmt_ready layer

pub assign_is : (slot : Slot) (value : TypedExpr) → has_values_kind (stmts.Assign slot value) ≡ is_ready any_name value
unfolding has_values has_values_kind roll-StmtKind denote.Hole.Carrier.roll
assign_is slot value =
    let layer : Layer = StmtKind-F.Assign slot value in fold-roll-StmtKind Slot Ty Bool Bool kind_ready stmt_ready layer

pub time_is : (value : TypedExpr) → has_values_kind (stmts.Time value) ≡ is_ready any_name value
unfolding has_values has_values_kind roll-StmtKind denote.Hole.Carrier.roll
time_is value =
    let layer : Layer = StmtKind-F.Time value in fold-roll-StmtKind Slot Ty Bool Bool kind_ready stmt_ready layer

pub age_is : (value : TypedExpr) → has_values_kind (stmts.Age value) ≡ is_ready any_name value
unfolding has_values has_values_kind roll-StmtKind denote.Hole.Carrier.roll
age_is value =
    let layer : Layer = StmtKind-F.Age value in fold-roll-StmtKind Slot Ty Bool Bool kind_ready stmt_ready layer

pub require_is : (value : TypedExpr) → has_values_kind (stmts.Require value) ≡ is_ready any_name value
unfolding has_values has_values_kind roll-StmtKind denote.Hole.Carrier.roll
require_is value =
    let layer : Layer = StmtKind-F.Require value in fold-roll-StmtKind Slot Ty Bool Bool kind_ready stmt_ready layer

pub if_only_is : (test : TypedExpr) (ss : List TypedStmt) → has_values_kind (stmts.If test ss None) ≡ (is_ready any_name test && (all_of (map has_values ss) && true))
unfolding has_values has_values_kind roll-StmtKind denote.Hole.Carrier.roll
if_only_is test ss =
    let layer : Layer = StmtKind-F.If test ss None in fold-roll-StmtKind Slot Ty Bool Bool kind_ready stmt_ready layer

pub if_else_is : (test : TypedExpr) (ss us : List TypedStmt) → has_values_kind (stmts.If test ss (Some us)) ≡ (is_ready any_name test && (all_of (map has_values ss) && all_of (map has_values us)))
unfolding has_values has_values_kind roll-StmtKind denote.Hole.Carrier.roll
if_else_is test ss us =
    let layer : Layer = StmtKind-F.If test ss (Some us) in fold-roll-StmtKind Slot Ty Bool Bool kind_ready stmt_ready layer
