-- What each kind of statement defines, when it is as it should be, and whether it ends a path, by its line in the definition.
use Rattle.std.proofs.Common.{◌≡◌, Bool, true, false, List, [], ◌∷◌, ◌++◌, map}
use Rattle.std.specs.Prelude.{Some, None, ◌&&◌}
use Rattle.cash_base.specs.declared.place.Span.{Span}
use Rattle.cash_base.specs.declared.place.Slot.{Slot}
use Rattle.cash_tree.specs.declared.Ty.{Ty}
use Rattle.cash_tree.specs.declared.Param.{Param}
use Rattle.cash_tree.specs.declared.Stmt.{Stmt}
use Rattle.cash_tree.specs.declared.StmtKind.{StmtKind}
use Rattle.cash_tree.specs.declared.StmtKind.TheVariants as stmts
use Rattle.cash_tree.specs.declared.StmtKind.TheOpen.{StmtKind-F, Stmt-F}
use Rattle.cash_tree.specs.declared.StmtKind.TheViews.{roll-StmtKind}
use Rattle.cash_tree.specs.declared.StmtKind.TheFolds.{fold-roll-Stmt, fold-roll-StmtKind}
use Rattle.type_tables.specs.Tables.{TypedExpr}
use Rattle.slot_code.specs.Shape.{has}
use Rattle.slot_lowering.specs.Scoped.{Part, part, value_scoped, is_new, is_split, all_scoped, kind_part, stmt_part, part_of, part_of_kind, last_of, kind_ends, stmt_ends, may_end, may_end_kind}

abbrev TypedStmt : Type 0
TypedStmt = Stmt Slot Ty

abbrev Layer : Type 0
Layer = StmtKind-F Slot Ty (StmtKind Slot Ty) TypedStmt

abbrev Whole : Type 0
Whole = Stmt-F Slot Ty (StmtKind Slot Ty) TypedStmt

pub whole_part : (s : TypedStmt) → part_of s ≡ part_of_kind s.kind
unfolding part_of part_of_kind
whole_part s =
    let layer : Whole = record { kind = s.kind; span = s.span } in fold-roll-Stmt Slot Ty Part Part kind_part stmt_part layer

pub whole_ends : (s : TypedStmt) → may_end s ≡ may_end_kind s.kind
unfolding may_end may_end_kind
whole_ends s =
    let layer : Whole = record { kind = s.kind; span = s.span } in fold-roll-Stmt Slot Ty Bool Bool kind_ends stmt_ends layer

pub define_part : (t : Ty) (constant : Bool) (slot : Slot) (place : Span) (value : TypedExpr) → part_of_kind (stmts.Define t constant slot place value) ≡ part (slot ∷ []) (λ slots. value_scoped value slots && is_new slot slots)
unfolding part_of part_of_kind roll-StmtKind denote.Hole.Carrier.roll
define_part t constant slot place value =
    let layer : Layer = StmtKind-F.Define t constant slot place value in fold-roll-StmtKind Slot Ty Part Part kind_part stmt_part layer

pub pair_part : (left right : Param Slot) (value : TypedExpr) → part_of_kind (stmts.Pair left right value) ≡ part (left.name ∷ right.name ∷ []) (λ slots. is_split value && (value_scoped value slots && (is_new left.name slots && is_new right.name (slots ++ left.name ∷ []))))
unfolding part_of part_of_kind roll-StmtKind denote.Hole.Carrier.roll
pair_part left right value =
    let layer : Layer = StmtKind-F.Pair left right value in fold-roll-StmtKind Slot Ty Part Part kind_part stmt_part layer

pub assign_part : (slot : Slot) (value : TypedExpr) → part_of_kind (stmts.Assign slot value) ≡ part [] (λ slots. value_scoped value slots && has slot slots)
unfolding part_of part_of_kind roll-StmtKind denote.Hole.Carrier.roll
assign_part slot value =
    let layer : Layer = StmtKind-F.Assign slot value in fold-roll-StmtKind Slot Ty Part Part kind_part stmt_part layer

pub time_part : (value : TypedExpr) → part_of_kind (stmts.Time value) ≡ part [] (value_scoped value)
unfolding part_of part_of_kind roll-StmtKind denote.Hole.Carrier.roll
time_part value =
    let layer : Layer = StmtKind-F.Time value in fold-roll-StmtKind Slot Ty Part Part kind_part stmt_part layer

pub age_part : (value : TypedExpr) → part_of_kind (stmts.Age value) ≡ part [] (value_scoped value)
unfolding part_of part_of_kind roll-StmtKind denote.Hole.Carrier.roll
age_part value =
    let layer : Layer = StmtKind-F.Age value in fold-roll-StmtKind Slot Ty Part Part kind_part stmt_part layer

pub require_part : (value : TypedExpr) → part_of_kind (stmts.Require value) ≡ part [] (value_scoped value)
unfolding part_of part_of_kind roll-StmtKind denote.Hole.Carrier.roll
require_part value =
    let layer : Layer = StmtKind-F.Require value in fold-roll-StmtKind Slot Ty Part Part kind_part stmt_part layer

pub if_only_part : (test : TypedExpr) (ss : List TypedStmt) → part_of_kind (stmts.If test ss None) ≡ part [] (λ slots. value_scoped test slots && (all_scoped (map part_of ss) slots && true))
unfolding part_of part_of_kind roll-StmtKind denote.Hole.Carrier.roll
if_only_part test ss =
    let layer : Layer = StmtKind-F.If test ss None in fold-roll-StmtKind Slot Ty Part Part kind_part stmt_part layer

pub if_else_part : (test : TypedExpr) (ss us : List TypedStmt) → part_of_kind (stmts.If test ss (Some us)) ≡ part [] (λ slots. value_scoped test slots && (all_scoped (map part_of ss) slots && all_scoped (map part_of us) slots))
unfolding part_of part_of_kind roll-StmtKind denote.Hole.Carrier.roll
if_else_part test ss us =
    let layer : Layer = StmtKind-F.If test ss (Some us) in fold-roll-StmtKind Slot Ty Part Part kind_part stmt_part layer

pub define_ends : (t : Ty) (constant : Bool) (slot : Slot) (place : Span) (value : TypedExpr) → may_end_kind (stmts.Define t constant slot place value) ≡ (false)
unfolding may_end may_end_kind roll-StmtKind denote.Hole.Carrier.roll
define_ends t constant slot place value =
    let layer : Layer = StmtKind-F.Define t constant slot place value in fold-roll-StmtKind Slot Ty Bool Bool kind_ends stmt_ends layer

pub pair_ends : (left right : Param Slot) (value : TypedExpr) → may_end_kind (stmts.Pair left right value) ≡ (false)
unfolding may_end may_end_kind roll-StmtKind denote.Hole.Carrier.roll
pair_ends left right value =
    let layer : Layer = StmtKind-F.Pair left right value in fold-roll-StmtKind Slot Ty Bool Bool kind_ends stmt_ends layer

pub assign_ends : (slot : Slot) (value : TypedExpr) → may_end_kind (stmts.Assign slot value) ≡ (false)
unfolding may_end may_end_kind roll-StmtKind denote.Hole.Carrier.roll
assign_ends slot value =
    let layer : Layer = StmtKind-F.Assign slot value in fold-roll-StmtKind Slot Ty Bool Bool kind_ends stmt_ends layer

pub time_ends : (value : TypedExpr) → may_end_kind (stmts.Time value) ≡ (true)
unfolding may_end may_end_kind roll-StmtKind denote.Hole.Carrier.roll
time_ends value =
    let layer : Layer = StmtKind-F.Time value in fold-roll-StmtKind Slot Ty Bool Bool kind_ends stmt_ends layer

pub age_ends : (value : TypedExpr) → may_end_kind (stmts.Age value) ≡ (true)
unfolding may_end may_end_kind roll-StmtKind denote.Hole.Carrier.roll
age_ends value =
    let layer : Layer = StmtKind-F.Age value in fold-roll-StmtKind Slot Ty Bool Bool kind_ends stmt_ends layer

pub require_ends : (value : TypedExpr) → may_end_kind (stmts.Require value) ≡ (true)
unfolding may_end may_end_kind roll-StmtKind denote.Hole.Carrier.roll
require_ends value =
    let layer : Layer = StmtKind-F.Require value in fold-roll-StmtKind Slot Ty Bool Bool kind_ends stmt_ends layer

pub if_only_ends : (test : TypedExpr) (ss : List TypedStmt) → may_end_kind (stmts.If test ss None) ≡ (last_of false (map may_end ss) && true)
unfolding may_end may_end_kind roll-StmtKind denote.Hole.Carrier.roll
if_only_ends test ss =
    let layer : Layer = StmtKind-F.If test ss None in fold-roll-StmtKind Slot Ty Bool Bool kind_ends stmt_ends layer

pub if_else_ends : (test : TypedExpr) (ss us : List TypedStmt) → may_end_kind (stmts.If test ss (Some us)) ≡ (last_of false (map may_end ss) && last_of false (map may_end us))
unfolding may_end may_end_kind roll-StmtKind denote.Hole.Carrier.roll
if_else_ends test ss us =
    let layer : Layer = StmtKind-F.If test ss (Some us) in fold-roll-StmtKind Slot Ty Bool Bool kind_ends stmt_ends layer
