-- What each kind of statement is to those around it, by its line in the definition.
use Rattle.std.proofs.Common.{◌≡◌, Bool, List, [], ◌∷◌, map, ap}
use Rattle.std.specs.Prelude.{Option, Some, None, unwrap_or}
use Rattle.cash_base.specs.declared.place.Slot.{Slot}
use Rattle.cash_base.specs.declared.place.Span.{Span}
use Rattle.cash_tree.specs.declared.Ty.{Ty}
use Rattle.cash_tree.specs.declared.Param.{Param}
use Rattle.cash_tree.specs.declared.Stmt.{Stmt}
use Rattle.cash_tree.specs.declared.StmtKind.{StmtKind}
use Rattle.cash_tree.specs.declared.StmtKind.TheVariants as stmts
use Rattle.cash_tree.specs.declared.StmtKind.TheOpen.{StmtKind-F, Stmt-F}
use Rattle.cash_tree.specs.declared.StmtKind.TheViews.{roll-StmtKind}
use Rattle.cash_tree.specs.declared.StmtKind.TheFolds.{fold-roll-Stmt, fold-roll-StmtKind}
use Rattle.type_tables.specs.Tables.{TypedExpr}
use Rattle.lowered_names.specs.Names.{Part, part, part_of, part_at, parts_of, kind_part, stmt_part, reads, either, all_read, no_points, both_points, point}

abbrev pub TypedStmt : Type 0
TypedStmt = Stmt Slot Ty

abbrev Layer : Type 0
Layer = StmtKind-F Slot Ty (StmtKind Slot Ty) TypedStmt

abbrev Whole : Type 0
Whole = Stmt-F Slot Ty (StmtKind Slot Ty) TypedStmt

pub whole_part : (s : TypedStmt) → part_of s ≡ part (part_at s.kind).reads (part_at s.kind).defines (λ around. point s.span (part_at s.kind) around ∷ (part_at s.kind).points around)
unfolding part_of part_at
whole_part s =
    let layer : Whole = record { kind = s.kind; span = s.span } in
    fold-roll-Stmt Slot Ty Part Part kind_part stmt_part layer

pub define_part : (t : Ty) (constant : Bool) (slot : Slot) (place : Span) (value : TypedExpr) → part_at (stmts.Define t constant slot place value) ≡ part (reads value) (slot ∷ []) no_points
unfolding part_of part_at roll-StmtKind denote.Hole.Carrier.roll
define_part t constant slot place value =
    let layer : Layer = StmtKind-F.Define t constant slot place value in fold-roll-StmtKind Slot Ty Part Part kind_part stmt_part layer

pub pair_part : (left right : Param Slot) (value : TypedExpr) → part_at (stmts.Pair left right value) ≡ part (reads value) (left.name ∷ right.name ∷ []) no_points
unfolding part_of part_at roll-StmtKind denote.Hole.Carrier.roll
pair_part left right value =
    let layer : Layer = StmtKind-F.Pair left right value in fold-roll-StmtKind Slot Ty Part Part kind_part stmt_part layer

pub assign_part : (slot : Slot) (value : TypedExpr) → part_at (stmts.Assign slot value) ≡ part (reads value) [] no_points
unfolding part_of part_at roll-StmtKind denote.Hole.Carrier.roll
assign_part slot value =
    let layer : Layer = StmtKind-F.Assign slot value in fold-roll-StmtKind Slot Ty Part Part kind_part stmt_part layer

pub time_part : (value : TypedExpr) → part_at (stmts.Time value) ≡ part (reads value) [] no_points
unfolding part_of part_at roll-StmtKind denote.Hole.Carrier.roll
time_part value =
    let layer : Layer = StmtKind-F.Time value in fold-roll-StmtKind Slot Ty Part Part kind_part stmt_part layer

pub age_part : (value : TypedExpr) → part_at (stmts.Age value) ≡ part (reads value) [] no_points
unfolding part_of part_at roll-StmtKind denote.Hole.Carrier.roll
age_part value =
    let layer : Layer = StmtKind-F.Age value in fold-roll-StmtKind Slot Ty Part Part kind_part stmt_part layer

pub require_part : (value : TypedExpr) → part_at (stmts.Require value) ≡ part (reads value) [] no_points
unfolding part_of part_at roll-StmtKind denote.Hole.Carrier.roll
require_part value =
    let layer : Layer = StmtKind-F.Require value in fold-roll-StmtKind Slot Ty Part Part kind_part stmt_part layer

-- a choice of two blocks, of which one may be missing
abbrev pub choice_part : TypedExpr → List Part → List Part → Part
choice_part test yes_block no_block = part (either (reads test) (either (all_read yes_block) (all_read no_block))) [] (both_points yes_block no_block)

pub if_part : (test : TypedExpr) (ss : List TypedStmt) (o : Option (List TypedStmt)) → part_at (stmts.If test ss o) ≡ choice_part test (parts_of ss) (parts_of (unwrap_or o []))
unfolding part_of part_at roll-StmtKind denote.Hole.Carrier.roll
if_part test ss None =
    let layer : Layer = StmtKind-F.If test ss None in fold-roll-StmtKind Slot Ty Part Part kind_part stmt_part layer
if_part test ss (Some us) =
    let layer : Layer = StmtKind-F.If test ss (Some us) in fold-roll-StmtKind Slot Ty Part Part kind_part stmt_part layer
