-- Which names of a function are still to be read before each of its statements, and which are kept there, in words of the source.
use Rattle.std.specs.Prelude.{Bool, false, not, ◌&&◌, ◌||◌, List, [], ◌∷◌, ◌++◌, map, filter, Option, unwrap_or}
use Rattle.cash_base.specs.declared.place.Slot.{Slot}
use Rattle.cash_base.specs.declared.place.Span.{Span}
use Rattle.cash_tree.specs.declared.Ty.{Ty}
use Rattle.cash_tree.specs.declared.Param.{Param}
use Rattle.cash_tree.specs.declared.Contract.{Contract}
use Rattle.cash_tree.specs.declared.Function.{Function}
use Rattle.cash_tree.specs.declared.Expr.{Expr}
use Rattle.cash_tree.specs.declared.Stmt.{Stmt}
use Rattle.cash_tree.specs.declared.StmtKind.{StmtKind}
use Rattle.cash_tree.specs.declared.StmtKind.TheOpen.{StmtKind-F, Stmt-F}
use Rattle.cash_tree.specs.declared.StmtKind.TheFolds.{fold-Stmt, fold-StmtKind}
use Rattle.slot_code.specs.Shape.{has}
use Rattle.slot_expressions.specs.Reads.{names_in}

-- which names
abbrev pub Names : Type 0
Names = Slot → Bool

-- the names that a value reads
abbrev pub reads : Expr Slot Ty → Names
reads value slot = has slot (names_in value)

abbrev pub none : Names
none slot = false

abbrev pub either : Names → Names → Names
either a b slot = a slot || b slot

-- those of them that are in scope
abbrev pub within : List Slot → Names → Names
within scope names slot = has slot scope && names slot

-- ---- the points of a function

-- Just before a statement: the names in scope; those of them that some path from here reads, also behind an assignment; and those
-- that are kept.
pub record Point : Type 0 where
  pub statement : Span
  pub scope : List Slot
  pub live : List Slot
  pub kept : List Slot

-- what stands around: what the function reads anywhere, the names in scope, what the paths behind read, and what the other block
-- of some `if` around reads and the own block doesn't
pub record Around : Type 0 where
  pub function : Names
  pub scope : List Slot
  pub behind : Names
  pub other : Names

-- what a statement is to those around it: what it and its blocks read, the names that it defines, and its points
pub record Part : Type 0 where
  pub reads : Names
  pub defines : List Slot
  pub points : Around → List Point

abbrev pub part : Names → List Slot → (Around → List Point) → Part
part reads defines points = record { reads = reads; defines = defines; points = points }

abbrev pub no_points : Around → List Point
no_points around = []

-- what some path through these statements reads
abbrev pub all_read : List Part → Names
all_read [] slot = false
all_read (p ∷ parts) slot = p.reads slot || all_read parts slot

-- before a statement its names aren't in scope, and what follows it is behind it
abbrev pub at_first : List Part → Around → Around
at_first more around = record {
  function = around.function;
  scope = around.scope;
  behind = either (all_read more) around.behind;
  other = around.other;
}

abbrev pub at_rest : Part → Around → Around
at_rest p around = record {
  function = around.function;
  scope = around.scope ++ p.defines;
  behind = around.behind;
  other = around.other;
}

abbrev pub points_of : List Part → Around → List Point
points_of [] around = []
points_of (p ∷ more) around = p.points (at_first more around) ++ points_of more (at_rest p around)

-- read by the other block, and not by the own one
abbrev pub only_other : List Part → List Part → Names
only_other own other slot = all_read other slot && not (all_read own slot)

-- A name of a block ends with it, so behind the block only names that were in scope before it are read, and only those are held.
abbrev pub in_block : List Part → List Part → Around → Around
in_block own other around = record {
  function = around.function;
  scope = around.scope;
  behind = within around.scope around.behind;
  other = either around.other (within around.scope (only_other own other));
}

abbrev pub block_points : List Part → List Part → Around → List Point
block_points own other around = points_of own (in_block own other around)

abbrev pub both_points : List Part → List Part → Around → List Point
both_points yes_block no_block around = block_points yes_block no_block around ++ block_points no_block yes_block around

-- the points of a statement's blocks; a missing block reads nothing
abbrev pub kind_part : StmtKind-F Slot Ty Part Part → Part
kind_part (StmtKind-F.Define t constant slot place value) = part (reads value) (slot ∷ []) no_points
kind_part (StmtKind-F.Pair left right value) = part (reads value) (left.name ∷ right.name ∷ []) no_points
kind_part (StmtKind-F.Assign slot value) = part (reads value) [] no_points
kind_part (StmtKind-F.Time value) = part (reads value) [] no_points
kind_part (StmtKind-F.Age value) = part (reads value) [] no_points
kind_part (StmtKind-F.Require value) = part (reads value) [] no_points
kind_part (StmtKind-F.If test yes_block no_block) =
    part (either (reads test) (either (all_read yes_block) (all_read (unwrap_or no_block [])))) []
    (both_points yes_block (unwrap_or no_block []))

-- some path from the statement on reads it
abbrev pub is_live : Part → Around → Names
is_live p around = either p.reads around.behind

-- it is live, or held for the other block of an `if` around, or the function never reads it
abbrev pub is_kept : Part → Around → Names
is_kept p around slot = is_live p around slot || (around.other slot || not (around.function slot))

abbrev pub point : Span → Part → Around → Point
point span p around = record {
  statement = span;
  scope = around.scope;
  live = filter (is_live p around) around.scope;
  kept = filter (is_kept p around) around.scope;
}

-- its own point, and then those of its blocks
abbrev pub stmt_part : Stmt-F Slot Ty Part Part → Part
stmt_part s = part s.kind.reads s.kind.defines (λ around. point s.span s.kind around ∷ s.kind.points around)

unfoldable pub part_of : Stmt Slot Ty → Part
part_of s = fold-Stmt Slot Ty Part Part kind_part stmt_part s

unfoldable pub part_at : StmtKind Slot Ty → Part
part_at kind = fold-StmtKind Slot Ty Part Part kind_part stmt_part kind

abbrev pub parts_of : List (Stmt Slot Ty) → List Part
parts_of body = map part_of body

abbrev pub names_of : List (Param Slot) → List Slot
names_of params = map (λ (p : Param Slot). p.name) params

-- at the start the parameters are in scope
abbrev pub at_start : List Slot → List Part → Around
at_start scope body = record { function = all_read body; scope = scope; behind = none; other = none }

abbrev pub body_points : List Slot → List Part → List Point
body_points scope body = points_of body (at_start scope body)

-- the points of a function's statements, in the order of the text
abbrev pub points : Contract Slot Ty → Function Slot Ty → List Point
points contract f = body_points (names_of contract.params ++ names_of f.params) (parts_of f.body)
