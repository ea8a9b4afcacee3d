-- Which statements are lowered: each name is defined once and stands in scope where it is read, each value is ready, and a path
-- ends with a check.
use Rattle.std.specs.Prelude.{◌≡◌, nat_le, Bool, true, false, ◌&&◌, not, List, [], ◌∷◌, ◌++◌, length, map, Option, Some, None, unwrap_or}
use Rattle.cash_base.specs.declared.place.Slot.{Slot}
use Rattle.cash_tree.specs.declared.Ty.{Ty}
use Rattle.cash_tree.specs.declared.Expr.{Expr}
use Rattle.cash_tree.specs.declared.ExprKind.TheOpen.{ExprKind-F}
use Rattle.cash_tree.specs.declared.ExprKind.TheViews.{out-ExprKind}
use Rattle.cash_tree.specs.declared.Stmt.{Stmt}
use Rattle.cash_tree.specs.declared.StmtKind.{StmtKind}
use Rattle.cash_tree.specs.declared.StmtKind.TheOpen.{StmtKind-F, Stmt-F}
use Rattle.cash_tree.specs.declared.StmtKind.TheFolds.{fold-Stmt, fold-StmtKind}
use Rattle.cash_tree.specs.Nodes.{most_nodes}
use Rattle.source_meaning.specs.Runnable.{node_count, all_of}
use Rattle.slot_code.specs.Shape.{has, most_slots}
use Rattle.slot_expressions.specs.Ready.{any_name, is_ready}
use Rattle.slot_expressions.specs.Pieces.{in_scope}

-- the names that a statement defines, and whether it is as it should be behind these names
pub record Part : Type 0 where
  pub names : List Slot
  pub scoped : List Slot → Bool

abbrev pub part : List Slot → (List Slot → Bool) → Part
part names scoped = record { names = names; scoped = scoped }

-- a value, of at most 1,000 nodes
abbrev pub value_scoped : Expr Slot Ty → List Slot → Bool
value_scoped e slots = is_ready (in_scope slots) e && nat_le (node_count e) most_nodes

-- one name more
abbrev pub is_new : Slot → List Slot → Bool
is_new slot slots = not (has slot slots) && nat_le (length (slots ++ slot ∷ [])) most_slots

abbrev pub is_split_layer : {K E : Type 0} → ExprKind-F Slot Ty K E → Bool
is_split_layer (ExprKind-F.Split a b) = true
is_split_layer _ = false

-- both parts of a split, which alone two names are defined by
unfoldable pub is_split : Expr Slot Ty → Bool
is_split e = is_split_layer (out-ExprKind Slot Ty e.kind)

-- one after the other
abbrev pub all_names : List Part → List Slot
all_names [] = []
all_names (p ∷ parts) = p.names ++ all_names parts

abbrev pub all_scoped : List Part → List Slot → Bool
all_scoped [] slots = true
all_scoped (p ∷ parts) slots = p.scoped slots && all_scoped parts (slots ++ p.names)

-- the names of a block end with it
abbrev pub kind_part : StmtKind-F Slot Ty Part Part → Part
kind_part (StmtKind-F.Define t constant slot place value) = part (slot ∷ []) (λ slots. value_scoped value slots && is_new slot slots)
kind_part (StmtKind-F.Pair left right value) =
    part (left.name ∷ right.name ∷ []) (λ slots. is_split value && (value_scoped value slots && (is_new left.name slots && is_new right.name (slots ++ left.name ∷ []))))
kind_part (StmtKind-F.Assign slot value) = part [] (λ slots. value_scoped value slots && has slot slots)
kind_part (StmtKind-F.Time value) = part [] (value_scoped value)
kind_part (StmtKind-F.Age value) = part [] (value_scoped value)
kind_part (StmtKind-F.Require value) = part [] (value_scoped value)
kind_part (StmtKind-F.If test yes_block no_block) =
    part [] (λ slots. value_scoped test slots && (all_scoped yes_block slots && all_scoped (unwrap_or no_block []) slots))

abbrev pub stmt_part : Stmt-F Slot Ty Part Part → Part
stmt_part s = s.kind

unfoldable pub part_of : Stmt Slot Ty → Part
part_of s = fold-Stmt Slot Ty Part Part kind_part stmt_part s

unfoldable pub part_of_kind : StmtKind Slot Ty → Part
part_of_kind kind = fold-StmtKind Slot Ty Part Part kind_part stmt_part kind

-- ---- the end of a path

-- the last, or this one where there is none
abbrev pub last_of : Bool → List Bool → Bool
last_of b [] = b
last_of b (c ∷ cs) = last_of c cs

abbrev pub other_ends : Option (List Bool) → Bool
other_ends None = true
other_ends (Some ends) = last_of false ends

-- a path ends with a `require` of any form, or with an `if` whose blocks are paths
abbrev pub kind_ends : StmtKind-F Slot Ty Bool Bool → Bool
kind_ends (StmtKind-F.Time value) = true
kind_ends (StmtKind-F.Age value) = true
kind_ends (StmtKind-F.Require value) = true
kind_ends (StmtKind-F.If test yes_block no_block) = last_of false yes_block && other_ends no_block
kind_ends _ = false

abbrev pub stmt_ends : Stmt-F Slot Ty Bool Bool → Bool
stmt_ends s = s.kind

unfoldable pub may_end : Stmt Slot Ty → Bool
may_end s = fold-Stmt Slot Ty Bool Bool kind_ends stmt_ends s

unfoldable pub may_end_kind : StmtKind Slot Ty → Bool
may_end_kind kind = fold-StmtKind Slot Ty Bool Bool kind_ends stmt_ends kind

abbrev pub ends_rightly : List (Stmt Slot Ty) → Bool
ends_rightly body = last_of false (map may_end body)

-- ---- the values, with any names

-- both parts of a split define two names
abbrev pub kind_ready : StmtKind-F Slot Ty Bool Bool → Bool
kind_ready (StmtKind-F.Define t constant slot place value) = is_ready any_name value
kind_ready (StmtKind-F.Pair left right value) = is_split value && is_ready any_name value
kind_ready (StmtKind-F.Assign slot value) = is_ready any_name value
kind_ready (StmtKind-F.Time value) = is_ready any_name value
kind_ready (StmtKind-F.Age value) = is_ready any_name value
kind_ready (StmtKind-F.Require value) = is_ready any_name value
kind_ready (StmtKind-F.If test yes_block no_block) = is_ready any_name test && (all_of yes_block && all_of (unwrap_or no_block []))

abbrev pub stmt_ready : Stmt-F Slot Ty Bool Bool → Bool
stmt_ready s = s.kind

unfoldable pub has_values : Stmt Slot Ty → Bool
has_values s = fold-Stmt Slot Ty Bool Bool kind_ready stmt_ready s

unfoldable pub has_values_kind : StmtKind Slot Ty → Bool
has_values_kind kind = fold-StmtKind Slot Ty Bool Bool kind_ready stmt_ready kind

pub record ReadyStmt (s : Stmt Slot Ty) : Type 0 where
  pub is : has_values s ≡ true

pub record ReadyStmtKind (kind : StmtKind Slot Ty) : Type 0 where
  pub is : has_values_kind kind ≡ true

pub record ReadyBody (body : List (Stmt Slot Ty)) : Type 0 where
  pub is : all_of (map has_values body) ≡ true

-- both parts of a split
pub record IsSplit (e : Expr Slot Ty) : Type 0 where
  pub is : is_split e ≡ true
