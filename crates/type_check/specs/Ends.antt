-- How the body of a function ends.
use Rattle.std.specs.Prelude.{Bool, true, false, ◌&&◌, List, [], ◌∷◌, map, Option, Some, None, if◌then◌else◌, Ok, Err}
use Rattle.cash_base.specs.declared.place.Slot.{Slot}
use Rattle.cash_tree.specs.declared.Function.{Function}
use Rattle.cash_tree.specs.declared.Stmt.{Stmt}
use Rattle.cash_tree.specs.declared.StmtKind.TheOpen.{StmtKind-F, Stmt-F}
use Rattle.cash_tree.specs.declared.StmtKind.TheFolds.{fold-Stmt}
use Rattle.type_tables.specs.declared.fault.TypeFault.TheVariants as faults
use Rattle.type_tables.specs.Tables.{Answer}

-- the last, or this one where there is none
abbrev pub last_of : Bool → List Bool → Bool
last_of b [] = b
last_of b (c ∷ cs) = last_of c cs

abbrev pub other_ends : Option (List Bool) → Bool
other_ends None = true
other_ends (Some ends) = last_of false ends

-- with a `require` of any form, or with an `if` whose blocks end rightly
abbrev pub kind_ends : StmtKind-F Slot (Unit {0}) Bool Bool → Bool
kind_ends (StmtKind-F.Time value) = true
kind_ends (StmtKind-F.Age value) = true
kind_ends (StmtKind-F.Require value) = true
kind_ends (StmtKind-F.If test body others) = last_of false body && other_ends others
kind_ends _ = false

abbrev pub node_ends : Stmt-F Slot (Unit {0}) Bool Bool → Bool
node_ends s = s.kind

-- whether a statement may be the last
abbrev pub may_end : Stmt Slot (Unit {0}) → Bool
may_end = fold-Stmt Slot (Unit {0}) Bool Bool kind_ends node_ends

-- a body ends rightly where its last statement does, and there is one
abbrev pub ends_rightly : List (Stmt Slot (Unit {0})) → Bool
ends_rightly body = last_of false (map may_end body)

-- the rule of a whole function
abbrev pub final : Function Slot (Unit {0}) → Answer (Unit {0})
final f = if ends_rightly f.body then Ok tt else Err (faults.NoFinalRequire f.span)
