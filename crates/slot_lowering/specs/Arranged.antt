-- How the rows of statements stand: those of one statement side by side, in the order of the text, and those of a choice's blocks
-- in it.
use Rattle.std.specs.Prelude.{◌≡◌, Bool, true, false, List, [], ◌∷◌, ◌++◌, map, Option, unwrap_or}
use Rattle.cash_base.specs.declared.place.Span.{Span}
use Rattle.cash_base.specs.declared.place.Slot.{Slot}
use Rattle.cash_tree.specs.declared.Ty.{Ty}
use Rattle.cash_tree.specs.declared.Param.{Param}
use Rattle.cash_tree.specs.declared.Expr.{Expr}
use Rattle.cash_tree.specs.declared.Stmt.{Stmt}
use Rattle.cash_tree.specs.declared.StmtKind.{StmtKind}
use Rattle.cash_tree.specs.declared.StmtKind.TheVariants as stmts
use Rattle.slot_code.specs.declared.slots.SlotInstr.{SlotInstr}
use Rattle.slot_code.specs.declared.slots.SlotKind.{SlotKind}
use Rattle.slot_code.specs.declared.slots.SlotKind.TheVariants as kinds
use Rattle.slot_expressions.specs.Pieces.{instruction}
use Rattle.slot_expressions.specs.Reads.{Gets, names_in}
use Rattle.slot_expressions.specs.Spans.{SpannedBy, own_spans}
use Rattle.slot_lowering.specs.Scoped.{part_of, all_names}

-- The rows of a value in the statement at this span, of which there are some: each has it as its checking span, the slots that they read are those that the
-- value reads, in order, and each operation stands at a span of the value or of the statement.
pub record Valued (rows : List SlotInstr) (span : Span) (value : Expr Slot Ty) : Type 0 where
  pub gets : Gets rows span (names_in value)
  pub spans : SpannedBy rows span (own_spans value)
  pub some : rows ≡ [] → ⊥

-- a statement of this kind is its value, and then this instruction
pub data IsSimple : StmtKind Slot Ty → Expr Slot Ty → SlotKind → Type 0 where
  defines : {kind : StmtKind Slot Ty} (t : Ty) (constant : Bool) (slot : Slot) (place : Span) (value : Expr Slot Ty) → kind ≡ stmts.Define t constant slot place value
      → IsSimple kind value (kinds.Define slot)
  defines_both : {kind : StmtKind Slot Ty} (left right : Param Slot) (value : Expr Slot Ty) → kind ≡ stmts.Pair left right value
      → IsSimple kind value (kinds.DefinePair left.name right.name)
  assigns : {kind : StmtKind Slot Ty} (slot : Slot) (value : Expr Slot Ty) → kind ≡ stmts.Assign slot value → IsSimple kind value (kinds.Assign slot)
  checks_time : {kind : StmtKind Slot Ty} (value : Expr Slot Ty) → kind ≡ stmts.Time value → IsSimple kind value kinds.Time
  checks_age : {kind : StmtKind Slot Ty} (value : Expr Slot Ty) → kind ≡ stmts.Age value → IsSimple kind value kinds.Age
  requires_it : {kind : StmtKind Slot Ty} (value : Expr Slot Ty) → kind ≡ stmts.Require value → IsSimple kind value kinds.Require

-- the names of a block end at the statement around it
abbrev pub ended_names : List (Stmt Slot Ty) → Span → List SlotInstr
ended_names body span = map (λ (slot : Slot). instruction (kinds.End slot) span span) (all_names (map part_of body))

-- with nothing behind it a body ends a path where it is to
abbrev pub ends_here : Bool → List (Stmt Slot Ty) → Bool
ends_here ends_path [] = ends_path
ends_here ends_path (s ∷ body) = false

-- The Bool is true where a path ends with the statements.
mutual
  pub data ArrangedKind : Bool → StmtKind Slot Ty → Span → List SlotInstr → Type 0 where
    simple : {ends_path : Bool} {kind : StmtKind Slot Ty} {span : Span} {rows : List SlotInstr} (value : Expr Slot Ty) (row : SlotKind) → IsSimple kind value row → Valued rows span value
        → ArrangedKind ends_path kind span (rows ++ instruction row span span ∷ [])
    choice : {ends_path : Bool} {kind : StmtKind Slot Ty} {span : Span} {rows yes_rows no_rows : List SlotInstr} (test : Expr Slot Ty) (yes_block : List (Stmt Slot Ty)) (no_block : Option (List (Stmt Slot Ty)))
        → kind ≡ stmts.If test yes_block no_block → Valued rows span test → ArrangedBlock ends_path yes_block span yes_rows → ArrangedBlock ends_path (unwrap_or no_block []) span no_rows
        → ArrangedKind ends_path kind span (rows ++ instruction (kinds.If yes_rows no_rows) span span ∷ [])

  -- the names of a block that ends no path end with it
  pub data ArrangedBlock : Bool → List (Stmt Slot Ty) → Span → List SlotInstr → Type 0 where
    inner : {body : List (Stmt Slot Ty)} {span : Span} {rows : List SlotInstr} → ArrangedBody false body rows → ArrangedBlock false body span (rows ++ ended_names body span)
    last : {body : List (Stmt Slot Ty)} {span : Span} {rows : List SlotInstr} → ArrangedBody true body rows → ArrangedBlock true body span rows

  pub data ArrangedBody : Bool → List (Stmt Slot Ty) → List SlotInstr → Type 0 where
    nothing_left : {ends_path : Bool} → ArrangedBody ends_path [] []
    in_turn : {ends_path : Bool} {s : Stmt Slot Ty} {body : List (Stmt Slot Ty)} {rows more : List SlotInstr} → ArrangedKind (ends_here ends_path body) s.kind s.span rows → ArrangedBody ends_path body more
        → ArrangedBody ends_path (s ∷ body) (rows ++ more)
