-- What the slot code of statements does: what stands in the slots behind it, where the values stand, what it weighs, and
-- which spans stand in it.
use Rattle.std.specs.Prelude.{◌≡◌, ℕ, Bool, true, false, is_some, List, [], ◌∷◌, ◌++◌, map, drop, Option, Some, Result, Ok, Err}
use Rattle.cash_base.specs.declared.place.Span.{Span}
use Rattle.cash_base.specs.declared.place.Slot.{Slot}
use Rattle.cash_base.specs.Failing.{◌>>=◌}
use Rattle.tx_context.specs.World.{World}
use Rattle.cash_tree.specs.Nodes.{joined}
use Rattle.cash_tree.specs.declared.Ty.{Ty}
use Rattle.cash_tree.specs.declared.Stmt.{Stmt}
use Rattle.cash_tree.specs.declared.StmtKind.{StmtKind}
use Rattle.source_meaning.specs.declared.outcome.Failure.{Failure}
use Rattle.source_meaning.specs.Meaning.{Env, Doing, in_turn, env_after, kind_leaves, outside}
use Rattle.slot_code.specs.declared.slots.SlotInstr.{SlotInstr}
use Rattle.slot_code.specs.declared.slots.SlotKind.TheVariants as kinds
use Rattle.slot_code.specs.Meaning.{state, run_of}
use Rattle.slot_code.specs.Shape.{Place, all_shapes, path_shape, is_over, ends_rightly as rows_end, other_ends as other_rows_end, shapes_of, has, has_span}
use Rattle.slot_expressions.specs.Pieces.{instruction}
use Rattle.slot_expressions.specs.Spans.{SpannedBy}
use Rattle.slot_lowering.specs.Scoped.{part_of, part_of_kind, all_names, all_scoped, may_end, may_end_kind, ends_rightly, ReadyBody}
use Rattle.slot_lowering.specs.Room.{all_pay, block_pays, path_pays, defined, pays_of, pays_at}
use Rattle.slot_lowering.specs.Weighed.{Inside, AtEnd}
use Rattle.slot_lowering.specs.Spans.{SpansAmong, own_spans, own_spans_at}
use Rattle.slot_lowering.specs.Arranged.{ArrangedKind, ArrangedBlock, ArrangedBody}

-- exactly these slots have a value
abbrev pub Holds : List Slot → Env → Type 0
Holds slots env = (slot : Slot) → is_some (env slot) ≡ has slot slots

-- no operands stand
abbrev pub place : List Slot → List Slot → List Span → Place
place slots outer seen = record { operands = []; slots = slots; outer = outer; seen = seen }

-- no slot stands twice
abbrev pub Distinct : List Slot → Type 0
Distinct [] = Unit {0}
Distinct (slot ∷ slots) = (has slot slots ≡ false) × Distinct slots

-- a place with these slots, where no checking span of those before is forgotten
pub record Reaches (o : Option Place) (slots outer : List Slot) (seen : List Span) : Type 0 where
  pub later : List Span
  pub to : o ≡ Some (place slots outer later)
  pub kept : (span : Span) → has_span span seen ≡ true → has_span span later ≡ true

-- the rows lead from a place to one with these slots, and forget no checking span
abbrev pub Leads : List SlotInstr → List Slot → List Slot → List Slot → List Span → Type 0
Leads rows slots after outer seen = Reaches (all_shapes (map shapes_of rows) (place slots outer seen)) after outer seen

-- the rows do what is done behind these slots, and have the slots behind them that are defined more
pub record Does (rows : List SlotInstr) (doing : World → Doing) (slots names : List Slot) : Type 0 where
  pub runs : (world : World) (env : Env) → Holds slots env → run_of world rows (state [] env) ≡ (doing world env >>= λ after. Ok (state [] after))
  pub holds : (world : World) (env after : Env) → Holds slots env → doing world env ≡ Ok after → Holds (slots ++ names) after
  pub fresh : (slot : Slot) → has slot slots ≡ true → has slot names ≡ false
  pub distinct : Distinct names
  pub leads : (outer : List Slot) (seen : List Span) → Leads rows slots (slots ++ names) outer seen

abbrev pub leaves : StmtKind Slot Ty → Span → World → Doing
leaves kind span world = kind_leaves world kind span

abbrev pub leave_all : List (Stmt Slot Ty) → World → Doing
leave_all body world = in_turn (map (env_after world) body)

abbrev pub names_of : List (Stmt Slot Ty) → List Slot
names_of body = all_names (map part_of body)

abbrev pub is_scoped : List (Stmt Slot Ty) → List Slot → Bool
is_scoped body slots = all_scoped (map part_of body) slots

-- some rows were added, which do a statement of this kind
pub record LowersKind (old new : List SlotInstr) (kind : StmtKind Slot Ty) (span : Span) : Type 0 where
  pub rows : List SlotInstr
  pub grown : new ≡ old ++ rows
  pub does : (slots : List Slot) → (part_of_kind kind).scoped slots ≡ true → Does rows (leaves kind span) slots (part_of_kind kind).names
  pub weight : Inside rows (pays_at kind).names (pays_at kind).inner
  pub spans : SpannedBy rows span (own_spans_at kind)
  pub arranged : ArrangedKind false kind span rows

pub record LowersStmt (old new : List SlotInstr) (s : Stmt Slot Ty) : Type 0 where
  pub rows : List SlotInstr
  pub grown : new ≡ old ++ rows
  pub does : (slots : List Slot) → (part_of s).scoped slots ≡ true → Does rows (λ world. env_after world s) slots (part_of s).names
  pub weight : Inside rows (pays_of s).names (pays_of s).inner
  pub spans : SpansAmong rows (own_spans s)
  pub arranged : ArrangedKind false s.kind s.span rows

-- ... statements, one after the other
pub record LowersRun (old new : List SlotInstr) (body : List (Stmt Slot Ty)) : Type 0 where
  pub rows : List SlotInstr
  pub grown : new ≡ old ++ rows
  pub does : (slots : List Slot) → is_scoped body slots ≡ true → Does rows (leave_all body) slots (names_of body)
  pub weight : Inside rows (defined (map pays_of body)) (all_pay (map pays_of body))
  pub spans : SpansAmong rows (joined (map own_spans body))
  pub arranged : ArrangedBody false body rows

-- ---- blocks

abbrev pub end_row : Span → Slot → SlotInstr
end_row checking slot = instruction (kinds.End slot) checking checking

-- the ends of names were added
pub record EndsNames (old new : List SlotInstr) (names : List Slot) (checking : Span) : Type 0 where
  pub grown : new ≡ old ++ map (end_row checking) names

-- ... those that a statement defines
pub record EndsStmt (old new : List SlotInstr) (s : Stmt Slot Ty) (checking : Span) : Type 0 where
  pub ends : EndsNames old new (part_of s).names checking

-- what is left of a loop over statements, from here on, ends the names of the whole
pub record LeftEnds (old now : List SlotInstr) (body : List (Stmt Slot Ty)) (checking : Span) (i : ℕ) : Type 0 where
  pub by : (final : List SlotInstr) → EndsNames now final (names_of (drop i body)) checking → EndsNames old final (names_of body) checking

-- the rows of a block: its statements, and the ends of its names
pub record IsBlock (rows : List SlotInstr) (doing : World → Doing) (slots : List Slot) (checking : Span) : Type 0 where
  pub runs : (world : World) (env : Env) → Holds slots env → run_of world rows (state [] env) ≡ (doing world env >>= λ after. Ok (state [] (outside env after)))
  pub holds : (world : World) (env after : Env) → Holds slots env → doing world env ≡ Ok after → Holds slots (outside env after)
  pub leads : (seen : List Span) → has_span checking seen ≡ true → Leads rows slots slots slots seen

pub record LowersBlock (code : List SlotInstr) (body : List (Stmt Slot Ty)) (checking : Span) : Type 0 where
  pub does : (slots : List Slot) → is_scoped body slots ≡ true → IsBlock code (leave_all body) slots checking
  pub weight : Inside code 0 (block_pays (map pays_of body))
  pub spans : SpannedBy code checking (joined (map own_spans body))
  pub arranged : ArrangedBlock false body checking code

-- ---- paths

-- nothing but whether all was met is said of what a path leaves
abbrev pub met : {A : Type 0} → Result A Failure → Result (Unit {0}) Failure
met (Ok x) = Ok tt
met (Err failure) = Err failure

-- The rows of a path: it is met alike, no operands stand at its end, and it ends rightly.
pub record IsPath (rows : List SlotInstr) (doing : World → Doing) (slots : List Slot) : Type 0 where
  pub alike : (world : World) (env : Env) → Holds slots env → met (run_of world rows (state [] env)) ≡ met (doing world env)
  pub leads : (outer : List Slot) (seen : List Span) → (last : Place) × (path_shape (map shapes_of rows) (place slots outer seen) ≡ Some last) × (last.operands ≡ [])
  pub ends : rows_end (map shapes_of rows) ≡ true
  -- the last instruction ends no slot
  pub goes_on : is_over (map shapes_of rows) ≡ false

pub record LowersLast (old new : List SlotInstr) (s : Stmt Slot Ty) : Type 0 where
  pub rows : List SlotInstr
  pub grown : new ≡ old ++ rows
  pub does : (slots : List Slot) → (part_of s).scoped slots ≡ true → may_end s ≡ true → IsPath rows (λ world. env_after world s) slots
  pub weight : may_end s ≡ true → AtEnd rows (pays_of s).last
  pub spans : SpansAmong rows (own_spans s)
  pub arranged : may_end s ≡ true → ArrangedKind true s.kind s.span rows

pub record LowersPath (old new : List SlotInstr) (body : List (Stmt Slot Ty)) : Type 0 where
  pub rows : List SlotInstr
  pub grown : new ≡ old ++ rows
  pub does : (slots : List Slot) → is_scoped body slots ≡ true → ends_rightly body ≡ true → IsPath rows (leave_all body) slots
  pub weight : ends_rightly body ≡ true → AtEnd rows (path_pays (map pays_of body))
  pub spans : SpansAmong rows (joined (map own_spans body))
  pub arranged : ends_rightly body ≡ true → ArrangedBody true body rows

-- ... and what stands for a missing `else`
pub record IsBranch (rows : List SlotInstr) (doing : World → Doing) (slots : List Slot) : Type 0 where
  pub alike : (world : World) (env : Env) → Holds slots env → met (run_of world rows (state [] env)) ≡ met (doing world env)
  pub leads : (seen : List Span) → (last : Place) × (path_shape (map shapes_of rows) (place slots [] seen) ≡ Some last) × (last.operands ≡ [])
  pub ends : other_rows_end (map shapes_of rows) ≡ true

pub record LowersLastKind (old new : List SlotInstr) (kind : StmtKind Slot Ty) (span : Span) : Type 0 where
  pub rows : List SlotInstr
  pub grown : new ≡ old ++ rows
  pub does : (slots : List Slot) → (part_of_kind kind).scoped slots ≡ true → may_end_kind kind ≡ true → IsPath rows (leaves kind span) slots
  pub weight : may_end_kind kind ≡ true → AtEnd rows (pays_at kind).last
  pub spans : SpannedBy rows span (own_spans_at kind)
  pub arranged : may_end_kind kind ≡ true → ArrangedKind true kind span rows

-- ---- where a path may end

-- Rows as those of a statement behind which others stand, and, where it ends a path, as those of the last one.
pub record LowersKindAt (ends_path : Bool) (old new : List SlotInstr) (kind : StmtKind Slot Ty) (span : Span) : Type 0 where
  pub inner : ends_path ≡ false → LowersKind old new kind span
  pub last : ends_path ≡ true → LowersLastKind old new kind span

pub record LowersStmtAt (ends_path : Bool) (old new : List SlotInstr) (s : Stmt Slot Ty) : Type 0 where
  pub inner : ends_path ≡ false → LowersStmt old new s
  pub last : ends_path ≡ true → LowersLast old new s

pub record LowersBodyAt (ends_path : Bool) (old new : List SlotInstr) (body : List (Stmt Slot Ty)) : Type 0 where
  pub inner : ends_path ≡ false → LowersRun old new body
  pub last : ends_path ≡ true → LowersPath old new body

pub record LowersBlockAt (ends_path : Bool) (code : List SlotInstr) (body : List (Stmt Slot Ty)) (checking : Span) : Type 0 where
  pub inner : ends_path ≡ false → LowersBlock code body checking
  pub last : ends_path ≡ true → LowersPath [] code body

-- a path that goes on from here; where nothing is left, nothing was added
abbrev pub GoesOn : List SlotInstr → List SlotInstr → List (Stmt Slot Ty) → Type 0
GoesOn now final [] = now ≡ final
GoesOn now final (s ∷ body) = LowersPath now final (s ∷ body)

-- what is left of a loop over statements, from here on, makes the whole
pub record LeftBody (ends_path : Bool) (old now : List SlotInstr) (body : List (Stmt Slot Ty)) (i : ℕ) : Type 0 where
  pub ready : ReadyBody (drop i body)
  pub inner : ends_path ≡ false → (final : List SlotInstr) → LowersRun now final (drop i body) → LowersRun old final body
  pub last : ends_path ≡ true → (final : List SlotInstr) → GoesOn now final (drop i body) → LowersPath old final body
