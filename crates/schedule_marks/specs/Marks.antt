-- Where the statements of a function begin in its code, and how high the stack is there.
use Rattle.std.specs.Prelude.{◌≡◌, ◌≤◌, ℕ, ◌+◌, Bool, true, false, ◌||◌, if◌then◌else◌, List, [], ◌∷◌, ◌++◌, length, map, filter, Some, Ok}
use Rattle.std.specs.List.{AllByRecursion}
use Rattle.cash_base.specs.declared.place.Slot.{Slot}
use Rattle.cash_base.specs.declared.place.Span.{Span}
use Rattle.tx_context.specs.World.{World}
use Rattle.script_codec.specs.declared.spans.Mark.{Mark}
use Rattle.script_codec.specs.declared.spans.Spanned.{Spanned}
use Rattle.bch_vm.specs.Board.{is_live}
use Rattle.source_meaning.specs.Meaning.{Env}
use Rattle.slot_code.specs.declared.slots.SlotFunction.{SlotFunction}
use Rattle.slot_code.specs.declared.slots.SlotInstr.{SlotInstr}
use Rattle.slot_code.specs.declared.slots.SlotKind.TheVariants.{If}
use Rattle.slot_code.specs.Shape.{Place, shapes_of, all_shapes, has_span, inside, with_seen, start as first_place}
use Rattle.slot_liveness.specs.Live.{later, only_other, kept, kept_count, hold}
use Rattle.row_runs.specs.Rows.{Machine, machine, run_rows}
use Rattle.stack_emitter.specs.Codes.{is_span}
use Rattle.stack_emitter.specs.Correct.{value}
use Rattle.stack_schedule.specs.Endings.{path_of}

-- ---- where a statement begins

-- whether a row has the checking span, and the rows before the first that has it
abbrev pub uses : Span → List Spanned → Bool
uses span [] = false
uses span (row ∷ rows) = is_span span row.checking || uses span rows

abbrev pub before : Span → List Spanned → List Spanned
before span [] = []
before span (row ∷ rows) = if is_span span row.checking then [] else row ∷ before span rows

-- the mark stands at the first row with its statement's span
pub record StandsFirst (code : List Spanned) (m : Mark) : Type 0 where
  pub used : uses m.statement code ≡ true
  pub at : m.at ≡ length (before m.statement code)

-- ---- how high the stack is

-- the machine before a run: the values of these slots, and nothing else
abbrev pub start_at : List Slot → Env → Machine
start_at start env = machine (map (value env) start) []

-- in every world, from any values: a run that comes to the mark's row, and executes it, finds a stack of the mark's height
abbrev pub HasHeight : List Slot → List Spanned → Mark → Type 0
HasHeight start code m = (world : World) (env : Env) (n : Machine) → run_rows world (before m.statement code) (start_at start env) ≡ Ok n
    → is_live n.conditions ≡ true → length n.stack ≡ m.height

-- ---- how many names are kept

-- In a function with this body: behind these instructions' place in its text, the statement with a span begins where so many names
-- are kept, which are those that are read later, those that the function never reads, and those that are held for the other block
-- of an `if` around. `after` are the slots that are read behind the block, and `held` those that are held in it.
pub data IsPoint (body : List SlotInstr) : List SlotInstr → List Slot → List Slot → Place → Span → ℕ → Type 0 where
  begins : (instr : SlotInstr) (rest : List SlotInstr) (after held : List Slot) (p : Place) → has_span instr.checking p.seen ≡ false
      → IsPoint body (instr ∷ rest) after held p instr.checking (kept_count p.slots (kept (later (instr ∷ rest) after) (hold body held)))
  behind : (instr : SlotInstr) (rest : List SlotInstr) (after held : List Slot) (p q : Place) (span : Span) (names : ℕ)
      → (shapes_of instr).inner p ≡ Some q → IsPoint body rest after held q span names
      → IsPoint body (instr ∷ rest) after held p span names
  -- in a block of an `if` that ends no path
  in_yes : (instr : SlotInstr) (rest ys ns : List SlotInstr) (after held : List Slot) (p : Place) (span : Span) (names : ℕ)
      → instr.kind ≡ If ys ns
      → IsPoint body ys (filter (later rest after) p.slots) (held ++ filter (only_other ys ns) p.slots) (inside p.slots p) span names
      → IsPoint body (instr ∷ rest) after held p span names
  in_no : (instr : SlotInstr) (rest ys ns : List SlotInstr) (after held : List Slot) (p q : Place) (span : Span) (names : ℕ)
      → instr.kind ≡ If ys ns → all_shapes (map shapes_of ys) (inside p.slots p) ≡ Some q
      → IsPoint body ns (filter (later rest after) p.slots) (held ++ filter (only_other ns ys) p.slots) (inside p.slots (with_seen q.seen p)) span names
      → IsPoint body (instr ∷ rest) after held p span names
  -- in a block of an `if` that ends a path
  ends_yes : (instr : SlotInstr) (rest ys ns : List SlotInstr) (after held : List Slot) (p : Place) (span : Span) (names : ℕ)
      → instr.kind ≡ If ys ns
      → IsPoint body ys (filter (later rest after) p.slots) (held ++ filter (only_other ys ns) p.slots) (inside [] p) span names
      → IsPoint body (instr ∷ rest) after held p span names
  ends_no : (instr : SlotInstr) (rest ys ns : List SlotInstr) (after held : List Slot) (p q : Place) (span : Span) (names : ℕ)
      → instr.kind ≡ If ys ns → path_of ys (inside [] p) ≡ Some q
      → IsPoint body ns (filter (later rest after) p.slots) (held ++ filter (only_other ns ys) p.slots) (inside [] (with_seen q.seen p)) span names
      → IsPoint body (instr ∷ rest) after held p span names

-- at the mark stand at most as many elements as names are kept where its statement begins
pub record IsLow (f : SlotFunction) (m : Mark) : Type 0 where
  pub names : ℕ
  pub point : IsPoint f.body f.body [] [] (first_place (f.ctors + f.params)) m.statement names
  pub low : m.height ≤ names

-- each mark stands at the first row of its statement, with the height that the stack has there in each run that comes to it, and at
-- most as many elements as names are kept there
pub record IsRight (f : SlotFunction) (start : List Slot) (code : List Spanned) (m : Mark) : Type 0 where
  pub stands : StandsFirst code m
  pub height : HasHeight start code m
  pub low : IsLow f m

abbrev pub AreRight : SlotFunction → List Slot → List Spanned → List Mark → Type 0
AreRight f start code marks = AllByRecursion (IsRight f start code) marks
