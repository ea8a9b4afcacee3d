-- How paths end.
use Rattle.std.specs.Prelude.{◌≡◌, ℕ, List, [], ◌∷◌, ◌++◌, Bool, true, if◌then◌else◌, map, Option, Some, None, Result, Ok, Err}
use Rattle.cash_base.specs.declared.place.Slot.{Slot}
use Rattle.cash_base.specs.declared.place.Span.{Span}
use Rattle.cash_base.specs.Number.{truth_of}
use Rattle.tx_context.specs.World.{World}
use Rattle.script_codec.specs.declared.spans.Spanned.{Spanned}
use Rattle.source_meaning.specs.declared.outcome.Failure.{Failure}
use Rattle.source_meaning.specs.Meaning.{Env}
use Rattle.bch_vm.specs.Board.{is_live}
use Rattle.slot_code.specs.declared.slots.SlotInstr.{SlotInstr}
use Rattle.slot_code.specs.declared.slots.SlotKind.TheVariants.{End, If}
use Rattle.slot_code.specs.Meaning.{State, state, act_of}
use Rattle.slot_code.specs.Shape.{Place, Shape, shapes_of, path_shape, closed, then_shape}
use Rattle.slot_liveness.specs.Live.{Slots, live}
use Rattle.row_runs.specs.Rows.{Machine, run_rows, IsNested}
use Rattle.stack_emitter.specs.Codes.{are_sound}
use Rattle.stack_emitter.specs.Correct.{Deed, Fits, machine_at, told, AtEnd}
use Rattle.stack_steps.specs.declared.low.Low.{Low}
use Rattle.stack_steps.specs.Lower.{IsNoChoice, AgreeOn, Ready, place_of, statements_of}

-- only ends of names are left
abbrev pub AllEnds : List SlotInstr → Type 0
AllEnds [] = Unit {0}
AllEnds (instr ∷ instrs) = ((slot : Slot) × (instr.kind ≡ End slot)) × AllEnds instrs

-- In a world, a run of these instructions from this state comes to the path's end in the statement at the last span: that of the
-- path's last instruction that ends no name, or of the `if` around, whose missing `else` ends it.
pub data PathEnds (world : World) : Span → List SlotInstr → State → Span → Type 0 where
  missing : (around : Span) (s : State) → PathEnds world around [] s around
  more : (around : Span) (instr : SlotInstr) (rest : List SlotInstr) (s next : State) (span : Span) → (AllEnds rest → ⊥)
      → act_of world instr s ≡ Ok next → PathEnds world around rest next span → PathEnds world around (instr ∷ rest) s span
  last : (around : Span) (instr : SlotInstr) (rest : List SlotInstr) (s : State) → AllEnds rest → IsNoChoice instr
      → PathEnds world around (instr ∷ rest) s instr.checking
  choice : (around : Span) (instr : SlotInstr) (yes_block no_block rest : List SlotInstr) (test : List ℕ) (operands : List (List ℕ)) (env : Env) (span : Span)
      → AllEnds rest → instr.kind ≡ If yes_block no_block
      → PathEnds world instr.checking (if truth_of test then yes_block else no_block) (state operands env) span
      → PathEnds world around (instr ∷ rest) (state (test ∷ operands) env) span

-- the spans at which a path may end, from a state in a world
abbrev pub Meant : Type 1
Meant = World → State → Span → Type 0

-- where a path ends whose last instruction this is
abbrev pub last_meant : SlotInstr → Meant
last_meant instr world s span = (around : Span) (rest : List SlotInstr) → AllEnds rest → PathEnds world around (instr ∷ rest) s span

-- a run of the rows fails as the deed does, or ends the path at a span that is meant
pub data Ending (meant : Span → Type 0) (world : World) (rows : List Spanned) (m : Machine) (conditions : List Bool) : Result State Failure → Type 0 where
  fails : (failure : Failure) → run_rows world rows m ≡ Err (told failure) → Ending meant world rows m conditions (Err failure)
  ends : (outcome : Result State Failure) (span : Span) → meant span → AtEnd world rows m conditions span outcome → Ending meant world rows m conditions outcome

abbrev pub SeenAt : Option Place → List Span → Type 0
SeenAt (Some place) spans = place.seen ≡ spans
SeenAt None spans = Unit {0}

-- a block that ends its paths, with no operands at its end
abbrev pub path_of : List SlotInstr → Shape
path_of instrs = then_shape (path_shape (map shapes_of instrs)) closed

-- the slot code is well formed here, and ends with no operands
pub record MayEnd (shape : Shape) (before hold : Slots) (old : Low) : Type 0 where
  pub ready : Ready shape before hold old
  pub closed : (place : Place) → shape (place_of old) ≡ Some place → place.operands ≡ []

-- the added rows end each path of the deed, from any state that agrees on the live slots
pub record Finishes (deed : Deed) (meant : Meant) (shape : Shape) (before : Slots) (old new : Low) : Type 0 where
  pub rows : List Spanned
  pub grown : new.emitter.code.items ≡ old.emitter.code.items ++ rows
  pub nested : IsNested rows
  pub sound : are_sound rows ≡ true
  pub ends : (world : World) (s : State) (env : Env) (conditions : List Bool) → is_live conditions ≡ true
      → Fits old.emitter.place.operands s.operands → AgreeOn (live old.scope before) s.env env
      → Ending (meant world s) world rows (machine_at old.emitter.place.slots [] conditions (state s.operands env)) conditions (deed world s)
  pub seen : SeenAt (shape (place_of old)) (statements_of new.marks.items)
