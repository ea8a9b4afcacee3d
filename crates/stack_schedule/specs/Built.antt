-- How rows were emitted, instruction by instruction. What is told of the places on the way, as marks, heights, executed rows and the
-- order of spans, follows from this by one induction.
use Rattle.std.specs.Prelude.{ℕ, ◌≡◌, ◌<◌, false, true, List, [], ◌∷◌, ◌++◌, length, map, filter}
use Rattle.cash_base.specs.declared.place.Slot.{Slot}
use Rattle.cash_base.specs.declared.place.Span.{Span}
use Rattle.script_codec.specs.declared.instr.Instr.TheVariants.{Do}
use Rattle.script_codec.specs.declared.spans.Spanned.{Spanned}
use Rattle.script_codec.specs.declared.spans.Mark.{Mark}
use Rattle.slot_code.specs.declared.slots.SlotFunction.{SlotFunction}
use Rattle.slot_code.specs.declared.slots.SlotInstr.{SlotInstr}
use Rattle.slot_code.specs.declared.slots.SlotKind.TheVariants.{If, Require}
use Rattle.slot_code.specs.Meaning.{act_of}
use Rattle.slot_code.specs.Shape.{Shape, shapes_of, is_over, has_span}
use Rattle.slot_liveness.specs.Live.{Slots, reads_of, later, hold, either, only_other}
use Rattle.stack_emitter.specs.declared.emit.Emitter.{Emitter}
use Rattle.stack_emitter.specs.Places.{spot}
use Rattle.stack_emitter.specs.Correct.{Adds, Ends, nothing, check_deed}
use Rattle.stack_steps.specs.declared.low.Low.{Low}
use Rattle.stack_steps.specs.Lower.{IsNoChoice, Ready, Does, place_of, statements_of}
use Rattle.stack_steps.specs.Steps.{Steps, marks_after}
use Rattle.stack_schedule.specs.Endings.{SeenAt, MayEnd, path_of}
use Rattle.stack_schedule.specs.Schedule.{Starts}

-- what was lowered: an instruction, with those of its block behind it, or a block; and the same where paths end, a block with the
-- span of the statement around it
pub data Part : Type 0 where
  One : SlotInstr → List SlotInstr → Part
  Block : List SlotInstr → Part
  Last : SlotInstr → List SlotInstr → Part
  Path : Span → List SlotInstr → Part

-- the slots that an instruction or one behind it reads
abbrev pub reads_now : SlotInstr → List SlotInstr → List Slot → Slots
reads_now instr rest after = either (reads_of instr) (later rest after)

-- the statement at this span has begun, and nothing else was done
pub record MarksNow (span : Span) (old new : Low) : Type 0 where
  pub scope : new.scope ≡ old.scope
  pub outer : new.outer ≡ old.outer
  pub emitter : new.emitter ≡ old.emitter
  pub marks : new.marks.items ≡ marks_after span old

-- one instruction that is no choice; the first of a statement has a row
pub record Stepped (body : List SlotInstr) (instr : SlotInstr) (rest : List SlotInstr) (after held : List Slot) (old new : Low) : Type 0 where
  pub no_choice : IsNoChoice instr
  pub ready : Ready (shapes_of instr).inner (reads_now instr rest after) (hold body held) old
  pub steps : Steps instr (reads_now instr rest after) (later rest after) (hold body held) old new
  pub begins : has_span instr.checking (statements_of old.marks.items) ≡ false → length old.emitter.code.items < length new.emitter.code.items

abbrev pub control : ℕ → SlotInstr → Spanned
control opcode instr = record { instr = Do (record { 0 = opcode }); doing = instr.doing; checking = instr.checking }

-- a block begins behind the row of an IF or an ELSE, with the layout and the names before the choice, and some that may not be ended
pub record Opened (opcode : ℕ) (instr : SlotInstr) (layout scope outer : List Slot) (old new : Low) : Type 0 where
  pub code : new.emitter.code.items ≡ old.emitter.code.items ++ control opcode instr ∷ []
  pub place : new.emitter.place ≡ spot [] layout
  pub scope_is : new.scope ≡ scope
  pub outer_is : new.outer ≡ outer
  pub marks : new.marks ≡ old.marks

-- what was emitted for a part, from one place to another
pub data Built (body : List SlotInstr) : Part → List Slot → List Slot → Low → Low → Type 0 where
  step : (instr : SlotInstr) (rest : List SlotInstr) (after held : List Slot) (old new : Low)
      → Stepped body instr rest after held old new
      → Built body (One instr rest) after held old new
  choice : (instr : SlotInstr) (rest yes_block no_block : List SlotInstr) (after held : List Slot)
      (old marked opened yes_end joined turned no_end new : Low) (settled : Emitter)
      → instr.kind ≡ If yes_block no_block
      → Ready (shapes_of instr).inner (reads_now instr rest after) (hold body held) old
      → Does (λ world. act_of world instr) (shapes_of instr).inner (reads_now instr rest after) (later rest after) (hold body held) old new
      → MarksNow instr.checking old marked
      → Opened 0x63 instr old.emitter.place.slots old.scope old.scope marked opened
      → Built body (Block yes_block) (filter (later rest after) old.scope) (held ++ filter (only_other yes_block no_block) old.scope) opened yes_end
      → Adds instr.checking instr.checking yes_end.emitter joined.emitter nothing
      → joined.marks ≡ yes_end.marks
      → Opened 0x67 instr old.emitter.place.slots old.scope old.scope joined turned
      → Built body (Block no_block) (filter (later rest after) old.scope) (held ++ filter (only_other no_block yes_block) old.scope) turned no_end
      → Adds instr.checking instr.checking no_end.emitter settled nothing
      → new.emitter.code.items ≡ settled.code.items ++ control 0x68 instr ∷ []
      → new.marks ≡ no_end.marks
      → Built body (One instr rest) after held old new
  none : (after held : List Slot) (low : Low) → Built body (Block []) after held low low
  more : (instr : SlotInstr) (rest : List SlotInstr) (after held : List Slot) (old mid new : Low)
      → Built body (One instr rest) after held old mid
      → Built body (Block rest) after held mid new
      → Built body (Block (instr ∷ rest)) after held old new
  -- the last check leaves its value
  check : (instr : SlotInstr) (rest : List SlotInstr) (after held : List Slot) (old marked new : Low)
      → instr.kind ≡ Require
      → MayEnd (shapes_of instr).last (reads_now instr rest after) (hold body held) old
      → MarksNow instr.checking old marked
      → Ends instr.checking marked.emitter new.emitter (check_deed instr.doing instr.checking)
      → new.marks ≡ marked.marks
      → Built body (Last instr rest) after held old new
  -- one true element is left behind another instruction
  finish : (instr : SlotInstr) (rest : List SlotInstr) (after held : List Slot) (old mid new : Low)
      → Stepped body instr rest after held old mid
      → Ends instr.checking mid.emitter new.emitter nothing
      → new.marks ≡ mid.marks
      → Built body (Last instr rest) after held old new
  fork : (instr : SlotInstr) (rest yes_block no_block : List SlotInstr) (after held : List Slot)
      (old marked opened yes_end turned no_end new : Low)
      → instr.kind ≡ If yes_block no_block
      → MayEnd (shapes_of instr).last (reads_now instr rest after) (hold body held) old
      → MarksNow instr.checking old marked
      → Opened 0x63 instr old.emitter.place.slots old.scope [] marked opened
      → Built body (Path instr.checking yes_block) (filter (later rest after) old.scope) (held ++ filter (only_other yes_block no_block) old.scope) opened yes_end
      → SeenAt (path_of yes_block (place_of opened)) (statements_of yes_end.marks.items)
      → Opened 0x67 instr old.emitter.place.slots old.scope [] yes_end turned
      → Built body (Path instr.checking no_block) (filter (later rest after) old.scope) (held ++ filter (only_other no_block yes_block) old.scope) turned no_end
      → new.emitter.code.items ≡ no_end.emitter.code.items ++ control 0x68 instr ∷ []
      → new.marks ≡ no_end.marks
      → Built body (Last instr rest) after held old new
  -- the block behind which a path ends is empty
  missing : (around : Span) (after held : List Slot) (old new : Low)
      → Ends around old.emitter new.emitter nothing
      → new.marks ≡ old.marks
      → Built body (Path around []) after held old new
  further : (around : Span) (instr : SlotInstr) (rest : List SlotInstr) (after held : List Slot) (old mid new : Low)
      → is_over (map shapes_of rest) ≡ false
      → Built body (One instr rest) after held old mid
      → Built body (Path around rest) after held mid new
      → Built body (Path around (instr ∷ rest)) after held old new
  ended : (around : Span) (instr : SlotInstr) (rest : List SlotInstr) (after held : List Slot) (old new : Low)
      → is_over (map shapes_of rest) ≡ true
      → Built body (Last instr rest) after held old new
      → Built body (Path around (instr ∷ rest)) after held old new

-- (under a function, where a search does not look)
abbrev pub IsBuilt : List SlotInstr → Part → List Slot → List Slot → Low → Low → Type 0
IsBuilt body part after held old new = Unit {0} → Built body part after held old new

-- how the code and the marks of a function were emitted
pub record IsScheduled (f : SlotFunction) (layout : List Slot) (code : List Spanned) (marks : List Mark) : Type 0 where
  pub old : Low
  pub new : Low
  pub starts : Starts f layout old
  pub built : Built f.body (Path f.span f.body) [] [] old new
  pub code_is : code ≡ new.emitter.code.items
  pub marks_are : marks ≡ new.marks.items
