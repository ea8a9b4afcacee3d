-- Instructions that work on operands alone.
use Rattle.std.specs.Prelude.{◌≡◌, if◌then◌else◌, ◌∷◌, [], ◌++◌}
use Rattle.cash_base.specs.declared.place.Span.{Span}
use Rattle.slot_code.specs.declared.slots.SlotInstr.{SlotInstr}
use Rattle.slot_code.specs.Meaning.{act_of}
use Rattle.slot_code.specs.Shape.{shapes_of, has_span}
use Rattle.slot_code.specs.Weight.{weighs_of}
use Rattle.slot_liveness.specs.Live.{Slots, reads_of, either}
use Rattle.stack_steps.specs.declared.low.Low.{Low}
use Rattle.stack_steps.specs.Lower.{statements_of, Ready, Does}
use Rattle.stack_steps.specs.Steps.{Tells, places_of, doing_of, KeysKnown, Pays}

-- the statement at this span has begun, and nothing else was done
pub record Marks (span : Span) (old new : Low) : Type 0 where
  pub scope : new.scope ≡ old.scope
  pub outer : new.outer ≡ old.outer
  pub emitter : new.emitter ≡ old.emitter
  pub seen : statements_of new.marks.items
      ≡ (if has_span span (statements_of old.marks.items) then statements_of old.marks.items else statements_of old.marks.items ++ span ∷ [])

-- its statement has begun, and before that the instruction was well formed
pub record Started (instr : SlotInstr) (now : Low) : Type 0 where
  pub before : Low
  pub later : Slots
  pub hold : Slots
  pub marks : Marks instr.checking before now
  pub ready : Ready (shapes_of instr).inner (either (reads_of instr) later) hold before

-- what was added does what the instruction does, wherever its statement began
pub record Operates (instr : SlotInstr) (now new : Low) : Type 0 where
  pub does : (before : Low) (later hold : Slots) → Marks instr.checking before now
      → Ready (shapes_of instr).inner (either (reads_of instr) later) hold before
      → Does (λ world. act_of world instr) (shapes_of instr).inner (either (reads_of instr) later) later hold before new
  pub tells : Tells (doing_of instr) instr.checking now.emitter new.emitter
  pub lays : (later hold : Slots) → new.emitter.place.slots ≡ (places_of instr).lays later hold now.emitter.place.slots
  pub keys : KeysKnown now.emitter → KeysKnown new.emitter
  pub pays : KeysKnown now.emitter → Pays (weighs_of instr).inner now new
  pub scope : new.scope ≡ now.scope
  pub marks : new.marks ≡ now.marks
