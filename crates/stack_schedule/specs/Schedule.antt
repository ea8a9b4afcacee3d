-- What is promised of the code of a function.
use Rattle.std.specs.Prelude.{◌≡◌, ◌⊎◌, ℕ, ◌+◌, ◌≤◌, Bool, true, false, IsTrue, List, [], ◌∷◌, length, map, Option, Some, None, slice_get, Result, Ok, Err}
use Rattle.cash_base.specs.declared.fault.Cause.{Cause}
use Rattle.cash_base.specs.declared.fault.Cause.TheVariants.{CheckFailed}
use Rattle.cash_base.specs.declared.fault.MachineCause.{MachineCause}
use Rattle.cash_base.specs.declared.fault.MachineCause.TheVariants.{Shared, EndFalse}
use Rattle.cash_base.specs.declared.place.Slot.{Slot}
use Rattle.cash_base.specs.declared.place.Span.{Span}
use Rattle.cash_base.specs.Number.{truth_of}
use Rattle.cash_base.specs.Source.{place_in}
use Rattle.tx_context.specs.World.{World}
use Rattle.script_codec.specs.declared.spans.Spanned.{Spanned}
use Rattle.script_codec.specs.Names.{are_named}
use Rattle.script_codec.specs.Spelling.{spellings}
use Rattle.script_codec.specs.Reading.{reading}
use Rattle.script_codec.specs.Counting.{counted_in}
use Rattle.source_meaning.specs.declared.outcome.SourceOutcome.{SourceOutcome}
use Rattle.source_meaning.specs.declared.outcome.SourceOutcome.TheVariants.{Met, Failed}
use Rattle.source_meaning.specs.Meaning.{Env, ended}
use Rattle.slot_code.specs.declared.slots.SlotFunction.{SlotFunction}
use Rattle.slot_code.specs.Meaning.{state, run_of}
use Rattle.slot_code.specs.Shape.{Place, first_slots, start as first_place}
use Rattle.slot_code.specs.Weight.{weight_of}
use Rattle.slot_liveness.specs.Counts.{count_of}
use Rattle.bch_vm.specs.Law.{are_keys_known}
use Rattle.bch_vm.specs.Script.{State, run_end, Failure}
use Rattle.run_laws.specs.Nested.{is_nested}
use Rattle.row_runs.specs.Rows.{instructions, Machine, machine, run_rows, Executed, executed, last_of}
use Rattle.stack_emitter.specs.Codes.{are_sound}
use Rattle.stack_emitter.specs.Correct.{value}
use Rattle.stack_emitter.specs.Places.{spot}
use Rattle.stack_steps.specs.declared.low.Low.{Low}
use Rattle.stack_schedule.specs.Endings.{PathEnds, path_of}

-- ---- where the code begins

-- the layout has exactly the slots of the parameters, each once, in any order
abbrev pub IsStart : SlotFunction → List Slot → Type 0
IsStart f start = (slot : Slot) → count_of slot start ≡ count_of slot (first_slots (f.ctors + f.params))

-- nothing was done, and the parameters stand in the layout
pub record Starts (f : SlotFunction) (layout : List Slot) (low : Low) : Type 0 where
  pub code_is : low.emitter.code.items ≡ []
  pub place_is : low.emitter.place ≡ spot [] layout
  pub scope_is : low.scope ≡ first_slots (f.ctors + f.params)
  pub outer_is : low.outer ≡ []
  pub marks_are : low.marks.items ≡ []

-- ---- the run

-- one element is left, of this truth
abbrev pub LeavesOne : Bool → State → Type 0
LeavesOne truth end = (e : List ℕ) × (end.board.stack ≡ e ∷ []) × (truth_of e ≡ truth)

-- the row at an index tells a cause at this span
abbrev pub Tells : List Spanned → ℕ → MachineCause → Span → Type 0
Tells rows at cause span = (row : Spanned) × (slice_get rows at ≡ Some row) × (place_in row.doing row.checking cause ≡ span)

-- it failed with the cause at a row that has the place
abbrev pub FailsAt : List Spanned → Span → Cause → Result State Failure → Type 0
FailsAt rows span cause end = (at : ℕ) × (end ≡ Err (record { at = at; cause = Shared cause })) × Tells rows at (Shared cause) span

-- a check was false, and its value is all that is left; the last executed row has the place
abbrev pub EndsFalseAt : List Spanned → Span → Cause → Result State Failure → Type 0
EndsFalseAt rows span cause end =
    (s : State) × (end ≡ Ok s) × LeavesOne false s × (cause ≡ CheckFailed) × Tells rows s.progress.last EndFalse span

-- Where the run of the slot code is met, the machine's ends with one true element. Where it fails, the machine's fails with the
-- same cause at the same place, or the false value of the failed check is left, at its statement.
abbrev pub EndsAs : List Spanned → SourceOutcome → Result State Failure → Type 0
EndsAs rows Met end = (s : State) × (end ≡ Ok s) × LeavesOne true s
EndsAs rows (Failed span cause) end = FailsAt rows span cause end ⊎ EndsFalseAt rows span cause end

-- In every world, on exactly the elements of the layout, from any values of the slots: the run of the code ends as that of the
-- slot code. One direction is the other, since the slot code's run ends in one way.
abbrev pub Decides : SlotFunction → List Slot → List Spanned → Type 0
Decides f start rows = (world : World) (env : Env)
    → EndsAs rows (ended (run_of world f.body (state [] env))) (run_end world (instructions rows) (map (value env) start))

-- where the run ends, the last executed row other than IF, NOTIF, ELSE and ENDIF has the checking span at which the path ends
abbrev pub EndsItsPath : SlotFunction → List Slot → List Spanned → Type 0
EndsItsPath f start rows = (world : World) (env : Env) (s : State) → run_end world (instructions rows) (map (value env) start) ≡ Ok s
    → (row : Spanned) × (slice_get rows s.progress.last ≡ Some row) × PathEnds world f.span f.body (state [] env) row.checking

-- where a run ends, a row other than IF, NOTIF, ELSE and ENDIF was executed
abbrev pub EndsOnItsOwn : List Slot → List Spanned → Type 0
EndsOnItsOwn start rows = (world : World) (env : Env) (m : Machine) → run_rows world rows (machine (map (value env) start) []) ≡ Ok m
    → (e : Executed) × (last_of None (executed world 0 rows (machine (map (value env) start) [])) ≡ Some e)

-- ---- the form of the code

-- It is nested, so nothing in it is disabled; each instruction has a spelling, and none is CODESEPARATOR, DEPTH, TOALTSTACK or
-- FROMALTSTACK.
pub record HasForm (rows : List Spanned) : Type 0 where
  pub nested : IsTrue (is_nested (instructions rows))
  pub sound : IsTrue (are_sound rows)

-- each check of several signatures stands directly behind the push of a number of keys from 0 to 20
abbrev pub CountsKeys : List Spanned → Type 0
CountsKeys rows = IsTrue (are_keys_known false (instructions rows))

-- each opcode has a name
abbrev pub AreNamed : List Spanned → Type 0
AreNamed rows = IsTrue (are_named (instructions rows))

-- ---- marks

abbrev pub seen_at : Option Place → List Span
seen_at None = []
seen_at (Some place) = place.seen

-- the distinct checking spans of the instructions, in the order in which they first stand
abbrev pub statements : SlotFunction → List Span
statements f = seen_at (path_of f.body (first_place (f.ctors + f.params)))

-- ---- weights

-- at most the bytes and the counted opcodes that the function weighs, the keys of checks of several signatures among them
pub record IsWithin (f : SlotFunction) (rows : List Spanned) : Type 0 where
  pub bytes : length (spellings (instructions rows)) ≤ (weight_of f).bytes
  pub ops : counted_in (reading (spellings (instructions rows))) ≤ (weight_of f).ops
