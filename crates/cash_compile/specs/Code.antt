-- What is known of the code of a function, and of the code of a contract.
use Rattle.std.specs.Prelude.{◌≡◌, ℕ, ◌+◌, ◌≤◌, ◌<◌, Bool, false, IsTrue, List, ◌++◌, length, map, drop}
use Rattle.std.specs.List.{AllZip, list_all}
use Rattle.cash_base.specs.declared.place.Slot.{Slot}
use Rattle.cash_base.specs.declared.place.Span.{Span}
use Rattle.cash_tree.specs.declared.Ty.{Ty}
use Rattle.cash_tree.specs.declared.Contract.{Contract}
use Rattle.cash_tree.specs.declared.Function.{Function}
use Rattle.cash_tree.specs.Spans.{nothing as no_name, tree_spans}
use Rattle.source_meaning.specs.Meaning.{source_outcome}
use Rattle.tx_context.specs.World.{World}
use Rattle.script_codec.specs.declared.instr.Instr.{Instr}
use Rattle.script_codec.specs.declared.spans.Spanned.{Spanned}
use Rattle.script_codec.specs.declared.spans.Marked.{Marked}
use Rattle.script_codec.specs.Spelling.{are_instructions}
use Rattle.script_codec.specs.Names.{are_named}
use Rattle.bch_vm.specs.Law.{are_keys_known}
use Rattle.bch_vm.specs.Setting.{setting_in}
use Rattle.bch_vm.specs.Script.{state, run, Progress}
use Rattle.slot_code.specs.declared.slots.SlotFunction.{SlotFunction}
use Rattle.slot_code.specs.Shape.{first_slots}
use Rattle.stack_schedule.specs.Schedule as scheduled
use Rattle.stack_schedule.specs.Spans.{have_places, KeepsSpans}
use Rattle.row_runs.specs.Rows.{instructions}
use Rattle.tidied_code.specs.Ends.{EndsAs, places}
use Rattle.cash_compile.specs.Runs.{AgreesByRun}
use Rattle.cash_compile.specs.declared.refusal.Refusal.{Refusal}
use Rattle.cash_compile.specs.declared.refusal.Refusal.TheVariants.{CodeTooLong, TooManyOps}
use Rattle.cash_compile.specs.Compile.{code_size, code_count, most_bytes, most_opcodes, FitsRoom}

-- ---- a function

-- On the elements of the constructor and of the function, in every world, behind whatever stands before it and in whichever code it
-- stands, the run of the rows ends as that of the function's source.
abbrev pub FunctionAgrees : Contract Slot Ty → Function Slot Ty → List Spanned → Type 0
FunctionAgrees contract function rows =
    (ctor args : List (List ℕ)) (world : World) (whole : List Instr) (progress : Progress)
    → length ctor ≡ length contract.params → length args ≡ length function.params
    → EndsAs (map places rows) progress.at (source_outcome contract ctor function args world)
    (run (setting_in world whole) (instructions rows) (state (ctor ++ args) progress))

-- the code of a function of slot code, from its parameters in the order of their slots
pub record IsScheduled (g : SlotFunction) (code : Marked) : Type 0 where
  pub decides : scheduled.Decides g (first_slots (g.ctors + g.params)) code.code.items
  pub own : scheduled.EndsOnItsOwn (first_slots (g.ctors + g.params)) code.code.items
  pub form : scheduled.HasForm code.code.items
  pub keys : scheduled.CountsKeys code.code.items
  pub named : scheduled.AreNamed code.code.items
  pub spans : KeepsSpans g code.code.items
  pub within : scheduled.IsWithin g code.code.items

pub record AreScheduled (lowered : List SlotFunction) (codes : List Marked) : Type 0 where
  pub all : AllZip IsScheduled lowered codes

-- what is left of a loop over functions, from here on, makes the whole
pub record LeftCodes (lowered : List SlotFunction) (now : List Marked) (i : ℕ) : Type 0 where
  pub by : (rest : List Marked) → AllZip IsScheduled (drop i lowered) rest → AllZip IsScheduled lowered (now ++ rest)

-- ---- a contract

pub record IsCode (contract : Contract Slot Ty) (rows : List Spanned) : Type 0 where
  pub agrees : AgreesByRun contract (instructions rows) (map places rows)
  pub spelled : IsTrue (are_instructions (instructions rows))
  pub keys : IsTrue (are_keys_known false (instructions rows))
  -- each opcode has a name
  pub named : IsTrue (are_named (instructions rows))
  -- what holds of every span of the contract holds of both places of each row
  pub spans : (holds : Span → Bool) → IsTrue (list_all holds (tree_spans no_name contract)) → IsTrue (have_places holds rows)
  pub fits : FitsRoom contract (instructions rows)

-- code is over one of the limits, and the refusal carries it
abbrev pub IsOver : List Instr → Refusal → Type 0
IsOver code (CodeTooLong bytes carried) = (carried.items ≡ code) × (bytes ≡ code_size code) × (most_bytes < bytes)
IsOver code (TooManyOps count carried) =
    (carried.items ≡ code) × (code_size code ≤ most_bytes) × (count ≡ code_count code) × (most_opcodes < count)
IsOver code refusal = ⊥
