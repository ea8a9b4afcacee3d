-- The run of the code alone beside the run of the source, however long the redeem script is.
use Rattle.std.specs.Prelude.{◌≡◌, ℕ, Bool, true, false, List, [], ◌∷◌, ◌++◌, length, Result, Ok, Err}
use Rattle.cash_base.specs.declared.place.Slot.{Slot}
use Rattle.cash_base.specs.Number.{truth_of}
use Rattle.cash_tree.specs.declared.Ty.{Ty}
use Rattle.cash_tree.specs.declared.Contract.{Contract}
use Rattle.cash_tree.specs.declared.Function.{Function}
use Rattle.source_meaning.specs.declared.outcome.SourceOutcome.{SourceOutcome}
use Rattle.source_meaning.specs.declared.outcome.SourceOutcome.TheVariants.{Met, Failed}
use Rattle.tx_context.specs.World.{World}
use Rattle.script_codec.specs.declared.instr.Instr.{Instr}
use Rattle.opcode_table.specs.Stack.{Stack}
use Rattle.bch_vm.specs.Setting.{setting_in}
use Rattle.bch_vm.specs.Script.{Progress, state, run, run_outcome, Failure}
use Rattle.span_map.specs.declared.SpanRow.{SpanRow}
use Rattle.tidied_code.specs.Ends.{EndsAs}
use Rattle.unlocker.specs.Scripts.{handed_in}
use Rattle.cash_compile.specs.Correct.{Call, IsCallOf, run_of}

-- what the pushes leave, without the redeem script: the constructor's elements on top, the first uppermost
abbrev pub start : Contract Slot Ty → Call → Stack
start contract call = call.ctor ++ handed_in (length contract.functions) call.chosen call.args

-- ---- how a run decides

-- the run of the machine ended with exactly one element, of this truth
abbrev pub EndsIn : Bool → Result Stack Failure → Type 0
EndsIn truth outcome = (e : List ℕ) × (outcome ≡ Ok (e ∷ [])) × (truth_of e ≡ truth)

-- it failed, or ended with exactly one false element
abbrev pub FailsOrEndsFalse : Result Stack Failure → Type 0
FailsOrEndsFalse (Err failure) = Unit {0}
FailsOrEndsFalse (Ok stack) = EndsIn false (Ok stack)

-- Where the source's run is met the machine's ends with one true element, and where it fails the machine's fails or ends with
-- one false element.
abbrev pub AgreesAlone : SourceOutcome → Result Stack Failure → Type 0
AgreesAlone Met outcome = EndsIn true outcome
AgreesAlone (Failed span cause) outcome = FailsOrEndsFalse outcome

-- for every call, in every world, the run of the code on what the pushes leave agrees with the run of the source
abbrev pub DecidesByRun : Contract Slot Ty → List Instr → Type 0
DecidesByRun contract code =
    (call : Call) (function : Function Slot Ty) (world : World) → IsCallOf contract function call
    → AgreesAlone (run_of contract function call world) (run_outcome world code (start contract call))

-- ---- with places, behind whatever stands before the code

-- For every call, in every world, behind so many instructions, as the pushes of the constructor's elements, and in whichever
-- code this one stands: its run ends as that of the source.
abbrev pub AgreesByRun : Contract Slot Ty → List Instr → List SpanRow → Type 0
AgreesByRun contract code rows =
    (call : Call) (function : Function Slot Ty) (world : World) (whole : List Instr) (progress : Progress)
    → IsCallOf contract function call
    → EndsAs rows progress.at (run_of contract function call world)
    (run (setting_in world whole) code (state (start contract call) progress))
