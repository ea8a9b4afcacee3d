-- Spends of a contract's code beside the runs of its source, with each quantifier said once.
use Rattle.std.specs.Prelude.{◌≡◌, ◌↔◌, ℕ, ◌≤◌, ◌⊎◌, Bool, true, false, List, length, Some, slice_get, IsTrue}
use Rattle.std.specs.List.{AllByRecursion}
use Rattle.cash_base.specs.declared.fault.Cause.{Cause}
use Rattle.cash_base.specs.declared.fault.Cause.TheVariants.{CheckFailed}
use Rattle.cash_base.specs.declared.fault.MachineCause.{MachineCause}
use Rattle.cash_base.specs.declared.fault.MachineCause.TheVariants.{Shared, EndFalse, ScriptSize, PushSize, OpLimit, StackLimit}
use Rattle.cash_base.specs.declared.place.Slot.{Slot}
use Rattle.cash_base.specs.Element.{IsElement}
use Rattle.cash_tree.specs.declared.Ty.{Ty}
use Rattle.cash_tree.specs.declared.Contract.{Contract}
use Rattle.cash_tree.specs.declared.Function.{Function}
use Rattle.source_meaning.specs.declared.outcome.SourceOutcome.{SourceOutcome}
use Rattle.source_meaning.specs.declared.outcome.SourceOutcome.TheVariants.{Met, Failed}
use Rattle.source_meaning.specs.Meaning.{source_outcome}
use Rattle.tx_context.specs.Transaction.{Transaction, Locking}
use Rattle.tx_context.specs.Limits.{IsFrame}
use Rattle.tx_context.specs.World.{World, filled_context}
use Rattle.tx_context.specs.Table as verdict
use Rattle.script_codec.specs.declared.instr.Instr.{Instr}
use Rattle.script_codec.specs.Spelling.{are_instructions}
use Rattle.bch_vm.specs.declared.outcome.Which.TheVariants.{Redeem}
use Rattle.bch_vm.specs.declared.outcome.MachineOutcome.{MachineOutcome}
use Rattle.bch_vm.specs.declared.outcome.MachineOutcome.TheVariants.{Accepted, Refused}
use Rattle.bch_vm.specs.Law.{locking_script}
use Rattle.bch_vm.specs.Spend.{spend_outcome}
use Rattle.span_map.specs.declared.SpanRow.{SpanRow}
use Rattle.span_map.specs.Places.{place_after}
use Rattle.unlocker.specs.Scripts.{redeem_script, spending_script}
use Rattle.artifact_json.specs.Artifact.{Artifact}
use Rattle.cash_compile.specs.Describes.{Describes}

-- ---- a call, and what stands outside

-- elements for the constructor, a function by its number, and elements for its arguments
pub record Call : Type 0 where
  pub ctor : List (List ℕ)
  pub chosen : ℕ
  pub args : List (List ℕ)

-- as many as there are parameters, each of at most 520 bytes
pub record IsCallOf (contract : Contract Slot Ty) (function : Function Slot Ty) (call : Call) : Type 0 where
  pub ctor_count : length call.ctor ≡ length contract.params
  pub found : slice_get contract.functions call.chosen ≡ Some function
  pub arg_count : length call.args ≡ length function.params
  pub ctor_elements : AllByRecursion IsElement call.ctor
  pub arg_elements : AllByRecursion IsElement call.args

-- and the redeem script can be pushed
pub record Admits (contract : Contract Slot Ty) (code : List Instr) (function : Function Slot Ty) (call : Call) : Type 0 where
  pub called : IsCallOf contract function call
  pub size : length (redeem_script code call.ctor) ≤ 520

-- how the source's run of a call ends
abbrev pub run_of : Contract Slot Ty → Function Slot Ty → Call → World → SourceOutcome
run_of contract function call world = source_outcome contract call.ctor function call.args world

-- a transaction, and a table of verdicts
pub record Outside : Type 0 where
  pub frame : Transaction Locking
  pub verdicts : List verdict.Row

pub record IsOutside (outside : Outside) : Type 0 where
  pub frame : IsFrame outside.frame
  pub table : verdict.IsTable outside.verdicts

-- The world in which a call of a contract of so many functions is spent by the built scripts: its context holds these scripts
-- themselves.
abbrev pub world_of : ℕ → List Instr → Call → Outside → World
world_of functions code call outside = let redeem = redeem_script code call.ctor in record {
  context = filled_context outside.frame (locking_script redeem) (spending_script functions call.chosen call.args redeem);
  verdicts = outside.verdicts;
  redeem = redeem;
}

abbrev pub spend_in : World → MachineOutcome
spend_in world = spend_outcome world.context world.verdicts

-- ---- a spend beside the run

-- For every call that the contract admits, and everything outside: this holds of the call, of the spend and of the run.
abbrev pub OnSpends : Contract Slot Ty → List Instr → (Call → MachineOutcome → SourceOutcome → Type 0) → Type 0
OnSpends contract code P =
    (call : Call) (function : Function Slot Ty) (outside : Outside) → Admits contract code function call → IsOutside outside
    → P call (spend_in (world_of (length contract.functions) code call outside))
    (run_of contract function call (world_of (length contract.functions) code call outside))

-- the machine's cause is that of the run, or a false check was the last thing of all
abbrev pub IsSameCause : MachineCause → Cause → Type 0
IsSameCause cause fault = (cause ≡ Shared fault) ⊎ ((cause ≡ EndFalse) × (fault ≡ CheckFailed))

-- An accepted spend goes with a run that is met. One that is refused in the redeem script, which has so many pushes of the
-- constructor before the code, goes with a run that fails with the same cause, at the place of the failing instruction. Nothing
-- else goes together.
abbrev pub Agrees : List SpanRow → ℕ → MachineOutcome → SourceOutcome → Type 0
Agrees rows before Accepted Met = Unit {0}
Agrees rows before (Refused Redeem at cause) (Failed span fault) = (place_after rows before at cause ≡ Some span)
    × IsSameCause cause fault
Agrees rows before _ _ = ⊥

-- the spends agree with the runs
abbrev pub SpendsAgree : Contract Slot Ty → List Instr → List SpanRow → Type 0
SpendsAgree contract code rows = OnSpends contract code (λ call spend run. Agrees rows (length call.ctor) spend run)

-- the machine accepts exactly those whose runs are met
abbrev pub Decides : Contract Slot Ty → List Instr → Type 0
Decides contract code = OnSpends contract code (λ call spend run. (spend ≡ Accepted) ↔ (run ≡ Met))

-- the limits of the machine on sizes and counts
abbrev pub is_limit : MachineCause → Bool
is_limit ScriptSize = true
is_limit PushSize = true
is_limit OpLimit = true
is_limit StackLimit = true
is_limit cause = false

abbrev pub is_limited : MachineOutcome → Bool
is_limited Accepted = false
is_limited (Refused script at cause) = is_limit cause

-- none comes to a limit of the machine
abbrev pub MeetsNoLimit : Contract Slot Ty → List Instr → Type 0
MeetsNoLimit contract code = OnSpends contract code (λ call spend run. is_limited spend ≡ false)

-- ---- a program

-- The program describes the contract of the text, its code can be spelled, and the spends of its code agree with the runs of the
-- contract, by the program's places.
pub record IsCorrect (source : List ℕ) (contract : Contract Slot Ty) (program : Artifact) : Type 0 where
  pub rows : List SpanRow
  pub describes : Describes source contract program rows
  pub spelled : IsTrue (are_instructions program.code)
  pub agrees : SpendsAgree contract program.code rows
