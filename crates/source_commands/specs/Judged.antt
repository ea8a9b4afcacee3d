-- What is shown of a spend of a source's program: the scripts and the verdict, beside the run of the source.
use Rattle.std.specs.Prelude.{◌≡◌, ℕ, List, [], ◌++◌, slice_get, Option, Some, None, Ok}
use Rattle.std.specs.List.{AllByRecursion}
use Rattle.cash_base.specs.Outside.{Files}
use Rattle.cash_base.specs.Element.{IsElement}
use Rattle.cash_base.specs.declared.fault.MachineCause.TheVariants.{Shared}
use Rattle.cash_base.specs.declared.place.Slot.{Slot}
use Rattle.cash_tree.specs.declared.Ty.{Ty}
use Rattle.cash_tree.specs.declared.Contract.{Contract}
use Rattle.cash_tree.specs.declared.Function.{Function}
use Rattle.source_meaning.specs.declared.outcome.SourceOutcome.{SourceOutcome}
use Rattle.source_meaning.specs.declared.outcome.SourceOutcome.TheVariants.{Met, Failed}
use Rattle.source_meaning.specs.Meaning.{source_outcome}
use Rattle.tx_context.specs.Limits.{IsFrame}
use Rattle.tx_context.specs.Table.{IsTable}
use Rattle.bch_vm.specs.declared.outcome.Which.TheVariants.{Redeem}
use Rattle.bch_vm.specs.declared.outcome.MachineOutcome.{MachineOutcome}
use Rattle.bch_vm.specs.declared.outcome.MachineOutcome.TheVariants.{Accepted, Refused}
use Rattle.bch_vm.specs.Law.{locking_script}
use Rattle.span_map.specs.Lines.{line_col}
use Rattle.artifact_json.specs.Artifact.{Artifact}
use Rattle.spend_json.specs.Given.{SpendParts}
use Rattle.spend_json.specs.Files.{spend_reading}
use Rattle.unlocker.specs.Spends.{Handed, built_call, world_of}
use Rattle.spend_debug.specs.Telling.{lines_with, verdict_line}
use Rattle.spend_trace.specs.Judged.{outcome_of}
use Rattle.spend_trace.specs.Traced.{Trace, trace_of}
use Rattle.command_files.specs.Files.{IsFile}
use Rattle.spend_command.specs.Spent.{report_status, IsReported}
use Rattle.source_commands.specs.Sources.{IsBuilt}
use Rattle.source_texts.specs.TraceLines.{row_lines, trace_lines}

-- ---- the run of the source beside the machine's spend

-- What they come to together. Status 0: the run is met, and the spend accepted. Status 3: the run fails, and the spend is refused
-- in the redeem script, at the place of the run's failure and with its cause. Nothing else goes together.
abbrev pub IsVerdict : List ℕ → SourceOutcome → MachineOutcome → ℕ → List ℕ → Type 0
IsVerdict source Met Accepted status line = (status ≡ 0) × (line ≡ verdict_line Accepted None)
IsVerdict source (Failed span cause) (Refused Redeem at fault) status line =
    (status ≡ 3) × (line ≡ verdict_line (Refused Redeem at (Shared cause)) (Some (line_col source span.from)))
IsVerdict source run spend status line = ⊥

-- The text of a call's spend: its scripts, some lines between, and a verdict that is that of the run of the function that is
-- called, on the elements of the call, in the world of its scripts.
pub record IsDecided (source : List ℕ) (contract : Contract Slot Ty) (spend : SpendParts) (call : Handed) (between : List ℕ) (status : ℕ) (text : List ℕ) : Type 0 where
  pub function : Function Slot Ty
  pub called : slice_get contract.functions call.chosen ≡ Some function
  pub line : List ℕ
  pub verdict : IsVerdict source (source_outcome contract call.ctor function call.args (world_of spend call.scripts))
      (outcome_of spend call.scripts) status line
  pub shown : text ≡ lines_with call.scripts.redeem call.scripts.unlocking (locking_script call.scripts.redeem) (between ++ line)

-- ... if the bytes of a spend file ask for a call. Of pushes that stand for none, nothing is claimed but what the machine does.
abbrev pub AreDecided : List ℕ → Contract Slot Ty → Artifact → List ℕ → List ℕ → ℕ → List ℕ → Type 0
AreDecided source contract program bytes between status text =
    (spend : SpendParts) (call : Handed) → spend_reading bytes ≡ Ok spend → built_call program spend ≡ Ok call
    → IsDecided source contract spend call between status text

-- ---- `debug`

-- The scripts and the verdict of the spend of the first file's contract that the second file asks for. The program is correct for
-- the contract: for all other elements, transactions and tables too.
pub record IsDebugged (files : Option Files) (source_name spend_name : List ℕ) (status : ℕ) (text : List ℕ) : Type 0 where
  pub contract : Contract Slot Ty
  pub program : Artifact
  pub built : IsBuilt files source_name program.source contract program
  pub bytes : List ℕ
  pub beside : IsFile files spend_name bytes
  pub reported : IsReported program bytes status text
  pub decided : AreDecided program.source contract program bytes [] status text

-- ---- `trace`

-- the trace of a spend of a program
pub record IsTraceOf (source : List ℕ) (program : Artifact) (spend : SpendParts) (trace : Trace) (status : ℕ) (text : List ℕ) : Type 0 where
  pub traced : trace_of program spend ≡ Ok trace
  pub status_is : status ≡ report_status trace.report
  pub shown : text ≡ trace_lines source trace

-- ... that the bytes of a spend file ask for
pub record IsTracedBy (contract : Contract Slot Ty) (program : Artifact) (bytes : List ℕ) (status : ℕ) (text : List ℕ) : Type 0 where
  pub spend : SpendParts
  pub asked : spend_reading bytes ≡ Ok spend
  pub trace : Trace
  pub judged : IsTraceOf program.source program spend trace status text
  pub decided : AreDecided program.source contract program bytes (row_lines program.source trace.rows) status text

-- the trace of the spend of the first file's contract that the second file asks for
pub record IsTraced (files : Option Files) (source_name spend_name : List ℕ) (status : ℕ) (text : List ℕ) : Type 0 where
  pub contract : Contract Slot Ty
  pub program : Artifact
  pub built : IsBuilt files source_name program.source contract program
  pub bytes : List ℕ
  pub beside : IsFile files spend_name bytes
  pub traced : IsTracedBy contract program bytes status text

-- ---- what holds of all that a spend file asks for

abbrev pub AreElements : Handed → Type 0
AreElements call = AllByRecursion IsElement call.ctor × AllByRecursion IsElement call.args

-- the transaction and the table are within their limits, and the elements of a call are elements
pub record IsProper (program : Artifact) (spend : SpendParts) : Type 0 where
  pub frame : IsFrame spend.frame
  pub verdicts : IsTable spend.verdicts
  pub elements : (call : Handed) → built_call program spend ≡ Ok call → AreElements call
