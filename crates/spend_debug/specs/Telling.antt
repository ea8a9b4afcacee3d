-- What is told of a spend: its scripts and how it ends, and why one isn't made.
use Rattle.std.specs.Prelude.{ℕ, List, ◌++◌, codes, Option, Some, None, option_map}
use Rattle.std.specs.Fmt.{decimal}
use Rattle.hex.specs.Hex.{encode_lower}
use Rattle.cash_base.specs.declared.fault.Cause.{Cause}
use Rattle.cash_base.specs.declared.fault.Cause.TheVariants as causes
use Rattle.cash_base.specs.declared.fault.MachineCause.{MachineCause}
use Rattle.cash_base.specs.declared.fault.MachineCause.TheVariants as machine
use Rattle.cash_base.specs.declared.place.Span.{Span}
use Rattle.bch_vm.specs.declared.outcome.Which.{Which}
use Rattle.bch_vm.specs.declared.outcome.Which.TheVariants.{Unlocking, Locking, Redeem}
use Rattle.bch_vm.specs.declared.outcome.MachineOutcome.{MachineOutcome}
use Rattle.bch_vm.specs.declared.outcome.MachineOutcome.TheVariants.{Accepted, Refused}
use Rattle.span_map.specs.Lines.{line_col}
use Rattle.unlocker.specs.declared.BuildFault.{BuildFault}
use Rattle.unlocker.specs.declared.BuildFault.TheVariants as builds
use Rattle.spend_debug.specs.declared.spend_lines.LineFault.{LineFault}
use Rattle.spend_debug.specs.declared.spend_lines.LineFault.TheVariants as lines
use Rattle.spend_debug.specs.declared.report.InputStop.{InputStop}
use Rattle.spend_debug.specs.declared.report.InputStop.TheVariants as stops

-- a report as contracts see it
pub record Told : Type 0 where
  pub redeem : List ℕ
  pub unlocking : List ℕ
  pub locking : List ℕ
  pub outcome : MachineOutcome
  pub place : Option Span

-- a line and a column of a source, both from 1
abbrev pub LineCol : Type 0
LineCol = ℕ × ℕ

-- where a place is told: at its first byte
abbrev pub told_place : List ℕ → Option Span → Option LineCol
told_place source place = option_map (λ span. line_col source span.from) place

-- ---- names

-- causes that a run of the source has too
abbrev pub cause_name : Cause → List ℕ
cause_name causes.CheckFailed = codes "CheckFailed"
cause_name causes.NotANumber = codes "NotANumber"
cause_name causes.NumberRange = codes "NumberRange"
cause_name causes.DivideByZero = codes "DivideByZero"
cause_name causes.SplitRange = codes "SplitRange"
cause_name causes.PadSize = codes "PadSize"
cause_name causes.Oversize = codes "Oversize"
cause_name causes.LengthDiffers = codes "LengthDiffers"
cause_name causes.IndexRange = codes "IndexRange"
cause_name causes.NullFail = codes "NullFail"
cause_name causes.Malformed = codes "Malformed"
cause_name causes.LockTime = codes "LockTime"
cause_name causes.Age = codes "Age"

abbrev pub machine_name : MachineCause → List ℕ
machine_name (machine.Shared cause) = cause_name cause
machine_name machine.Underflow = codes "Underflow"
machine_name machine.BadOpcode = codes "BadOpcode"
machine_name machine.Disabled = codes "Disabled"
machine_name machine.Unbalanced = codes "Unbalanced"
machine_name machine.NotClean = codes "NotClean"
machine_name machine.NotPushOnly = codes "NotPushOnly"
machine_name machine.HashDiffers = codes "HashDiffers"
machine_name machine.OpLimit = codes "OpLimit"
machine_name machine.StackLimit = codes "StackLimit"
machine_name machine.ScriptSize = codes "ScriptSize"
machine_name machine.PushSize = codes "PushSize"
machine_name machine.NotMinimal = codes "NotMinimal"
machine_name machine.KeyCount = codes "KeyCount"
machine_name machine.CheckBits = codes "CheckBits"
machine_name machine.Returned = codes "Returned"
machine_name machine.AltEmpty = codes "AltEmpty"
machine_name machine.EndFalse = codes "EndFalse"
machine_name machine.EndEmpty = codes "EndEmpty"
machine_name machine.Truncated = codes "Truncated"

-- a false element at the end of a script that has a place is told as a check that fails
abbrev pub placed_name : MachineCause → List ℕ
placed_name machine.EndFalse = cause_name causes.CheckFailed
placed_name cause = machine_name cause

abbrev pub told_name : MachineCause → Option LineCol → List ℕ
told_name cause (Some place) = placed_name cause
told_name cause None = machine_name cause

abbrev pub script_name : Which → List ℕ
script_name Unlocking = codes "unlocking"
script_name Locking = codes "locking"
script_name Redeem = codes "redeem"

-- ---- lines

-- LINE:COL
abbrev pub at_place : LineCol → List ℕ
at_place place = decimal place.0 ++ codes ":" ++ decimal place.1

-- ... or the script where there is no place
abbrev pub where_told : Which → Option LineCol → List ℕ
where_told script (Some place) = at_place place
where_told script None = script_name script

-- `accepted`, or `refused WHERE CAUSE opcode N`
abbrev pub verdict_line : MachineOutcome → Option LineCol → List ℕ
verdict_line Accepted place = codes "accepted\n"
verdict_line (Refused script at cause) place =
    codes "refused " ++ where_told script place ++ codes " " ++ told_name cause place
    ++ codes " opcode " ++ decimal at ++ codes "\n"

-- the verdict where the run of the source fails
abbrev pub failure_line : LineCol → Cause → ℕ → List ℕ
failure_line place cause at =
    codes "refused " ++ at_place place ++ codes " " ++ cause_name cause ++ codes " opcode " ++ decimal at ++ codes "\n"

-- `NAME HEX`
abbrev pub script_line : List ℕ → List ℕ → List ℕ
script_line name script = name ++ codes " " ++ encode_lower script ++ codes "\n"

-- the three scripts, a line each
abbrev pub script_lines : List ℕ → List ℕ → List ℕ → List ℕ
script_lines redeem unlocking locking =
    script_line (codes "redeem") redeem ++ script_line (codes "unlocking") unlocking ++ script_line (codes "locking") locking

-- ... and then the line of a verdict
abbrev pub lines_with : List ℕ → List ℕ → List ℕ → List ℕ → List ℕ
lines_with redeem unlocking locking verdict = script_lines redeem unlocking locking ++ verdict

-- ... with the line and the column of its place in the source
abbrev pub report_lines : List ℕ → Told → List ℕ
report_lines source told =
    lines_with told.redeem told.unlocking told.locking (verdict_line told.outcome (told_place source told.place))

-- ---- why no spend is made of what is handed in

-- what is told of a fault of a file of arguments; want of memory is no fault of the file
abbrev pub line_stop : LineFault → Option InputStop
line_stop lines.BadHex = Some stops.BadHex
line_stop lines.Range = Some stops.Range
line_stop lines.TooMany = Some stops.TooMany
line_stop lines.Memory = None

-- and where scripts aren't built
abbrev pub build_stop : BuildFault → Option InputStop
build_stop (builds.WrongCount wanted found) = Some (stops.WrongCount wanted found)
build_stop builds.NoSuchFunction = Some stops.NoSuchFunction
build_stop builds.WrongValue = Some stops.WrongValue
build_stop (builds.WrongLength wanted found) = Some (stops.WrongLength wanted found)
build_stop builds.IntRange = Some stops.IntRange
build_stop (builds.TooLong bytes) = Some (stops.TooLong bytes)
build_stop (builds.RedeemTooLong bytes) = Some (stops.RedeemTooLong bytes)
build_stop (builds.UnlockTooLong bytes) = Some (stops.UnlockTooLong bytes)
build_stop builds.PushesGiven = Some stops.PushesGiven
build_stop builds.Memory = None

abbrev pub input_line : InputStop → List ℕ
input_line stops.BadHex = codes "input BadHex arguments\n"
input_line stops.Range = codes "input Range arguments\n"
input_line stops.TooMany = codes "input TooMany arguments\n"
input_line (stops.WrongCount wanted found) =
    codes "input WrongCount " ++ decimal wanted ++ codes " " ++ decimal found ++ codes "\n"
input_line stops.NoSuchFunction = codes "input NoSuchFunction\n"
input_line stops.WrongValue = codes "input WrongValue\n"
input_line (stops.WrongLength wanted found) =
    codes "input WrongLength " ++ decimal wanted ++ codes " " ++ decimal found ++ codes "\n"
input_line stops.IntRange = codes "input IntRange\n"
input_line (stops.TooLong bytes) = codes "input TooLong " ++ decimal bytes ++ codes "\n"
input_line (stops.UnlockTooLong bytes) = codes "input UnlockTooLong " ++ decimal bytes ++ codes "\n"
input_line stops.PushesGiven = codes "input PushesGiven\n"
input_line (stops.RedeemTooLong bytes) = codes "input RedeemTooLong " ++ decimal bytes ++ codes "\n"
