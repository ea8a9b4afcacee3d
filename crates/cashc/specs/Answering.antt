-- How a command is answered.
use Rattle.std.specs.Prelude.{ℕ, ◌≤◌, Option, Some}
use Rattle.cash_base.specs.Outside.{Files}
use Rattle.command_files.specs.declared.Stop.{Stop}
use Rattle.command_files.specs.declared.Stop.TheVariants.{Refused, Unread, Memory}
use Rattle.cashc.specs.declared.commands.Command.{Command as Named}
use Rattle.cashc.specs.declared.commands.Command.TheVariants as named
use Rattle.cashc.specs.TopCall.{Command, compile_by, debug_by, trace_by, spend_by, meaning_by, workload_by, IsToldFor, HasReadCauseFor}

-- a command of the code, without where its names lie in memory
abbrev pub seen : Named → Command
seen (named.Compile source updated) = compile_by source.now updated.now
seen (named.Debug source spend) = debug_by source.now spend.now
seen (named.Trace source spend) = trace_by source.now spend.now
seen (named.Spend artifact spend) = spend_by artifact.now spend.now
seen (named.Meaning source spend) = meaning_by source.now spend.now
seen (named.Workload contracts) = workload_by contracts

-- a workload has at most 200 contracts
abbrev pub IsSmall : Command → Type 0
IsSmall (workload_by contracts) = contracts ≤ 200
IsSmall _ = Unit {0}

-- a command shows nothing
abbrev pub HasCause : Option Files → Command → ℕ → ℕ → Stop → Type 0
HasCause files command before now (Refused status text) = IsToldFor files (Some command) status text.items
HasCause files command before now Unread = HasReadCauseFor files (Some command) before now
HasCause files command before now Memory = Unit {0}
