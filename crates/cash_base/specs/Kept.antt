-- What a store or a sink in memory keeps.
use Rattle.std.specs.Prelude.{ℕ, Contains, ◌+◌, ◌-◌, ◌*◌, ◌^◌, min, List, Some, Result, map, string_bytes}
use Rattle.std.specs.declared.string.String.{String}
use Rattle.std.specs.declared.vec.Vec.{Vec}
use Rattle.std.specs.Global.{Global}
use Rattle.cash_base.specs.declared.outside.StoreStop.{StoreStop}
use Rattle.cash_base.specs.Outside.{Files, Reads}

-- the files of a list of names and contents
abbrev pub kept_files : List (String Global × Vec ℕ Global) → Files
kept_files files = map (λ file. (string_bytes file.0, file.1.items)) files

-- the calls of a store or a sink that fails on chosen ones
pub record Calls : Type 0 where
  -- the numbers of those that fail, counted from 0
  pub failing : List ℕ
  -- how many were made, and so the number of the next
  pub made : ℕ
  -- how many were faults
  pub faults : ℕ

-- the next call is one of those that fail
abbrev pub FailsNext : Calls → Type 0
FailsNext calls = Contains calls.failing calls.made

-- before the first call
abbrev pub no_calls : List ℕ → Calls
no_calls failing = record { failing = failing; made = 0; faults = 0 }

-- one more, up to the last value of the counters
abbrev pub counted : ℕ → ℕ
counted n = min (n + 1) (2 ^ 64 - 1)

-- after a call that is no fault
abbrev pub after_call : Calls → Calls
after_call calls = record calls { made = counted calls.made }

-- after a call that is a fault
abbrev pub after_fault : Calls → Calls
after_fault calls = record calls { made = counted calls.made; faults = counted calls.faults }

-- a store in memory: its files and its calls
pub record MemoryFiles : Type 0 where
  pub files : Files
  pub calls : Calls

-- the room of a sink in memory, 16 MiB
abbrev pub sink_room : ℕ
sink_room = 16 * 1024 * 1024

-- a sink in memory: what was written and its calls
pub record MemoryBytes : Type 0 where
  pub written : List ℕ
  pub calls : Calls

-- what a read of these files answers where there is no fault
abbrev pub ReadsSurely : Files → List ℕ → ℕ → Result (Unit {0}) StoreStop → List ℕ → Type 0
ReadsSurely files name limit result bytes = Reads (Some files) 0 0 name limit result bytes
