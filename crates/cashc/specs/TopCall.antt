-- What the program promises: what each command writes, status by status.
use Rattle.std.specs.Prelude.{◌≡◌, ℕ, ◌+◌, ◌-◌, ◌*◌, ◌⊎◌, Bool, ◌&&◌, nat_le, List, [], ◌∷◌, length, codes, Option, Some, None, option_map, if◌then◌else◌, string_bytes}
use Rattle.std.specs.Str.{bytes_eq}
use Rattle.std.specs.Global.{Global}
use Rattle.std.specs.declared.string.String.{String}
use Rattle.cash_base.specs.Outside.{Files, Rose, Grew, GrewByFront}
use Rattle.command_files.specs.Files.{IsMissing}
use Rattle.spend_command.specs.Spent.{IsSpent, IsNoSpend, IsSpendRefusal, LacksSpendFile}
use Rattle.source_commands.specs.Sources.{IsRefusal, IsRefusalOf, LacksSpendOf}
use Rattle.source_commands.specs.Compiled.{IsArtifactOf}
use Rattle.source_commands.specs.Judged.{IsDebugged, IsTraced}
use Rattle.source_commands.specs.Meaning.{IsMeantIn, IsNoCall}
use Rattle.workload.specs.Lines.{IsSummary}
use Rattle.workload.specs.Refused.{IsWorkRefused}

-- ---- the words

abbrev pub usage : List ℕ
usage = codes "usage: cashc compile FILE [--updated-at TEXT] | debug SOURCE SPEND | trace SOURCE SPEND | spend ARTIFACT SPEND | meaning SOURCE SPEND | workload NUMBER\n"

-- a command, with the names of its files, or how much it does
pub data Command : Type 0 where
  -- a source, and when it was compiled
  compile_by : List ℕ → List ℕ → Command
  debug_by : List ℕ → List ℕ → Command
  trace_by : List ℕ → List ℕ → Command
  spend_by : List ℕ → List ℕ → Command
  meaning_by : List ℕ → List ℕ → Command
  -- so many generated contracts
  workload_by : ℕ → Command

-- when a program was compiled, where nothing is said
abbrev pub no_time : List ℕ
no_time = codes "1970-01-01T00:00:00.000Z"

-- a command with two files
abbrev pub with_two_files : List ℕ → List ℕ → List ℕ → Option Command
with_two_files command first second =
    if bytes_eq command (codes "debug") then Some (debug_by first second)
    else (if bytes_eq command (codes "trace") then Some (trace_by first second)
    else (if bytes_eq command (codes "spend") then Some (spend_by first second)
    else (if bytes_eq command (codes "meaning") then Some (meaning_by first second) else None)))

-- `compile FILE --updated-at TEXT`, where the text has at most 64 bytes
abbrev pub with_time : List ℕ → List ℕ → List ℕ → List ℕ → Option Command
with_time command source flag time =
    if bytes_eq command (codes "compile") && (bytes_eq flag (codes "--updated-at") && nat_le (length time) 64)
    then Some (compile_by source time) else None

-- A number from 1 to 200 in decimal digits, without a leading zero.
abbrev pub is_digit_from : ℕ → ℕ → Bool
is_digit_from least byte = nat_le least byte && nat_le byte 57

abbrev pub digits_number : List ℕ → Option ℕ
digits_number (a ∷ []) = if is_digit_from 49 a then Some (a - 48) else None
digits_number (a ∷ b ∷ []) = if is_digit_from 49 a && is_digit_from 48 b then Some ((a - 48) * 10 + (b - 48)) else None
digits_number (a ∷ b ∷ c ∷ []) =
    if is_digit_from 49 a && (is_digit_from 48 b && is_digit_from 48 c) then Some ((a - 48) * 100 + (b - 48) * 10 + (c - 48)) else None
digits_number _ = None

abbrev pub up_to_200 : Option ℕ → Option ℕ
up_to_200 (Some n) = if nat_le n 200 then Some n else None
up_to_200 None = None

abbrev pub work_count : List ℕ → Option ℕ
work_count word = up_to_200 (digits_number word)

-- a command with one word
abbrev pub with_one_word : List ℕ → List ℕ → Option Command
with_one_word command word =
    if bytes_eq command (codes "compile") then Some (compile_by word no_time)
    else (if bytes_eq command (codes "workload") then option_map workload_by (work_count word) else None)

-- the command that the words are, if they are one
abbrev pub command_of : List (String Global) → Option Command
command_of (command ∷ word ∷ []) = with_one_word (string_bytes command) (string_bytes word)
command_of (command ∷ first ∷ second ∷ []) = with_two_files (string_bytes command) (string_bytes first) (string_bytes second)
command_of (command ∷ source ∷ flag ∷ time ∷ []) =
    with_time (string_bytes command) (string_bytes source) (string_bytes flag) (string_bytes time)
command_of _ = None

-- ---- what is shown: statuses 0 and 3

abbrev pub IsShownFor : Option Files → Option Command → ℕ → List ℕ → Type 0
IsShownFor files (Some (compile_by source time)) status text = (status ≡ 0) × IsArtifactOf files source time text
IsShownFor files (Some (debug_by source spend)) status text = IsDebugged files source spend status text
IsShownFor files (Some (trace_by source spend)) status text = IsTraced files source spend status text
IsShownFor files (Some (spend_by artifact spend)) status text = IsSpent files artifact spend status text
IsShownFor files (Some (meaning_by source spend)) status text = IsMeantIn files source spend status text
IsShownFor files (Some (workload_by contracts)) status text = (status ≡ 0) × IsSummary contracts text
IsShownFor files None status text = ⊥

-- what statuses 0 and 3 write to `out`
abbrev pub IsShown : Option Files → List (String Global) → ℕ → List ℕ → Type 0
IsShown files words status text = IsShownFor files (command_of words) status text

-- ---- what is refused: statuses 1, 2 and 4

-- the source is refused; or it isn't, and what is asked of its program is; or an artifact is, or what is asked of its program
abbrev pub IsRefusedFor : Option Files → Command → ℕ → List ℕ → Type 0
IsRefusedFor files (compile_by source time) status text = (status ≡ 1) × IsRefusal files source text
IsRefusedFor files (debug_by source spend) status text = IsRefusalOf IsNoSpend files source spend status text
IsRefusedFor files (trace_by source spend) status text = IsRefusalOf IsNoSpend files source spend status text
IsRefusedFor files (spend_by artifact spend) status text = (status ≡ 4) × IsSpendRefusal files artifact spend text
IsRefusedFor files (meaning_by source spend) status text = IsRefusalOf IsNoCall files source spend status text
IsRefusedFor files (workload_by contracts) status text = IsWorkRefused contracts status text

-- the words are no command, or their command is refused
abbrev pub IsToldFor : Option Files → Option Command → ℕ → List ℕ → Type 0
IsToldFor files None status text = (status ≡ 2) × (text ≡ usage)
IsToldFor files (Some command) status text = IsRefusedFor files command status text

-- what statuses 1, 2 and 4 write to `err`
abbrev pub IsTold : Option Files → List (String Global) → ℕ → List ℕ → Type 0
IsTold files words status text = IsToldFor files (command_of words) status text

-- ---- what stops: statuses 5, 6 and 7

abbrev pub read_failed : List ℕ
read_failed = codes "read failed\n"

-- The store tells its files, and lacks one that the command reads. The second file is read only beside a source that is compiled,
-- or the artifact of a program.
abbrev pub LacksFile : Option Files → Command → Type 0
LacksFile files (compile_by source time) = IsMissing files source
LacksFile files (debug_by source spend) = LacksSpendOf files source spend
LacksFile files (trace_by source spend) = LacksSpendOf files source spend
LacksFile files (spend_by artifact spend) = LacksSpendFile files artifact spend
LacksFile files (meaning_by source spend) = LacksSpendOf files source spend
LacksFile files (workload_by contracts) = ⊥

-- the cause of status 5: the store had a fault, or lacks a file
abbrev pub HasReadCauseFor : Option Files → Option Command → ℕ → ℕ → Type 0
HasReadCauseFor files None before now = ⊥
HasReadCauseFor files (Some command) before now = Rose before now ⊎ LacksFile files command

abbrev pub HasReadCause : Option Files → List (String Global) → ℕ → ℕ → Type 0
HasReadCause files words before now = HasReadCauseFor files (command_of words) before now

-- a sink had a fault, and grew by a front of the text
abbrev pub Stopped : ℕ → ℕ → Option (List ℕ) → Option (List ℕ) → List ℕ → Type 0
Stopped faults_before faults_now before now text = Rose faults_before faults_now × GrewByFront before now text

-- one write of the text was tried: a front of it was written, and all of it where the sink had no fault
pub record Tried (faults_before faults_now : ℕ) (before now : Option (List ℕ)) (text : List ℕ) : Type 0 where
  pub front : GrewByFront before now text
  pub whole : (Rose faults_before faults_now → ⊥) → Grew before now text
