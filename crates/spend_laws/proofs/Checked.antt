-- The checks of an instruction in its minimal spelling: those of the limits are left, and what the instruction does.
use Rattle.std.proofs.Common.{◌≡◌, ℕ, ◌+◌, ◌-◌, ◌≤◌, Bool, true, false, not, ◌&&◌, nat_lt, List, length, Result, Ok, ap, ◌∙◌}
use Rattle.std.proofs.Math.Bool.{and-false}
use Rattle.std.proofs.lemmas.Bool.{le-ltb}
use Rattle.cash_base.specs.declared.fault.MachineCause.{MachineCause}
use Rattle.cash_base.specs.declared.fault.MachineCause.TheVariants.{PushSize, OpLimit, NotMinimal, StackLimit}
use Rattle.cash_base.specs.Failing.{◌>>=◌, ◌>>◌, refused_if}
use Rattle.script_codec.specs.declared.instr.Instr.{Instr}
use Rattle.script_codec.specs.Spelling.{spelling}
use Rattle.script_codec.specs.Reading.{Raw, instruction, is_minimal, size_of}
use Rattle.script_codec.specs.Counting.{weight}
use Rattle.bch_vm.specs.Setting.{Setting, around}
use Rattle.bch_vm.specs.Board.{Board, height, board_after, limited_after, keys_counted, is_live}
use Rattle.bch_vm.specs.Script.{State, state_of, run, balanced, Counted, counted, Progress, progress_past, progress_after, passed, raw_after, Failure}

-- with more than 1,000 elements it is refused
abbrev pub lowered : Result Board MachineCause → Result Board MachineCause
lowered r = do
  next ← r
  refused_if (nat_lt 1000 (height next)) StackLimit
  Ok next

-- what is left of the checks
abbrev pub checked : Bool → Result Board MachineCause → Progress → ℕ → Result Counted MachineCause
checked over r progress count = do
  refused_if over OpLimit
  b ← lowered r
  Ok (counted (state_of b progress) count)

-- the opcodes counted with it, without keys
abbrev pub count_with : Raw → Counted → ℕ
count_with raw s = s.count + weight raw.opcode

-- and with them
abbrev pub count_after : Raw → Instr → Counted → ℕ
count_after raw instr s = count_with raw s + keys_counted instr s.state.board

-- what the instruction does, where so many opcodes may be counted
abbrev pub does : Setting → Instr → State → ℕ → Result Board MachineCause
does setting instr s left = board_after (around setting (s.progress.place + length (spelling instr)) left) instr s.board

abbrev pub checked_after : Setting → Raw → Instr → Counted → Result Counted MachineCause
checked_after setting raw instr s =
    checked (nat_lt 201 (count_with raw s)) (does setting instr s.state (201 - count_with raw s))
    (progress_after instr s.state.board.conditions s.state.progress) (count_after raw instr s)

-- all the checks, by what they test
abbrev all_checks : Setting → Bool → Bool → Instr → ℕ → ℕ → Counted → Result Counted MachineCause
all_checks setting long unfit instr size count s = do
  refused_if long PushSize
  refused_if (nat_lt 201 count) OpLimit
  refused_if unfit NotMinimal
  next ← limited_after (around setting (s.state.progress.place + size) (201 - count)) instr s.state.board
  Ok (counted (state_of next (progress_past size instr s.state.board.conditions s.state.progress)) (count + keys_counted instr s.state.board))

pub raw-checked : (setting : Setting) (raw : Raw) (instr : Instr) (s : Counted) → instruction raw ≡ instr → is_minimal raw ≡ true
    → length raw.pushed ≤ 520 → size_of raw ≡ length (spelling instr) → raw_after setting raw s ≡ checked_after setting raw instr s
raw-checked setting raw instr s meant minimal short sized =
    let count = count_with raw s in
    let live = is_live s.state.board.conditions in
    ap (λ long. all_checks setting long (live && not (is_minimal raw)) (instruction raw) (size_of raw) count s)
    (le-ltb 520 (length raw.pushed) short)
    ∙ ap (λ fit. all_checks setting false (live && not fit) (instruction raw) (size_of raw) count s) minimal
    ∙ ap (λ unfit. all_checks setting false unfit (instruction raw) (size_of raw) count s) (and-false live)
    ∙ ap (λ i. all_checks setting false false i (size_of raw) count s) meant
    ∙ ap (λ size. all_checks setting false false instr size count s) sized

-- with the height tested
abbrev pub under : Bool → Board → Progress → ℕ → Result Counted MachineCause
under high b progress count = do
  next ← refused_if high StackLimit >> Ok b
  Ok (counted (state_of next progress) count)

-- ---- a run and its end

abbrev pub closed : Result State Failure → Result State Failure
closed r = do
  s ← r
  balanced s.board.conditions s

-- the run of the code that stands after an instruction, by what the instruction does
abbrev pub ran_from : Setting → List Instr → ℕ → Progress → Result Board MachineCause → Result State Failure
ran_from setting code at progress r = closed (passed at progress r >>= run setting code)
