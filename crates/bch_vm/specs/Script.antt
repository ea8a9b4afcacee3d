-- Runs: from the left, one state after the other, up to the first instruction that fails.
use Rattle.std.specs.Prelude.{◌≡◌, ℕ, ◌+◌, ◌-◌, Bool, true, false, not, ◌&&◌, nat_lt, if◌then◌else◌, List, [], ◌∷◌, ◌++◌, length, Result, Ok, Err}
use Rattle.cash_base.specs.declared.fault.MachineCause.{MachineCause}
use Rattle.cash_base.specs.declared.fault.MachineCause.TheVariants.{Truncated, PushSize, OpLimit, NotMinimal, Unbalanced}
use Rattle.cash_base.specs.Failing.{◌>>=◌, ◌>>◌, refused_if}
use Rattle.tx_context.specs.World.{World}
use Rattle.script_codec.specs.declared.instr.Instr.{Instr}
use Rattle.script_codec.specs.Spelling.{spelling}
use Rattle.script_codec.specs.Reading.{Raw, Piece, Whole, CutOff, instruction, is_minimal, size_of}
use Rattle.script_codec.specs.Counting.{weight}
use Rattle.opcode_table.specs.Stack.{Stack}
use Rattle.bch_vm.specs.Setting.{Setting, setting_in, around}
use Rattle.bch_vm.specs.Board.{Board, board, board_after, limited_after, keys_counted, is_live, is_executed, is_effective}

-- how many instructions were passed; the index of the last that was executed and is no IF, NOTIF, ELSE or ENDIF, or 0 where
-- there is none; and the place in bytes where the next begins
pub record Progress : Type 0 where
  pub at : ℕ
  pub last : ℕ
  pub place : ℕ

abbrev pub beginning : Progress
beginning = record { at = 0; last = 0; place = 0 }

-- after an instruction of so many bytes
abbrev pub progress_past : ℕ → Instr → List Bool → Progress → Progress
progress_past size instr conditions p =
    record { at = p.at + 1; last = if is_effective instr conditions then p.at else p.last; place = p.place + size }

pub record State : Type 0 where
  pub board : Board
  pub progress : Progress

abbrev pub state_of : Board → Progress → State
state_of b progress = record { board = b; progress = progress }

-- a state in which the alternate stack is empty, no condition is open and no separator was executed
abbrev pub state : Stack → Progress → State
state stack progress = state_of (board stack [] [] 0) progress

-- ---- the run of instructions, without the limits on sizes, counts and heights

-- Where a run of instructions fails: the index of the instruction, counted from 0, or their number where a condition is
-- open at the end, and why.
pub record Failure : Type 0 where
  pub at : ℕ
  pub cause : MachineCause

-- the instruction was passed, or its failure has its index
abbrev pub passed : ℕ → Progress → Result Board MachineCause → Result State Failure
passed at progress (Ok b) = Ok (state_of b progress)
passed at progress (Err cause) = Err (record { at = at; cause = cause })

-- an instruction has the bytes of its minimal spelling
abbrev pub progress_after : Instr → List Bool → Progress → Progress
progress_after instr conditions p = progress_past (length (spelling instr)) instr conditions p

-- the keys of a multisignature check, of which there are at most 20, are never too many in a run
abbrev pub state_after : Setting → Instr → State → Result State Failure
state_after setting instr s =
    passed s.progress.at (progress_after instr s.board.conditions s.progress)
    (board_after (around setting (s.progress.place + length (spelling instr)) 20) instr s.board)

abbrev pub run : Setting → List Instr → State → Result State Failure
run setting [] s = Ok s
run setting (instr ∷ code) s = do
  next ← state_after setting instr s
  run setting code next

-- at the end no condition may be open; the failure has the number of instructions
abbrev pub balanced : List Bool → State → Result State Failure
balanced [] s = Ok s
balanced (c ∷ conditions) s = Err (record { at = s.progress.at; cause = Unbalanced })

-- a run from this stack in this world: the state that it leaves, or the first failure
abbrev pub run_end : World → List Instr → Stack → Result State Failure
run_end world code stack = do
  s ← run (setting_in world code) code (state stack beginning)
  balanced s.board.conditions s

abbrev pub stack_at_end : Result State Failure → Result Stack Failure
stack_at_end (Ok s) = Ok s.board.stack
stack_at_end (Err failure) = Err failure

-- a run from this stack in this world: the stack that it leaves, or the first failure
abbrev pub run_outcome : World → List Instr → Stack → Result Stack Failure
run_outcome world code stack = stack_at_end (run_end world code stack)

-- a run of both is a run of the first and then of the second
abbrev pub RunsInTurn : Setting → List Instr → List Instr → Type 0
RunsInTurn setting first second = (s : State) → run setting (first ++ second) s ≡ (run setting first s >>= run setting second)

-- ---- the instructions that a run executes

-- an instruction that was executed: its index, and the height of the stack after it
pub record Executed : Type 0 where
  pub at : ℕ
  pub height : ℕ

-- an instruction that was passed is in the list where it was executed, and one that fails isn't
abbrev pub executed_one : Bool → ℕ → Result State Failure → List Executed
executed_one true at (Ok next) = record { at = at; height = length next.board.stack } ∷ []
executed_one false at (Ok next) = []
executed_one live at (Err failure) = []

-- in order
abbrev pub executed_in : Setting → List Instr → Result State Failure → List Executed
executed_in setting [] (Ok s) = []
executed_in setting (instr ∷ code) (Ok s) =
    executed_one (is_executed instr s.board.conditions) s.progress.at (state_after setting instr s)
    ++ executed_in setting code (state_after setting instr s)
executed_in setting code (Err failure) = []

-- so the instructions that a run of both executes are those of the first, and then those that the second executes after it
abbrev pub ExecutesInTurn : Setting → List Instr → List Instr → Type 0
ExecutesInTurn setting first second =
    (s : State) → executed_in setting (first ++ second) (Ok s)
    ≡ executed_in setting first (Ok s) ++ executed_in setting second (run setting first s)

-- ---- an instruction of a script, with all checks

-- a state, and how many opcodes were counted
pub record Counted : Type 0 where
  pub state : State
  pub count : ℕ

abbrev pub counted : State → ℕ → Counted
counted s count = record { state = s; count = count }

-- The checks of an instruction in their order. All but that of a minimal push are made in branches that aren't taken
-- too. `limited_after` refuses opcodes that are switched off, and at the end too many elements; an opcode that is no push
-- is minimal.
abbrev pub raw_after : Setting → Raw → Counted → Result Counted MachineCause
raw_after setting raw s =
    let instr = instruction raw in
    let b = s.state.board in
    let p = s.state.progress in
    let count = s.count + weight raw.opcode in
    do
      refused_if (nat_lt 520 (length raw.pushed)) PushSize
      refused_if (nat_lt 201 count) OpLimit
      refused_if (is_live b.conditions && not (is_minimal raw)) NotMinimal
      next ← limited_after (around setting (p.place + size_of raw) (201 - count)) instr b
      Ok (counted (state_of next (progress_past (size_of raw) instr b.conditions p)) (count + keys_counted instr b))

abbrev pub piece_after : Setting → Piece → Counted → Result Counted MachineCause
piece_after setting CutOff s = Err Truncated
piece_after setting (Whole raw) s = raw_after setting raw s
