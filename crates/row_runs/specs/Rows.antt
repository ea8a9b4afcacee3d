-- Rows: instructions with the places of the source that they come from. A run of rows names the place at which it fails.
use Rattle.std.specs.Prelude.{◌≡◌, ℕ, ◌+◌, Bool, true, false, if◌then◌else◌, List, [], ◌∷◌, map, Option, Some, None, Result, Ok, Err}
use Rattle.cash_base.specs.declared.fault.MachineCause.{MachineCause}
use Rattle.cash_base.specs.declared.place.Span.{Span}
use Rattle.cash_base.specs.Failing.{◌>>=◌}
use Rattle.cash_base.specs.Source.{place_in}
use Rattle.tx_context.specs.World.{World}
use Rattle.script_codec.specs.declared.instr.Instr.{Instr}
use Rattle.script_codec.specs.declared.instr.Instr.TheVariants.{Push, Do}
use Rattle.script_codec.specs.declared.spans.Spanned.{Spanned}
use Rattle.opcode_table.specs.Stack.{Stack}
use Rattle.bch_vm.specs.Setting.{Setting, around}
use Rattle.bch_vm.specs.Board.{Board, board, board_after, is_condition, is_executed}
use Rattle.run_laws.specs.Nested.{nesting}

abbrev pub row : Instr → Span → Span → Spanned
row instr doing checking = record { instr = instr; doing = doing; checking = checking }

-- the instructions alone
abbrev pub instructions : List Spanned → List Instr
instructions rows = map (λ r. r.instr) rows

-- ---- a run of rows

-- the stack, its top first, and the open conditions, the innermost first
pub record Machine : Type 0 where
  pub stack : Stack
  pub conditions : List Bool

abbrev pub machine : Stack → List Bool → Machine
machine stack conditions = record { stack = stack; conditions = conditions }

-- where a run fails, and why
pub record Fault : Type 0 where
  pub span : Span
  pub cause : MachineCause

abbrev pub fault : Span → MachineCause → Fault
fault span cause = record { span = span; cause = cause }

abbrev pub Next : Type 0
Next = Result Machine Fault

-- what rows may ask in a world: no separator stands among them, so the active bytecode is the redeem script
abbrev pub setting_of : World → Setting
setting_of world = record { context = world.context; verdicts = world.verdicts; active = λ separator. world.redeem }

abbrev pub placed : Spanned → Result Board MachineCause → Next
placed r (Ok b) = Ok (machine b.stack b.conditions)
placed r (Err cause) = Err (fault (place_in r.doing r.checking cause) cause)

-- what an instruction does where nothing stands on the alternate stack
abbrev pub board_then : World → Instr → Machine → Result Board MachineCause
board_then world instr m = board_after (around (setting_of world) 0 20) instr (board m.stack [] m.conditions 0)

abbrev pub step : World → Spanned → Machine → Next
step world r m = placed r (board_then world r.instr m)

abbrev pub run_rows : World → List Spanned → Machine → Next
run_rows world [] m = Ok m
run_rows world (r ∷ rows) m = do
  next ← step world r m
  run_rows world rows next

-- ---- the rows that a run executes

-- a row that was executed: its place in the code, and the stack just before it
pub record Executed : Type 0 where
  pub at : ℕ
  pub row : Spanned
  pub stack : Stack

abbrev pub logged : Bool → Executed → Next → (Machine → List Executed) → List Executed
logged b e (Ok m) more = if b then e ∷ more m else more m
logged b e (Err fault) more = []

-- the executed rows of a run, in order, where the code begins at a place; one that fails isn't among them
abbrev pub executed : World → ℕ → List Spanned → Machine → List Executed
executed world at [] m = []
executed world at (r ∷ rows) m =
    logged (is_executed r.instr m.conditions) (record { at = at; row = r; stack = m.stack }) (step world r m)
    (executed world (at + 1) rows)

-- IF, NOTIF, ELSE and ENDIF
abbrev pub is_control : Instr → Bool
is_control (Push e) = false
is_control (Do opcode) = is_condition opcode.0

-- the last of them that is none of these, or one from before
abbrev pub last_of : Option Executed → List Executed → Option Executed
last_of before [] = before
last_of before (e ∷ more) = last_of (if is_control e.row.instr then before else Some e) more

-- ---- nested rows

-- each IF and NOTIF has its ENDIF, each ELSE and ENDIF belongs to one of these, and nothing fails in every branch
abbrev pub IsNested : List Spanned → Type 0
IsNested rows = (n : ℕ) → nesting (instructions rows) n ≡ Some n
