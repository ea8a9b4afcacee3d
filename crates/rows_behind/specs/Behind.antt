-- What a run of rows says of the machine's run of their instructions, behind other instructions.
use Rattle.std.specs.Prelude.{◌≡◌, ℕ, ◌+◌, List, [], None, Some, slice_get, Result, Ok, Err}
use Rattle.cash_base.specs.Source.{place_in}
use Rattle.tx_context.specs.World.{World}
use Rattle.script_codec.specs.declared.instr.Instr.{Instr}
use Rattle.script_codec.specs.declared.spans.Spanned.{Spanned}
use Rattle.opcode_table.specs.Stack.{Stack}
use Rattle.bch_vm.specs.Setting.{setting_in}
use Rattle.bch_vm.specs.Board.{board}
use Rattle.bch_vm.specs.Script.{State, state_of, state, run, Progress, Failure}
use Rattle.row_runs.specs.Rows.{instructions, machine, Next, run_rows, Executed, executed, last_of}

-- the last executed row other than IF, NOTIF, ELSE and ENDIF is the machine's last instruction, behind so many
pub record HasLastBehind (rows : List Spanned) (log : List Executed) (before : ℕ) (p : Progress) : Type 0 where
  pub index : (e : Executed) → last_of None log ≡ Some e → p.last ≡ before + e.at
  pub stands : (e : Executed) → last_of None log ≡ Some e → slice_get rows e.at ≡ Some e.row

-- The machine leaves the same stack and open conditions, or fails for the same cause at a row that has the place, behind so many
-- instructions.
abbrev pub EndsAlikeBehind : List Spanned → List Executed → ℕ → Next → Result State Failure → Type 0
EndsAlikeBehind rows log before (Ok m) end =
    (p : Progress) × (end ≡ Ok (state_of (board m.stack [] m.conditions 0) p)) × HasLastBehind rows log before p
EndsAlikeBehind rows log before (Err fault) end =
    (at : ℕ) × (row : Spanned) × (slice_get rows at ≡ Some row) × (fault.span ≡ place_in row.doing row.checking fault.cause)
    × (end ≡ Err (record { at = before + at; cause = fault.cause }))

-- In every world, on every stack, in whichever code and behind whichever instructions of it: a run of the rows is the machine's
-- run of their instructions.
abbrev pub RunsBehind : List Spanned → Type 0
RunsBehind rows = (world : World) (whole : List Instr) (stack : Stack) (p : Progress)
    → EndsAlikeBehind rows (executed world 0 rows (machine stack [])) p.at
    (run_rows world rows (machine stack [])) (run (setting_in world whole) (instructions rows) (state stack p))
