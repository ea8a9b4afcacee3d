-- What a run of rows says of the machine's run of their instructions.
use Rattle.std.specs.Prelude.{◌≡◌, ℕ, Bool, true, false, IsTrue, List, [], map, Option, Some, None, slice_get, Result, Ok, Err}
use Rattle.std.specs.List.{list_all}
use Rattle.cash_base.specs.Source.{place_in}
use Rattle.tx_context.specs.World.{World}
use Rattle.script_codec.specs.declared.instr.Instr.{Instr}
use Rattle.script_codec.specs.declared.instr.Instr.TheVariants.{Push, Do}
use Rattle.script_codec.specs.declared.spans.Spanned.{Spanned}
use Rattle.opcode_table.specs.declared.rows.Row.{Row}
use Rattle.opcode_table.specs.declared.rows.Row.TheVariants.{Lays, Fetches, Separates}
use Rattle.opcode_table.specs.Stack.{Stack}
use Rattle.opcode_table.specs.Table.{row_of}
use Rattle.bch_vm.specs.Setting.{setting_in}
use Rattle.bch_vm.specs.Board.{board}
use Rattle.bch_vm.specs.Script.{State, state_of, state, beginning, run, Progress, Failure}
use Rattle.row_runs.specs.Rows.{instructions, Machine, machine, Next, run_rows, Executed, executed, last_of}

-- CODESEPARATOR, TOALTSTACK and FROMALTSTACK alone act on more than the stack and the open conditions
abbrev pub row_is_simple : Row → Bool
row_is_simple Lays = false
row_is_simple Fetches = false
row_is_simple Separates = false
row_is_simple _ = true

abbrev pub is_simple : Instr → Bool
is_simple (Push e) = true
is_simple (Do opcode) = row_is_simple (row_of opcode.0)

abbrev pub are_simple : List Spanned → Bool
are_simple rows = list_all is_simple (instructions rows)

-- the last executed row other than IF, NOTIF, ELSE and ENDIF stands at the index that the machine gives it
pub record HasLast (rows : List Spanned) (log : List Executed) (p : Progress) : Type 0 where
  pub index : (e : Executed) → last_of None log ≡ Some e → p.last ≡ e.at
  pub stands : (e : Executed) → last_of None log ≡ Some e → slice_get rows e.at ≡ Some e.row

-- The machine leaves the same stack and open conditions, or fails for the same cause at a row that has the place.
abbrev pub EndsAlike : List Spanned → List Executed → Next → Result State Failure → Type 0
EndsAlike rows log (Ok m) end =
    (p : Progress) × (end ≡ Ok (state_of (board m.stack [] m.conditions 0) p)) × HasLast rows log p
EndsAlike rows log (Err fault) end =
    (at : ℕ) × (row : Spanned) × (slice_get rows at ≡ Some row) × (fault.span ≡ place_in row.doing row.checking fault.cause)
    × (end ≡ Err (record { at = at; cause = fault.cause }))

-- In every world, on every stack: a run of the rows is the machine's run of their instructions.
abbrev pub RunsAsCode : List Spanned → Type 0
RunsAsCode rows = (world : World) (stack : Stack) → EndsAlike rows (executed world 0 rows (machine stack []))
    (run_rows world rows (machine stack [])) (run (setting_in world (instructions rows)) (instructions rows) (state stack beginning))
