-- Code in which conditions are matched.
use Rattle.std.specs.Prelude.{ℕ, zero, suc, ◌+◌, Bool, true, false, List, [], ◌∷◌, length, Option, Some, None, option_and_then}
use Rattle.script_codec.specs.declared.instr.Instr.{Instr}
use Rattle.script_codec.specs.declared.instr.Instr.TheVariants.{Push, Do}
use Rattle.script_codec.specs.Spelling.{spellings}
use Rattle.opcode_table.specs.declared.rows.Row.{Row}
use Rattle.opcode_table.specs.declared.rows.Row.TheVariants.{Never, Opens, Flips, Closes}
use Rattle.opcode_table.specs.Table.{row_of}
use Rattle.bch_vm.specs.Script.{Progress}

-- How many conditions are open after an opcode of this row, where so many are before it. There is no answer where it flips or
-- closes none of these, and where it fails in every branch.
abbrev pub open_after_row : Row → ℕ → Option ℕ
open_after_row (Never cause) open_before = None
open_after_row (Opens sense) open_before = Some (suc open_before)
open_after_row Flips zero = None
open_after_row Flips (suc around) = Some (suc around)
open_after_row Closes zero = None
open_after_row Closes (suc around) = Some around
open_after_row _ open_before = Some open_before

abbrev pub open_after : Instr → ℕ → Option ℕ
open_after (Push e) open_before = Some open_before
open_after (Do opcode) open_before = open_after_row (row_of opcode.0) open_before

-- how many are open after the code
abbrev pub nesting : List Instr → ℕ → Option ℕ
nesting [] open_before = Some open_before
nesting (instr ∷ code) open_before = option_and_then (nesting code) (open_after instr open_before)

abbrev pub none_open : Option ℕ → Bool
none_open (Some zero) = true
none_open (Some (suc around)) = false
none_open None = false

-- Each IF and NOTIF in the code has its ENDIF in it, each ELSE and ENDIF belongs to one of these, and nothing stands in it that
-- fails in every branch: VERIF, VERNOTIF, INVERT, 2MUL, 2DIV, LSHIFT and RSHIFT.
abbrev pub is_nested : List Instr → Bool
is_nested code = none_open (nesting code 0)

-- past these instructions, of which none is the last that was executed
abbrev pub progress_over : List Instr → Progress → Progress
progress_over code p = record { at = p.at + length code; last = p.last; place = p.place + length (spellings code) }
