-- A run of rows on both stacks, which names the place at which it fails.
use Rattle.std.specs.Prelude.{◌&&◌, not, Bool, true, false, List, [], ◌∷◌, Result, Ok, Err}
use Rattle.cash_base.specs.declared.fault.MachineCause.{MachineCause}
use Rattle.cash_base.specs.declared.fault.MachineCause.TheVariants.{Underflow}
use Rattle.cash_base.specs.declared.place.Span.{Span}
use Rattle.cash_base.specs.Failing.{◌>>=◌}
use Rattle.cash_base.specs.Source.{place_in}
use Rattle.tx_context.specs.World.{World}
use Rattle.script_codec.specs.declared.instr.Instr.{Instr}
use Rattle.script_codec.specs.declared.instr.Instr.TheVariants.{Push, Do}
use Rattle.script_codec.specs.declared.spans.Spanned.{Spanned}
use Rattle.opcode_table.specs.declared.rows.Row.{Row}
use Rattle.opcode_table.specs.declared.rows.Row.TheVariants.{Does, DoesAndVerifies}
use Rattle.opcode_table.specs.Table.{row_of}
use Rattle.bch_vm.specs.Setting.{around}
use Rattle.bch_vm.specs.Board.{Board, board_after, is_condition}
use Rattle.row_runs.specs.Rows.{Fault, fault, setting_of}

abbrev pub row : Span → Instr → Span → Spanned
row checking instr doing = record { instr = instr; doing = doing; checking = checking }

-- ---- what instructions are

abbrev pub row_is_plain : Row → Bool
row_is_plain (Does deed) = true
row_is_plain (DoesAndVerifies deed) = true
row_is_plain _ = false

-- a push, or an opcode that acts on the stack alone, and only where it is executed
abbrev pub is_plain : Instr → Bool
is_plain (Push e) = true
is_plain (Do opcode) = not (is_condition opcode.0) && row_is_plain (row_of opcode.0)

-- ---- a run of rows

abbrev pub Next : Type 0
Next = Result Board Fault

-- a failure at this row
abbrev pub told : {A : Type 0} → Spanned → Result A MachineCause → Result A Fault
told r (Ok x) = Ok x
told r (Err cause) = Err (fault (place_in r.doing r.checking cause) cause)

-- the keys of a multisignature check, of which there are at most 20, are never too many
abbrev pub step : World → Spanned → Board → Next
step world r b = told r (board_after (around (setting_of world) 0 20) r.instr b)

abbrev pub run_rows : World → List Spanned → Board → Next
run_rows world [] b = Ok b
run_rows world (r ∷ rows) b = step world r b >>= run_rows world rows

-- ---- want of elements

abbrev pub is_underflow : MachineCause → Bool
is_underflow Underflow = true
is_underflow _ = false

-- a run that finds too few elements
abbrev pub underflows : {A : Type 0} → Result A Fault → Bool
underflows (Ok a) = false
underflows (Err f) = is_underflow f.cause
