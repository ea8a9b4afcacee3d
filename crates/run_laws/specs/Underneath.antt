-- What elements under a stack change of a run: nothing, where the code has no DEPTH.
use Rattle.std.specs.Prelude.{◌≡◌, Bool, true, false, not, IsTrue, List, ◌++◌, Result, Ok, Err}
use Rattle.std.specs.List.{list_all}
use Rattle.cash_base.specs.declared.fault.MachineCause.{MachineCause}
use Rattle.cash_base.specs.declared.fault.MachineCause.TheVariants.{Shared}
use Rattle.script_codec.specs.declared.instr.Instr.{Instr}
use Rattle.script_codec.specs.declared.instr.Instr.TheVariants.{Push, Do}
use Rattle.opcode_table.specs.declared.rows.Deed.{Deed}
use Rattle.opcode_table.specs.declared.rows.Deed.TheVariants.{Counts}
use Rattle.opcode_table.specs.declared.rows.Row.{Row}
use Rattle.opcode_table.specs.declared.rows.Row.TheVariants.{Does, DoesAndVerifies}
use Rattle.opcode_table.specs.Table.{row_of}
use Rattle.bch_vm.specs.Stack.{Stack}
use Rattle.bch_vm.specs.Board.{board}
use Rattle.bch_vm.specs.Script.{State, state_of, Failure}

-- DEPTH alone counts the elements of the stack
abbrev pub deed_counts : Deed → Bool
deed_counts Counts = true
deed_counts _ = false

abbrev pub row_counts : Row → Bool
row_counts (Does deed) = deed_counts deed
row_counts (DoesAndVerifies deed) = deed_counts deed
row_counts _ = false

abbrev pub counts_elements : Instr → Bool
counts_elements (Push e) = false
counts_elements (Do opcode) = row_counts (row_of opcode.0)

abbrev pub is_without_depth : List Instr → Bool
is_without_depth code = list_all (λ instr. not (counts_elements instr)) code

-- the state with these elements under its stack, and all else alike
abbrev pub over : Stack → State → State
over under s = state_of (board (s.board.stack ++ under) s.board.alternate s.board.conditions s.board.separator) s.progress

-- a cause that the source's run has too
abbrev pub is_shared : MachineCause → Bool
is_shared (Shared cause) = true
is_shared _ = false

-- With the elements underneath it ends as without them, with the elements under its stack. A failure for a shared cause is the
-- same failure, at the same index; any other, as of an opcode that doesn't find its operands, may be none with them.
abbrev pub GoesAlike : Stack → Result State Failure → Result State Failure → Type 0
GoesAlike under (Ok t) r = r ≡ Ok (over under t)
GoesAlike under (Err failure) r = IsTrue (is_shared failure.cause) → r ≡ Err failure
