-- How many conditions an instruction opens at most.
use Rattle.std.specs.Prelude.{ℕ}
use Rattle.script_codec.specs.declared.instr.Instr.{Instr}
use Rattle.script_codec.specs.declared.instr.Instr.TheVariants.{Push, Do}
use Rattle.script_codec.specs.Counting.{weight}
use Rattle.opcode_table.specs.declared.rows.Row.{Row}
use Rattle.opcode_table.specs.declared.rows.Row.TheVariants.{Opens}

abbrev pub row_opening : Row → ℕ
row_opening (Opens sense) = 1
row_opening _ = 0

-- how many conditions an instruction opens at most
abbrev pub opening : Instr → ℕ
opening (Push e) = 0
opening (Do opcode) = weight opcode.0
