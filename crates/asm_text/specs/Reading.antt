-- What is read of a text while some of its words are left.
use Rattle.std.specs.Prelude.{List, ◌++◌, Result, Ok}
use Rattle.cash_base.specs.Failing.{◌>>=◌}
use Rattle.script_codec.specs.declared.instr.Instr.{Instr}
use Rattle.asm_text.specs.declared.fault.AsmFault.{AsmFault}

-- some code with other code in front
abbrev pub after : List Instr → Result (List Instr) AsmFault → Result (List Instr) AsmFault
after front read = do
  code ← read
  Ok (front ++ code)
