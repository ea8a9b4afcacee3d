-- What the instructions of a script may ask beyond both stacks.
use Rattle.std.specs.Prelude.{ℕ, ◌==◌, if◌then◌else◌, List, drop}
use Rattle.tx_context.specs.Transaction.{Transaction}
use Rattle.tx_context.specs.Table as verdict
use Rattle.tx_context.specs.World.{World}
use Rattle.script_codec.specs.declared.instr.Instr.{Instr}
use Rattle.script_codec.specs.Spelling.{spellings}
use Rattle.opcode_table.specs.Asking.{Asked}

-- the transaction, the verdicts on signatures, and the active bytecode by the place of the separator
pub record Setting : Type 0 where
  pub context : Transaction (List ℕ)
  pub verdicts : List verdict.Row
  pub active : ℕ → List ℕ

-- the active bytecode is all of it where no separator was executed, and otherwise what stands in these bytes after the
-- separator
abbrev pub active_in : List ℕ → List ℕ → ℕ → List ℕ
active_in all bytes separator = if separator == 0 then all else drop separator bytes

-- In a run of instructions in a world the active bytecode is the redeem script, and after a separator the encoding of the
-- instructions after it.
abbrev pub setting_in : World → List Instr → Setting
setting_in world code =
    record { context = world.context; verdicts = world.verdicts; active = active_in world.redeem (spellings code) }

-- in a script of a spend it is the script, and after a separator its bytes after that
abbrev pub setting_of : Transaction (List ℕ) → List verdict.Row → List ℕ → Setting
setting_of context verdicts script = record { context = context; verdicts = verdicts; active = active_in script script }

-- what one instruction may ask: with the setting, the place in bytes after it, and how many more opcodes may be counted
pub record Around : Type 0 where
  pub setting : Setting
  pub next : ℕ
  pub left : ℕ

abbrev pub around : Setting → ℕ → ℕ → Around
around setting next left = record { setting = setting; next = next; left = left }

-- and where the separator is known
abbrev pub asked_at : Around → ℕ → Asked
asked_at a separator = record {
  context = a.setting.context;
  verdicts = a.setting.verdicts;
  active = a.setting.active separator;
  left = a.left;
}

-- the same of an instruction of a script, whose setting is that of the script
pub record Surrounded : Type 0 where
  pub context : Transaction (List ℕ)
  pub verdicts : List verdict.Row
  pub script : List ℕ
  pub next : ℕ
  pub left : ℕ

abbrev pub surrounded : Transaction (List ℕ) → List verdict.Row → List ℕ → ℕ → ℕ → Surrounded
surrounded context verdicts script next left =
    record { context = context; verdicts = verdicts; script = script; next = next; left = left }

abbrev pub around_of : Surrounded → Around
around_of s = around (setting_of s.context s.verdicts s.script) s.next s.left
