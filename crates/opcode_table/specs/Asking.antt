-- What an opcode may ask beyond its operands.
use Rattle.std.specs.Prelude.{ℕ, List}
use Rattle.tx_context.specs.Transaction.{Transaction}
use Rattle.tx_context.specs.Table as verdict

-- the transaction, the verdicts on signatures, the active bytecode, and how many more opcodes may be counted
pub record Asked : Type 0 where
  pub context : Transaction (List ℕ)
  pub verdicts : List verdict.Row
  pub active : List ℕ
  pub left : ℕ
