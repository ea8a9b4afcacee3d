-- What a spend file reads as: all that it says, or its first fault.
use Rattle.std.specs.Prelude.{ℕ, List, take, ok_or, Result, Ok, Err}
use Rattle.cash_base.specs.Failing.{◌>>=◌}
use Rattle.serde_json.specs.Data.{Data}
use Rattle.json_fields.specs.Document.{object_in}
use Rattle.tx_context.specs.Transaction.{Transaction, Locking, transaction}
use Rattle.tx_context.specs.Limits.{checked_frame}
use Rattle.tx_context.specs.Table.{Row, checked_table}
use Rattle.tx_context.specs.declared.frame.FrameFault.{FrameFault}
use Rattle.tx_context.specs.declared.verdict.TableFault.{TableFault}
use Rattle.spend_json.specs.declared.fault.SpendField.TheVariants as fields
use Rattle.spend_json.specs.declared.fault.SpendFault.{SpendFault}
use Rattle.spend_json.specs.declared.fault.SpendFault.TheVariants as faults
use Rattle.spend_json.specs.Given.{SpendParts}
use Rattle.spend_json.specs.Values.{values_at}
use Rattle.spend_json.specs.Choices.{choice_at}
use Rattle.spend_json.specs.Transactions.{transaction_at}
use Rattle.spend_json.specs.Rows.{rows_at}

-- A fault counts to 2^32 - 1, which is beyond the limits: of a longer list only so many items are looked at.
abbrev pub counted : {A : Type 0} → List A → List A
counted items = take 4294967295 items

abbrev pub framed : Result (Transaction Locking) FrameFault → Result (Transaction Locking) SpendFault
framed (Ok frame) = Ok frame
framed (Err fault) = Err (faults.Frame fault)

-- the frame of the parts
unfoldable pub frame_of : Transaction Locking → Result (Transaction Locking) SpendFault
frame_of t = framed (checked_frame (transaction t.version t.locktime (counted t.inputs) (counted t.outputs) t.active))

abbrev pub tabled : Result (List Row) TableFault → Result (List Row) SpendFault
tabled (Ok rows) = Ok rows
tabled (Err fault) = Err (faults.Table fault)

-- the table of the rows
unfoldable pub table_of : List Row → Result (List Row) SpendFault
table_of rows = tabled (checked_table (counted rows))

unfoldable pub spend_at : Data → Result SpendParts SpendFault
spend_at d = do
  ctor ← values_at fields.Constructor d
  choice ← choice_at d
  parts ← transaction_at d
  rows ← rows_at d
  frame ← frame_of parts
  verdicts ← table_of rows
  Ok (record { ctor = ctor; choice = choice; frame = frame; verdicts = verdicts })

-- the spend file that bytes spell, or its first fault
unfoldable pub spend_reading : List ℕ → Result SpendParts SpendFault
spend_reading bytes = do
  d ← ok_or (object_in bytes) faults.NotJson
  spend_at d
