-- The verdicts of a spend file.
use Rattle.std.specs.Prelude.{ℕ, List, [], codes, bytes_eq, Option, Some, None, ok_or, Result, Ok, Err, if◌then◌else◌}
use Rattle.cash_base.specs.Failing.{◌>>=◌}
use Rattle.serde_json.specs.Data.{Data}
use Rattle.serde_json.specs.Find.{get}
use Rattle.json_fields.specs.Fields.{objects_of, each, or_default}
use Rattle.tx_context.specs.Table.{Row, row_parts}
use Rattle.tx_context.specs.declared.verdict.Kind.{Kind}
use Rattle.tx_context.specs.declared.verdict.Kind.TheVariants as kinds
use Rattle.tx_context.specs.declared.verdict.Answer.{Answer}
use Rattle.tx_context.specs.declared.verdict.Answer.TheVariants as answers
use Rattle.spend_json.specs.declared.fault.SpendField.{SpendField}
use Rattle.spend_json.specs.declared.fault.SpendField.TheVariants as fields
use Rattle.spend_json.specs.declared.fault.SpendFault.{SpendFault}
use Rattle.spend_json.specs.declared.fault.SpendFault.TheVariants as faults
use Rattle.spend_json.specs.Fields.{key, text_of, needed, bytes_of}

abbrev pub kind_named : List ℕ → Option Kind
kind_named text =
    if bytes_eq text (codes "single") then Some kinds.Single
    else (if bytes_eq text (codes "multi") then Some kinds.Multi
    else (if bytes_eq text (codes "data") then Some kinds.DataSig else None))

abbrev pub answer_named : List ℕ → Option Answer
answer_named text =
    if bytes_eq text (codes "good") then Some answers.Good
    else (if bytes_eq text (codes "malformed") then Some answers.Malformed else None)

unfoldable pub kind_at : Data → Result Kind SpendFault
kind_at d = do
  v ← needed fields.Kind d
  text ← text_of fields.Kind v
  ok_or (kind_named text) (faults.WrongKind fields.Kind)

unfoldable pub answer_at : Data → Result Answer SpendFault
answer_at d = do
  v ← needed fields.Answer d
  text ← text_of fields.Answer v
  ok_or (answer_named text) (faults.WrongKind fields.Answer)

unfoldable pub needed_bytes : SpendField → Data → Result (List ℕ) SpendFault
needed_bytes field d = do
  v ← needed field d
  bytes_of field v

-- the signature of a message needs one; others have none
abbrev pub missing_message : Kind → Result (List ℕ) SpendFault
missing_message kinds.Single = Ok []
missing_message kinds.Multi = Ok []
missing_message kinds.DataSig = Err (faults.Missing fields.Message)

abbrev pub message_of : Kind → Option Data → Result (List ℕ) SpendFault
message_of kind None = missing_message kind
message_of kind (Some d) = bytes_of fields.Message d

unfoldable pub message_at : Kind → Data → Result (List ℕ) SpendFault
message_at kind d = message_of kind (get (key fields.Message) d)

unfoldable pub row_of : Data → Result Row SpendFault
row_of d = do
  kind ← kind_at d
  sig ← needed_bytes fields.Signature d
  key ← needed_bytes fields.Key d
  message ← message_at kind d
  answer ← answer_at d
  Ok (row_parts kind sig key message answer)

abbrev pub rows_of : Data → Result (List Row) SpendFault
rows_of d = do
  ds ← ok_or (objects_of d) (faults.WrongKind fields.Verdicts)
  each row_of ds

unfoldable pub rows_at : Data → Result (List Row) SpendFault
rows_at d = or_default [] rows_of (get (key fields.Verdicts) d)
