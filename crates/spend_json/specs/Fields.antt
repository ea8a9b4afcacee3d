-- Fields of a spend file that hold a number, a text or bytes, and what each field is called.
use Rattle.std.specs.Prelude.{ℕ, List, [], codes, ok_or, Result}
use Rattle.cash_base.specs.Failing.{◌>>=◌}
use Rattle.serde_json.specs.Data.{Data}
use Rattle.serde_json.specs.Find.{get, as_str}
use Rattle.json_fields.specs.Fields.{GivesUnless, whole_of, natural_within, hex_bytes, or_default}
use Rattle.spend_json.specs.declared.fault.SpendField.{SpendField}
use Rattle.spend_json.specs.declared.fault.SpendField.TheVariants as fields
use Rattle.spend_json.specs.declared.fault.SpendFault.{SpendFault}
use Rattle.spend_json.specs.declared.fault.SpendFault.TheVariants as faults

-- What a function returned, seen by `view`, is what `reading` gives, unless memory ran out.
abbrev pub Gives : {X Y : Type 0} → (X → Y) → Result X SpendFault → Result Y SpendFault → Type 0
Gives view result reading = GivesUnless faults.Memory view result reading

-- the name of each field in the file
abbrev pub key : SpendField → List ℕ
key fields.Constructor = codes "constructor"
key fields.Function = codes "function"
key fields.Arguments = codes "arguments"
key fields.Pushes = codes "pushes"
key fields.Transaction = codes "transaction"
key fields.Version = codes "version"
key fields.Locktime = codes "locktime"
key fields.Inputs = codes "inputs"
key fields.Outputs = codes "outputs"
key fields.ActiveInputIndex = codes "activeInputIndex"
key fields.OutpointTransactionHash = codes "outpointTransactionHash"
key fields.OutpointIndex = codes "outpointIndex"
key fields.SequenceNumber = codes "sequenceNumber"
key fields.Value = codes "value"
key fields.LockingBytecode = codes "lockingBytecode"
key fields.UnlockingBytecode = codes "unlockingBytecode"
key fields.Verdicts = codes "verdicts"
key fields.Kind = codes "kind"
key fields.Signature = codes "signature"
key fields.Key = codes "key"
key fields.Message = codes "message"
key fields.Answer = codes "answer"

-- a whole number from 0 to the greatest one
unfoldable pub number_of : ℕ → SpendField → Data → Result ℕ SpendFault
number_of greatest field d = do
  whole ← ok_or (whole_of d) (faults.WrongKind field)
  ok_or (natural_within greatest whole) (faults.Range field)

-- a field with a whole number of 32 bits, or another number where it is missing
unfoldable pub u32_at : ℕ → SpendField → Data → Result ℕ SpendFault
u32_at other field d = or_default other (number_of 4294967295 field) (get (key field) d)

-- an amount in satoshis: a whole number of 64 bits, or 0
unfoldable pub amount_at : Data → Result ℕ SpendFault
amount_at d = or_default 0 (number_of 18446744073709551615 fields.Value) (get (key fields.Value) d)

unfoldable pub text_of : SpendField → Data → Result (List ℕ) SpendFault
text_of field d = ok_or (as_str d) (faults.WrongKind field)

-- a field that has to be there
unfoldable pub needed : SpendField → Data → Result Data SpendFault
needed field d = ok_or (get (key field) d) (faults.Missing field)

-- bytes in hexadecimal
unfoldable pub bytes_of : SpendField → Data → Result (List ℕ) SpendFault
bytes_of field d = do
  text ← text_of field d
  ok_or (hex_bytes text) (faults.BadHex field)

-- a field with bytes, or none where it is missing
unfoldable pub bytes_at : SpendField → Data → Result (List ℕ) SpendFault
bytes_at field d = or_default [] (bytes_of field) (get (key field) d)
