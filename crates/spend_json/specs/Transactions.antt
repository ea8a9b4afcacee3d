-- The transaction of a spend file.
use Rattle.std.specs.Prelude.{ℕ, List, [], ◌∷◌, length, replicate, codes, bytes_eq, not, ◌==◌, Some, None, ok_or, Result, Ok, if◌then◌else◌}
use Rattle.cash_base.specs.Failing.{◌>>=◌, ◌>>◌, refused_if}
use Rattle.serde_json.specs.Data.{Data}
use Rattle.serde_json.specs.Find.{get}
use Rattle.json_fields.specs.Fields.{hex_bytes, is_object, objects_of, each, or_default}
use Rattle.tx_context.specs.Transaction.{InputParts, OutputParts, Transaction, Locking, input_parts, plain_input, transaction}
use Rattle.spend_json.specs.declared.fault.SpendField.TheVariants as fields
use Rattle.spend_json.specs.declared.fault.SpendFault.{SpendFault}
use Rattle.spend_json.specs.declared.fault.SpendFault.TheVariants as faults
use Rattle.spend_json.specs.Fields.{key, u32_at, amount_at, text_of, bytes_of, bytes_at}

-- ---- parts of inputs and outputs

-- 32 bytes, in the order of the transaction's bytes
unfoldable pub hash_of : Data → Result (List ℕ) SpendFault
hash_of d = do
  bytes ← bytes_of fields.OutpointTransactionHash d
  refused_if (not (length bytes == 32)) (faults.Range fields.OutpointTransactionHash)
  Ok bytes

unfoldable pub hash_at : Data → Result (List ℕ) SpendFault
hash_at d = or_default (replicate 32 0) hash_of (get (key fields.OutpointTransactionHash) d)

-- the locking bytecode of the spend, or bytes in hexadecimal
abbrev pub bytecode_in : List ℕ → Result Locking SpendFault
bytecode_in text =
    if bytes_eq text (codes "self") then Ok None
    else (ok_or (hex_bytes text) (faults.BadHex fields.LockingBytecode) >>= λ bytes. Ok (Some bytes))

unfoldable pub locking_of : Data → Result Locking SpendFault
locking_of d = do
  text ← text_of fields.LockingBytecode d
  bytecode_in text

unfoldable pub locking_at : Data → Result Locking SpendFault
locking_at d = or_default (Some []) locking_of (get (key fields.LockingBytecode) d)

-- ---- inputs and outputs

unfoldable pub input_of : Data → Result (InputParts Locking) SpendFault
input_of d = do
  hash ← hash_at d
  index ← u32_at 0 fields.OutpointIndex d
  sequence ← u32_at 0 fields.SequenceNumber d
  value ← amount_at d
  locking ← locking_at d
  unlocking ← bytes_at fields.UnlockingBytecode d
  Ok (input_parts hash index sequence value locking unlocking)

-- one input of zeros, without bytes
abbrev pub plain_inputs : List (InputParts Locking)
plain_inputs = plain_input 0 (Some []) [] ∷ []

abbrev pub inputs_of : Data → Result (List (InputParts Locking)) SpendFault
inputs_of d = do
  ds ← ok_or (objects_of d) (faults.WrongKind fields.Inputs)
  each input_of ds

unfoldable pub inputs_at : Data → Result (List (InputParts Locking)) SpendFault
inputs_at d = or_default plain_inputs inputs_of (get (key fields.Inputs) d)

unfoldable pub output_of : Data → Result (OutputParts Locking) SpendFault
output_of d = do
  value ← amount_at d
  locking ← locking_at d
  Ok (record { value = value; locking = locking })

abbrev pub outputs_of : Data → Result (List (OutputParts Locking)) SpendFault
outputs_of d = do
  ds ← ok_or (objects_of d) (faults.WrongKind fields.Outputs)
  each output_of ds

unfoldable pub outputs_at : Data → Result (List (OutputParts Locking)) SpendFault
outputs_at d = or_default [] outputs_of (get (key fields.Outputs) d)

-- ---- the transaction

unfoldable pub transaction_of : Data → Result (Transaction Locking) SpendFault
transaction_of d = do
  refused_if (not (is_object d)) (faults.WrongKind fields.Transaction)
  version ← u32_at 2 fields.Version d
  locktime ← u32_at 0 fields.Locktime d
  inputs ← inputs_at d
  outputs ← outputs_at d
  active ← u32_at 0 fields.ActiveInputIndex d
  Ok (transaction version locktime inputs outputs active)

-- version 2, one plain input, no output
abbrev pub usual : Transaction Locking
usual = transaction 2 0 plain_inputs [] 0

unfoldable pub transaction_at : Data → Result (Transaction Locking) SpendFault
transaction_at d = or_default usual transaction_of (get (key fields.Transaction) d)
