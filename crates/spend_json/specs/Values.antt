-- Values of parameters, and elements. All faults of a list name one field, so each kind of fault is sought over all items.
use Rattle.std.specs.Prelude.{ℕ, List, [], length, codes, Bool, true, false, not, Option, Some, None, is_some, ok_or, option_map, option_and_then, Result, Ok, Err, nat_lt}
use Rattle.cash_base.specs.Failing.{◌>>=◌, ◌>>◌, refused_if}
use Rattle.serde_json.specs.Data.{Data, null, boolean, number, string, array, object}
use Rattle.serde_json.specs.Events.{items_len}
use Rattle.serde_json.specs.Find.{get, get_member, as_str, as_array, as_i64, as_integer}
use Rattle.json_fields.specs.Fields.{hex_bytes, all_of, each, or_default}
use Rattle.spend_json.specs.declared.fault.SpendField.{SpendField}
use Rattle.spend_json.specs.declared.fault.SpendFault.{SpendFault}
use Rattle.spend_json.specs.declared.fault.SpendFault.TheVariants as faults
use Rattle.spend_json.specs.Fields.{key}
use Rattle.spend_json.specs.Given.{ValueParts, int_value, bool_value, text_value, raw_value}

-- ---- tests of one item

-- the hexadecimal text of a raw value
abbrev pub raw_text : Data → Option (List ℕ)
raw_text d = option_and_then as_str (get (codes "raw") d)

-- a whole number, a truth value, a text, or an object with a text `raw`
abbrev pub is_value : Data → Bool
is_value null = false
is_value (boolean b) = true
is_value (number n) = is_some (as_integer n)
is_value (string s) = true
is_value (array ds) = false
is_value (object ms) = is_some (option_and_then as_str (get_member (codes "raw") ms))

abbrev pub is_hex : List ℕ → Bool
is_hex text = is_some (hex_bytes text)

abbrev pub is_hex_if_there : Option (List ℕ) → Bool
is_hex_if_there None = true
is_hex_if_there (Some text) = is_hex text

-- hexadecimal, where it is a raw value
unfoldable pub has_hex : Data → Bool
has_hex d = is_hex_if_there (raw_text d)

-- ---- one item

-- the bytes of hexadecimal text, at most 520
unfoldable pub element_of : SpendField → List ℕ → Result (List ℕ) SpendFault
element_of field text = do
  bytes ← ok_or (hex_bytes text) (faults.BadHex field)
  refused_if (nat_lt 520 (length bytes)) (faults.Range field)
  Ok bytes

abbrev pub raw_of : SpendField → Option (List ℕ) → Result ValueParts SpendFault
raw_of field raw = do
  text ← ok_or raw (faults.WrongKind field)
  bytes ← element_of field text
  Ok (raw_value bytes)

-- a whole number has 64 bits, one of them for the sign
unfoldable pub value_of : SpendField → Data → Result ValueParts SpendFault
value_of field null = Err (faults.WrongKind field)
value_of field (boolean b) = Ok (bool_value b)
value_of field (number n) = ok_or (option_map int_value (as_i64 n)) (faults.Range field)
value_of field (string s) = Ok (text_value s)
value_of field (array ds) = Err (faults.WrongKind field)
value_of field (object ms) = raw_of field (option_and_then as_str (get_member (codes "raw") ms))

-- ---- the list

unfoldable pub values_of : SpendField → Data → Result (List ValueParts) SpendFault
values_of field d = do
  ds ← ok_or (as_array d) (faults.WrongKind field)
  refused_if (not (all_of is_value ds)) (faults.WrongKind field)
  refused_if (nat_lt 16 (items_len ds)) (faults.TooMany field)
  refused_if (not (all_of has_hex ds)) (faults.BadHex field)
  each (value_of field) ds

-- a field with a list of values, or none where it is missing
unfoldable pub values_at : SpendField → Data → Result (List ValueParts) SpendFault
values_at field d = or_default [] (values_of field) (get (key field) d)
