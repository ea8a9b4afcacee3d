-- How the contract is spent: by a call, or by pushes in its place.
use Rattle.std.specs.Prelude.{ℕ, List, Bool, not, ◌||◌, Option, Some, None, is_some, ok_or, Result, Ok, nat_lt}
use Rattle.cash_base.specs.Failing.{◌>>=◌, ◌>>◌, refused_if}
use Rattle.serde_json.specs.Data.{Data}
use Rattle.serde_json.specs.Events.{items_len}
use Rattle.serde_json.specs.Find.{get, as_str}
use Rattle.json_fields.specs.Fields.{texts_of, all_of, each, if_there}
use Rattle.spend_json.specs.declared.fault.SpendField.TheVariants as fields
use Rattle.spend_json.specs.declared.fault.SpendFault.{SpendFault}
use Rattle.spend_json.specs.declared.fault.SpendFault.TheVariants as faults
use Rattle.spend_json.specs.Fields.{key, text_of}
use Rattle.spend_json.specs.Given.{ValueParts, ChoiceParts, by_call, by_pushes}
use Rattle.spend_json.specs.Values.{is_hex_if_there, element_of, values_at}

-- the name of the function, where it is there
unfoldable pub function_at : Data → Result (Option (List ℕ)) SpendFault
function_at d = if_there (text_of fields.Function) (get (key fields.Function) d)

-- a part of a call is there
abbrev pub is_called : Data → Bool
is_called d = is_some (get (key fields.Function) d) || is_some (get (key fields.Arguments) d)

unfoldable pub is_hex_push : Data → Bool
is_hex_push d = is_hex_if_there (as_str d)

unfoldable pub push_of : Data → Result (List ℕ) SpendFault
push_of d = do
  text ← text_of fields.Pushes d
  element_of fields.Pushes text

-- a list of texts, beside no part of a call, of at most 1,000 items, each hexadecimal and of at most 520 bytes
unfoldable pub pushes_of : Bool → Data → Result (List (List ℕ)) SpendFault
pushes_of is_called d = do
  ds ← ok_or (texts_of d) (faults.WrongKind fields.Pushes)
  refused_if is_called (faults.WrongKind fields.Pushes)
  refused_if (nat_lt 1000 (items_len ds)) (faults.TooMany fields.Pushes)
  refused_if (not (all_of is_hex_push ds)) (faults.BadHex fields.Pushes)
  each push_of ds

-- by the pushes, where they are there
abbrev pub choice_of : Option (List ℕ) → List ValueParts → Bool → Option Data → Result ChoiceParts SpendFault
choice_of function args is_called None = Ok (by_call function args)
choice_of function args is_called (Some d) = pushes_of is_called d >>= λ pushes. Ok (by_pushes pushes)

unfoldable pub choice_at : Data → Result ChoiceParts SpendFault
choice_at d = do
  function ← function_at d
  args ← values_at fields.Arguments d
  choice_of function args (is_called d) (get (key fields.Pushes) d)
