-- The object that a file holds.
use Rattle.std.specs.Prelude.{ℕ, List, Option, Some, None, option_and_then, if◌then◌else◌}
use Rattle.std.specs.Str.{is_utf8}
use Rattle.serde_json.specs.Data.{Data}
use Rattle.serde_json.specs.Read.{read}
use Rattle.json_fields.specs.Fields.{is_object}

-- the value that the bytes are
abbrev pub value_in : List ℕ → Option Data
value_in bytes = if is_utf8 bytes then read bytes else None

abbrev pub if_object : Data → Option Data
if_object d = if is_object d then Some d else None

-- the object that the bytes are
unfoldable pub object_in : List ℕ → Option Data
object_in bytes = option_and_then if_object (value_in bytes)
