-- Reading a JSON value, kind by kind.
use Rattle.std.specs.Prelude.{◌≡◌, ◌≢◌, ℕ, ◌&&◌, Bool, true, List, [], ◌∷◌, Option, Some, None, is_some, option_and_then, Result, Ok, Err, nat_le, if◌then◌else◌}
use Rattle.std.specs.Result.{result_ok}
use Rattle.cash_base.specs.Failing.{◌>>=◌}
use Rattle.hex.specs.Hex.{decode_of}
use Rattle.serde_json.specs.Data.{Num, unsigned, negative, float, Data, Items, no_items, item}
use Rattle.serde_json.specs.Find.{as_array, as_object, as_str, as_number}
use Rattle.json_fields.specs.declared.value.Whole.{Whole}
use Rattle.json_fields.specs.declared.value.Whole.TheVariants.{Natural, Negative}

-- ---- what a function answers

-- What it returned, seen by `view`, is this, unless memory ran out.
abbrev pub Answers : {X Y E : Type 0} → (X → Y) → Result X E → Y → Type 0
Answers view (Ok x) answer = answer ≡ view x
Answers view (Err memory) answer = Unit {0}

-- What it returned, seen by `view`, is what `reading` gives, unless memory ran out.
abbrev pub GivesUnless : {X Y E : Type 0} → E → (X → Y) → Result X E → Result Y E → Type 0
GivesUnless memory view (Ok x) reading = reading ≡ Ok (view x)
GivesUnless memory view (Err fault) reading = (fault ≢ memory) → reading ≡ Err fault

-- ---- whole numbers and bytes

abbrev pub whole_num : Num → Option Whole
whole_num (unsigned n) = Some (Natural n)
whole_num (negative z) = Some (Negative z)
whole_num (float x) = None

-- The whole number that a value is. `serde_json` keeps as a float what has a point or an exponent, is too large or is `-0`.
unfoldable pub whole_of : Data → Option Whole
whole_of d = option_and_then whole_num (as_number d)

-- from 0 to the greatest one
abbrev pub natural_within : ℕ → Whole → Option ℕ
natural_within greatest (Natural n) = if nat_le n greatest then Some n else None
natural_within greatest (Negative z) = None

-- the bytes of hexadecimal text
unfoldable pub hex_bytes : List ℕ → Option (List ℕ)
hex_bytes text = result_ok (decode_of text)

-- ---- lists

abbrev pub all_of : (Data → Bool) → Items → Bool
all_of test no_items = true
all_of test (item d ds) = test d && all_of test ds

abbrev pub is_object : Data → Bool
is_object d = is_some (as_object d)

abbrev pub is_text : Data → Bool
is_text d = is_some (as_str d)

-- the items, where the test holds of each
abbrev pub if_all : (Data → Bool) → Items → Option Items
if_all test ds = if all_of test ds then Some ds else None

-- the items of a list of objects
unfoldable pub objects_of : Data → Option Items
objects_of d = option_and_then (if_all is_object) (as_array d)

-- the items of a list of texts
unfoldable pub texts_of : Data → Option Items
texts_of d = option_and_then (if_all is_text) (as_array d)

-- the items in turn
abbrev pub each : {B E : Type 0} → (Data → Result B E) → Items → Result (List B) E
each read no_items = Ok []
each read (item d ds) = read d >>= λ x. each read ds >>= λ xs. Ok (x ∷ xs)

-- ---- fields that may be missing

-- what is read of the field, or what stands for it where it is missing
abbrev pub or_default : {B E : Type 0} → B → (Data → Result B E) → Option Data → Result B E
or_default other read None = Ok other
or_default other read (Some d) = read d

-- what is read of the field, or nothing where it is missing
abbrev pub if_there : {B E : Type 0} → (Data → Result B E) → Option Data → Result (Option B) E
if_there read None = Ok None
if_there read (Some d) = read d >>= λ x. Ok (Some x)
