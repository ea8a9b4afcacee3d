-- Which element a value stands for, as a parameter of a type, or why it stands for none. The table of values is this
-- project's own.
use Rattle.std.specs.Prelude.{ℕ, ℤ, ◌==◌, nat_le, Bool, if◌then◌else◌, List, length, take, drop, codes, ok_or, Result, Ok, Err}
use Rattle.std.specs.Str.{bytes_eq}
use Rattle.cash_base.specs.Failing.{◌>>=◌}
use Rattle.cash_base.specs.Number.{minimal_bytes}
use Rattle.cash_base.specs.Operand.{truth_bytes}
use Rattle.element_ops.specs.Operand.{is_in_range}
use Rattle.cash_tree.specs.declared.Ty.{Ty}
use Rattle.cash_tree.specs.declared.Ty.TheOpen.{Ty-F}
use Rattle.cash_tree.specs.declared.Ty.TheViews.{out-Ty}
use Rattle.json_fields.specs.Fields.{hex_bytes}
use Rattle.spend_json.specs.Given.{ValueParts, int_value, bool_value, text_value, raw_value}
use Rattle.unlocker.specs.declared.BuildFault.{BuildFault}
use Rattle.unlocker.specs.declared.BuildFault.TheVariants.{WrongValue, WrongLength, IntRange, TooLong}
use Rattle.unlocker.specs.Building.{capped}

-- an element has at most 520 bytes
abbrev pub within_element : List ℕ → Result (List ℕ) BuildFault
within_element bytes = if nat_le (length bytes) 520 then Ok bytes else Err (TooLong (capped (length bytes)))

-- the digits of a text, which may begin with `0x`
abbrev pub digits_of : List ℕ → List ℕ
digits_of text = if bytes_eq (take 2 text) (codes "0x") then drop 2 text else text

-- the bytes that a text spells in hexadecimal
abbrev pub spelled : List ℕ → Result (List ℕ) BuildFault
spelled text = do
  bytes ← ok_or (hex_bytes (digits_of text)) WrongValue
  within_element bytes

-- ... and of which there are so many
abbrev pub exactly : ℕ → List ℕ → Result (List ℕ) BuildFault
exactly wanted bytes = if length bytes == wanted then Ok bytes else Err (WrongLength wanted (capped (length bytes)))

-- a number is an int, from -(2^63 - 1) to 2^63 - 1
abbrev pub number_for : Ty-F Ty → ℤ → Result (List ℕ) BuildFault
number_for Ty-F.Int n = if is_in_range n then Ok (minimal_bytes n) else Err IntRange
number_for _ n = Err WrongValue

-- a truth value is a bool
abbrev pub truth_for : Ty-F Ty → Bool → Result (List ℕ) BuildFault
truth_for Ty-F.Bool truth = Ok (truth_bytes truth)
truth_for _ truth = Err WrongValue

-- a text is a string, or spells bytes
abbrev pub text_for : Ty-F Ty → List ℕ → Result (List ℕ) BuildFault
text_for Ty-F.Text text = within_element text
text_for Ty-F.Bytes text = spelled text
text_for (Ty-F.BytesN n) text = do
  bytes ← spelled text
  exactly n bytes
text_for Ty-F.Pubkey text = spelled text
text_for Ty-F.Sig text = spelled text
text_for Ty-F.Datasig text = spelled text
text_for _ text = Err WrongValue

-- a raw value is the element itself, whatever the type
abbrev pub element_for : Ty → ValueParts → Result (List ℕ) BuildFault
element_for ty (int_value n) = number_for (out-Ty ty) n
element_for ty (bool_value truth) = truth_for (out-Ty ty) truth
element_for ty (text_value text) = text_for (out-Ty ty) text
element_for ty (raw_value e) = Ok e

-- a value that is no raw one
abbrev pub IsTyped : ValueParts → Type 0
IsTyped (int_value n) = Unit {0}
IsTyped (bool_value truth) = Unit {0}
IsTyped (text_value text) = Unit {0}
IsTyped (raw_value e) = ⊥
