-- A file of arguments: a line each, in their order.
use Rattle.std.specs.Prelude.{ℕ, ◌==◌, Bool, true, false, nat_le, nat_lt, if◌then◌else◌, List, [], ◌∷◌, ◌++◌, length, codes, Result, Ok, Err}
use Rattle.std.specs.Str.{bytes_eq}
use Rattle.hex.specs.Hex.{decode_of}
use Rattle.hex.specs.declared.error.FromHexError.{FromHexError}
use Rattle.cash_base.specs.Failing.{◌>>=◌}
use Rattle.spend_debug.specs.declared.spend_lines.LineFault.{LineFault}
use Rattle.spend_debug.specs.declared.spend_lines.LineFault.TheVariants.{BadHex, Range, TooMany}

-- ---- the lines of a file

-- the bytes of a line, and whether a line feed ends it
pub record Line : Type 0 where
  pub text : List ℕ
  pub ended : Bool

-- a byte of the first line in front of the rest of it
abbrev pub in_front : ℕ → List Line → List Line
in_front byte [] = record { text = byte ∷ []; ended = false } ∷ []
in_front byte (line ∷ further) = record { text = byte ∷ line.text; ended = line.ended } ∷ further

-- Each line feed ends a line. Bytes after the last line feed, where there are any, are a line that isn't ended.
abbrev pub lines : List ℕ → List Line
lines [] = []
lines (byte ∷ bytes) =
    if byte == 0x0a then record { text = []; ended = true } ∷ lines bytes else in_front byte (lines bytes)

-- ---- the element of a line

-- the bytes that digits spell, of which an element has at most 520
abbrev pub spelled_element : Result (List ℕ) FromHexError → Result (List ℕ) LineFault
spelled_element (Ok bytes) = if nat_le (length bytes) 520 then Ok bytes else Err Range
spelled_element (Err fault) = Err BadHex

-- `-` is the empty element, and an even, positive number of hexadecimal digits those bytes
abbrev pub text_element : List ℕ → Result (List ℕ) LineFault
text_element text =
    if bytes_eq text (codes "-") then Ok []
    else (if length text == 0 then Err BadHex else spelled_element (decode_of text))

abbrev pub line_element : Line → Result (List ℕ) LineFault
line_element line = if line.ended then text_element line.text else Err BadHex

-- ---- the elements of a file

-- those of some lines, or the fault of the first line that has one
abbrev pub elements_of : List Line → Result (List (List ℕ)) LineFault
elements_of [] = Ok []
elements_of (line ∷ further) = do
  element ← line_element line
  elements ← elements_of further
  Ok (element ∷ elements)

-- at most 16 lines, whatever they are, and then the elements
abbrev pub spend_elements : List ℕ → Result (List (List ℕ)) LineFault
spend_elements bytes = if nat_lt 16 (length (lines bytes)) then Err TooMany else elements_of (lines bytes)

-- some elements with others in front
abbrev pub after : List (List ℕ) → Result (List (List ℕ)) LineFault → Result (List (List ℕ)) LineFault
after front read = do
  elements ← read
  Ok (front ++ elements)
