-- The instructions that choose.
use Rattle.std.specs.Prelude.{ℕ, ◌+◌, ◌==◌, true, if◌then◌else◌, List, [], ◌∷◌, ◌++◌, pos}
use Rattle.cash_base.specs.declared.place.Span.{Span}
use Rattle.cash_base.specs.Number.{minimal_bytes}
use Rattle.script_codec.specs.declared.instr.Instr.{Instr}
use Rattle.script_codec.specs.declared.spans.Spanned.{Spanned}
use Rattle.script_codec.specs.declared.spans.Marked.{Marked}
use Rattle.script_codec.specs.Reading.{push}
use Rattle.run_laws.specs.Branches.{opcode, opener, ELSE, ENDIF}
use Rattle.selector.specs.Pieces.{Piece, Own, Function}

abbrev pub DROP : Instr
DROP = opcode 0x75

abbrev pub DUP : Instr
DUP = opcode 0x76

abbrev pub ROLL : Instr
ROLL = opcode 0x7a

abbrev pub NUMEQUAL : Instr
NUMEQUAL = opcode 0x9c

abbrev pub NUMEQUALVERIFY : Instr
NUMEQUALVERIFY = opcode 0x9d

-- the push of a number
abbrev pub number : ℕ → Instr
number n = push (minimal_bytes (pos n))

abbrev pub own : Span → Instr → Spanned
own contract instr = record { instr = instr; doing = contract; checking = contract }

-- the selector is brought to the top from below so many elements
abbrev pub raising : Span → ℕ → List Spanned
raising contract below = if below == 0 then [] else own contract (number below) ∷ own contract ROLL ∷ []

-- the selector is compared with a number
abbrev pub comparing : Span → ℕ → List Spanned
comparing contract n = own contract DUP ∷ own contract (number n) ∷ own contract NUMEQUAL ∷ []

-- in front of the code that is run for a number: where the selector is this number it is dropped
abbrev pub opening : Span → ℕ → List Spanned
opening contract n = comparing contract n ++ own contract (opener true) ∷ own contract DROP ∷ []

-- in front of the code that is run for the last number, which the selector must be
abbrev pub closing : Span → ℕ → List Spanned
closing contract n = own contract (number n) ∷ own contract NUMEQUALVERIFY ∷ []

-- The code of the functions that are run for the numbers from this one on. All after the first stand in its ELSE.
abbrev pub choice : Span → ℕ → List Marked → List Piece
choice contract n [] = []
choice contract n (function ∷ []) = Own (closing contract n) ∷ Function function ∷ []
choice contract n (function ∷ next ∷ functions) =
    Own (opening contract n) ∷ Function function ∷ Own (own contract ELSE ∷ [])
    ∷ (choice contract (n + 1) (next ∷ functions) ++ Own (own contract ENDIF ∷ []) ∷ [])
