-- Code that is put together of the code of functions and of instructions that choose among them.
use Rattle.std.specs.Prelude.{◌≡◌, ℕ, ◌+◌, ◌==◌, Bool, true, false, not, ◌&&◌, IsTrue, List, [], ◌∷◌, ◌++◌, length, map}
use Rattle.std.specs.List.{list_any, flat_map, AllByRecursion}
use Rattle.cash_base.specs.declared.place.Span.{Span}
use Rattle.script_codec.specs.declared.instr.Instr.{Instr}
use Rattle.script_codec.specs.declared.instr.Instr.TheVariants.{Push, Do}
use Rattle.script_codec.specs.declared.spans.Spanned.{Spanned}
use Rattle.script_codec.specs.declared.spans.Mark.{Mark}
use Rattle.script_codec.specs.declared.spans.Marked.{Marked}
use Rattle.script_codec.specs.Spelling.{is_instruction, spellings}
use Rattle.script_codec.specs.Counting.{weight}

-- the instructions alone
abbrev pub instructions : List Spanned → List Instr
instructions rows = map (λ row. row.instr) rows

-- ---- pieces

-- instructions that choose, or the code of a function
pub data Piece : Type 0 where
  Own : List Spanned → Piece
  Function : Marked → Piece

abbrev pub rows_of : Piece → List Spanned
rows_of (Own rows) = rows
rows_of (Function function) = function.code.items

abbrev pub code_of : List Piece → List Spanned
code_of pieces = flat_map rows_of pieces

-- the functions, in the order in which their code stands
abbrev pub functions_of : List Piece → List Marked
functions_of [] = []
functions_of (Own rows ∷ pieces) = functions_of pieces
functions_of (Function function ∷ pieces) = function ∷ functions_of pieces

-- the instructions that choose, in their order
abbrev pub own_of : List Piece → List Spanned
own_of [] = []
own_of (Own rows ∷ pieces) = rows ++ own_of pieces
own_of (Function function ∷ pieces) = own_of pieces

-- ---- marks

-- a mark of code in front of which so many instructions stand
abbrev pub mark_behind : ℕ → Mark → Mark
mark_behind before mark = record { at = before + mark.at; height = mark.height; statement = mark.statement }

-- The marks of the functions, each at the same instruction and with the same height, where so many instructions stand in front
-- of the pieces.
abbrev pub marks_of : ℕ → List Piece → List Mark
marks_of before [] = []
marks_of before (Own rows ∷ pieces) = marks_of (before + length rows) pieces
marks_of before (Function function ∷ pieces) =
    map (mark_behind before) function.marks.items ++ marks_of (before + length function.code.items) pieces

-- ---- the instructions that choose

-- DEPTH, TOALTSTACK, FROMALTSTACK, CODESEPARATOR, CHECKMULTISIG and CHECKMULTISIGVERIFY
abbrev pub foreign_opcodes : List ℕ
foreign_opcodes = 0x74 ∷ 0x6b ∷ 0x6c ∷ 0xab ∷ 0xae ∷ 0xaf ∷ []

abbrev pub is_opcode : ℕ → Instr → Bool
is_opcode byte (Push e) = false
is_opcode byte (Do opcode) = opcode.0 == byte

-- a push, or an opcode that is none of these
abbrev pub is_choosing : Instr → Bool
is_choosing (Push e) = true
is_choosing (Do opcode) = is_instruction (Do opcode) && not (list_any (λ other. opcode.0 == other) foreign_opcodes)

-- an instruction of the selector, at the contract's place
pub record IsOwn (contract : Span) (row : Spanned) : Type 0 where
  pub doing : row.doing ≡ contract
  pub checking : row.checking ≡ contract
  pub plain : IsTrue (is_choosing row.instr)

abbrev pub AreOwn : Span → List Spanned → Type 0
AreOwn contract rows = AllByRecursion (IsOwn contract) rows

-- the bytes that instructions are spelled in
abbrev pub size_of : List Spanned → ℕ
size_of rows = length (spellings (instructions rows))

-- the opcodes above 60 (hexadecimal) among them
abbrev pub opcode_weight : Instr → ℕ
opcode_weight (Push e) = 0
opcode_weight (Do opcode) = weight opcode.0

abbrev pub opcodes_of : List Spanned → ℕ
opcodes_of [] = 0
opcodes_of (row ∷ rows) = opcode_weight row.instr + opcodes_of rows
