-- Code as the words that artifacts and traces show.
use Rattle.std.specs.Prelude.{ℕ, ◌+◌, nat_eq, nat_le, if◌then◌else◌, List, [], ◌∷◌, ◌++◌, length, drop, codes, Option, Some, None, Result, Ok, Err}
use Rattle.std.specs.List.{flat_map, starts_with}
use Rattle.hex.specs.Hex.{encode_lower, decode_of}
use Rattle.hex.specs.declared.error.FromHexError.{FromHexError}
use Rattle.cash_base.specs.Failing.{◌>>=◌}
use Rattle.cash_base.specs.Element.{IsElement}
use Rattle.script_codec.specs.declared.instr.Instr.{Instr}
use Rattle.script_codec.specs.declared.instr.Instr.TheVariants.{Push, Do}
use Rattle.script_codec.specs.Spelling.{own_opcode}
use Rattle.script_codec.specs.Reading.{instruction, push}
use Rattle.script_codec.specs.Words.{words}
use Rattle.script_codec.specs.Names.{name_of, opcode_named}
use Rattle.asm_text.specs.declared.fault.AsmFault.{AsmFault}
use Rattle.asm_text.specs.declared.fault.AsmFault.TheVariants.{UnknownWord, BadHex, TooLong}

-- ---- written

-- `OP_` and the name of an opcode; one that has none has no word
abbrev pub opcode_word : Option (List ℕ) → List ℕ
opcode_word (Some name) = codes "OP_" ++ name
opcode_word None = []

-- an element's own opcode, or its bytes in hexadecimal
abbrev pub push_word : Option ℕ → List ℕ → List ℕ
push_word (Some opcode) e = opcode_word (name_of opcode)
push_word None e = encode_lower e

abbrev pub word_of : Instr → List ℕ
word_of (Push e) = push_word (own_opcode e.items) e.items
word_of (Do opcode) = opcode_word (name_of opcode.0)

-- each word after a blank
abbrev pub further_words : List Instr → List ℕ
further_words code = flat_map (λ instr. 0x20 ∷ word_of instr) code

-- the words of some code, with one blank between two of them
abbrev pub assembly_text : List Instr → List ℕ
assembly_text [] = []
assembly_text (instr ∷ code) = word_of instr ++ further_words code

-- ---- read; a fault carries the number of its word

-- what an opcode alone stands for
abbrev pub named : ℕ → Option ℕ → Result Instr AsmFault
named number (Some opcode) = Ok (instruction (record { opcode = opcode; pushed = [] }))
named number None = Err (UnknownWord number)

-- the push of what hexadecimal digits spell
abbrev pub pushed : ℕ → Result (List ℕ) FromHexError → Result Instr AsmFault
pushed number (Ok bytes) = if nat_le (length bytes) 520 then Ok (push bytes) else Err (TooLong number)
pushed number (Err fault) = Err (BadHex number)

-- a word that begins with `OP_` names an opcode, and any other one spells bytes
abbrev pub word_instruction : ℕ → List ℕ → Result Instr AsmFault
word_instruction number word =
    if starts_with nat_eq word (codes "OP_") then named number (opcode_named (drop 3 word)) else pushed number (decode_of word)

-- the instructions of words, the first of which has this number, or the fault of the first word that has one
abbrev pub code_from : ℕ → List (List ℕ) → Result (List Instr) AsmFault
code_from number [] = Ok []
code_from number (word ∷ more) = do
  instr ← word_instruction number word
  code ← code_from (number + 1) more
  Ok (instr ∷ code)

-- words are counted from 0
abbrev pub assembly_code : List ℕ → Result (List Instr) AsmFault
assembly_code text = code_from 0 (words text)

-- ---- code that a text has

-- it pushes an element, or nothing
abbrev pub PushesElement : Instr → Type 0
PushesElement (Push e) = IsElement e.items
PushesElement (Do opcode) = Unit {0}
