-- How many opcodes code counts, told of its instructions and not of its bytes.
use Rattle.std.specs.Prelude.{ℕ, ◌+◌, false, if◌then◌else◌, IsTrue, List, [], ◌∷◌}
use Rattle.std.specs.List.{AllByRecursion}
use Rattle.script_codec.specs.declared.instr.Instr.{Instr}
use Rattle.script_codec.specs.declared.spans.Marked.{Marked}
use Rattle.script_codec.specs.Spelling.{are_instructions, spellings}
use Rattle.script_codec.specs.Reading.{reading}
use Rattle.script_codec.specs.Counting.{number_pushed, key_count, counted_in}
use Rattle.bch_vm.specs.Law.{asks_for_keys, are_keys_known}
use Rattle.selector.specs.Pieces.{instructions, opcode_weight}

-- ---- by its instructions

-- the number of keys that an instruction pushes, and 0 where it pushes none
abbrev pub keys_pushed : Instr → ℕ
keys_pushed instr = key_count (number_pushed instr)

-- so many keys, where the first instruction takes them
abbrev pub keys_taken : ℕ → List Instr → ℕ
keys_taken keys [] = 0
keys_taken keys (instr ∷ code) = if asks_for_keys instr then keys else 0

-- each opcode above 60 (hexadecimal), and the keys of each check of several signatures directly after their number
abbrev pub opcodes_in : List Instr → ℕ
opcodes_in [] = 0
opcodes_in (instr ∷ code) = opcode_weight instr + keys_taken (keys_pushed instr) code + opcodes_in code

-- ---- by its bytes

abbrev pub counted_of : List Instr → ℕ
counted_of code = counted_in (reading (spellings code))

-- ---- of functions

-- what all of them count
abbrev pub counted_of_all : List Marked → ℕ
counted_of_all [] = 0
counted_of_all (function ∷ functions) = counted_of (instructions function.code.items) + counted_of_all functions

-- each has opcodes above 60 (hexadecimal) alone
abbrev pub AreSpelled : List Marked → Type 0
AreSpelled functions = AllByRecursion (λ function. IsTrue (are_instructions (instructions function.code.items))) functions

-- and each check of several signatures in it stands directly after the push of its number of keys
abbrev pub HaveKnownKeys : List Marked → Type 0
HaveKnownKeys functions = AllByRecursion (λ function. IsTrue (are_keys_known false (instructions function.code.items))) functions
