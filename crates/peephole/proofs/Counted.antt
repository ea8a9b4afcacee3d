-- What is counted of spelled code, by its instructions.
use Rattle.std.proofs.Common.{◌≡◌, ℕ, ◌+◌, Bool, true, false, cond, ltb, List, [], ◌∷◌, refl, ap, ◌∙◌, arith}
use Rattle.std.proofs.lemmas.Bool.{and_parts}
use Rattle.std.proofs.lemmas.Bool.Decides.{nat_tests}
use Rattle.script_codec.specs.declared.instr.Instr.{Instr}
use Rattle.script_codec.specs.declared.instr.Instr.TheVariants.{Push, Do}
use Rattle.script_codec.specs.Spelling.{is_instruction, are_instructions, spellings}
use Rattle.script_codec.specs.Reading.{reading, instruction, spelled}
use Rattle.script_codec.specs.Counting.{takes_keys, keys_for, keys_pushed, key_count, number_pushed, weight, counted_in}
use Rattle.spend_laws.proofs.Spelled.{Laws, pieces_of, code_read, push_opcode}
use Rattle.peephole.specs.Counts.{weight_of, keys_by, keys_asked, opcodes_counted}

takes_none : (opcode : ℕ) → ltb 0x60 opcode ≡ false → takes_keys opcode ≡ false
takes_none opcode low = grind (arith, nat_tests, low)

weighs_so : (instr : Instr) → instruction (spelled instr) ≡ instr → weight (spelled instr).opcode ≡ weight_of instr
weighs_so (Push e) meant = ap (λ t. cond t 1 0) (push_opcode (spelled (Push e)) e.items meant)
weighs_so (Do opcode) meant = refl

asks_so : (keys : ℕ) (instr : Instr) → instruction (spelled instr) ≡ instr → cond (takes_keys (spelled instr).opcode) keys 0 ≡ keys_asked keys instr
asks_so keys (Push e) meant = ap (λ t. cond t keys 0) (takes_none (spelled (Push e)).opcode (push_opcode (spelled (Push e)) e.items meant))
asks_so keys (Do opcode) meant = refl

counted_so : Laws → (keys : ℕ) (code : List Instr) → are_instructions code ≡ true
    → keys_for keys (pieces_of code) + counted_in (pieces_of code) ≡ opcodes_counted keys code
counted_so laws keys [] are = refl
counted_so laws keys (i ∷ code) are =
    let q = and_parts (is_instruction i) (are_instructions code) are in
    let known = laws.meaning i q.0 in
    let pushed : keys_pushed (spelled i) ≡ keys_by i =
    ap (λ t. cond t (key_count (number_pushed (instruction (spelled i)))) 0) known.1 ∙ ap (λ j. key_count (number_pushed j)) known.0 in
    let weighs = weighs_so i known.0 in
    let asks = asks_so keys i known.0 in
    let moved = ap (λ n. keys_for n (pieces_of code)) pushed in
    let more = counted_so laws (keys_by i) code q.1 in
    omega (arith, weighs, asks, moved, more)

-- of code that begins with no number of keys
none_before : (code : List Instr) → keys_for 0 (pieces_of code) ≡ 0
none_before [] = refl
none_before (i ∷ code) = by (takes_keys (spelled i).opcode)
  where
    by : (t : Bool) → ◌≡◌ {A = ℕ} (cond t 0 0) 0
    by true = refl
    by false = refl

pub counted_is : Laws → (code : List Instr) → are_instructions code ≡ true → counted_in (reading (spellings code)) ≡ opcodes_counted 0 code
counted_is laws code are =
    let here = counted_so laws 0 code are in
    let none = none_before code in
    ap counted_in (code_read laws code are) ∙ omega (arith, here, none)
