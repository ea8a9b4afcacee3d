-- Each opcode that assembly text spells has a name, and code whose opcodes have names can be spelled.
use Rattle.std.proofs.Common.{◌≡◌, ℕ, ◌+◌, ◌==◌, ◌-◌, ◌≢◌, Bool, true, false, ◌&&◌, cond, List, [], ◌∷◌, length, drop, Option, Some, None, Result, Ok, Err, IfOk, is_some, refl, sym, ap, subst, ◌∙◌, arith, inl, inr, ◌⊎◌}
use Rattle.std.specs.Prelude.{nat_lt, nat_le, nat_eq, codes}
use Rattle.std.specs.List.{starts_with}
use Rattle.std.proofs.lemmas.Bool.{and_parts, and_from, false≢true, cases_eq}
use Rattle.std.proofs.lemmas.Bool.Decides.{nat_tests}
use Rattle.hex.specs.Hex.{decode_of}
use Rattle.hex.specs.declared.error.FromHexError.{FromHexError}
use Rattle.cash_base.specs.Failing.{◌>>=◌}
use Rattle.script_codec.specs.declared.instr.Instr.{Instr}
use Rattle.script_codec.specs.declared.instr.Instr.TheVariants.{Push, Do}
use Rattle.script_codec.specs.Spelling.{is_instruction, are_instructions}
use Rattle.script_codec.specs.Reading.{instruction, push}
use Rattle.script_codec.specs.Words.{words}
use Rattle.script_codec.specs.Names.{named_opcodes, opcode_named, has_name, is_named, are_named}
use Rattle.script_codec.proofs.Table.{name_back}
use Rattle.asm_text.specs.declared.fault.AsmFault.TheVariants as asm
use Rattle.asm_text.specs.Assembly.{named, pushed, word_instruction, code_from, assembly_code}

-- a step after another, where both give what is wanted
pub then_ok : {A B E : Type 0} (r : Result A E) (f : A → Result B E) (P : A → Type 0) (Q : B → Type 0) → IfOk r P
    → ((x : A) → P x → IfOk (f x) Q) → IfOk (r >>= f) Q
then_ok (Ok x) f P Q h next = next x h
then_ok (Err e) f P Q h next = tt

-- ---- an opcode

reserved : has_name 0x50 ≡ false
unfolding named_opcodes
reserved = refl

not_reserved : (opcode : ℕ) → has_name opcode ≡ true → opcode ≡ 0x50 → ⊥
not_reserved opcode has is = false≢true (sym reserved ∙ subst (λ (o : ℕ). has_name o ≡ true) is has)

above_pushes : (opcode : ℕ) → has_name opcode ≡ true → nat_le opcode 0x4e ≡ false → (opcode == 0x4f) ≡ false
    → (nat_lt 0x50 opcode && nat_le opcode 0x60) ≡ false → nat_lt 0x60 opcode ≡ true
above_pushes opcode has low minus small =
    by_case (cases_eq opcode 0x50)
  where
    by_case : (opcode ≡ 0x50) ⊎ (opcode ≢ 0x50) → nat_lt 0x60 opcode ≡ true
    by_case (inl is) = absurd (not_reserved opcode has is)
    by_case (inr other) = grind (arith, nat_tests, low, minus, small, other)

instruction_named : (opcode : ℕ) → has_name opcode ≡ true → is_named (instruction (record { opcode = opcode; pushed = [] })) ≡ true
instruction_named opcode has =
    by_tests (nat_le opcode 0x4e) (opcode == 0x4f) (nat_lt 0x50 opcode && nat_le opcode 0x60) refl refl refl
  where
    by_tests : (low minus small : Bool) → nat_le opcode 0x4e ≡ low → (opcode == 0x4f) ≡ minus
        → (nat_lt 0x50 opcode && nat_le opcode 0x60) ≡ small
        → is_named (cond low (push []) (cond minus (push (0x81 ∷ [])) (cond small (push ((opcode - 0x50) ∷ [])) (Do (record { 0 = opcode }))))) ≡ true
    by_tests true minus small a b c = refl
    by_tests false true small a b c = refl
    by_tests false false true a b c = refl
    by_tests false false false a b c = and_from (nat_lt 0x60 opcode) (has_name opcode) (above_pushes opcode has a b c) has

-- ---- a word

abbrev HasName : Instr → Type 0
HasName instr = is_named instr ≡ true

name_read : (number : ℕ) (name : List ℕ) → IfOk (named number (opcode_named name)) HasName
name_read number name = by_found (opcode_named name) refl
  where
    by_found : (found : Option ℕ) → opcode_named name ≡ found → IfOk (named number found) HasName
    by_found (Some opcode) is = instruction_named opcode (ap (λ (o : Option (List ℕ)). is_some o) (name_back name opcode is))
    by_found None is = tt

digits_read : (number : ℕ) (read : Result (List ℕ) FromHexError) → IfOk (pushed number read) HasName
digits_read number (Ok bytes) = by_test (nat_le (length bytes) 520)
  where
    by_test : (t : Bool) → IfOk (cond t (Ok (push bytes)) (Err (asm.TooLong number))) HasName
    by_test true = refl
    by_test false = tt
digits_read number (Err fault) = tt

word_named : (number : ℕ) (word : List ℕ) → IfOk (word_instruction number word) HasName
word_named number word = by_test (starts_with nat_eq word (codes "OP_"))
  where
    by_test : (t : Bool) → IfOk (cond t (named number (opcode_named (drop 3 word))) (pushed number (decode_of word))) HasName
    by_test true = name_read number (drop 3 word)
    by_test false = digits_read number (decode_of word)

-- ---- code

abbrev HasNames : List Instr → Type 0
HasNames code = are_named code ≡ true

words_named : (number : ℕ) (words : List (List ℕ)) → IfOk (code_from number words) HasNames
words_named number [] = refl
words_named number (word ∷ more) =
    then_ok (word_instruction number word) (λ instr. code_from (number + 1) more >>= λ code. Ok (instr ∷ code)) HasName HasNames
    (word_named number word)
    (λ instr first. then_ok (code_from (number + 1) more) (λ code. Ok (instr ∷ code)) HasNames HasNames
    (words_named (number + 1) more) (λ code others. and_from (is_named instr) (are_named code) first others))

pub code_named : (text : List ℕ) → IfOk (assembly_code text) (λ code. are_named code ≡ true)
code_named text = words_named 0 (words text)

-- ---- it can be spelled

instr_spelled : (instr : Instr) → is_named instr ≡ true → is_instruction instr ≡ true
instr_spelled (Push e) h = refl
instr_spelled (Do opcode) h = (and_parts (nat_lt 0x60 opcode.0) (has_name opcode.0) h).0

pub are_spelled : (code : List Instr) → are_named code ≡ true → are_instructions code ≡ true
are_spelled [] h = refl
are_spelled (instr ∷ code) h =
    let parts = and_parts (is_named instr) (are_named code) h in
    and_from (is_instruction instr) (are_instructions code) (instr_spelled instr parts.0) (are_spelled code parts.1)
