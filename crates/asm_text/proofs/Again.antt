-- Reading the text of code gives the code.
use Rattle.std.proofs.Common.{◌≡◌, ℕ, ◌+◌, ◌<◌, Bool, true, false, not, ltb, cond, List, [], ◌∷◌, ◌++◌, length, drop, map, Option, Some, None, Result, Ok, Err, refl, sym, ap, subst, ◌∙◌, arith, append-nil, inl}
use Rattle.std.specs.Prelude.{nat_le, codes, is_some}
use Rattle.std.specs.List.{AllByRecursion}
use Rattle.std.proofs.lemmas.Bool.{and_parts, false≢true, le-leb}
use Rattle.std.proofs.lemmas.Bool.Decides.{nat_tests}
use Rattle.hex.specs.Hex.{encode_lower, decode_of}
use Rattle.hex.proofs.HexLemmas.{decode_of-encode_lower}
use Rattle.cash_base.specs.Failing.{◌>>=◌}
use Rattle.cash_base.specs.Element.{IsElement}
use Rattle.script_codec.specs.declared.instr.Instr.{Instr}
use Rattle.script_codec.specs.declared.instr.Instr.TheVariants.{Push, Do}
use Rattle.script_codec.specs.Spelling.{own_opcode}
use Rattle.script_codec.specs.Reading.{instruction, push}
use Rattle.script_codec.specs.Words.{is_blank, in_front, pieces, not_empty, words}
use Rattle.script_codec.specs.Names.{name_of, opcode_named, has_name, is_named, are_named}
use Rattle.script_codec.proofs.Round.{raw_of, do_meaning, own_meaning}
use Rattle.script_codec.proofs.Table.{opcode_back, name_unbroken, own_named}
use Rattle.asm_text.specs.declared.fault.AsmFault.{AsmFault}
use Rattle.asm_text.specs.declared.fault.AsmFault.TheVariants.{TooLong}
use Rattle.asm_text.specs.Assembly.{opcode_word, push_word, word_of, further_words, assembly_text, named, pushed, word_instruction, code_from, assembly_code, PushesElement}
use Rattle.asm_text.proofs.Digits.{unbroken, byte_at, digit_word}

-- ---- a text of words

-- it has bytes, and no blank among them
record IsWord (word : List ℕ) : Type 0 where
  pub some : 0 < length word
  pub whole : unbroken word ≡ true

abbrev AreWords : List Instr → Type 0
AreWords code = AllByRecursion (λ instr. IsWord (word_of instr)) code

not_true : (t : Bool) → not t ≡ true → t ≡ false
not_true true h = absurd (false≢true h)
not_true false h = refl

-- a byte that is no blank stands in front of the first piece
pieces_byte : (byte : ℕ) (bytes : List ℕ) → not (is_blank byte) ≡ true
    → pieces (byte ∷ bytes) ≡ in_front byte (pieces bytes)
pieces_byte byte bytes h =
    ap (λ (t : Bool). cond t ([] ∷ pieces bytes) (in_front byte (pieces bytes))) (not_true (is_blank byte) h)

pieces_front : (word rest : List ℕ) → unbroken word ≡ true → pieces (word ++ 0x20 ∷ rest) ≡ word ∷ pieces rest
pieces_front [] rest whole = refl
pieces_front (byte ∷ word) rest whole =
    let parts = and_parts (not (is_blank byte)) (unbroken word) whole in
    pieces_byte byte (word ++ 0x20 ∷ rest) parts.0 ∙ ap (in_front byte) (pieces_front word rest parts.1)

pieces_end : (word : List ℕ) → unbroken word ≡ true → pieces word ≡ word ∷ []
pieces_end [] whole = refl
pieces_end (byte ∷ word) whole =
    let parts = and_parts (not (is_blank byte)) (unbroken word) whole in
    pieces_byte byte word parts.0 ∙ ap (in_front byte) (pieces_end word parts.1)

text_pieces : (word : List ℕ) (code : List Instr) → unbroken word ≡ true → AreWords code
    → pieces (word ++ further_words code) ≡ word ∷ map word_of code
text_pieces word [] whole are = ap pieces (append-nil word) ∙ pieces_end word whole
text_pieces word (instr ∷ code) whole are =
    pieces_front word (word_of instr ++ further_words code) whole
    ∙ ap (λ (ps : List (List ℕ)). word ∷ ps) (text_pieces (word_of instr) code are.0.whole are.1)

kept : (word : List ℕ) (ps : List (List ℕ)) → 0 < length word → not_empty (word ∷ ps) ≡ word ∷ not_empty ps
kept [] ps some = absurd (omega arith)
kept (byte ∷ word) ps some = refl

all_kept : (code : List Instr) → AreWords code → not_empty (map word_of code) ≡ map word_of code
all_kept [] are = refl
all_kept (instr ∷ code) are =
    kept (word_of instr) (map word_of code) are.0.some ∙ ap (λ (ps : List (List ℕ)). word_of instr ∷ ps) (all_kept code are.1)

text_words : (code : List Instr) → AreWords code → words (assembly_text code) ≡ map word_of code
text_words [] are = refl
text_words (instr ∷ code) are =
    ap not_empty (text_pieces (word_of instr) code are.0.whole are.1) ∙ all_kept (instr ∷ code) are

-- ---- the word of an instruction

-- it is a word, and is read as the instruction whatever its number
record IsReadAs (word : List ℕ) (instr : Instr) : Type 0 where
  pub is_word : IsWord word
  pub back : (number : ℕ) → word_instruction number word ≡ Ok instr

found_name : (found : Option (List ℕ)) → is_some found ≡ true → (name : List ℕ) × (found ≡ Some name)
found_name (Some name) some = (name, refl)
found_name None some = absurd (false≢true some)

opcode_read : (opcode : ℕ) (instr : Instr) → has_name opcode ≡ true → instruction (raw_of opcode []) ≡ instr
    → IsReadAs (opcode_word (name_of opcode)) instr
opcode_read opcode instr has means =
    let found = found_name (name_of opcode) has in
    let name : List ℕ = found.0 in
    let is : name_of opcode ≡ Some name = found.1 in
    let is_word : IsWord (codes "OP_" ++ name) = record { some = omega arith; whole = name_unbroken opcode name is } in
    let back : (number : ℕ) → word_instruction number (codes "OP_" ++ name) ≡ Ok instr =
    λ (number : ℕ). ap (named number) (opcode_back opcode name is) ∙ ap (λ (i : Instr). Ok i) means in
    subst (λ (o : Option (List ℕ)). IsReadAs (opcode_word o) instr) (sym is) (record { is_word = is_word; back = back })

digits_read : (e : List ℕ) → IsElement e → own_opcode e ≡ None → IsReadAs (encode_lower e) (push e)
digits_read [] is own = absurd cc
digits_read (b ∷ more) is own =
    let word = digit_word (b ∷ more) is.bytes (omega arith) in
    let fits : nat_le (length (b ∷ more)) 520 ≡ true = le-leb _ _ is.size in
    let back : (number : ℕ) → word_instruction number (encode_lower (b ∷ more)) ≡ Ok (push (b ∷ more)) =
    λ (number : ℕ). ap (λ (t : Bool). cond t (named number (opcode_named (drop 3 (encode_lower (b ∷ more)))))
    (pushed number (decode_of (encode_lower (b ∷ more))))) word.other
    ∙ ap (pushed number) (decode_of-encode_lower (b ∷ more) (byte_at (b ∷ more) is.bytes))
    ∙ ap (λ (t : Bool). cond t (Ok (push (b ∷ more))) (Err (TooLong number))) fits in
    record { is_word = record { some = word.some; whole = word.whole }; back = back }

push_read : (e : List ℕ) → IsElement e → IsReadAs (push_word (own_opcode e) e) (push e)
push_read e is = by_own (own_opcode e) refl
  where
    by_own : (o : Option ℕ) → own_opcode e ≡ o → IsReadAs (push_word o e) (push e)
    by_own (Some opcode) own = opcode_read opcode (push e) (own_named e opcode own) (own_meaning e opcode own)
    by_own None own = digits_read e is own

instr_read : (instr : Instr) → is_named instr ≡ true → PushesElement instr → IsReadAs (word_of instr) instr
instr_read (Push e) has is = push_read e.items is
instr_read (Do opcode) has is =
    let parts = and_parts (ltb 0x60 opcode.0) (has_name opcode.0) has in
    opcode_read opcode.0 (Do opcode) parts.1 (do_meaning opcode.0 [] (inl (grind (arith, nat_tests, parts.0))))

-- ---- the text of some code

all_words : (code : List Instr) → are_named code ≡ true → AllByRecursion PushesElement code → AreWords code
all_words [] are pushes = tt
all_words (instr ∷ code) are pushes =
    let parts = and_parts (is_named instr) (are_named code) are in
    ((instr_read instr parts.0 pushes.0).is_word, all_words code parts.1 pushes.1)

words_read : (code : List Instr) (number : ℕ) → are_named code ≡ true → AllByRecursion PushesElement code
    → code_from number (map word_of code) ≡ Ok code
words_read [] number are pushes = refl
words_read (instr ∷ code) number are pushes =
    let parts = and_parts (is_named instr) (are_named code) are in
    let first : word_instruction number (word_of instr) ≡ Ok instr = (instr_read instr parts.0 pushes.0).back number in
    let others : code_from (number + 1) (map word_of code) ≡ Ok code = words_read code (number + 1) parts.1 pushes.1 in
    ap (λ (r : Result Instr AsmFault). r >>= λ i. code_from (number + 1) (map word_of code) >>= λ is. Ok (i ∷ is)) first
    ∙ ap (λ (r : Result (List Instr) AsmFault). r >>= λ is. Ok (instr ∷ is)) others

pub text_read : (code : List Instr) → are_named code ≡ true → AllByRecursion PushesElement code
    → assembly_code (assembly_text code) ≡ Ok code
text_read code are pushes =
    ap (code_from 0) (text_words code (all_words code are pushes)) ∙ words_read code 0 are pushes
