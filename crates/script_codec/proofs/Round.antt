-- Reading and spelling stand for one another.
use Rattle.std.proofs.Common.{◌≡◌, ℕ, ◌+◌, ◌-◌, ◌/◌, ◌%◌, ◌≤◌, ◌<◌, Bool, true, false, ◌&&◌, leb, ltb, eqb, cond, List, [], ◌∷◌, ◌++◌, length, take, drop, map, refl, sym, ap, ◌∙◌, arith, subst, Option, Some, None, length-append, append_assoc, append-nil, ◌⊎◌, inl, inr}
use Rattle.cash_base.specs.Push.{push_prefix}
use Rattle.std.proofs.Math.Seq.{drop-nil, drop-append_seam, take-append_seam}
use Rattle.std.proofs.lemmas.List.{take-append-le, drop-append-le, length-drop}
use Rattle.std.proofs.lemmas.Bool.{le-leb, and_parts, cond-true, and_from}
use Rattle.std.proofs.lemmas.Bool.Decides.{nat_tests}
use Rattle.std.specs.List.{list_all}
use Rattle.script_codec.specs.declared.instr.Instr.{Instr}
use Rattle.script_codec.specs.declared.instr.Instr.TheVariants.{Push, Do}
use Rattle.script_codec.specs.Spelling.{is_instruction, are_instructions, own_opcode, push_by, minimal_push, spelling, spellings}
use Rattle.script_codec.specs.Reading.{Raw, Whole, little_endian, length_size, pushed_size, piece_of, size_after, size_of, reading, first_byte, instruction, is_minimal, meaning, is_minimal_piece, bytes_after, bytes_in_script, spelled, push}
use Rattle.script_codec.proofs.Seams.{reading_cons, reading_nil}
use Rattle.script_codec.proofs.Own.{Owns, owned}

-- ---- an instruction in front of other bytes

abbrev pub raw_of : ℕ → List ℕ → Raw
raw_of opcode pushed = record { opcode = opcode; pushed = pushed }

-- an opcode with all the bytes that belong to it is read as it stands, and what follows is read after it
whole_read : (opcode : ℕ) (part rest : List ℕ) → length_size opcode ≤ length part → size_after opcode part ≡ length part → reading (opcode ∷ (part ++ rest)) ≡ Whole (raw_of opcode (drop (length_size opcode) part)) ∷ reading rest
whole_read opcode part rest front whole =
    let start = length_size opcode in
    let count : pushed_size opcode (part ++ rest) ≡ pushed_size opcode part = ap (λ bytes. cond (leb opcode 0x4b) opcode (cond (leb opcode 0x4e) (little_endian bytes) 0)) (take-append-le start part rest front) in
    let size : size_after opcode (part ++ rest) ≡ length part = ap (λ n. start + n) count ∙ whole in
    let fits : leb (size_after opcode (part ++ rest)) (length (part ++ rest)) ≡ true = le-leb _ _ (simp length-append (omega (arith, size))) in
    let left : pushed_size opcode (part ++ rest) ≡ length (drop start part) = simp length-drop (omega (arith, count, whole)) in
    let pushed : take (pushed_size opcode (part ++ rest)) (drop start (part ++ rest)) ≡ drop start part =
    ap (λ n. take n (drop start (part ++ rest))) left ∙ ap (take (length (drop start part))) (drop-append-le start part rest front) ∙ take-append_seam (drop start part) rest in
    let after : drop (size_after opcode (part ++ rest)) (part ++ rest) ≡ rest = ap (λ n. drop n (part ++ rest)) size ∙ drop-append_seam part rest in
    reading_cons opcode (part ++ rest)
    ∙ ap (λ bytes. piece_of opcode (part ++ rest) ∷ reading bytes) after
    ∙ ap (λ piece. piece ∷ reading rest) (cond-true _ _ _ fits)
    ∙ ap (λ bytes. Whole (raw_of opcode bytes) ∷ reading rest) pushed

-- an opcode that has no bytes after it
alone_read : (opcode : ℕ) (rest : List ℕ) → length_size opcode ≡ 0 → pushed_size opcode [] ≡ 0 → reading (opcode ∷ rest) ≡ Whole (raw_of opcode []) ∷ reading rest
alone_read opcode rest none empty = whole_read opcode [] rest (omega (arith, none)) (omega (arith, none, empty)) ∙ ap (λ bytes. Whole (raw_of opcode bytes) ∷ reading rest) (drop-nil (length_size opcode))

opcode_alone : (opcode : ℕ) → 0x4e < opcode → (length_size opcode ≡ 0) × (pushed_size opcode [] ≡ 0)
opcode_alone opcode above = (grind (arith, nat_tests), grind (arith, nat_tests))

above_read : (opcode : ℕ) (rest : List ℕ) → 0x4e < opcode → reading (opcode ∷ rest) ≡ Whole (raw_of opcode []) ∷ reading rest
above_read opcode rest above = let sizes = opcode_alone opcode above in alone_read opcode rest sizes.0 sizes.1

own_alone : (e : List ℕ) (opcode : ℕ) → own_opcode e ≡ Some opcode → (length_size opcode ≡ 0) × (pushed_size opcode [] ≡ 0)
own_alone e opcode is = by_case (owned e opcode is)
  where
    by_case : Owns e opcode → (length_size opcode ≡ 0) × (pushed_size opcode [] ≡ 0)
    by_case (inl empty) = subst (λ (n : ℕ). (length_size n ≡ 0) × (pushed_size n [] ≡ 0)) (sym empty.0) (refl, refl)
    by_case (inr (inl minus)) = opcode_alone opcode (omega (arith, minus.0))
    by_case (inr (inr small)) = opcode_alone opcode (omega (arith, small.0))

direct_sizes : (n : ℕ) (e : List ℕ) → n ≤ 75 → (length_size n ≡ 0) × (pushed_size n e ≡ n)
direct_sizes n e short = (grind (arith, nat_tests), grind (arith, nat_tests))

long_read : (n : ℕ) (e rest : List ℕ) → length e ≡ n → reading ((push_prefix n ++ e) ++ rest) ≡ Whole (raw_of (first_byte (push_prefix n ++ e)) e) ∷ reading rest
long_read n e rest is = by_tests (leb n 75) (leb n 255) refl
  where
    prefix : Bool → Bool → List ℕ
    prefix short middle = cond short (n ∷ []) (cond middle (0x4c ∷ n ∷ []) (0x4d ∷ (n % 256) ∷ (n / 256) ∷ []))

    by_tests : (short middle : Bool) → leb n 75 ≡ short → reading ((prefix short middle ++ e) ++ rest) ≡ Whole (raw_of (first_byte (prefix short middle ++ e)) e) ∷ reading rest
    by_tests true middle test =
        let low : n ≤ 75 = grind (arith, nat_tests, test) in
        let sizes = direct_sizes n e low in
        whole_read n e rest (omega (arith, sizes.0)) (omega (arith, sizes.0, sizes.1, is)) ∙ ap (λ k. Whole (raw_of n (drop k e)) ∷ reading rest) sizes.0
    by_tests false true test = whole_read 0x4c (n ∷ e) rest (omega arith) (omega (arith, is))
    by_tests false false test = whole_read 0x4d ((n % 256) ∷ (n / 256) ∷ e) rest (omega arith) (omega (arith, is))

push_read : (e rest : List ℕ) → reading (minimal_push e ++ rest) ≡ Whole (raw_of (first_byte (minimal_push e)) (bytes_in_script e)) ∷ reading rest
push_read e rest = by_own (own_opcode e) refl
  where
    by_own : (o : Option ℕ) → own_opcode e ≡ o → reading (push_by o e ++ rest) ≡ Whole (raw_of (first_byte (push_by o e)) (bytes_after o e)) ∷ reading rest
    by_own (Some opcode) is = let sizes = own_alone e opcode is in alone_read opcode rest sizes.0 sizes.1
    by_own None is = long_read (length e) e rest refl

-- the minimal spelling of an instruction is read as it
instr_read : (instr : Instr) (rest : List ℕ) → is_instruction instr ≡ true → reading (spelling instr ++ rest) ≡ Whole (spelled instr) ∷ reading rest
instr_read (Push e) rest is = push_read e.items rest
instr_read (Do opcode) rest is = above_read opcode.0 rest (grind (arith, nat_tests, is))

-- ---- what is read is the instruction, minimally spelled

-- what an opcode and its bytes stand for, by the range of the opcode
by_range : (opcode : ℕ) (pushed : List ℕ) (low minus small : Bool) → leb opcode 0x4e ≡ low → eqb opcode 0x4f ≡ minus → (ltb 0x50 opcode && leb opcode 0x60) ≡ small → instruction (raw_of opcode pushed) ≡ cond low (push pushed) (cond minus (push (0x81 ∷ [])) (cond small (push ((opcode - 0x50) ∷ [])) (Do (record { 0 = opcode }))))
by_range opcode pushed low minus small l m s =
    ap (λ t. cond t (push pushed) (cond (eqb opcode 0x4f) (push (0x81 ∷ [])) (cond (ltb 0x50 opcode && leb opcode 0x60) (push ((opcode - 0x50) ∷ [])) (Do (record { 0 = opcode }))))) l
    ∙ ap (λ t. cond low (push pushed) (cond t (push (0x81 ∷ [])) (cond (ltb 0x50 opcode && leb opcode 0x60) (push ((opcode - 0x50) ∷ [])) (Do (record { 0 = opcode }))))) m
    ∙ ap (λ t. cond low (push pushed) (cond minus (push (0x81 ∷ [])) (cond t (push ((opcode - 0x50) ∷ [])) (Do (record { 0 = opcode }))))) s

pub low_meaning : (opcode : ℕ) (pushed : List ℕ) → opcode ≤ 0x4e → instruction (raw_of opcode pushed) ≡ push pushed
low_meaning opcode pushed low = cond-true _ _ _ (le-leb opcode 0x4e low)

pub small_meaning : (opcode : ℕ) (pushed : List ℕ) → 0x50 < opcode → opcode ≤ 0x60 → instruction (raw_of opcode pushed) ≡ push ((opcode - 0x50) ∷ [])
small_meaning opcode pushed above below = by_range opcode pushed false false true (grind (arith, nat_tests)) (grind (arith, nat_tests)) (grind (arith, nat_tests))

pub do_meaning : (opcode : ℕ) (pushed : List ℕ) → (0x60 < opcode) ⊎ (opcode ≡ 0x50) → instruction (raw_of opcode pushed) ≡ Do (record { 0 = opcode })
do_meaning opcode pushed (inl above) = by_range opcode pushed false false false (grind (arith, nat_tests)) (grind (arith, nat_tests)) (grind (arith, nat_tests))
do_meaning opcode pushed (inr is) = by_range opcode pushed false false false (grind (arith, nat_tests)) (grind (arith, nat_tests)) (grind (arith, nat_tests))

-- an element's own opcode stands for the push of the element
pub own_meaning : (e : List ℕ) (opcode : ℕ) → own_opcode e ≡ Some opcode → instruction (raw_of opcode []) ≡ push e
own_meaning e opcode is = by_case (owned e opcode is)
  where
    by_case : Owns e opcode → instruction (raw_of opcode []) ≡ push e
    by_case (inl empty) = subst (λ (n : ℕ). instruction (raw_of n []) ≡ push e) (sym empty.0) (ap push (sym empty.1))
    by_case (inr (inl minus)) = subst (λ (n : ℕ). instruction (raw_of n []) ≡ push e) (sym minus.0) (ap push (sym minus.1))
    by_case (inr (inr small)) = small_meaning opcode [] small.0 small.1 ∙ ap push (sym small.2)

long_meaning : (n : ℕ) (e : List ℕ) → instruction (raw_of (first_byte (push_prefix n ++ e)) e) ≡ push e
long_meaning n e = by_tests (leb n 75) (leb n 255) refl
  where
    by_tests : (short middle : Bool) → leb n 75 ≡ short → instruction (raw_of (first_byte (cond short (n ∷ []) (cond middle (0x4c ∷ n ∷ []) (0x4d ∷ (n % 256) ∷ (n / 256) ∷ [])) ++ e)) e) ≡ push e
    by_tests true middle test = low_meaning n e (grind (arith, nat_tests, test))
    by_tests false true test = refl
    by_tests false false test = refl

push_meaning : (e : List ℕ) → instruction (raw_of (first_byte (minimal_push e)) (bytes_in_script e)) ≡ push e
push_meaning e = by_own (own_opcode e) refl
  where
    by_own : (o : Option ℕ) → own_opcode e ≡ o → instruction (raw_of (first_byte (push_by o e)) (bytes_after o e)) ≡ push e
    by_own (Some opcode) is = own_meaning e opcode is
    by_own None is = long_meaning (length e) e

pub instr_meaning : (instr : Instr) → is_instruction instr ≡ true → instruction (spelled instr) ≡ instr
instr_meaning (Push e) is = push_meaning e.items
instr_meaning (Do opcode) is = do_meaning opcode.0 [] (inl (grind (arith, nat_tests, is)))

eqb-same : (n : ℕ) → eqb n n ≡ true
eqb-same n = grind (arith, nat_tests)

begins : (instr : Instr) → (spelled instr).opcode ≡ first_byte (spelling instr)
begins (Push e) = refl
begins (Do opcode) = refl

pub instr_minimal : (instr : Instr) → is_instruction instr ≡ true → is_minimal (spelled instr) ≡ true
instr_minimal instr is =
    ap (λ i. eqb (spelled instr).opcode (first_byte (spelling i))) (instr_meaning instr is)
    ∙ ap (λ opcode. eqb opcode (first_byte (spelling instr))) (begins instr)
    ∙ eqb-same (first_byte (spelling instr))

-- ---- what is read has as many bytes as the spelling

long_size : (n : ℕ) (e : List ℕ) → length e ≡ n → size_of (raw_of (first_byte (push_prefix n ++ e)) e) ≡ length (push_prefix n ++ e)
long_size n e is = by_tests (leb n 75) (leb n 255) refl
  where
    prefix : Bool → Bool → List ℕ
    prefix short middle = cond short (n ∷ []) (cond middle (0x4c ∷ n ∷ []) (0x4d ∷ (n % 256) ∷ (n / 256) ∷ []))

    by_tests : (short middle : Bool) → leb n 75 ≡ short → size_of (raw_of (first_byte (prefix short middle ++ e)) e) ≡ length (prefix short middle ++ e)
    by_tests true middle test =
        let sizes = direct_sizes n e (grind (arith, nat_tests, test)) in
        omega (arith, sizes.0)
    by_tests false true test = omega arith
    by_tests false false test = omega arith

push_size : (e : List ℕ) → size_of (raw_of (first_byte (minimal_push e)) (bytes_in_script e)) ≡ length (minimal_push e)
push_size e = by_own (own_opcode e) refl
  where
    by_own : (o : Option ℕ) → own_opcode e ≡ o → size_of (raw_of (first_byte (push_by o e)) (bytes_after o e)) ≡ length (push_by o e)
    by_own (Some opcode) is = let sizes = own_alone e opcode is in omega (arith, sizes.0)
    by_own None is = long_size (length e) e refl

pub instr_size : (instr : Instr) → is_instruction instr ≡ true → size_of (spelled instr) ≡ length (spelling instr)
instr_size (Push e) is = push_size e.items
instr_size (Do opcode) is =
    let sizes = opcode_alone opcode.0 (grind (arith, nat_tests, is)) in
    omega (arith, sizes.0)

-- ---- the laws of what was encoded

-- code in front of other bytes is read as its instructions, and what follows after them
pub code_read : (code : List Instr) (rest : List ℕ) → are_instructions code ≡ true → reading (spellings code ++ rest) ≡ map (λ instr. Whole (spelled instr)) code ++ reading rest
code_read [] rest are = refl
code_read (instr ∷ code) rest are =
    let parts = and_parts (is_instruction instr) (are_instructions code) are in
    ap reading (append_assoc (spelling instr) (spellings code) rest)
    ∙ instr_read instr (spellings code ++ rest) parts.0
    ∙ ap (λ more. Whole (spelled instr) ∷ more) (code_read code rest parts.1)

code_alone : (code : List Instr) → are_instructions code ≡ true → reading (spellings code) ≡ map (λ instr. Whole (spelled instr)) code
code_alone code are =
    ap reading (sym (append-nil (spellings code)))
    ∙ code_read code [] are
    ∙ ap (λ more. map (λ instr. Whole (spelled instr)) code ++ more) reading_nil
    ∙ append-nil (map (λ instr. Whole (spelled instr)) code)

meanings : (code : List Instr) → are_instructions code ≡ true → map meaning (map (λ instr. Whole (spelled instr)) code) ≡ map Some code
meanings [] are = refl
meanings (instr ∷ code) are =
    let parts = and_parts (is_instruction instr) (are_instructions code) are in
    ap (λ i. Some i ∷ map meaning (map (λ instr. Whole (spelled instr)) code)) (instr_meaning instr parts.0) ∙ ap (λ more. Some instr ∷ more) (meanings code parts.1)

-- reading what was encoded gives the same instructions
pub code_again : (code : List Instr) → are_instructions code ≡ true → map meaning (reading (spellings code)) ≡ map Some code
code_again code are = ap (map meaning) (code_alone code are) ∙ meanings code are

minimal_pieces : (code : List Instr) → are_instructions code ≡ true → list_all is_minimal_piece (map (λ instr. Whole (spelled instr)) code) ≡ true
minimal_pieces [] are = refl
minimal_pieces (instr ∷ code) are =
    let parts = and_parts (is_instruction instr) (are_instructions code) are in
    and_from _ _ (instr_minimal instr parts.0) (minimal_pieces code parts.1)

-- and each of them is minimally spelled
pub code_minimal : (code : List Instr) → are_instructions code ≡ true → list_all is_minimal_piece (reading (spellings code)) ≡ true
code_minimal code are = ap (list_all is_minimal_piece) (code_alone code are) ∙ minimal_pieces code are
