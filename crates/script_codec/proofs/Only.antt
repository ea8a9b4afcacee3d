-- Bytes whose pushes are all minimal are the spelling of what they are read as.
use Rattle.std.proofs.Common.{◌≡◌, ℕ, zero, suc, ◌+◌, ◌-◌, ◌/◌, ◌%◌, ◌≤◌, ◌<◌, Bool, true, false, ◌&&◌, leb, eqb, cond, List, [], ◌∷◌, ◌++◌, length, take, drop, map, refl, sym, ap, ◌∙◌, arith, subst, Option, Some, None, ◌⊎◌, inl, inr}
use Rattle.std.proofs.lemmas.List.{length-take, length-drop, take-append-drop}
use Rattle.std.proofs.lemmas.Bool.{and_parts, cases_lt, cases_eq, leb-true}
use Rattle.std.proofs.lemmas.Bool.Decides.{nat_tests}
use Rattle.std.specs.List.{list_all}
use Rattle.cash_base.specs.Number.{IsBytes}
use Rattle.script_codec.specs.declared.instr.Instr.{Instr}
use Rattle.script_codec.specs.Spelling.{own_opcode, push_by, minimal_push, spelling, spellings}
use Rattle.script_codec.specs.Reading.{Piece, Whole, CutOff, length_size, pushed_size, piece_of, size_after, reading, first_byte, instruction, is_minimal, meaning, is_minimal_piece}
use Rattle.script_codec.proofs.Seams.{reading_cons, reading_nil}
use Rattle.script_codec.proofs.Own.{Owns, owned}
use Rattle.script_codec.proofs.Round.{raw_of, low_meaning, small_meaning, do_meaning}

-- an opcode in front of its bytes, and what it pushes of them
record Pushes (opcode : ℕ) (after pushed : List ℕ) : Type 0 where
  pushed_is : pushed ≡ take (pushed_size opcode after) (drop (length_size opcode) after)
  fits : size_after opcode after ≤ length after

pushed_length : (opcode : ℕ) (after pushed : List ℕ) → Pushes opcode after pushed → length pushed ≡ pushed_size opcode after
pushed_length opcode after pushed p = ap length p.pushed_is ∙ simp (length-take, length-drop) (omega (arith, p.fits))

-- its bytes, from the opcode on
abbrev bytes_of : ℕ → List ℕ → List ℕ
bytes_of opcode after = opcode ∷ take (size_after opcode after) after

no_length : (n : ℕ) (after : List ℕ) → n ≤ 75 → (length_size n ≡ 0) × (pushed_size n after ≡ n)
no_length n after short = (grind (arith, nat_tests), grind (arith, nat_tests))

direct : (n : ℕ) (after pushed : List ℕ) → n ≤ 75 → Pushes n after pushed → bytes_of n after ≡ n ∷ pushed
direct n after pushed short p =
    let sizes = no_length n after short in
    let size : size_after n after ≡ pushed_size n after = omega (arith, sizes.0) in
    ap (λ k. n ∷ take k after) size ∙ ap (λ k. n ∷ take (pushed_size n after) (drop k after)) (sym sizes.0) ∙ ap (λ bytes. n ∷ bytes) (sym p.pushed_is)

one_length : (after pushed : List ℕ) → Pushes 0x4c after pushed → bytes_of 0x4c after ≡ 0x4c ∷ length pushed ∷ pushed
one_length [] pushed p = absurd (omega (arith, p.fits))
one_length (f ∷ bytes) pushed p =
    let count = pushed_length 0x4c (f ∷ bytes) pushed p in
    let size : size_after 0x4c (f ∷ bytes) ≡ suc (pushed_size 0x4c (f ∷ bytes)) = omega arith in
    let is : f ≡ length pushed = omega (arith, count) in
    ap (λ k. 0x4c ∷ take k (f ∷ bytes)) size ∙ ap (λ more. 0x4c ∷ f ∷ more) (sym p.pushed_is) ∙ ap (λ n. 0x4c ∷ n ∷ pushed) is

two_lengths : (after pushed : List ℕ) → IsBytes after → Pushes 0x4d after pushed → bytes_of 0x4d after ≡ 0x4d ∷ (length pushed % 256) ∷ (length pushed / 256) ∷ pushed
two_lengths [] pushed bytes p = absurd (omega (arith, p.fits))
two_lengths (f ∷ []) pushed bytes p = absurd (omega (arith, p.fits))
two_lengths (f ∷ g ∷ more) pushed bytes p =
    let count = pushed_length 0x4d (f ∷ g ∷ more) pushed p in
    let size : size_after 0x4d (f ∷ g ∷ more) ≡ suc (suc (pushed_size 0x4d (f ∷ g ∷ more))) = omega arith in
    let low : f ≡ length pushed % 256 = omega (arith, count, bytes.0) in
    let high : g ≡ length pushed / 256 = omega (arith, count, bytes.0) in
    ap (λ k. 0x4d ∷ take k (f ∷ g ∷ more)) size ∙ ap (λ rest. 0x4d ∷ f ∷ g ∷ rest) (sym p.pushed_is) ∙ ap (λ n. 0x4d ∷ n ∷ g ∷ pushed) low ∙ ap (λ n. 0x4d ∷ (length pushed % 256) ∷ n ∷ pushed) high

-- a push by the opcode of its element's minimal push is that push
push_again : (opcode : ℕ) (after pushed : List ℕ) → IsBytes after → opcode ≤ 0x4e → Pushes opcode after pushed → opcode ≡ first_byte (minimal_push pushed) → bytes_of opcode after ≡ minimal_push pushed
push_again opcode after pushed bytes low p is = by_own (own_opcode pushed) refl is
  where
    n : ℕ
    n = length pushed

    prefix : Bool → Bool → List ℕ
    prefix short middle = cond short (n ∷ []) (cond middle (0x4c ∷ n ∷ []) (0x4d ∷ (n % 256) ∷ (n / 256) ∷ []))

    by_tests : (short middle : Bool) → leb n 75 ≡ short → opcode ≡ first_byte (prefix short middle ++ pushed) → bytes_of opcode after ≡ prefix short middle ++ pushed
    by_tests true middle test o = subst (λ op. Pushes op after pushed → bytes_of op after ≡ n ∷ pushed) (sym o) (direct n after pushed (grind (arith, nat_tests, test))) p
    by_tests false true test o = subst (λ op. Pushes op after pushed → bytes_of op after ≡ 0x4c ∷ n ∷ pushed) (sym o) (one_length after pushed) p
    by_tests false false test o = subst (λ op. Pushes op after pushed → bytes_of op after ≡ 0x4d ∷ (n % 256) ∷ (n / 256) ∷ pushed) (sym o) (two_lengths after pushed bytes) p

    by_case : (o : ℕ) → opcode ≡ o → Owns pushed o → bytes_of opcode after ≡ o ∷ []
    by_case o same (inl empty) = direct opcode after pushed (omega (arith, same, empty.0)) p ∙ ap (λ (more : List ℕ). opcode ∷ more) empty.1 ∙ ap (λ (op : ℕ). op ∷ []) same
    by_case o same (inr (inl minus)) = absurd (omega (arith, low, same, minus.0))
    by_case o same (inr (inr small)) = absurd (omega (arith, low, same, small.0))

    by_own : (o : Option ℕ) → own_opcode pushed ≡ o → opcode ≡ first_byte (push_by o pushed) → bytes_of opcode after ≡ push_by o pushed
    by_own (Some o) own same = by_case o same (owned pushed o own)
    by_own None own same = by_tests (leb n 75) (leb n 255) refl same

-- ---- an opcode above 4e has no bytes of its own

no_bytes : (opcode : ℕ) (after : List ℕ) → 0x4e < opcode → bytes_of opcode after ≡ opcode ∷ []
no_bytes opcode after above =
    let none : length_size opcode ≡ 0 = grind (arith, nat_tests) in
    let empty : pushed_size opcode after ≡ 0 = grind (arith, nat_tests) in
    let size : size_after opcode after ≡ 0 = omega (arith, none, empty) in
    ap (λ k. opcode ∷ take k after) size

small_push : (byte : ℕ) → 1 ≤ byte → byte ≤ 16 → minimal_push (byte ∷ []) ≡ (0x50 + byte) ∷ []
small_push byte some few =
    let test : (leb 1 byte && leb byte 16) ≡ true = grind (arith, nat_tests) in
    ap (λ (t : Bool). push_by (cond t (Some (0x50 + byte)) (cond (eqb byte 0x81) (Some 0x4f) None)) (byte ∷ [])) test

-- ---- an instruction whose opcode is that of its minimal spelling is that spelling
instr_again : (opcode : ℕ) (after pushed : List ℕ) → IsBytes after → Pushes opcode after pushed → is_minimal (raw_of opcode pushed) ≡ true → bytes_of opcode after ≡ spelling (instruction (raw_of opcode pushed))
instr_again opcode after pushed bytes p minimal = by_low (cases_lt opcode 0x4f)
  where
    is : opcode ≡ first_byte (spelling (instruction (raw_of opcode pushed)))
    is = grind (arith, nat_tests, minimal)

    by_small : 0x50 < opcode → (opcode < 0x61) ⊎ (0x61 ≤ opcode) → bytes_of opcode after ≡ spelling (instruction (raw_of opcode pushed))
    by_small above (inl below) =
        let same : 0x50 + (opcode - 0x50) ≡ opcode = omega arith in
        no_bytes opcode after (omega arith) ∙ ap (λ n. n ∷ []) (sym same) ∙ sym (small_push (opcode - 0x50) (omega arith) (omega arith)) ∙ ap spelling (sym (small_meaning opcode pushed above (omega arith)))
    by_small above (inr high) = no_bytes opcode after (omega arith) ∙ ap spelling (sym (do_meaning opcode pushed (inl (omega arith))))

    by_reserved : 0x50 ≤ opcode → (opcode ≡ 0x50) ⊎ (opcode ≡ 0x50 → ⊥) → bytes_of opcode after ≡ spelling (instruction (raw_of opcode pushed))
    by_reserved from (inl reserved) = no_bytes opcode after (omega arith) ∙ ap spelling (sym (do_meaning opcode pushed (inr reserved)))
    by_reserved from (inr other) = by_small (omega arith) (cases_lt opcode 0x61)

    by_minus : 0x4f ≤ opcode → (opcode ≡ 0x4f) ⊎ (opcode ≡ 0x4f → ⊥) → bytes_of opcode after ≡ spelling (instruction (raw_of opcode pushed))
    by_minus from (inl minus) = no_bytes opcode after (omega arith) ∙ ap (λ n. n ∷ []) minus ∙ ap (λ op. spelling (instruction (raw_of op pushed))) (sym minus)
    by_minus from (inr other) = by_reserved (omega arith) (cases_eq opcode 0x50)

    by_low : (opcode < 0x4f) ⊎ (0x4f ≤ opcode) → bytes_of opcode after ≡ spelling (instruction (raw_of opcode pushed))
    by_low (inl low) =
        let means = low_meaning opcode pushed (omega arith) in
        push_again opcode after pushed bytes (omega arith) p (is ∙ ap (λ i. first_byte (spelling i)) means) ∙ ap spelling (sym means)
    by_low (inr high) = by_minus high (cases_eq opcode 0x4f)

piece_again : (opcode : ℕ) (after : List ℕ) (instr : Instr) → IsBytes after → is_minimal_piece (piece_of opcode after) ≡ true → meaning (piece_of opcode after) ≡ Some instr → bytes_of opcode after ≡ spelling instr
piece_again opcode after instr bytes = by_test (leb (size_after opcode after) (length after)) refl
  where
    pushed : List ℕ
    pushed = take (pushed_size opcode after) (drop (length_size opcode) after)

    piece : Bool → Piece
    piece t = cond t (Whole (raw_of opcode pushed)) CutOff

    by_test : (t : Bool) → leb (size_after opcode after) (length after) ≡ t → is_minimal_piece (piece t) ≡ true → meaning (piece t) ≡ Some instr → bytes_of opcode after ≡ spelling instr
    by_test true test minimal means =
        let is : instruction (raw_of opcode pushed) ≡ instr = cc in
        instr_again opcode after pushed bytes (record { pushed_is = refl; fits = leb-true _ _ test }) minimal ∙ ap spelling is
    by_test false test minimal means = absurd (cc)

all_dropped : (n : ℕ) (bytes : List ℕ) → IsBytes bytes → IsBytes (drop n bytes)
all_dropped zero bytes all = all
all_dropped (suc n) [] all = all
all_dropped (suc n) (b ∷ bytes) all = all_dropped n bytes all.1

-- no other bytes whose pushes are minimal are read as this code
pub only_spelling : (code : List Instr) (script : List ℕ) → IsBytes script → list_all is_minimal_piece (reading script) ≡ true → map meaning (reading script) ≡ map Some code → script ≡ spellings code
only_spelling [] [] bytes minimal means = refl
only_spelling [] (opcode ∷ after) bytes minimal means =
    let none : map meaning (piece_of opcode after ∷ reading (drop (size_after opcode after) after)) ≡ [] = ap (map meaning) (sym (reading_cons opcode after)) ∙ means in
    absurd (cc)
only_spelling (instr ∷ code) [] bytes minimal means =
    let none : [] ≡ map Some (instr ∷ code) = ap (map meaning) (sym reading_nil) ∙ means in
    absurd (cc)
only_spelling (instr ∷ code) (opcode ∷ after) bytes minimal means =
    let size = size_after opcode after in
    let rest = drop size after in
    let all = and_parts (is_minimal_piece (piece_of opcode after)) (list_all is_minimal_piece (reading rest)) (ap (list_all is_minimal_piece) (sym (reading_cons opcode after)) ∙ minimal) in
    let pieces : meaning (piece_of opcode after) ∷ map meaning (reading rest) ≡ Some instr ∷ map Some code = ap (map meaning) (sym (reading_cons opcode after)) ∙ means in
    let first : meaning (piece_of opcode after) ≡ Some instr = cc in
    let others : map meaning (reading rest) ≡ map Some code = cc in
    let again = piece_again opcode after instr bytes.1 all.0 first in
    let more = only_spelling code rest (all_dropped size after bytes.1) all.1 others in
    ap (λ bs. opcode ∷ bs) (sym (take-append-drop size after)) ∙ ap (λ bs. bs ++ rest) again ∙ ap (λ bs. spelling instr ++ bs) more
