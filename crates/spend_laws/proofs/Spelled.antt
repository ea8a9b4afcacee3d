-- What is read of spelled code.
use Rattle.std.proofs.Common.{◌≡◌, ℕ, ◌+◌, ◌-◌, ◌≤◌, Bool, true, false, ◌&&◌, leb, ltb, eqb, cond, List, [], ◌∷◌, ◌++◌, length, map, Option, Some, None, refl, sym, ap, ◌∙◌, arith, length-append, append-nil}
use Rattle.std.specs.List.{AllByRecursion}
use Rattle.std.proofs.lemmas.Bool.{and_parts, false≢true}
use Rattle.std.proofs.lemmas.Bool.Decides.{nat_tests}
use Rattle.script_codec.specs.declared.instr.Instr.{Instr}
use Rattle.script_codec.specs.declared.instr.Instr.TheVariants.{Push, Do}
use Rattle.script_codec.specs.Spelling.{is_instruction, are_instructions, own_opcode, spelling, spellings}
use Rattle.script_codec.specs.Reading.{Raw, Piece, Whole, reading, instruction, is_minimal, size_of, bytes_after, bytes_in_script, spelled, push}

-- what reading and spelling are to one another, as their crate's laws say
pub record Laws : Type 0 where
  pub nothing : reading [] ≡ []
  pub code : (code : List Instr) (rest : List ℕ) → are_instructions code ≡ true
      → reading (spellings code ++ rest) ≡ map (λ instr. Whole (spelled instr)) code ++ reading rest
  pub meaning : (instr : Instr) → is_instruction instr ≡ true
      → (instruction (spelled instr) ≡ instr) × (is_minimal (spelled instr) ≡ true)
      × (size_of (spelled instr) ≡ length (spelling instr))

abbrev pub pieces_of : List Instr → List Piece
pieces_of code = map (λ instr. Whole (spelled instr)) code

pub code_read : Laws → (code : List Instr) → are_instructions code ≡ true → reading (spellings code) ≡ pieces_of code
code_read laws code are =
    ap reading (sym (append-nil (spellings code)))
    ∙ laws.code code [] are
    ∙ ap (λ more. pieces_of code ++ more) laws.nothing
    ∙ append-nil (pieces_of code)

-- an instruction whose spelling passes the checks of sizes and of minimal pushes
pub record IsFit (instr : Instr) : Type 0 where
  pub meant : instruction (spelled instr) ≡ instr
  pub minimal : is_minimal (spelled instr) ≡ true
  pub short : length (spelled instr).pushed ≤ 520
  pub sized : size_of (spelled instr) ≡ length (spelling instr)

-- code whose size is that of an element
pub code_fit : Laws → (code : List Instr) → are_instructions code ≡ true → length (spellings code) ≤ 520
    → AllByRecursion IsFit code
code_fit laws [] are size = tt
code_fit laws (instr ∷ code) are size =
    let parts = and_parts (is_instruction instr) (are_instructions code) are in
    let known = laws.meaning instr parts.0 in
    let sum : length (spellings (instr ∷ code))
    ≡ length (spelling instr) + length (spellings code) = length-append (spelling instr) (spellings code) in (
      record { meant = known.0; minimal = known.1; short = omega (arith, size, sum, known.2); sized = known.2 },
      code_fit laws code
          parts.1 (omega (arith, size, sum)),
    )

-- ---- pushes of elements

pushed-le : (e : List ℕ) → length (bytes_in_script e) ≤ length e
pushed-le e = by_own (own_opcode e)
  where
    by_own : (o : Option ℕ) → length (bytes_after o e) ≤ length e
    by_own (Some opcode) = omega arith
    by_own None = omega arith

abbrev pub IsShort : List ℕ → Type 0
IsShort e = length e ≤ 520

pub push_fit : Laws → (e : List ℕ) → length e ≤ 520 → IsFit (push e)
push_fit laws e size =
    let known = laws.meaning (push e) refl in
    record { meant = known.0; minimal = known.1; short = omega (arith, size, pushed-le e); sized = known.2 }

pub do_fit : Laws → (opcode : ℕ) → ltb 0x60 opcode ≡ true → IsFit (Do (record { 0 = opcode }))
do_fit laws opcode is =
    let known = laws.meaning (Do (record { 0 = opcode })) is in
    record { meant = known.0; minimal = known.1; short = omega arith; sized = known.2 }

pub pushes_fit : Laws → (es : List (List ℕ)) → AllByRecursion IsShort es → AllByRecursion IsFit (map push es)
pushes_fit laws [] are = tt
pushes_fit laws (e ∷ es) are = (push_fit laws e are.0, pushes_fit laws es are.1)

pub are_pushes : (es : List (List ℕ)) → are_instructions (map push es) ≡ true
are_pushes [] = refl
are_pushes (e ∷ es) = are_pushes es

-- a push has an opcode up to 60
pub push_opcode : (raw : Raw) (e : List ℕ) → instruction raw ≡ push e → ltb 0x60 raw.opcode ≡ false
push_opcode raw e is =
    by_tests (leb raw.opcode 0x4e) (eqb raw.opcode 0x4f)
    (ltb 0x50 raw.opcode && leb raw.opcode 0x60) refl refl refl is
  where
    pushes : Instr → Bool
    pushes (Push p) = true
    pushes (Do opcode) = false

    by_tests : (low minus small : Bool) → leb raw.opcode 0x4e ≡ low → eqb raw.opcode 0x4f ≡ minus
        → (ltb 0x50 raw.opcode && leb raw.opcode 0x60) ≡ small
        → cond low (push raw.pushed)
        (cond minus (push (0x81 ∷ []))
        (cond small (push ((raw.opcode - 0x50) ∷ [])) (Do (record { 0 = raw.opcode })))) ≡ push e
        → ltb 0x60 raw.opcode ≡ false
    by_tests true minus small l m s h = grind (arith, nat_tests, l)
    by_tests false true small l m s h = grind (arith, nat_tests, m)
    by_tests false false true l m s h = grind (arith, nat_tests, s)
    by_tests false false false l m s h = absurd (false≢true (ap pushes h))
