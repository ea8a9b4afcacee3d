-- How much the instructions that choose weigh.
use Rattle.std.proofs.Common.{◌≡◌, ℕ, zero, suc, ◌+◌, ◌*◌, ◌/◌, ◌%◌, ◌≤◌, Bool, true, false, cond, List, [], ◌∷◌, ◌++◌, length, pos, refl, sym, ap, ◌∙◌, subst, arith, length-append}
use Rattle.std.specs.Prelude.{◌==◌}
use Rattle.std.specs.Int.{is_negative}
use Rattle.std.proofs.lemmas.List.{append_assoc, map-append}
use Rattle.cash_base.specs.declared.place.Span.{Span}
use Rattle.cash_base.specs.Number.{digits, with_sign, minimal_bytes}
use Rattle.cash_base.proofs.Laws.{with_sign_short, digits_short}
use Rattle.cash_base.proofs.Writing.{digits_step, digits_zero}
use Rattle.script_codec.proofs.Sizes.{push_size}
use Rattle.script_codec.specs.declared.instr.Instr.{Instr}
use Rattle.script_codec.specs.declared.spans.Spanned.{Spanned}
use Rattle.script_codec.specs.declared.spans.Marked.{Marked}
use Rattle.script_codec.specs.Spelling.{spelling, spellings}
use Rattle.run_laws.specs.Branches.{opener, ELSE, ENDIF}
use Rattle.selector.specs.Pieces.{instructions, Piece, Own, Function, own_of, is_choosing, IsOwn, AreOwn, size_of, opcodes_of}
use Rattle.selector.specs.Choice.{DROP, DUP, ROLL, NUMEQUAL, NUMEQUALVERIFY, number, own, raising, opening, closing, choice}
use Rattle.selector.proofs.Runs.{spellings_append}

-- ---- the push of a number

number_length : (n : ℕ) → n ≤ 160 → length (minimal_bytes (pos n)) ≤ 2
number_length zero low = subst (λ ds. length (with_sign (is_negative (pos 0)) ds) ≤ 2) (sym (digits_zero 8 0 refl)) (omega arith)
number_length (suc n) low =
    let none : suc n / 256 ≡ 0 = omega arith in
    let e : digits 8 (suc n) ≡ (suc n % 256) ∷ [] =
    digits_step 7 (suc n) (λ is. absurd (omega (arith, is))) ∙ ap (λ l. (suc n % 256) ∷ l) (digits_zero 7 (suc n / 256) none) in
    let s = with_sign_short (is_negative (pos (suc n))) (suc n % 256) [] in
    subst (λ l. length (with_sign (is_negative (pos (suc n))) l) ≤ 2) (sym e) (omega (arith, s))

number_size : (n : ℕ) → n ≤ 160 → length (spelling (number n)) ≤ 5
number_size n low =
    let short = number_length n low in
    let size = push_size (minimal_bytes (pos n)) in
    omega (arith, short, size)

depth_size : (n : ℕ) → n ≤ 65535 → length (spelling (number n)) ≤ 11
depth_size n low =
    let short : length (minimal_bytes (pos n)) ≤ 8 = digits_short (is_negative (pos n)) 7 n (omega (arith, low)) in
    let size = push_size (minimal_bytes (pos n)) in
    omega (arith, short, size)

-- ---- rows of both

pub size_append : (first second : List Spanned) → size_of (first ++ second) ≡ size_of first + size_of second
size_append first second =
    ap (λ code. length (spellings code)) (map-append (λ row. row.instr) first second)
    ∙ spellings_append (instructions first) (instructions second)

pub opcodes_append : (first second : List Spanned) → opcodes_of (first ++ second) ≡ opcodes_of first + opcodes_of second
opcodes_append [] second = omega arith
opcodes_append (row ∷ first) second = let more = opcodes_append first second in omega (arith, more)

pub own_append : (contract : Span) (first second : List Spanned) → AreOwn contract first → AreOwn contract second
    → AreOwn contract (first ++ second)
own_append contract [] second a b = b
own_append contract (row ∷ first) second a b = (a.0, own_append contract first second a.1 b)

pub own_of_append : (first second : List Piece) → own_of (first ++ second) ≡ own_of first ++ own_of second
own_of_append [] second = refl
own_of_append (Own rows ∷ first) second =
    ap (λ more. rows ++ more) (own_of_append first second) ∙ sym (append_assoc rows (own_of first) (own_of second))
own_of_append (Function function ∷ first) second = own_of_append first second

-- ---- the rows of a choice

is_own : (contract : Span) (instr : Instr) → is_choosing instr ≡ true → IsOwn contract (own contract instr)
is_own contract instr plain = record { doing = refl; checking = refl; plain = plain }

pub raising_own : (contract : Span) (n : ℕ) → AreOwn contract (raising contract n)
raising_own contract n = by_test (n == 0)
  where
    by_test : (t : Bool) → AreOwn contract (cond t [] (own contract (number n) ∷ own contract ROLL ∷ []))
    by_test true = tt
    by_test false = (is_own contract (number n) refl, (is_own contract ROLL refl, tt))

pub raising_size : (contract : Span) (n : ℕ) → n ≤ 65535 → size_of (raising contract n) ≤ 12
raising_size contract n low = by_test (n == 0)
  where
    by_test : (t : Bool) → size_of (cond t [] (own contract (number n) ∷ own contract ROLL ∷ [])) ≤ 12
    by_test true = omega arith
    by_test false =
        let bytes = length-append (spelling (number n)) (spellings (ROLL ∷ [])) in
        let size = depth_size n low in
        omega (arith, bytes, size)

pub raising_opcodes : (contract : Span) (n : ℕ) → opcodes_of (raising contract n) ≤ 1
raising_opcodes contract n = by_test (n == 0)
  where
    by_test : (t : Bool) → opcodes_of (cond t [] (own contract (number n) ∷ own contract ROLL ∷ [])) ≤ 1
    by_test true = omega arith
    by_test false = omega arith

closing_size : (contract : Span) (n : ℕ) → n ≤ 160 → size_of (closing contract n) ≤ 6
closing_size contract n low =
    let bytes = length-append (spelling (number n)) (spellings (NUMEQUALVERIFY ∷ [])) in
    let size = number_size n low in
    omega (arith, bytes, size)

opening_size : (contract : Span) (n : ℕ) → n ≤ 160 → size_of (opening contract n) ≤ 9
opening_size contract n low =
    let bytes = length-append (spelling (number n)) (spellings (NUMEQUAL ∷ opener true ∷ DROP ∷ [])) in
    let size = number_size n low in
    omega (arith, bytes, size)

-- what is the selector's own of a function and of others after it
pub more_own : (contract : Span) (n : ℕ) (function next : Marked) (functions : List Marked)
    → own_of (choice contract n (function ∷ next ∷ functions))
    ≡ opening contract n ++ (own contract ELSE ∷ (own_of (choice contract (n + 1) (next ∷ functions)) ++ own contract ENDIF ∷ []))
more_own contract n function next functions =
    ap (λ rows. opening contract n ++ (own contract ELSE ∷ rows))
    (own_of_append (choice contract (n + 1) (next ∷ functions)) (Own (own contract ENDIF ∷ []) ∷ []))

opening_own : (contract : Span) (n : ℕ) → AreOwn contract (opening contract n)
opening_own contract n = (
  is_own contract DUP refl,
  (
    is_own contract (number n) refl,
    (is_own contract NUMEQUAL refl, (is_own contract (opener true) refl, (is_own contract DROP refl, tt))),
  ),
)

pub choice_own : (contract : Span) (n : ℕ) (functions : List Marked) → AreOwn contract (own_of (choice contract n functions))
choice_own contract n [] = tt
choice_own contract n (function ∷ []) =
    (is_own contract (number n) refl, (is_own contract NUMEQUALVERIFY refl, tt))
choice_own contract n (function ∷ next ∷ functions) =
    let inner = own_of (choice contract (n + 1) (next ∷ functions)) in
    let ends = own_append contract inner (own contract ENDIF ∷ []) (choice_own contract (n + 1) (next ∷ functions))
    (is_own contract ENDIF refl, tt) in
    subst (AreOwn contract) (sym (more_own contract n function next functions))
    (own_append contract (opening contract n) (own contract ELSE ∷ (inner ++ own contract ENDIF ∷ [])) (opening_own contract n)
    (is_own contract ELSE refl, ends))

pub choice_size : (contract : Span) (n : ℕ) (functions : List Marked) → 1 ≤ length functions → n + length functions ≤ 160
    → size_of (own_of (choice contract n functions)) + 5 ≤ 11 * length functions
choice_size contract n [] some low = absurd (omega (arith, some))
choice_size contract n (function ∷ []) some low = let size = closing_size contract n (omega (arith, low)) in omega (arith, size)
choice_size contract n (function ∷ next ∷ functions) some low =
    let inner = own_of (choice contract (n + 1) (next ∷ functions)) in
    let whole = ap size_of (more_own contract n function next functions) in
    let parts = size_append (opening contract n) (own contract ELSE ∷ (inner ++ own contract ENDIF ∷ [])) in
    let ends = size_append inner (own contract ENDIF ∷ []) in
    let first = opening_size contract n (omega (arith, low)) in
    let more = choice_size contract (n + 1) (next ∷ functions) (omega arith) (omega (arith, low)) in
    omega (arith, whole, parts, ends, first, more)

pub choice_opcodes : (contract : Span) (n : ℕ) (functions : List Marked) → 1 ≤ length functions
    → opcodes_of (own_of (choice contract n functions)) + 5 ≤ 6 * length functions
choice_opcodes contract n [] some = absurd (omega (arith, some))
choice_opcodes contract n (function ∷ []) some = omega arith
choice_opcodes contract n (function ∷ next ∷ functions) some =
    let inner = own_of (choice contract (n + 1) (next ∷ functions)) in
    let whole = ap opcodes_of (more_own contract n function next functions) in
    let parts = opcodes_append inner (own contract ENDIF ∷ []) in
    let more = choice_opcodes contract (n + 1) (next ∷ functions) (omega arith) in
    omega (arith, whole, parts, more)
