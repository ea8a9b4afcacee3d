-- The first bytes of a chunk's push, made of the chunk's length.
use Rattle.std.proofs.Common.{◌≡◌, ℕ, zero, suc, ◌+◌, ◌^◌, ◌<◌, ◌≤◌, ◌/◌, ◌%◌, Bool, true, false, cond, not, List, [], ◌∷◌, ◌++◌, length, Some, Result, Ok, Err, ℤ, pos, int_lt, refl, sym, ap, ◌∙◌, subst, arith}
use Rattle.std.specs.Prelude.{◌&&◌, ◌==◌, nat_le, nat_lt}
use Rattle.std.specs.Str.{bytes_eq}
use Rattle.std.specs.List.{list_all}
use Rattle.std.proofs.lemmas.Bool.{false≢true, and_parts, eqb-true, eqb-false, leb-true}
use Rattle.std.proofs.lemmas.Bool.Decides.{nat_tests}
use Rattle.std.proofs.lemmas.Slice.Eq.{bytes_eq-Decides}
use Rattle.cash_base.specs.declared.fault.Cause.{Cause}
use Rattle.cash_base.specs.declared.fault.MachineCause.{MachineCause}
use Rattle.cash_base.specs.Failing.{◌>>=◌}
use Rattle.cash_base.specs.Number.{number_of, minimal_bytes, digits}
use Rattle.cash_base.specs.Operand.{number_or_cause, operand_number, truth_bytes}
use Rattle.cash_base.specs.Push.{push_prefix}
use Rattle.cash_base.proofs.Laws.{number_of-minimal_bytes}
use Rattle.element_ops.specs.declared.op.Op2.TheVariants.{Greater, Pad}
use Rattle.element_ops.specs.Operand.{truth_element}
use Rattle.element_ops.specs.Width.{places}
use Rattle.element_ops.specs.Operation.{Outcome, result2}
use Rattle.opcode_table.specs.Asking.{Asked}
use Rattle.opcode_table.specs.Stack.{Stack}
use Rattle.opcode_table.specs.Deeds as deeds
use Rattle.opcode_table.specs.Table.{rows}
use Rattle.stack_pieces.specs.declared.pieces.Piece.{Piece}
use Rattle.stack_pieces.specs.declared.pieces.Piece.TheVariants.{Code, Number}
use Rattle.stack_pieces.proofs.Plans.{pieces_done}

abbrev pub number : ℕ → List ℕ
number n = minimal_bytes (pos n)

pub read : (n : ℕ) → n < 2 ^ 63 → operand_number (number n) ≡ Ok (pos n)
read n small = ap number_or_cause (number_of-minimal_bytes (pos n) small)

pub number_is : (n : ℕ) → n ≤ 20 → number_of (number n) ≡ Some (pos n)
number_is n few = number_of-minimal_bytes (pos n) (omega (arith, few))

-- which of two numbers is the greater
greater : (n k : ℕ) → n < 2 ^ 63 → k < 2 ^ 63 → result2 Greater (number n) (number k) ≡ Ok (truth_bytes (int_lt (pos k) (pos n)))
greater n k few least =
    ap (λ r. r >>= λ x. operand_number (number k) >>= λ y. truth_element (int_lt y x)) (read n few)
    ∙ ap (λ r. r >>= λ y. truth_element (int_lt y (pos n))) (read k least)

-- what an operation gives on this stack, and the pieces after it
abbrev then_pieces : Asked → List Piece → Stack → Outcome → Result Stack MachineCause
then_pieces asked more rest out = (deeds.gives [] out >>= λ es. Ok (es ++ rest)) >>= pieces_done asked more

-- DUP 75 GREATERTHAN
is_over_75 : (asked : Asked) (more : List Piece) (n : ℕ) (rest : Stack) → n < 2 ^ 63
    → pieces_done asked (Code 0x76 ∷ Number 75 ∷ Code 0xa0 ∷ more) (number n ∷ rest) ≡ pieces_done asked more (truth_bytes (int_lt (pos 75) (pos n)) ∷ number n ∷ rest)
unfolding rows
is_over_75 asked more n rest small = ap (then_pieces asked more (number n ∷ rest)) (greater n 75 small (omega arith))

-- OVER 255 GREATERTHAN
is_over_255 : (asked : Asked) (more : List Piece) (n : ℕ) (p : List ℕ) (rest : Stack) → n < 2 ^ 63
    → pieces_done asked (Code 0x78 ∷ Number 255 ∷ Code 0xa0 ∷ more) (p ∷ number n ∷ rest) ≡ pieces_done asked more (truth_bytes (int_lt (pos 255) (pos n)) ∷ p ∷ number n ∷ rest)
unfolding rows
is_over_255 asked more n p rest small = ap (then_pieces asked more (p ∷ number n ∷ rest)) (greater n 255 small (omega arith))

-- the first byte: none, 76 or 77
abbrev first_of : Bool → Bool → List ℕ
first_of false q = []
first_of true false = 76 ∷ []
first_of true true = 77 ∷ []

-- TUCK 76 ADD MUL ROT
first_made : (asked : Asked) (more : List Piece) (p q : Bool) (n : List ℕ) (rest : Stack)
    → pieces_done asked (Code 0x7d ∷ Number 76 ∷ Code 0x93 ∷ Code 0x95 ∷ Code 0x7b ∷ more) (truth_bytes q ∷ truth_bytes p ∷ n ∷ rest)
    ≡ pieces_done asked more (n ∷ first_of p q ∷ truth_bytes q ∷ rest)
unfolding rows digits
first_made asked more false false n rest = refl
first_made asked more false true n rest = refl
first_made asked more true false n rest = refl
first_made asked more true true n rest = refl

-- ---- the length in two bytes

abbrev two_bytes : ℕ → List ℕ
two_bytes n = (n % 256) ∷ (n / 256) ∷ []

abbrev is_ok_with : List ℕ → Outcome → Bool
is_ok_with e (Ok other) = bytes_eq e other
is_ok_with e (Err cause) = false

-- the lengths below a number
abbrev all_below : (ℕ → Bool) → ℕ → Bool
all_below f zero = true
all_below f (suc n) = f n && all_below f n

abbrev is_padded : ℕ → Bool
is_padded n = is_ok_with (two_bytes n) (result2 Pad (number n) (number 2))

all_padded : all_below is_padded 521 ≡ true
unfolding digits places
all_padded = refl

one_below : (f : ℕ → Bool) (m n : ℕ) → n < m → all_below f m ≡ true → f n ≡ true
one_below f zero n lt h = absurd (omega (arith, lt))
one_below f (suc m) n lt h =
    let parts = and_parts (f m) (all_below f m) h in by (m == n) refl parts.0 (one_below f m n) parts.1
  where
    by : (b : Bool) → (m == n) ≡ b → f m ≡ true → (n < m → all_below f m ≡ true → f n ≡ true) → all_below f m ≡ true → f n ≡ true
    by true e at more all = subst (λ k. f k ≡ true) (eqb-true m n e) at
    by false e at more all = more (let d = eqb-false m n e in omega (arith, lt, d)) all

ok_with : (e : List ℕ) (out : Outcome) → is_ok_with e out ≡ true → out ≡ Ok e
ok_with e (Ok other) h = ap Ok (sym ((bytes_eq-Decides e other).0 h))
ok_with e (Err cause) h = absurd (false≢true h)

padded_number : (n : ℕ) → n ≤ 520 → result2 Pad (number n) (number 2) ≡ Ok (two_bytes n)
padded_number n few = ok_with (two_bytes n) (result2 Pad (number n) (number 2)) (one_below is_padded 521 n (omega (arith, few)) all_padded)

-- 2 NUM2BIN
in_two_bytes : (asked : Asked) (more : List Piece) (n : ℕ) (rest : Stack) → n ≤ 520
    → pieces_done asked (Number 2 ∷ Code 0x80 ∷ more) (number n ∷ rest) ≡ pieces_done asked more (two_bytes n ∷ rest)
unfolding rows
in_two_bytes asked more n rest few = ap (then_pieces asked more rest) (padded_number n few)

-- so many of the two bytes
abbrev last_of : Bool → ℕ → List ℕ
last_of false n = (n % 256) ∷ []
last_of true n = two_bytes n

-- ROT 1ADD SPLIT DROP CAT
last_made : (asked : Asked) (more : List Piece) (p q : Bool) (n : ℕ) (rest : Stack)
    → pieces_done asked (Code 0x7b ∷ Code 0x8b ∷ Code 0x7f ∷ Code 0x75 ∷ Code 0x7e ∷ more) (two_bytes n ∷ first_of p q ∷ truth_bytes q ∷ rest)
    ≡ pieces_done asked more ((first_of p q ++ last_of q n) ∷ rest)
unfolding rows digits
last_made asked more false false n rest = refl
last_made asked more false true n rest = refl
last_made asked more true false n rest = refl
last_made asked more true true n rest = refl

-- what comes after each of these parts
abbrev last_pieces : List Piece → List Piece
last_pieces more = Code 0x7b ∷ Code 0x8b ∷ Code 0x7f ∷ Code 0x75 ∷ Code 0x7e ∷ more

abbrev two_pieces : List Piece → List Piece
two_pieces more = Number 2 ∷ Code 0x80 ∷ last_pieces more

abbrev first_pieces : List Piece → List Piece
first_pieces more = Code 0x7d ∷ Number 76 ∷ Code 0x93 ∷ Code 0x95 ∷ Code 0x7b ∷ two_pieces more

abbrev over_pieces : List Piece → List Piece
over_pieces more = Code 0x78 ∷ Number 255 ∷ Code 0xa0 ∷ first_pieces more

abbrev pub prefix_pieces : List Piece → List Piece
prefix_pieces more = Code 0x76 ∷ Number 75 ∷ Code 0xa0 ∷ over_pieces more

made : (n : ℕ) → n ≤ 520 → first_of (nat_lt 75 n) (nat_lt 255 n) ++ last_of (nat_lt 255 n) n ≡ push_prefix n
made n few = by (nat_lt 75 n) refl (nat_lt 255 n) refl
  where
    short : List ℕ
    short = 76 ∷ n ∷ []

    long : List ℕ
    long = 77 ∷ (n % 256) ∷ (n / 256) ∷ []

    by : (p : Bool) → nat_lt 75 n ≡ p → (q : Bool) → nat_lt 255 n ≡ q → first_of p q ++ last_of q n ≡ cond (nat_le n 75) (n ∷ []) (cond (nat_le n 255) short long)
    by false e false f =
        let le : nat_le n 75 ≡ true = grind (arith, nat_tests, e) in
        let k = leb-true n 75 le in
        ap (λ m. m ∷ []) (omega (arith, k)) ∙ sym (ap (λ b. cond b (n ∷ []) (cond (nat_le n 255) short long)) le)
    by false e true f = absurd (grind (arith, nat_tests, e, f))
    by true e false f =
        let gt : nat_le n 75 ≡ false = grind (arith, nat_tests, e) in
        let le : nat_le n 255 ≡ true = grind (arith, nat_tests, f) in
        let k = leb-true n 255 le in
        ap (λ m. 76 ∷ m ∷ []) (omega (arith, k))
        ∙ sym (ap (λ b. cond b (n ∷ []) (cond (nat_le n 255) short long)) gt ∙ ap (λ b. cond b short long) le)
    by true e true f =
        let gt : nat_le n 75 ≡ false = grind (arith, nat_tests, e) in
        let more : nat_le n 255 ≡ false = grind (arith, nat_tests, f) in
        sym (ap (λ b. cond b (n ∷ []) (cond (nat_le n 255) short long)) gt ∙ ap (λ b. cond b short long) more)

-- the length of a chunk becomes the first bytes of its push
pub prefix_made : (asked : Asked) (more : List Piece) (n : ℕ) (rest : Stack) → n ≤ 520
    → pieces_done asked (prefix_pieces more) (number n ∷ rest) ≡ pieces_done asked more (push_prefix n ∷ rest)
prefix_made asked more n rest few =
    let p = int_lt (pos 75) (pos n) in
    let q = int_lt (pos 255) (pos n) in
    is_over_75 asked (over_pieces more) n rest (omega (arith, few))
    ∙ is_over_255 asked (first_pieces more) n (truth_bytes p) rest (omega (arith, few))
    ∙ first_made asked (two_pieces more) p q (number n) rest
    ∙ in_two_bytes asked (last_pieces more) n (first_of p q ∷ truth_bytes q ∷ rest) few
    ∙ last_made asked more p q n rest
    ∙ ap (λ e. pieces_done asked more (e ∷ rest)) (made n few)
