-- What the code that selects a function counts.
use Rattle.std.proofs.Common.{◌≡◌, ℕ, ◌+◌, ◌*◌, ◌≤◌, Bool, true, false, not, ◌||◌, eqb, cond, List, [], ◌∷◌, ◌++◌, length, refl, sym, ap, ◌∙◌, subst, arith}
use Rattle.std.proofs.lemmas.Bool.{and_from, eqb-true, false≢true}
use Rattle.std.proofs.lemmas.List.{map-append}
use Rattle.cash_base.specs.declared.place.Span.{Span}
use Rattle.script_codec.specs.declared.instr.Instr.{Instr}
use Rattle.script_codec.specs.declared.instr.Instr.TheVariants.{Push, Do}
use Rattle.script_codec.specs.declared.spans.Spanned.{Spanned}
use Rattle.script_codec.specs.declared.spans.Marked.{Marked}
use Rattle.script_codec.specs.Counting.{takes_keys}
use Rattle.bch_vm.specs.Law.{asks_for_keys}
use Rattle.selector.specs.Pieces.{instructions, Piece, Own, Function, code_of, functions_of, own_of, is_choosing, AreOwn, opcodes_of}
use Rattle.selector.specs.Selection.{Selects}
use Rattle.selector.proofs.Opcodes.{OwnOf, all_of, known_pieces}
use Rattle.counting_laws.specs.Counts.{keys_pushed, opcodes_in, counted_of, counted_of_all, AreSpelled, HaveKnownKeys}
use Rattle.counting_laws.proofs.Counting.{Counts, opcodes_append}

-- ---- the selector's own instructions

-- none of them takes keys
chooses_keyless : (instr : Instr) → is_choosing instr ≡ true → asks_for_keys instr ≡ false
chooses_keyless (Push e) is = refl
chooses_keyless (Do opcode) is = by_tests (eqb opcode.0 0xae) (eqb opcode.0 0xaf) refl refl
  where
    no : (n : ℕ) → is_choosing (Do (record { 0 = n })) ≡ false → eqb opcode.0 n ≡ true → takes_keys opcode.0 ≡ false
    no n never same = absurd (false≢true (sym never ∙ ap (λ m. is_choosing (Do (record { 0 = m }))) (sym (eqb-true opcode.0 n same)) ∙ is))

    by_tests : (one other : Bool) → eqb opcode.0 0xae ≡ one → eqb opcode.0 0xaf ≡ other → takes_keys opcode.0 ≡ false
    by_tests true other a b = no 0xae refl a
    by_tests false true a b = no 0xaf refl b
    by_tests false false a b = ap (λ t. t || eqb opcode.0 0xaf) a ∙ b

own_opcodes : (contract : Span) (rows : List Spanned) → AreOwn contract rows → opcodes_in (instructions rows) ≡ opcodes_of rows
own_opcodes contract [] own = refl
own_opcodes contract (row ∷ []) own = omega arith
own_opcodes contract (row ∷ next ∷ rows) own =
    let none = ap (λ t. cond t (keys_pushed row.instr) 0) (chooses_keyless next.instr own.1.0.plain) in
    let more = own_opcodes contract (next ∷ rows) own.1 in
    omega (arith, none, more)

own_keyless : (contract : Span) (rows : List Spanned) → AreOwn contract rows → all_of (λ instr. not (asks_for_keys instr)) rows ≡ true
own_keyless contract [] own = refl
own_keyless contract (row ∷ rows) own =
    and_from (not (asks_for_keys row.instr)) (all_of (λ instr. not (asks_for_keys instr)) rows)
    (ap not (chooses_keyless row.instr own.0.plain)) (own_keyless contract rows own.1)

first_own : (contract : Span) (first second : List Spanned) → AreOwn contract (first ++ second) → AreOwn contract first
first_own contract [] second own = tt
first_own contract (row ∷ first) second own = (own.0, first_own contract first second own.1)

other_own : (contract : Span) (first second : List Spanned) → AreOwn contract (first ++ second) → AreOwn contract second
other_own contract [] second own = own
other_own contract (row ∷ first) second own = other_own contract first second own.1

keyless_pieces : (contract : Span) (pieces : List Piece) → AreOwn contract (own_of pieces) → OwnOf (λ instr. not (asks_for_keys instr)) pieces
keyless_pieces contract [] own = tt
keyless_pieces contract (Own rows ∷ pieces) own = (
  own_keyless contract rows (first_own contract rows (own_of pieces) own),
  keyless_pieces contract pieces (other_own contract rows (own_of pieces) own),
)
keyless_pieces contract (Function function ∷ pieces) own = keyless_pieces contract pieces own

opcodes_joined : (first second : List Spanned) → opcodes_of (first ++ second) ≡ opcodes_of first + opcodes_of second
opcodes_joined [] second = omega arith
opcodes_joined (row ∷ first) second = let more = opcodes_joined first second in omega (arith, more)

-- ---- pieces

-- what the functions count by their instructions
abbrev opcodes_in_all : List Marked → ℕ
opcodes_in_all [] = 0
opcodes_in_all (function ∷ functions) = opcodes_in (instructions function.code.items) + opcodes_in_all functions

pieces_opcodes : (contract : Span) (pieces : List Piece) → AreOwn contract (own_of pieces) → HaveKnownKeys (functions_of pieces)
    → opcodes_in (instructions (code_of pieces)) ≡ opcodes_of (own_of pieces) + opcodes_in_all (functions_of pieces)
pieces_opcodes contract [] own known = refl
pieces_opcodes contract (Own rows ∷ pieces) own known =
    let others = other_own contract rows (own_of pieces) own in
    let apart = ap opcodes_in (map-append (λ row. row.instr) rows (code_of pieces)) in
    let sum = opcodes_append (instructions rows) (instructions (code_of pieces))
    (known_pieces pieces (keyless_pieces contract pieces others) known) in
    let here = own_opcodes contract rows (first_own contract rows (own_of pieces) own) in
    let more = pieces_opcodes contract pieces others known in
    let joined = opcodes_joined rows (own_of pieces) in
    omega (arith, apart, sum, here, more, joined)
pieces_opcodes contract (Function function ∷ pieces) own known =
    let apart = ap opcodes_in (map-append (λ row. row.instr) function.code.items (code_of pieces)) in
    let sum = opcodes_append (instructions function.code.items) (instructions (code_of pieces))
    (known_pieces pieces (keyless_pieces contract pieces own) known.1) in
    let more = pieces_opcodes contract pieces own known.1 in
    omega (arith, apart, sum, more)

all_counted : Counts → (functions : List Marked) → AreSpelled functions → counted_of_all functions ≡ opcodes_in_all functions
all_counted counted [] spelled = refl
all_counted counted (function ∷ functions) spelled =
    let one = counted (instructions function.code.items) spelled.0 in
    let more = all_counted counted functions spelled.1 in
    omega (arith, one, more)

pub choices_few : Counts → (functions : List Marked) (ctors : ℕ) (contract : Span) (code : Marked) → Selects functions ctors contract code
    → AreSpelled functions → HaveKnownKeys functions
    → counted_of (instructions code.code.items) ≤ counted_of_all functions + 7 * length functions
choices_few counted functions ctors contract code h spelled known =
    let whole = counted (instructions code.code.items) (h.spelled spelled) in
    let rows = ap (λ rows. opcodes_in (instructions rows)) h.rows in
    let apart = pieces_opcodes contract h.pieces h.own (subst HaveKnownKeys (sym h.in_order) known) in
    let own = h.opcodes in
    let same = ap opcodes_in_all h.in_order in
    let all = all_counted counted functions spelled in
    omega (arith, whole, rows, apart, own, same, all)
