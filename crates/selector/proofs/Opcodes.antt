-- What opcodes the code has.
use Rattle.std.proofs.Common.{◌≡◌, ℕ, ◌+◌, Bool, true, false, cond, not, ◌||◌, List, [], ◌∷◌, ◌++◌, refl, sym, ap, ◌∙◌, subst}
use Rattle.std.specs.List.{AllByRecursion, list_all, list_any}
use Rattle.std.specs.Prelude.{◌==◌}
use Rattle.std.proofs.lemmas.Bool.{and_parts, and_from, eqb-true, false≢true}
use Rattle.cash_base.specs.declared.place.Span.{Span}
use Rattle.script_codec.specs.declared.instr.Instr.{Instr}
use Rattle.script_codec.specs.declared.spans.Spanned.{Spanned}
use Rattle.script_codec.specs.declared.spans.Marked.{Marked}
use Rattle.script_codec.specs.Reading.{push}
use Rattle.script_codec.specs.Names.{named_opcodes, is_named}
use Rattle.script_codec.specs.Spelling.{is_instruction}
use Rattle.opcode_table.specs.Table.{rows}
use Rattle.bch_vm.specs.Law.{pushes_key_count, asks_for_keys, are_keys_known}
use Rattle.run_laws.specs.Branches.{opener, ELSE, ENDIF}
use Rattle.run_laws.specs.Underneath.{counts_elements}
use Rattle.selector.specs.Pieces.{instructions, Piece, Own, Function, code_of, functions_of, foreign_opcodes, is_opcode}
use Rattle.selector.specs.Place.{separates}
use Rattle.selector.specs.Choice.{DROP, DUP, ROLL, NUMEQUAL, NUMEQUALVERIFY, number, own, raising, opening, choice}

-- ---- what holds of each instruction

abbrev pub all_of : (Instr → Bool) → List Spanned → Bool
all_of P code = list_all P (instructions code)

abbrev pub AllOf : (Instr → Bool) → List Marked → Type 0
AllOf P functions = AllByRecursion (λ function. all_of P function.code.items ≡ true) functions

all_append : (P : Instr → Bool) (first second : List Spanned) → all_of P first ≡ true → all_of P second ≡ true
    → all_of P (first ++ second) ≡ true
all_append P [] second a b = b
all_append P (row ∷ first) second a b =
    let parts = and_parts (P row.instr) (all_of P first) a in
    and_from (P row.instr) (all_of P (first ++ second)) parts.0 (all_append P first second parts.1 b)

-- the selector's own instructions, piece by piece
abbrev pub OwnOf : (Instr → Bool) → List Piece → Type 0
OwnOf P [] = Unit {0}
OwnOf P (Own code ∷ pieces) = (all_of P code ≡ true) × OwnOf P pieces
OwnOf P (Function function ∷ pieces) = OwnOf P pieces

own_append : (P : Instr → Bool) (first second : List Piece) → OwnOf P first → OwnOf P second → OwnOf P (first ++ second)
own_append P [] second a b = b
own_append P (Own code ∷ first) second a b = (a.0, own_append P first second a.1 b)
own_append P (Function function ∷ first) second a b = own_append P first second a b

-- it holds of all code where it holds of the selector's own instructions and of the functions
all_pieces : (P : Instr → Bool) (pieces : List Piece) → OwnOf P pieces → AllOf P (functions_of pieces) → all_of P (code_of pieces) ≡ true
all_pieces P [] o f = refl
all_pieces P (Own code ∷ pieces) o f = all_append P code (code_of pieces) o.0 (all_pieces P pieces o.1 f)
all_pieces P (Function function ∷ pieces) o f =
    all_append P function.code.items (code_of pieces) f.0 (all_pieces P pieces o f.1)

-- it holds of the instructions that choose
pub record Suits (P : Instr → Bool) : Type 0 where
  pub pushes : (e : List ℕ) → P (push e) ≡ true
  pub raises : P ROLL ≡ true
  pub copies : P DUP ≡ true
  pub compares : P NUMEQUAL ≡ true
  pub verifies : P NUMEQUALVERIFY ≡ true
  pub opens : P (opener true) ≡ true
  pub drops : P DROP ≡ true
  pub flips : P ELSE ≡ true
  pub closes : P ENDIF ≡ true

one : (P : Instr → Bool) (contract : Span) (instr : Instr) (code : List Spanned) → P instr ≡ true → all_of P code ≡ true
    → all_of P (own contract instr ∷ code) ≡ true
one P contract instr code a b = and_from (P instr) (all_of P code) a b

raising_suits : (P : Instr → Bool) → Suits P → (contract : Span) (n : ℕ) → all_of P (raising contract n) ≡ true
raising_suits P h contract n = by_test (n == 0)
  where
    by_test : (t : Bool) → all_of P (cond t [] (own contract (number n) ∷ own contract ROLL ∷ [])) ≡ true
    by_test true = refl
    by_test false = one P contract (number n) (own contract ROLL ∷ []) (h.pushes _) (one P contract ROLL [] h.raises refl)

opening_suits : (P : Instr → Bool) → Suits P → (contract : Span) (n : ℕ) → all_of P (opening contract n) ≡ true
opening_suits P h contract n =
    let last : List Spanned = own contract DROP ∷ [] in
    let branch : List Spanned = own contract (opener true) ∷ last in
    let test : List Spanned = own contract NUMEQUAL ∷ branch in
    one P contract DUP (own contract (number n) ∷ test) h.copies
    (one P contract (number n) test (h.pushes _)
    (one P contract NUMEQUAL branch h.compares (one P contract (opener true) last h.opens (one P contract DROP [] h.drops refl))))

choice_suits : (P : Instr → Bool) → Suits P → (contract : Span) (n : ℕ) (functions : List Marked) → OwnOf P (choice contract n functions)
choice_suits P h contract n [] = tt
choice_suits P h contract n (function ∷ []) =
    (one P contract (number n) (own contract NUMEQUALVERIFY ∷ []) (h.pushes _) (one P contract NUMEQUALVERIFY [] h.verifies refl), tt)
choice_suits P h contract n (function ∷ next ∷ functions) = (
  opening_suits P h contract n,
  (
    one P contract ELSE [] h.flips refl,
    own_append P (choice contract (n + 1) (next ∷ functions)) (Own (own contract ENDIF ∷ []) ∷ [])
        (choice_suits P h contract (n + 1) (next ∷ functions)) (one P contract ENDIF [] h.closes refl, tt),
  ),
)

-- so it holds of all instructions of the code where it holds of those of the functions
pub all_chosen : (P : Instr → Bool) → Suits P → (contract : Span) (ctors : ℕ) (functions : List Marked) (pieces : List Piece)
    → pieces ≡ Own (raising contract ctors) ∷ choice contract 0 functions → functions_of pieces ≡ functions → AllOf P functions
    → all_of P (code_of pieces) ≡ true
all_chosen P h contract ctors functions pieces are in_order all =
    all_pieces P pieces
    (subst (OwnOf P) (sym are) (raising_suits P h contract ctors, choice_suits P h contract 0 functions))
    (subst (AllOf P) (sym in_order) all)

-- ---- the tests

pub instructions_suit : Suits is_instruction
instructions_suit = record {
  pushes = λ e. refl;
  raises = refl;
  copies = refl;
  compares = refl;
  verifies = refl;
  opens = refl;
  drops = refl;
  flips = refl;
  closes = refl;
}

pub names_suit : Suits is_named
unfolding named_opcodes
names_suit = record {
  pushes = λ e. refl;
  raises = refl;
  copies = refl;
  compares = refl;
  verifies = refl;
  opens = refl;
  drops = refl;
  flips = refl;
  closes = refl;
}

pub separators_suit : Suits (λ instr. not (separates instr))
unfolding rows
separators_suit = record {
  pushes = λ e. refl;
  raises = refl;
  copies = refl;
  compares = refl;
  verifies = refl;
  opens = refl;
  drops = refl;
  flips = refl;
  closes = refl;
}

pub depth_suits : Suits (λ instr. not (counts_elements instr))
unfolding rows
depth_suits = record {
  pushes = λ e. refl;
  raises = refl;
  copies = refl;
  compares = refl;
  verifies = refl;
  opens = refl;
  drops = refl;
  flips = refl;
  closes = refl;
}

keys_suit : Suits (λ instr. not (asks_for_keys instr))
keys_suit = record {
  pushes = λ e. refl;
  raises = refl;
  copies = refl;
  compares = refl;
  verifies = refl;
  opens = refl;
  drops = refl;
  flips = refl;
  closes = refl;
}

-- an opcode that is none of these isn't one of them
none_of : (opcode byte : ℕ) (others : List ℕ) → list_any (λ other. opcode == other) others ≡ false
    → list_any (λ other. byte == other) others ≡ true → not (opcode == byte) ≡ true
none_of opcode byte [] a b = absurd (false≢true b)
none_of opcode byte (other ∷ others) a b = by_tests (none_of opcode byte others) (opcode == other) (byte == other) refl refl a b
  where
    by_tests : (list_any (λ o. opcode == o) others ≡ false → list_any (λ o. byte == o) others ≡ true → not (opcode == byte) ≡ true)
        → (t u : Bool) → (opcode == other) ≡ t → (byte == other) ≡ u → (t || list_any (λ o. opcode == o) others) ≡ false
        → (u || list_any (λ o. byte == o) others) ≡ true → not (opcode == byte) ≡ true
    by_tests more true u t-is u-is a b = absurd (false≢true (sym a))
    by_tests more false true t-is u-is a b =
        ap not (ap (λ n. opcode == n) (eqb-true byte other u-is) ∙ t-is)
    by_tests more false false t-is u-is a b = more a b

pub lacking_suits : (byte : ℕ) → list_any (λ other. byte == other) foreign_opcodes ≡ true → Suits (λ instr. not (is_opcode byte instr))
lacking_suits byte foreign = record {
  pushes = λ e. refl;
  raises = none_of 0x7a byte foreign_opcodes refl foreign;
  copies = none_of 0x76 byte foreign_opcodes refl foreign;
  compares = none_of 0x9c byte foreign_opcodes refl foreign;
  verifies = none_of 0x9d byte foreign_opcodes refl foreign;
  opens = none_of 0x63 byte foreign_opcodes refl foreign;
  drops = none_of 0x75 byte foreign_opcodes refl foreign;
  flips = none_of 0x67 byte foreign_opcodes refl foreign;
  closes = none_of 0x68 byte foreign_opcodes refl foreign;
}

-- ---- known keys

abbrev are_known : Bool → List Spanned → Bool
are_known before code = are_keys_known before (instructions code)

known_anyway : (before : Bool) (code : List Spanned) → are_known false code ≡ true → are_known before code ≡ true
known_anyway false code known = known
known_anyway true [] known = refl
known_anyway true (row ∷ code) known = (and_parts (not (asks_for_keys row.instr)) (are_known (pushes_key_count row.instr) code) known).1

known_append : (before : Bool) (first second : List Spanned) → are_known before first ≡ true → are_known false second ≡ true
    → are_known before (first ++ second) ≡ true
known_append before [] second a b = known_anyway before second b
known_append before (row ∷ first) second a b =
    let asked = before || not (asks_for_keys row.instr) in
    let parts = and_parts asked (are_known (pushes_key_count row.instr) first) a in
    and_from asked (are_known (pushes_key_count row.instr) (first ++ second)) parts.0
    (known_append (pushes_key_count row.instr) first second parts.1 b)

known_keyless : (before : Bool) (code : List Spanned) → all_of (λ instr. not (asks_for_keys instr)) code ≡ true → are_known before code ≡ true
known_keyless before [] all = refl
known_keyless before (row ∷ code) all =
    let parts = and_parts (not (asks_for_keys row.instr)) (all_of (λ instr. not (asks_for_keys instr)) code) all in
    and_from (before || not (asks_for_keys row.instr)) (are_known (pushes_key_count row.instr) code) (anyway before parts.0)
    (known_keyless (pushes_key_count row.instr) code parts.1)
  where
    anyway : (before : Bool) {t : Bool} → t ≡ true → (before || t) ≡ true
    anyway true is = refl
    anyway false is = is

abbrev pub AllKnown : List Marked → Type 0
AllKnown functions = AllByRecursion (λ function. are_keys_known false (instructions function.code.items) ≡ true) functions

pub known_pieces : (pieces : List Piece) → OwnOf (λ instr. not (asks_for_keys instr)) pieces → AllKnown (functions_of pieces)
    → are_known false (code_of pieces) ≡ true
known_pieces [] o f = refl
known_pieces (Own code ∷ pieces) o f = known_append false code (code_of pieces) (known_keyless false code o.0) (known_pieces pieces o.1 f)
known_pieces (Function function ∷ pieces) o f = known_append false function.code.items (code_of pieces) f.0 (known_pieces pieces o f.1)

pub known_chosen : (contract : Span) (ctors : ℕ) (functions : List Marked) (pieces : List Piece)
    → pieces ≡ Own (raising contract ctors) ∷ choice contract 0 functions → functions_of pieces ≡ functions → AllKnown functions
    → are_keys_known false (instructions (code_of pieces)) ≡ true
known_chosen contract ctors functions pieces are in_order all =
    known_pieces pieces
    (subst (OwnOf (λ instr. not (asks_for_keys instr))) (sym are)
    (raising_suits _ keys_suit contract ctors, choice_suits _ keys_suit contract 0 functions))
    (subst AllKnown (sym in_order) all)
