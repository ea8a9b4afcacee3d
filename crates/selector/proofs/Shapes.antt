-- The code that chooses, as instructions, and that it is nested.
use Rattle.std.proofs.Common.{◌≡◌, ℕ, ◌+◌, Bool, true, List, [], ◌∷◌, ◌++◌, refl, sym, ap, ◌∙◌, subst, append-nil}
use Rattle.std.proofs.lemmas.Grind.{flat_map-append}
use Rattle.std.proofs.lemmas.List.{map-append}
use Rattle.cash_base.specs.declared.place.Span.{Span}
use Rattle.script_codec.specs.declared.instr.Instr.{Instr}
use Rattle.script_codec.specs.declared.spans.Marked.{Marked}
use Rattle.opcode_table.specs.Table.{rows}
use Rattle.bch_vm.specs.Setting.{Setting}
use Rattle.bch_vm.specs.Script.{State, run, ExecutesInTurn}
use Rattle.run_laws.specs.Nested.{is_nested}
use Rattle.run_laws.specs.Branches.{HasConditionsOf, ChangesNothing, ExecutesNothing, opener, ELSE, ENDIF, two_arms, RunsTheFirst, RunsTheSecond}
use Rattle.selector.specs.Pieces.{instructions, Piece, Own, Function, rows_of, code_of}
use Rattle.selector.specs.Choice.{DROP, DUP, NUMEQUAL, NUMEQUALVERIFY, number, own, choice}
use Rattle.selector.specs.Selection.{AreNested}

-- what the crates below say of runs and of nested code
pub record Laws : Type 0 where
  pub first : (setting : Setting) (sense : Bool) (first second : List Instr) → is_nested first ≡ true → is_nested second ≡ true
      → RunsTheFirst setting sense first second
  pub second : (setting : Setting) (sense : Bool) (first second : List Instr) → is_nested first ≡ true → is_nested second ≡ true
      → RunsTheSecond setting sense first second
  pub in_turn : (first second : List Instr) → is_nested first ≡ true → is_nested second ≡ true
      → is_nested (first ++ second) ≡ true
  pub two : (sense : Bool) (first second : List Instr) → is_nested first ≡ true → is_nested second ≡ true
      → is_nested (two_arms sense first second) ≡ true
  pub same : (setting : Setting) (code : List Instr) (s : State) → is_nested code ≡ true → HasConditionsOf s (run setting code s)
  pub turn : (setting : Setting) (first second : List Instr) → ExecutesInTurn setting first second
  pub changes : (setting : Setting) (code : List Instr) → is_nested code ≡ true → ChangesNothing setting code
  pub nothing : (setting : Setting) (code : List Instr) → is_nested code ≡ true → ExecutesNothing setting code

-- ---- instructions of pieces

abbrev pub instrs_of : List Piece → List Instr
instrs_of pieces = instructions (code_of pieces)

pub instrs_append : (first second : List Piece) → instrs_of (first ++ second) ≡ instrs_of first ++ instrs_of second
instrs_append first second =
    ap instructions (flat_map-append rows_of first second)
    ∙ map-append (λ row. row.instr) (code_of first) (code_of second)

pub instrs_function : (function : Marked) (pieces : List Piece)
    → instrs_of (Function function ∷ pieces) ≡ instructions function.code.items ++ instrs_of pieces
instrs_function function pieces = map-append (λ row. row.instr) function.code.items (code_of pieces)

-- the last function
pub last_shape : (contract : Span) (n : ℕ) (function : Marked)
    → instrs_of (choice contract n (function ∷ [])) ≡ number n ∷ NUMEQUALVERIFY ∷ instructions function.code.items
last_shape contract n function =
    ap (λ code. number n ∷ NUMEQUALVERIFY ∷ instructions code) (append-nil function.code.items)

-- another, in front of others
pub more_shape : (contract : Span) (n : ℕ) (function next : Marked) (functions : List Marked)
    → instrs_of (choice contract n (function ∷ next ∷ functions))
    ≡ DUP ∷ number n ∷ NUMEQUAL
    ∷ two_arms true (DROP ∷ instructions function.code.items) (instrs_of (choice contract (n + 1) (next ∷ functions)))
more_shape contract n function next functions =
    let inner = choice contract (n + 1) (next ∷ functions) in
    let tail = inner ++ Own (own contract ENDIF ∷ []) ∷ [] in
    ap (λ code. DUP ∷ number n ∷ NUMEQUAL ∷ opener true ∷ DROP ∷ code)
    (instrs_function function (Own (own contract ELSE ∷ []) ∷ tail)
    ∙ ap (λ code. instructions function.code.items ++ (ELSE ∷ code)) (instrs_append inner (Own (own contract ENDIF ∷ []) ∷ [])))

-- ---- nested code

closing_nested : (n : ℕ) → is_nested (number n ∷ NUMEQUALVERIFY ∷ []) ≡ true
unfolding rows
closing_nested n = refl

opening_nested : (n : ℕ) → is_nested (DUP ∷ number n ∷ NUMEQUAL ∷ []) ≡ true
unfolding rows
opening_nested n = refl

drop_nested : is_nested (DROP ∷ []) ≡ true
unfolding rows
drop_nested = refl

pub dropping_nested : Laws → (code : List Instr) → is_nested code ≡ true → is_nested (DROP ∷ code) ≡ true
dropping_nested laws code nested = laws.in_turn (DROP ∷ []) code drop_nested nested

pub choice_nested : Laws → (contract : Span) (n : ℕ) (functions : List Marked) → AreNested functions
    → is_nested (instrs_of (choice contract n functions)) ≡ true
choice_nested laws contract n [] nested = refl
choice_nested laws contract n (function ∷ []) nested =
    subst (λ code. is_nested code ≡ true) (sym (last_shape contract n function))
    (laws.in_turn (number n ∷ NUMEQUALVERIFY ∷ []) (instructions function.code.items) (closing_nested n) nested.0)
choice_nested laws contract n (function ∷ next ∷ functions) nested =
    let arm = DROP ∷ instructions function.code.items in
    let inner = instrs_of (choice contract (n + 1) (next ∷ functions)) in
    subst (λ code. is_nested code ≡ true) (sym (more_shape contract n function next functions))
    (laws.in_turn (DUP ∷ number n ∷ NUMEQUAL ∷ []) (two_arms true arm inner) (opening_nested n)
    (laws.two true arm inner (dropping_nested laws (instructions function.code.items) nested.0)
    (choice_nested laws contract (n + 1) (next ∷ functions) nested.1)))
