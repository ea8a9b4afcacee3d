-- What tidied code is.
use Rattle.std.specs.Prelude.{◌≡◌, ◌==◌, ℕ, ◌+◌, ◌<◌, ◌≤◌, Bool, true, false, not, ◌&&◌, ◌||◌, IsTrue, List, [], ◌∷◌, ◌++◌, length, map, drop, is_ok}
use Rattle.std.specs.List.{list_all, list_any}
use Rattle.cash_base.specs.declared.place.Span.{Span}
use Rattle.tx_context.specs.World.{World}
use Rattle.script_codec.specs.declared.instr.Instr.{Instr}
use Rattle.script_codec.specs.declared.instr.Instr.TheVariants.{Push, Do}
use Rattle.script_codec.specs.declared.spans.Spanned.{Spanned}
use Rattle.script_codec.specs.Spelling.{are_instructions, spellings}
use Rattle.script_codec.specs.Names.{are_named}
use Rattle.script_codec.specs.Reading.{reading}
use Rattle.script_codec.specs.Counting.{counted_in}
use Rattle.bch_vm.specs.Board.{Board, is_condition}
use Rattle.bch_vm.specs.Law.{are_keys_known}
use Rattle.selector.specs.Place.{is_unseparated}
use Rattle.selector.specs.Selection.{lacks}
use Rattle.row_runs.specs.Rows.{instructions}
use Rattle.rewrite_rules.specs.Rows.{run_rows, underflows}
use Rattle.rewrite_rules.specs.Rules.{Rule, Matches, all_rules}
use Rattle.rewrite_rules.specs.Law.{may_be_added, outer_opcodes}
use Rattle.peephole.specs.Sublists.{Sublist}
use Rattle.peephole.specs.Counts.{KeepsKeys}
use Rattle.peephole.specs.Trace.{trace, KeepsStatements}
use Rattle.peephole.specs.Scripts.{RunsAlike}

-- the places of a row, that of its operation first
abbrev pub spans_of : Spanned → Span × Span
spans_of r = (r.doing, r.checking)

-- ---- code that stands for other code

-- In every world, from every state from which the run of the first code meets no Underflow, the second ends alike, or fails with
-- the same cause at the same place, and keeps the statements. It has no more bytes, its pairs of spans are those of the first
-- with some left out, checks of several signatures stand behind their numbers as before, and a test that each opcode passes that
-- a rule may add is passed by the second where the first passes it.
pub record StandsFor (before after : List Spanned) : Type 0 where
  pub runs : (world : World) (b : Board) → underflows (run_rows world before b) ≡ false
      → run_rows world after b ≡ run_rows world before b
  pub statements : (world : World) (b : Board) → underflows (run_rows world before b) ≡ false
      → KeepsStatements (is_ok (run_rows world before b)) (trace world before b) (trace world after b)
  pub bytes : length (spellings (instructions after)) ≤ length (spellings (instructions before))
  pub spans : Sublist (map spans_of after) (map spans_of before)
  pub keys : (known : Bool) (keys : ℕ) → are_keys_known known (instructions before) ≡ true
      → KeepsKeys known keys (instructions before) (instructions after)
  pub added : (test : Instr → Bool) → ((instr : Instr) → may_be_added instr ≡ true → test instr ≡ true)
      → list_all test (instructions before) ≡ true → list_all test (instructions after) ≡ true

-- ---- windows

-- IF, NOTIF, ELSE and ENDIF
abbrev pub is_branch : Instr → Bool
is_branch (Push e) = false
is_branch (Do opcode) = is_condition opcode.0 && not ((opcode.0 == 0x65) || (opcode.0 == 0x66))

-- IF, NOTIF, ELSE, ENDIF or the end is next
abbrev pub ends : List Spanned → Bool
ends [] = true
ends (r ∷ rows) = is_branch r.instr

-- A window whose rule would leave nothing may stay before IF, NOTIF, ELSE, ENDIF and the end.
abbrev pub MayStay : Rule → List Spanned → Type 0
MayStay r rest = (r.after ≡ []) × IsTrue (ends rest)

abbrev pub EachRule : (Rule → Type 0) → List Rule → Type 0
EachRule P [] = Unit {0}
EachRule P (r ∷ rules) = P r × EachRule P rules

-- no window of the rule stands in the first part of the code, but one that may stay
pub record IsFreeOf (code rest : List Spanned) (r : Rule) : Type 0 where
  pub free : (front window back : List Spanned) → code ≡ front ++ (window ++ back) → Matches r window → MayStay r (back ++ rest)

-- the same at the end of the first part
pub record EndsFreeOf (code : List Spanned) (last : Bool) (r : Rule) : Type 0 where
  pub free : (front window : List Spanned) → code ≡ front ++ window → Matches r window → (r.after ≡ []) × IsTrue last

-- ---- tidied code

-- It stands for the code, and no rule matches a window of one statement in it, but one that may stay.
pub record IsTidy (before after : List Spanned) : Type 0 where
  pub stands : StandsFor before after
  pub free : EachRule (IsFreeOf after []) all_rules

-- Spelled code in which each check of several signatures stands directly behind the push of the number of its keys: so it is
-- still, and no more opcodes count.
abbrev pub KeepsCount : List Instr → List Instr → Type 0
KeepsCount before after = IsTrue (are_instructions before) → IsTrue (are_keys_known false before)
    → IsTrue (are_instructions after) × IsTrue (are_keys_known false after)
    × (counted_in (reading (spellings after)) ≤ counted_in (reading (spellings before)))

-- none of DEPTH, TOALTSTACK, FROMALTSTACK and CODESEPARATOR stands in it that doesn't in the code
abbrev pub AddsNone : List Instr → List Instr → Type 0
AddsNone before after = (byte : ℕ) → IsTrue (list_any (λ other. byte == other) outer_opcodes) → IsTrue (lacks byte before) → IsTrue (lacks byte after)

-- tidied code without CODESEPARATOR
pub record Tidied (before after : List Spanned) : Type 0 where
  pub tidy : IsTidy before after
  pub unseparated : IsTrue (is_unseparated (instructions after))
  pub runs : RunsAlike before after
  pub counted : KeepsCount (instructions before) (instructions after)
  pub named : IsTrue (are_named (instructions before)) → IsTrue (are_named (instructions after))
  pub added : AddsNone (instructions before) (instructions after)

-- the end of the code, from a place on, may be replaced
pub record Replaces (code : List Spanned) (last : Bool) (start : ℕ) (by : List Spanned) : Type 0 where
  pub within : start + length by < length code
  pub at_most : length by ≤ 1
  pub plain : IsTrue (not (ends (drop start code)))
  pub stands : (rest : List Spanned) → ends rest ≡ last → StandsFor (drop start code ++ rest) (by ++ rest)

-- the loop: the code so far, and the code that is left
pub record Tidying (code done left : List Spanned) : Type 0 where
  pub stands : StandsFor code (done ++ left)
  pub free : EachRule (IsFreeOf done left) all_rules
