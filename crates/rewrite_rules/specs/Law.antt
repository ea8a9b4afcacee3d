-- The law of a rule.
use Rattle.std.specs.Prelude.{◌≡◌, ◌==◌, ℕ, ◌+◌, ◌<◌, ◌≤◌, nat_lt, nat_le, Bool, true, false, not, ◌&&◌, ◌||◌, IsTrue, List, [], ◌∷◌, length}
use Rattle.std.specs.List.{list_all, list_any}
use Rattle.cash_base.specs.declared.place.Span.{Span}
use Rattle.tx_context.specs.World.{World}
use Rattle.script_codec.specs.declared.instr.Instr.{Instr}
use Rattle.script_codec.specs.declared.instr.Instr.TheVariants.{Push, Do}
use Rattle.script_codec.specs.declared.spans.Spanned.{Spanned}
use Rattle.script_codec.specs.Spelling.{spellings}
use Rattle.script_codec.specs.Counting.{weight}
use Rattle.bch_vm.specs.Board.{Board, is_live}
use Rattle.bch_vm.specs.Law.{asks_for_keys}
use Rattle.run_laws.specs.Underneath.{counts_elements}
use Rattle.rewrite_rules.specs.Rows.{is_plain, run_rows, underflows}
use Rattle.rewrite_rules.specs.Rules.{Rule, window_of, replacement_of}

-- ---- the shape

-- DEPTH, TOALTSTACK, FROMALTSTACK and CODESEPARATOR
abbrev pub outer_opcodes : List ℕ
outer_opcodes = 0x74 ∷ 0x6b ∷ 0x6c ∷ 0xab ∷ []

-- a plain opcode that is no push, from 61 to bc (hexadecimal), of which each has a name, and none of these
abbrev pub may_be_added : Instr → Bool
may_be_added (Push e) = false
may_be_added (Do opcode) =
    nat_lt 0x60 opcode.0 && not (list_any (λ other. opcode.0 == other) outer_opcodes) && is_plain (Do opcode)
    && not (counts_elements (Do opcode)) && nat_lt opcode.0 0xbd

-- A check of several signatures is in the place of one that stood first in the window.
abbrev pub keeps_checks : List Instr → List Instr → Bool
keeps_checks (instr ∷ before) [] = true
keeps_checks (instr ∷ before) (by ∷ []) = not (asks_for_keys by) || asks_for_keys instr
keeps_checks _ _ = false

-- the opcodes above 60, which count against the limit of a script
abbrev pub opcodes_in : List Instr → ℕ
opcodes_in [] = 0
opcodes_in (Push e ∷ code) = opcodes_in code
opcodes_in (Do opcode ∷ code) = weight opcode.0 + opcodes_in code

-- the last is no push
abbrev pub ends_in_opcode : List Instr → Bool
ends_in_opcode [] = false
ends_in_opcode (Push e ∷ []) = false
ends_in_opcode (Do opcode ∷ []) = true
ends_in_opcode (instr ∷ more) = ends_in_opcode more

-- A window of this width of plain instructions, of which the last is no push, and in its place fewer: nothing, or an opcode. It
-- has no more bytes and no more counted opcodes.
abbrev pub has_shape : ℕ → Rule → Bool
has_shape width r =
    length r.before == width && nat_lt (length r.after) width && nat_le (length r.after) 1 && nat_lt r.place width
    && list_all is_plain r.before && list_all is_plain r.after && list_all may_be_added r.after
    && nat_le (length (spellings r.after)) (length (spellings r.before)) && nat_le (opcodes_in r.after) (opcodes_in r.before)
    && keeps_checks r.before r.after && ends_in_opcode r.before

-- ---- the law

-- In every world, on every stack of at least so many elements, under all open conditions that are true: both end alike, or fail
-- with the same cause at the same place.
abbrev pub RunsAlike : ℕ → List Spanned → List Spanned → Type 0
RunsAlike least window by = (world : World) (b : Board) → IsTrue (is_live b.conditions) → least ≤ length b.stack
    → run_rows world by b ≡ run_rows world window b

-- on a lower stack the window fails for want of elements
abbrev pub FallsShort : ℕ → List Spanned → Type 0
FallsShort least window = (world : World) (b : Board) → IsTrue (is_live b.conditions) → length b.stack < least
    → IsTrue (underflows (run_rows world window b))

-- Window and replacement do the same on every stack of at least so many elements, and so many the window needs.
pub record Holds (width least : ℕ) (r : Rule) : Type 0 where
  pub alike : (places : ℕ → Span) (checking : Span) → RunsAlike least (window_of r places checking) (replacement_of r places checking)
  pub short : (places : ℕ → Span) (checking : Span) → FallsShort least (window_of r places checking)
  pub shape : IsTrue (has_shape width r)
