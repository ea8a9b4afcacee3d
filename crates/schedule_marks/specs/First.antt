-- The first instruction of each statement that a run executes.
use Rattle.std.specs.Prelude.{◌≡◌, ℕ, Bool, true, ◌&&◌, IsTrue, if◌then◌else◌, List, [], ◌∷◌, ◌++◌, length, map, Option, Some, None}
use Rattle.std.specs.List.{AllByRecursion}
use Rattle.cash_base.specs.declared.place.Slot.{Slot}
use Rattle.cash_base.specs.declared.place.Span.{Span}
use Rattle.tx_context.specs.World.{World}
use Rattle.script_codec.specs.declared.spans.Mark.{Mark}
use Rattle.script_codec.specs.declared.spans.Spanned.{Spanned}
use Rattle.source_meaning.specs.Meaning.{Env}
use Rattle.slot_code.specs.declared.slots.SlotFunction.{SlotFunction}
use Rattle.slot_code.specs.declared.slots.SlotInstr.{SlotInstr}
use Rattle.slot_code.specs.declared.slots.SlotKind.{SlotKind}
use Rattle.slot_code.specs.declared.slots.SlotKind.TheOpen.{SlotKind-F, SlotInstr-F}
use Rattle.slot_code.specs.declared.slots.SlotKind.TheFolds.{fold-SlotKind, fold-SlotInstr}
use Rattle.slot_code.specs.Shape.{has_span}
use Rattle.row_runs.specs.Rows.{Executed, executed}
use Rattle.stack_emitter.specs.Codes.{is_span}
use Rattle.schedule_marks.specs.Marks.{start_at}

-- ---- functions whose statements stand in order

-- a place in the text of slot code
pub record Text : Type 0 where
  -- the statements so far
  pub seen : List Span
  -- those of them that have begun on each path to here
  pub known : List Span
  -- whether each instruction so far stands where its statement has begun, or begins it
  pub ordered : Bool

abbrev pub text : List Span → List Span → Bool → Text
text seen known ordered = record { seen = seen; known = known; ordered = ordered }

abbrev pub Says : Type 0
Says = Text → Text

-- an instruction of a statement that has begun
abbrev pub goes_on : Span → Says
goes_on c t = text t.seen t.known (t.ordered && has_span c t.known)

abbrev pub says : Span → Says
says c t = if has_span c t.seen then goes_on c t else text (t.seen ++ c ∷ []) (c ∷ t.known) t.ordered

abbrev pub all_say : List Says → Says
all_say [] t = t
all_say (says ∷ more) t = all_say more (says t)

-- where the second block of an `if` begins, and behind both
abbrev pub beside : Text → Text → Text
beside t u = text u.seen t.known u.ordered

abbrev pub choice_says : Span → Says → Says → Says
choice_says c a b t = beside t (b (beside t (a (goes_on c t))))

-- only ends of names begin no statement
abbrev pub kind_says : SlotKind-F (Span → Says) Says → Span → Says
kind_says (SlotKind-F.If a b) c = choice_says c (all_say a) (all_say b)
kind_says (SlotKind-F.End slot) c = goes_on c
kind_says _ c = says c

abbrev pub instr_says : SlotInstr-F (Span → Says) Says → Says
instr_says instr = instr.kind instr.checking

unfoldable pub says_of : SlotInstr → Says
says_of = fold-SlotInstr (Span → Says) Says kind_says instr_says

unfoldable pub says_at : SlotKind → Span → Says
says_at = fold-SlotKind (Span → Says) Says kind_says instr_says

abbrev pub first_text : Text
first_text = text [] [] true

-- Each instruction stands where its statement has begun on each path to it, or is the first of its statement in the text. So it is
-- where the instructions of one statement stand side by side, those of an `if` with its If last, but for ends of names.
abbrev pub IsOrdered : SlotFunction → Type 0
IsOrdered f = IsTrue (all_say (map says_of f.body) first_text).ordered

-- ---- what a run executes

-- the first of them with this checking span
abbrev pub first_with : Span → List Executed → Option Executed
first_with c [] = None
first_with c (e ∷ more) = if is_span c e.row.checking then Some e else first_with c more

-- it is the one at the mark, and finds a stack of the mark's height
pub record IsFirst (m : Mark) (e : Executed) : Type 0 where
  pub at : e.at ≡ m.at
  pub height : length e.stack ≡ m.height

-- in every world, from any values, the first executed instruction of each statement, where there is one, is the one at its mark
abbrev pub AreFirst : List Slot → List Spanned → List Mark → Type 0
AreFirst start code marks = (world : World) (env : Env)
    → AllByRecursion (λ (m : Mark). (e : Executed) → first_with m.statement (executed world 0 code (start_at start env)) ≡ Some e → IsFirst m e) marks
