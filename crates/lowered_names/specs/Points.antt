-- Where the statements of slot code begin, and which slots are live and kept there.
use Rattle.std.specs.Prelude.{◌≡◌, ◌⊎◌, false, ℕ, ◌+◌, List, [], ◌∷◌, ◌++◌, map, filter, Option, Some}
use Rattle.cash_base.specs.declared.place.Slot.{Slot}
use Rattle.cash_base.specs.declared.place.Span.{Span}
use Rattle.cash_tree.specs.declared.Ty.{Ty}
use Rattle.cash_tree.specs.declared.Contract.{Contract}
use Rattle.cash_tree.specs.declared.Function.{Function}
use Rattle.slot_code.specs.declared.slots.SlotInstr.{SlotInstr}
use Rattle.slot_code.specs.declared.slots.SlotFunction.{SlotFunction}
use Rattle.slot_code.specs.declared.slots.SlotKind.TheVariants.{If}
use Rattle.slot_code.specs.Shape.{Place, then_shape, shapes_of, all_shapes, path_shape, closed, has_span, inside, with_seen, start}
use Rattle.slot_liveness.specs.Live.{later, only_other, kept, hold}
use Rattle.lowered_names.specs.Names.{Point, points}
use Rattle.lowered_names.specs.Order.{Every}

-- In a function with this body: behind these instructions' place in its text, the statement with a span begins where these slots
-- are read later, and these are kept: the slots that are read later, those that the function never reads, and those that are held
-- for the other block of an `if` around. `after` are the slots that are read behind the block, and `held` those that are held in it.
pub data Begins (body : List SlotInstr) : List SlotInstr → List Slot → List Slot → Place → Span → List Slot → List Slot → Type 0 where
  here : (instr : SlotInstr) (rest : List SlotInstr) (after held : List Slot) (p : Place) → has_span instr.checking p.seen ≡ false
      → Begins body (instr ∷ rest) after held p instr.checking (filter (later (instr ∷ rest) after) p.slots) (filter (kept (later (instr ∷ rest) after) (hold body held)) p.slots)
  behind : (instr : SlotInstr) (rest : List SlotInstr) (after held : List Slot) (p q : Place) (span : Span) (reads keeps : List Slot)
      → (shapes_of instr).inner p ≡ Some q → Begins body rest after held q span reads keeps
      → Begins body (instr ∷ rest) after held p span reads keeps
  -- in a block of an `if`, whether it ends a path or not
  in_yes : (instr : SlotInstr) (rest ys ns : List SlotInstr) (after held outer : List Slot) (p : Place) (span : Span) (reads keeps : List Slot)
      → instr.kind ≡ If ys ns
      → Begins body ys (filter (later rest after) p.slots) (held ++ filter (only_other ys ns) p.slots) (inside outer p) span reads keeps
      → Begins body (instr ∷ rest) after held p span reads keeps
  in_no : (instr : SlotInstr) (rest ys ns : List SlotInstr) (after held outer first : List Slot) (p q : Place) (span : Span) (reads keeps : List Slot)
      → instr.kind ≡ If ys ns → all_shapes (map shapes_of ys) (inside first p) ≡ Some q
      → Begins body ns (filter (later rest after) p.slots) (held ++ filter (only_other ns ys) p.slots) (inside outer (with_seen q.seen p)) span reads keeps
      → Begins body (instr ∷ rest) after held p span reads keeps
  in_no_path : (instr : SlotInstr) (rest ys ns : List SlotInstr) (after held outer first : List Slot) (p q : Place) (span : Span) (reads keeps : List Slot)
      → instr.kind ≡ If ys ns → path_shape (map shapes_of ys) (inside first p) ≡ Some q
      → Begins body ns (filter (later rest after) p.slots) (held ++ filter (only_other ns ys) p.slots) (inside outer (with_seen q.seen p)) span reads keeps
      → Begins body (instr ∷ rest) after held p span reads keeps

-- one of them
abbrev pub Among : List Point → Point → Type 0
Among [] x = ⊥
Among (y ∷ ys) x = (y ≡ x) ⊎ Among ys x

-- a statement of the source with this span, before which these names are live and these are kept
pub record IsPointOf (points : List Point) (span : Span) (live keeps : List Slot) : Type 0 where
  pub point : Point
  pub among : Among points point
  pub statement : point.statement ≡ span
  pub live_is : point.live ≡ live
  pub kept_is : point.kept ≡ keeps

-- Where a statement of the slot code begins, one of the source's does, with the same live names and the same kept ones.
pub record HasPoints (contract : Contract Slot Ty) (f : Function Slot Ty) (g : SlotFunction) : Type 0 where
  pub by : (span : Span) (reads keeps : List Slot) → Begins g.body g.body [] [] (start (g.ctors + g.params)) span reads keeps
      → IsPointOf (points contract f) span reads keeps

-- points of statements with different spans
abbrev pub IsApart : Point → Point → Type 0
IsApart x y = x.statement ≡ y.statement → ⊥

abbrev pub AreApart : List Point → Type 0
AreApart [] = Unit {0}
AreApart (x ∷ xs) = Every (IsApart x) xs × AreApart xs

-- a function has one point for each span of its statements
pub record HasOnePoint (contract : Contract Slot Ty) (f : Function Slot Ty) : Type 0 where
  pub apart : AreApart (points contract f)
  pub one : (x y : Point) → Among (points contract f) x → Among (points contract f) y → x.statement ≡ y.statement → x ≡ y
