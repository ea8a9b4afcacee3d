-- Well-formed slot code: what stands on the operands and in the slots before and after each instruction.
use Rattle.std.specs.Prelude.{ℕ, zero, suc, ◌+◌, ◌==◌, nat_le, Bool, true, false, ◌&&◌, not, if◌then◌else◌, List, [], ◌∷◌, ◌++◌, length, map, filter, drop, pos, Option, Some, None, option_and_then, is_some, slice_get, IsTrue}
use Rattle.std.specs.List.{list_any, list_all}
use Rattle.std.specs.Str.{bytes_eq}
use Rattle.cash_base.specs.declared.place.Span.{Span}
use Rattle.cash_base.specs.declared.place.Slot.{Slot}
use Rattle.cash_base.specs.Number.{minimal_bytes}
use Rattle.slot_code.specs.declared.slots.SlotInstr.{SlotInstr}
use Rattle.slot_code.specs.declared.slots.SlotKind.{SlotKind}
use Rattle.slot_code.specs.declared.slots.SlotFunction.{SlotFunction}
use Rattle.slot_code.specs.declared.slots.SlotKind.TheOpen.{SlotKind-F, SlotInstr-F}
use Rattle.slot_code.specs.declared.slots.SlotKind.TheFolds.{fold-SlotKind, fold-SlotInstr}

-- an operand: the element, where it is a literal
abbrev pub Operand : Type 0
Operand = Option (List ℕ)

-- a place in slot code
pub record Place : Type 0 where
  -- the operands, the last one first
  pub operands : List Operand
  -- the slots that are defined, the newest last
  pub slots : List Slot
  -- those of them that may not be ended here
  pub outer : List Slot
  -- the checking spans so far, in the order of the text
  pub seen : List Span

-- the place after, where the code is well formed at the place before
abbrev pub Shape : Type 0
Shape = Place → Option Place

abbrev pub only_if : Bool → Place → Option Place
only_if b p = if b then Some p else None

abbrev pub with_operands : List Operand → Place → Place
with_operands operands p = record { operands = operands; slots = p.slots; outer = p.outer; seen = p.seen }

abbrev pub with_slots : List Slot → Place → Place
with_slots slots p = record { operands = p.operands; slots = slots; outer = p.outer; seen = p.seen }

abbrev pub with_seen : List Span → Place → Place
with_seen seen p = record { operands = p.operands; slots = p.slots; outer = p.outer; seen = seen }

-- one after the other
abbrev pub then_shape : Shape → Shape → Shape
then_shape a b p = option_and_then b (a p)

-- ---- operands

-- at most so many operands stand at once
abbrev pub most_operands : ℕ
most_operands = 4000

abbrev pub puts : Operand → Shape
puts a p = only_if (nat_le (length (a ∷ p.operands)) most_operands) (with_operands (a ∷ p.operands) p)

-- takes so many operands and puts the element of an operation in their place
abbrev pub works_on : ℕ → Shape
works_on n p = only_if (nat_le n (length p.operands)) (with_operands (None ∷ drop n p.operands) p)

-- takes two operands and puts the two parts in their place
abbrev pub splits : Shape
splits p = only_if (nat_le 2 (length p.operands)) (with_operands (None ∷ None ∷ drop 2 p.operands) p)

-- takes so many operands, and no others stand
abbrev pub takes_all : ℕ → Shape
takes_all n p = only_if (length p.operands == n) (with_operands [] p)

-- ---- the literals of a check of several signatures

abbrev pub is_element : List ℕ → Option Operand → Bool
is_element e (Some (Some other)) = bytes_eq e other
is_element e _ = false

-- Whether this literal stands below so many operands. Only a literal just before an instruction leaves one on top.
abbrev pub has_literal : ℕ → List ℕ → List Operand → Bool
has_literal n e operands = is_element e (slice_get operands n)

abbrev pub number : ℕ → List ℕ
number n = minimal_bytes (pos n)

-- the Bitcoin Cash specification lets a check have so many keys
abbrev pub most_keys : ℕ
most_keys = 20

abbrev pub counts_fit : ℕ → ℕ → List Operand → Bool
counts_fit sigs keys operands =
    (nat_le keys most_keys && nat_le sigs keys)
    && (has_literal 0 (number keys) operands
    && (has_literal (keys + 1) (number sigs) operands && has_literal (keys + sigs + 2) [] operands))

abbrev pub checks_many : ℕ → ℕ → Shape
checks_many sigs keys p = if counts_fit sigs keys p.operands then works_on (keys + sigs + 3) p else None

-- ---- slots

abbrev pub most_slots : ℕ
most_slots = 160

abbrev pub has : Slot → List Slot → Bool
has slot slots = list_any (λ other. other.0 == slot.0) slots

abbrev pub reads : Slot → Shape
reads slot p = if has slot p.slots then puts None p else None

abbrev pub defines : Slot → Shape
defines slot p =
    only_if (not (has slot p.slots) && nat_le (length (p.slots ++ slot ∷ [])) most_slots) (with_slots (p.slots ++ slot ∷ []) p)

abbrev pub assigns : Slot → Shape
assigns slot p = only_if (has slot p.slots) p

abbrev pub without : Slot → List Slot → List Slot
without slot slots = filter (λ other. not (other.0 == slot.0)) slots

-- a slot that is defined here, and not before an `if` around that ends no path
abbrev pub ends_slot : Slot → Shape
ends_slot slot p = only_if (has slot p.slots && not (has slot p.outer)) (with_slots (without slot p.slots) p)

-- ---- paths

-- an instruction: where more comes after it, where it ends a path, whether it ends a slot, and whether a path may end with it
pub record Shapes : Type 0 where
  pub inner : Shape
  pub last : Shape
  pub is_end : Bool
  pub may_end : Bool

abbrev pub all_shapes : List Shapes → Shape
all_shapes [] p = Some p
all_shapes (x ∷ xs) p = option_and_then (all_shapes xs) (x.inner p)

-- whether only ends of slots are left
abbrev pub is_over : List Shapes → Bool
is_over xs = list_all (λ (x : Shapes). x.is_end) xs

-- the last instruction that ends no slot ends the path
abbrev pub path_shape : List Shapes → Shape
path_shape [] p = Some p
path_shape (x ∷ xs) p =
    if is_over xs then option_and_then (all_shapes xs) (x.last p) else option_and_then (path_shape xs) (x.inner p)

-- a path ends rightly where its last instruction that ends no slot may end one
abbrev pub ends_rightly : List Shapes → Bool
ends_rightly [] = false
ends_rightly (x ∷ xs) = if is_over xs then x.may_end else ends_rightly xs

-- ---- blocks

-- no operands stand where a block begins, and in a block whose `if` ends no path the slots before it stay
abbrev pub inside : List Slot → Place → Place
inside outer p = record { operands = []; slots = p.slots; outer = outer; seen = p.seen }

abbrev pub same_slots : List Slot → List Slot → Bool
same_slots [] [] = true
same_slots (s ∷ ss) (t ∷ ts) = s.0 == t.0 && same_slots ss ts
same_slots _ _ = false

-- no operands stand at the end of a block
abbrev pub closed : Shape
closed p = only_if (length p.operands == 0) p

-- a block ends with the slots that were defined before it
abbrev pub returned : List Slot → Shape
returned slots p = only_if (same_slots p.slots slots) p

abbrev pub block_shape : List Shapes → List Slot → Shape
block_shape xs slots p = option_and_then (then_shape closed (returned slots)) (all_shapes xs (inside slots p))

-- an `if` that ends no path
abbrev pub choice_shape : List Shapes → List Shapes → Shape
choice_shape a b p =
    option_and_then (λ (q : Place). option_and_then (λ (r : Place). Some (with_seen r.seen p))
    (block_shape b p.slots (with_seen q.seen p))) (block_shape a p.slots p)

abbrev pub path_block : List Shapes → Shape
path_block xs p = option_and_then closed (path_shape xs (inside [] p))

-- what is defined behind both blocks
abbrev pub in_both : List Slot → List Slot → List Slot
in_both slots others = filter (λ slot. has slot others) slots

-- an `if` that ends a path; its blocks are paths of their own
abbrev pub fork_shape : List Shapes → List Shapes → Shape
fork_shape a b p =
    option_and_then (λ (q : Place). option_and_then (λ (r : Place). Some (with_seen r.seen (with_slots (in_both q.slots r.slots) p)))
    (path_block b (with_seen q.seen p))) (path_block a p)

-- a missing `else` is a path that is met
abbrev pub other_ends : List Shapes → Bool
other_ends [] = true
other_ends (x ∷ xs) = ends_rightly (x ∷ xs)

-- ---- the instructions

abbrev pub plain : Bool → Bool → Shape → Shapes
plain is_end may_end shape = record { inner = shape; last = shape; is_end = is_end; may_end = may_end }

abbrev pub value : Shape → Shapes
value = plain false false

abbrev pub check : Shapes
check = plain false true (takes_all 1)

abbrev pub kind_shapes : SlotKind-F Shapes Shapes → Shapes
kind_shapes (SlotKind-F.Lit e) = value (puts (Some e.items))
kind_shapes (SlotKind-F.Get slot) = value (reads slot)
kind_shapes (SlotKind-F.Do1 op) = value (works_on 1)
kind_shapes (SlotKind-F.Do2 op) = value (works_on 2)
kind_shapes (SlotKind-F.Do3 op) = value (works_on 3)
kind_shapes SlotKind-F.Split = value splits
kind_shapes (SlotKind-F.Keep right) = value (works_on 2)
kind_shapes (SlotKind-F.Look0 what) = value (puts None)
kind_shapes (SlotKind-F.LookAt what) = value (works_on 1)
kind_shapes SlotKind-F.CheckSig = value (works_on 2)
kind_shapes SlotKind-F.CheckData = value (works_on 3)
kind_shapes (SlotKind-F.CheckMulti sigs keys) = value (checks_many sigs keys)
kind_shapes SlotKind-F.Time = check
kind_shapes SlotKind-F.Age = check
kind_shapes SlotKind-F.Require = check
kind_shapes SlotKind-F.Chunk = value (works_on 2)
kind_shapes (SlotKind-F.Define slot) = value (then_shape (takes_all 1) (defines slot))
kind_shapes (SlotKind-F.DefinePair left right) = value (then_shape (takes_all 2) (then_shape (defines left) (defines right)))
kind_shapes (SlotKind-F.Assign slot) = value (then_shape (takes_all 1) (assigns slot))
kind_shapes (SlotKind-F.End slot) = plain true false (then_shape (takes_all 0) (ends_slot slot))
kind_shapes (SlotKind-F.If a b) = record {
  inner = then_shape (takes_all 1) (choice_shape a b);
  last = then_shape (takes_all 1) (fork_shape a b);
  is_end = false;
  may_end = ends_rightly a && other_ends b;
}

-- ---- checking spans

abbrev pub is_span : Span → Span → Bool
is_span a b = a.from == b.from && a.to == b.to

abbrev pub has_span : Span → List Span → Bool
has_span span spans = list_any (is_span span) spans

-- where a checking span stands for the first time, no operands stand, and it isn't the end of a slot
abbrev pub begins : Span → Bool → Shape
begins span is_end p =
    if has_span span p.seen then Some p
    else only_if (length p.operands == 0 && not is_end) (with_seen (p.seen ++ span ∷ []) p)

-- an instruction of the statement at this span
abbrev pub stands_in : Span → Shapes → Shapes
stands_in span x = record {
  inner = then_shape (begins span x.is_end) x.inner;
  last = then_shape (begins span x.is_end) x.last;
  is_end = x.is_end;
  may_end = x.may_end;
}

abbrev pub instr_shapes : SlotInstr-F Shapes Shapes → Shapes
instr_shapes instr = stands_in instr.checking instr.kind

unfoldable pub shapes_of : SlotInstr → Shapes
shapes_of = fold-SlotInstr Shapes Shapes kind_shapes instr_shapes

unfoldable pub shapes_at : SlotKind → Shapes
shapes_at = fold-SlotKind Shapes Shapes kind_shapes instr_shapes

-- ---- a function

abbrev pub first_slots : ℕ → List Slot
first_slots zero = []
first_slots (suc n) = first_slots n ++ record { 0 = n } ∷ []

-- before the first instruction the slots of all parameters are defined
abbrev pub start : ℕ → Place
start params = record { operands = []; slots = first_slots params; outer = []; seen = [] }

-- a body behind so many parameters
abbrev pub is_body : ℕ → List Shapes → Bool
is_body params body =
    nat_le params most_slots && (is_some (option_and_then closed (path_shape body (start params))) && ends_rightly body)

abbrev pub is_well_formed : SlotFunction → Bool
is_well_formed f = is_body (f.ctors + f.params) (map shapes_of f.body)

abbrev pub IsWellFormed : SlotFunction → Type 0
IsWellFormed f = IsTrue (is_well_formed f)
