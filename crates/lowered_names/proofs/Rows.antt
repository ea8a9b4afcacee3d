-- What a row of a value reads, and that it leaves the slots and the checking spans as they are.
use Rattle.std.proofs.Common.{◌≡◌, ℕ, ◌+◌, ◌==◌, Bool, true, false, List, [], ◌∷◌, ◌++◌, length, map, refl, sym, ap, ◌∙◌, subst}
use Rattle.std.specs.Prelude.{◌||◌, ◌&&◌, nat_le, Option, Some, None, option_and_then, if◌then◌else◌}
use Rattle.cash_base.specs.declared.place.Slot.{Slot}
use Rattle.cash_base.specs.declared.place.Span.{Span}
use Rattle.slot_code.specs.declared.slots.SlotInstr.{SlotInstr}
use Rattle.slot_code.specs.declared.slots.SlotKind.{SlotKind}
use Rattle.slot_code.specs.declared.slots.SlotKind.TheVariants as kinds
use Rattle.slot_code.specs.declared.slots.SlotKind.TheOpen.{SlotKind-F, SlotInstr-F}
use Rattle.slot_code.specs.declared.slots.SlotKind.TheViews.{out-SlotKind, roll-SlotKind, roll-out-SlotKind, out-roll-SlotKind}
use Rattle.slot_code.specs.declared.slots.SlotKind.TheFolds.{fold-SlotKind, fold-roll-SlotInstr, fold-roll-SlotKind}
use Rattle.slot_code.specs.Shape.{Operand, Place, Shape, Shapes, shapes_at, kind_shapes, instr_shapes, only_if, puts, works_on, splits, reads, checks_many, counts_fit, has}
use Rattle.slot_liveness.specs.Live.{Slots, reads_of, kind_reads, instr_reads, all_later}
use Rattle.slot_expressions.specs.Reads.{gets_at, kind_gets, instr_gets}

abbrev Layer : Type 0
Layer = SlotKind-F SlotKind SlotInstr

abbrev Whole : Type 0
Whole = SlotInstr-F SlotKind SlotInstr

abbrev Got : Type 0
Got = Option (List Slot)

-- ---- cases

pub same_some : {A : Type 0} (a b : A) → Some a ≡ Some b → a ≡ b
same_some a b is = cc

pub one_if : (b : Bool) (p q : Place) → only_if b p ≡ Some q → p ≡ q
one_if true p q is = same_some p q is
one_if false p q is = absurd cc

-- ---- places

-- the slots and the checking spans are the same
pub record Still (p q : Place) : Type 0 where
  pub slots : q.slots ≡ p.slots
  pub seen : q.seen ≡ p.seen

still_at : (p q r : Place) → q ≡ r → q.slots ≡ p.slots → q.seen ≡ p.seen → Still p r
still_at p q r is slots seen = record { slots = sym (ap (λ (x : Place). x.slots) is) ∙ slots; seen = sym (ap (λ (x : Place). x.seen) is) ∙ seen }

abbrev pub IsStill : Shape → Type 0
IsStill shape = (p q : Place) → shape p ≡ Some q → Still p q

still_puts : (a : Operand) → IsStill (puts a)
still_puts a p q is = still_at p _ q (one_if _ _ q is) refl refl

still_works : (n : ℕ) → IsStill (works_on n)
still_works n p q is = still_at p _ q (one_if _ _ q is) refl refl

still_splits : IsStill splits
still_splits p q is = still_at p _ q (one_if _ _ q is) refl refl

still_reads : (slot : Slot) → IsStill (reads slot)
still_reads slot p q is = by_test (has slot p.slots) is
  where
    by_test : (b : Bool) → (if b then puts None p else None) ≡ Some q → Still p q
    by_test true is = still_puts None p q is
    by_test false is = absurd cc

still_many : (sigs keys : ℕ) → IsStill (checks_many sigs keys)
still_many sigs keys p q is = by_test (counts_fit sigs keys p.operands) is
  where
    by_test : (b : Bool) → (if b then works_on (keys + sigs + 3) p else None) ≡ Some q → Still p q
    by_test true is = still_works (keys + sigs + 3) p q is
    by_test false is = absurd cc

-- ---- each kind

unfoldable pub reads_at : SlotKind → Slots
reads_at kind = fold-SlotKind Slots Slots kind_reads instr_reads kind

pub whole_reads : (i : SlotInstr) → reads_of i ≡ reads_at i.kind
unfolding reads_at
whole_reads i =
    let layer : Whole = record { kind = i.kind; doing = i.doing; checking = i.checking } in
    fold-roll-SlotInstr Slots Slots kind_reads instr_reads layer

-- a value's instruction that reads these slots
pub record IsValue (kind : SlotKind) (names : List Slot) : Type 0 where
  pub reads : (slot : Slot) → reads_at kind slot ≡ has slot names
  pub inner : IsStill (shapes_at kind).inner
  pub last : IsStill (shapes_at kind).last
  pub no_end : (shapes_at kind).is_end ≡ false

no_names : (slot : Slot) (x : List Slot) → Some [] ≡ Some x → false ≡ has slot x
no_names slot x is = ap (has slot) (same_some [] x is)

or_nothing : (b : Bool) → b ≡ (b || false)
or_nothing true = refl
or_nothing false = refl

value_layer : (layer : Layer) (x : List Slot) → gets_at (roll-SlotKind layer) ≡ Some x → IsValue (roll-SlotKind layer) x
unfolding gets_at reads_at shapes_at roll-SlotKind denote.Hole.Carrier.roll
value_layer (SlotKind-F.Lit e) x is =
    let layer : Layer = SlotKind-F.Lit e in
    let got = fold-roll-SlotKind Got Got kind_gets instr_gets layer in
    let read = fold-roll-SlotKind Slots Slots kind_reads instr_reads layer in
    let at = fold-roll-SlotKind Shapes Shapes kind_shapes instr_shapes layer in record {
      reads = λ slot. ap (λ (r : Slots). r slot) read ∙ no_names slot x (sym got ∙ is);
      inner = λ p q to. still_puts (Some e.items) p q (sym (ap (λ (s : Shapes). s.inner p) at) ∙ to);
      last = λ p q to. still_puts (Some e.items) p q (sym (ap (λ (s : Shapes). s.last p) at) ∙ to);
      no_end = ap (λ (s : Shapes). s.is_end) at;
    }
value_layer (SlotKind-F.Get slot) x is =
    let layer : Layer = SlotKind-F.Get slot in
    let got = fold-roll-SlotKind Got Got kind_gets instr_gets layer in
    let read = fold-roll-SlotKind Slots Slots kind_reads instr_reads layer in
    let at = fold-roll-SlotKind Shapes Shapes kind_shapes instr_shapes layer in record {
      reads = λ other. ap (λ (r : Slots). r other) read ∙ or_nothing (slot.0 == other.0) ∙ ap (has other) (same_some (slot ∷ []) x (sym got ∙ is));
      inner = λ p q to. still_reads slot p q (sym (ap (λ (s : Shapes). s.inner p) at) ∙ to);
      last = λ p q to. still_reads slot p q (sym (ap (λ (s : Shapes). s.last p) at) ∙ to);
      no_end = ap (λ (s : Shapes). s.is_end) at;
    }
value_layer (SlotKind-F.Do1 op) x is =
    let layer : Layer = SlotKind-F.Do1 op in
    let got = fold-roll-SlotKind Got Got kind_gets instr_gets layer in
    let read = fold-roll-SlotKind Slots Slots kind_reads instr_reads layer in
    let at = fold-roll-SlotKind Shapes Shapes kind_shapes instr_shapes layer in record {
      reads = λ slot. ap (λ (r : Slots). r slot) read ∙ no_names slot x (sym got ∙ is);
      inner = λ p q to. still_works 1 p q (sym (ap (λ (s : Shapes). s.inner p) at) ∙ to);
      last = λ p q to. still_works 1 p q (sym (ap (λ (s : Shapes). s.last p) at) ∙ to);
      no_end = ap (λ (s : Shapes). s.is_end) at;
    }
value_layer (SlotKind-F.Do2 op) x is =
    let layer : Layer = SlotKind-F.Do2 op in
    let got = fold-roll-SlotKind Got Got kind_gets instr_gets layer in
    let read = fold-roll-SlotKind Slots Slots kind_reads instr_reads layer in
    let at = fold-roll-SlotKind Shapes Shapes kind_shapes instr_shapes layer in record {
      reads = λ slot. ap (λ (r : Slots). r slot) read ∙ no_names slot x (sym got ∙ is);
      inner = λ p q to. still_works 2 p q (sym (ap (λ (s : Shapes). s.inner p) at) ∙ to);
      last = λ p q to. still_works 2 p q (sym (ap (λ (s : Shapes). s.last p) at) ∙ to);
      no_end = ap (λ (s : Shapes). s.is_end) at;
    }
value_layer (SlotKind-F.Do3 op) x is =
    let layer : Layer = SlotKind-F.Do3 op in
    let got = fold-roll-SlotKind Got Got kind_gets instr_gets layer in
    let read = fold-roll-SlotKind Slots Slots kind_reads instr_reads layer in
    let at = fold-roll-SlotKind Shapes Shapes kind_shapes instr_shapes layer in record {
      reads = λ slot. ap (λ (r : Slots). r slot) read ∙ no_names slot x (sym got ∙ is);
      inner = λ p q to. still_works 3 p q (sym (ap (λ (s : Shapes). s.inner p) at) ∙ to);
      last = λ p q to. still_works 3 p q (sym (ap (λ (s : Shapes). s.last p) at) ∙ to);
      no_end = ap (λ (s : Shapes). s.is_end) at;
    }
value_layer SlotKind-F.Split x is =
    let layer : Layer = SlotKind-F.Split in
    let got = fold-roll-SlotKind Got Got kind_gets instr_gets layer in
    let read = fold-roll-SlotKind Slots Slots kind_reads instr_reads layer in
    let at = fold-roll-SlotKind Shapes Shapes kind_shapes instr_shapes layer in record {
      reads = λ slot. ap (λ (r : Slots). r slot) read ∙ no_names slot x (sym got ∙ is);
      inner = λ p q to. still_splits p q (sym (ap (λ (s : Shapes). s.inner p) at) ∙ to);
      last = λ p q to. still_splits p q (sym (ap (λ (s : Shapes). s.last p) at) ∙ to);
      no_end = ap (λ (s : Shapes). s.is_end) at;
    }
value_layer (SlotKind-F.Keep right) x is =
    let layer : Layer = SlotKind-F.Keep right in
    let got = fold-roll-SlotKind Got Got kind_gets instr_gets layer in
    let read = fold-roll-SlotKind Slots Slots kind_reads instr_reads layer in
    let at = fold-roll-SlotKind Shapes Shapes kind_shapes instr_shapes layer in record {
      reads = λ slot. ap (λ (r : Slots). r slot) read ∙ no_names slot x (sym got ∙ is);
      inner = λ p q to. still_works 2 p q (sym (ap (λ (s : Shapes). s.inner p) at) ∙ to);
      last = λ p q to. still_works 2 p q (sym (ap (λ (s : Shapes). s.last p) at) ∙ to);
      no_end = ap (λ (s : Shapes). s.is_end) at;
    }
value_layer (SlotKind-F.Look0 what) x is =
    let layer : Layer = SlotKind-F.Look0 what in
    let got = fold-roll-SlotKind Got Got kind_gets instr_gets layer in
    let read = fold-roll-SlotKind Slots Slots kind_reads instr_reads layer in
    let at = fold-roll-SlotKind Shapes Shapes kind_shapes instr_shapes layer in record {
      reads = λ slot. ap (λ (r : Slots). r slot) read ∙ no_names slot x (sym got ∙ is);
      inner = λ p q to. still_puts None p q (sym (ap (λ (s : Shapes). s.inner p) at) ∙ to);
      last = λ p q to. still_puts None p q (sym (ap (λ (s : Shapes). s.last p) at) ∙ to);
      no_end = ap (λ (s : Shapes). s.is_end) at;
    }
value_layer (SlotKind-F.LookAt what) x is =
    let layer : Layer = SlotKind-F.LookAt what in
    let got = fold-roll-SlotKind Got Got kind_gets instr_gets layer in
    let read = fold-roll-SlotKind Slots Slots kind_reads instr_reads layer in
    let at = fold-roll-SlotKind Shapes Shapes kind_shapes instr_shapes layer in record {
      reads = λ slot. ap (λ (r : Slots). r slot) read ∙ no_names slot x (sym got ∙ is);
      inner = λ p q to. still_works 1 p q (sym (ap (λ (s : Shapes). s.inner p) at) ∙ to);
      last = λ p q to. still_works 1 p q (sym (ap (λ (s : Shapes). s.last p) at) ∙ to);
      no_end = ap (λ (s : Shapes). s.is_end) at;
    }
value_layer SlotKind-F.CheckSig x is =
    let layer : Layer = SlotKind-F.CheckSig in
    let got = fold-roll-SlotKind Got Got kind_gets instr_gets layer in
    let read = fold-roll-SlotKind Slots Slots kind_reads instr_reads layer in
    let at = fold-roll-SlotKind Shapes Shapes kind_shapes instr_shapes layer in record {
      reads = λ slot. ap (λ (r : Slots). r slot) read ∙ no_names slot x (sym got ∙ is);
      inner = λ p q to. still_works 2 p q (sym (ap (λ (s : Shapes). s.inner p) at) ∙ to);
      last = λ p q to. still_works 2 p q (sym (ap (λ (s : Shapes). s.last p) at) ∙ to);
      no_end = ap (λ (s : Shapes). s.is_end) at;
    }
value_layer SlotKind-F.CheckData x is =
    let layer : Layer = SlotKind-F.CheckData in
    let got = fold-roll-SlotKind Got Got kind_gets instr_gets layer in
    let read = fold-roll-SlotKind Slots Slots kind_reads instr_reads layer in
    let at = fold-roll-SlotKind Shapes Shapes kind_shapes instr_shapes layer in record {
      reads = λ slot. ap (λ (r : Slots). r slot) read ∙ no_names slot x (sym got ∙ is);
      inner = λ p q to. still_works 3 p q (sym (ap (λ (s : Shapes). s.inner p) at) ∙ to);
      last = λ p q to. still_works 3 p q (sym (ap (λ (s : Shapes). s.last p) at) ∙ to);
      no_end = ap (λ (s : Shapes). s.is_end) at;
    }
value_layer (SlotKind-F.CheckMulti sigs keys) x is =
    let layer : Layer = SlotKind-F.CheckMulti sigs keys in
    let got = fold-roll-SlotKind Got Got kind_gets instr_gets layer in
    let read = fold-roll-SlotKind Slots Slots kind_reads instr_reads layer in
    let at = fold-roll-SlotKind Shapes Shapes kind_shapes instr_shapes layer in record {
      reads = λ slot. ap (λ (r : Slots). r slot) read ∙ no_names slot x (sym got ∙ is);
      inner = λ p q to. still_many sigs keys p q (sym (ap (λ (s : Shapes). s.inner p) at) ∙ to);
      last = λ p q to. still_many sigs keys p q (sym (ap (λ (s : Shapes). s.last p) at) ∙ to);
      no_end = ap (λ (s : Shapes). s.is_end) at;
    }
value_layer SlotKind-F.Chunk x is =
    let layer : Layer = SlotKind-F.Chunk in
    let got = fold-roll-SlotKind Got Got kind_gets instr_gets layer in
    let read = fold-roll-SlotKind Slots Slots kind_reads instr_reads layer in
    let at = fold-roll-SlotKind Shapes Shapes kind_shapes instr_shapes layer in record {
      reads = λ slot. ap (λ (r : Slots). r slot) read ∙ no_names slot x (sym got ∙ is);
      inner = λ p q to. still_works 2 p q (sym (ap (λ (s : Shapes). s.inner p) at) ∙ to);
      last = λ p q to. still_works 2 p q (sym (ap (λ (s : Shapes). s.last p) at) ∙ to);
      no_end = ap (λ (s : Shapes). s.is_end) at;
    }
value_layer SlotKind-F.Time x is =
    let layer : Layer = SlotKind-F.Time in
    let got = fold-roll-SlotKind Got Got kind_gets instr_gets layer in
    let never : None ≡ Some x = sym got ∙ is in absurd cc
value_layer SlotKind-F.Age x is =
    let layer : Layer = SlotKind-F.Age in
    let got = fold-roll-SlotKind Got Got kind_gets instr_gets layer in
    let never : None ≡ Some x = sym got ∙ is in absurd cc
value_layer SlotKind-F.Require x is =
    let layer : Layer = SlotKind-F.Require in
    let got = fold-roll-SlotKind Got Got kind_gets instr_gets layer in
    let never : None ≡ Some x = sym got ∙ is in absurd cc
value_layer (SlotKind-F.Define slot) x is =
    let layer : Layer = SlotKind-F.Define slot in
    let got = fold-roll-SlotKind Got Got kind_gets instr_gets layer in
    let never : None ≡ Some x = sym got ∙ is in absurd cc
value_layer (SlotKind-F.DefinePair left right) x is =
    let layer : Layer = SlotKind-F.DefinePair left right in
    let got = fold-roll-SlotKind Got Got kind_gets instr_gets layer in
    let never : None ≡ Some x = sym got ∙ is in absurd cc
value_layer (SlotKind-F.Assign slot) x is =
    let layer : Layer = SlotKind-F.Assign slot in
    let got = fold-roll-SlotKind Got Got kind_gets instr_gets layer in
    let never : None ≡ Some x = sym got ∙ is in absurd cc
value_layer (SlotKind-F.End slot) x is =
    let layer : Layer = SlotKind-F.End slot in
    let got = fold-roll-SlotKind Got Got kind_gets instr_gets layer in
    let never : None ≡ Some x = sym got ∙ is in absurd cc
value_layer (SlotKind-F.If a b) x is =
    let layer : Layer = SlotKind-F.If a b in
    let got = fold-roll-SlotKind Got Got kind_gets instr_gets layer in
    let never : None ≡ Some x = sym got ∙ is in absurd cc

pub is_value : (kind : SlotKind) (names : List Slot) → gets_at kind ≡ Some names → IsValue kind names
is_value kind names is =
    let rolled = roll-out-SlotKind kind in
    subst (λ k. IsValue k names) rolled (value_layer (out-SlotKind kind) names (ap gets_at rolled ∙ is))

-- ---- other kinds

pub time_reads : (other : Slot) → reads_at kinds.Time other ≡ false
unfolding reads_at roll-SlotKind denote.Hole.Carrier.roll
time_reads other =
    let layer : Layer = SlotKind-F.Time in ap (λ (r : Slots). r other) (fold-roll-SlotKind Slots Slots kind_reads instr_reads layer)

pub age_reads : (other : Slot) → reads_at kinds.Age other ≡ false
unfolding reads_at roll-SlotKind denote.Hole.Carrier.roll
age_reads other =
    let layer : Layer = SlotKind-F.Age in ap (λ (r : Slots). r other) (fold-roll-SlotKind Slots Slots kind_reads instr_reads layer)

pub require_reads : (other : Slot) → reads_at kinds.Require other ≡ false
unfolding reads_at roll-SlotKind denote.Hole.Carrier.roll
require_reads other =
    let layer : Layer = SlotKind-F.Require in ap (λ (r : Slots). r other) (fold-roll-SlotKind Slots Slots kind_reads instr_reads layer)

pub define_reads : (slot : Slot) (other : Slot) → reads_at (kinds.Define slot) other ≡ false
unfolding reads_at roll-SlotKind denote.Hole.Carrier.roll
define_reads slot other =
    let layer : Layer = SlotKind-F.Define slot in ap (λ (r : Slots). r other) (fold-roll-SlotKind Slots Slots kind_reads instr_reads layer)

pub define_pair_reads : (left right : Slot) (other : Slot) → reads_at (kinds.DefinePair left right) other ≡ false
unfolding reads_at roll-SlotKind denote.Hole.Carrier.roll
define_pair_reads left right other =
    let layer : Layer = SlotKind-F.DefinePair left right in ap (λ (r : Slots). r other) (fold-roll-SlotKind Slots Slots kind_reads instr_reads layer)

pub assign_reads : (slot : Slot) (other : Slot) → reads_at (kinds.Assign slot) other ≡ false
unfolding reads_at roll-SlotKind denote.Hole.Carrier.roll
assign_reads slot other =
    let layer : Layer = SlotKind-F.Assign slot in ap (λ (r : Slots). r other) (fold-roll-SlotKind Slots Slots kind_reads instr_reads layer)

pub end_reads : (slot : Slot) (other : Slot) → reads_at (kinds.End slot) other ≡ false
unfolding reads_at roll-SlotKind denote.Hole.Carrier.roll
end_reads slot other =
    let layer : Layer = SlotKind-F.End slot in ap (λ (r : Slots). r other) (fold-roll-SlotKind Slots Slots kind_reads instr_reads layer)

pub if_reads : (a b : List SlotInstr) (other : Slot) → reads_at (kinds.If a b) other ≡ (all_later (map reads_of a) other false || all_later (map reads_of b) other false)
unfolding reads_at roll-SlotKind denote.Hole.Carrier.roll
if_reads a b other =
    let layer : Layer = SlotKind-F.If a b in ap (λ (r : Slots). r other) (fold-roll-SlotKind Slots Slots kind_reads instr_reads layer)

pub if_gets : (a b : List SlotInstr) → gets_at (kinds.If a b) ≡ None
unfolding gets_at roll-SlotKind denote.Hole.Carrier.roll
if_gets a b =
    let layer : Layer = SlotKind-F.If a b in fold-roll-SlotKind Got Got kind_gets instr_gets layer

-- ---- the blocks of a choice

yes_layer : Layer → List SlotInstr
yes_layer (SlotKind-F.If a b) = a
yes_layer _ = []

no_layer : Layer → List SlotInstr
no_layer (SlotKind-F.If a b) = b
no_layer _ = []

if_out : (a b : List SlotInstr) → out-SlotKind (kinds.If a b) ≡ SlotKind-F.If a b
unfolding roll-SlotKind denote.Hole.Carrier.roll
if_out a b =
    let layer : Layer = SlotKind-F.If a b in out-roll-SlotKind layer

pub same_yes : (a b c d : List SlotInstr) → kinds.If a b ≡ kinds.If c d → a ≡ c
unfolding yes_layer
same_yes a b c d is = sym (ap yes_layer (if_out a b)) ∙ ap (λ k. yes_layer (out-SlotKind k)) is ∙ ap yes_layer (if_out c d)

pub same_no : (a b c d : List SlotInstr) → kinds.If a b ≡ kinds.If c d → b ≡ d
unfolding no_layer
same_no a b c d is = sym (ap no_layer (if_out a b)) ∙ ap (λ k. no_layer (out-SlotKind k)) is ∙ ap no_layer (if_out c d)
