-- That no checking span is forgotten.
use Rattle.std.proofs.Common.{◌≡◌, ℕ, ◌==◌, Bool, true, false, List, [], ◌∷◌, ◌++◌, length, map, refl, sym, ap, ◌∙◌, subst, arith, append_assoc}
use Rattle.std.specs.Prelude.{◌||◌, ◌&&◌, not, Option, Some, None, option_and_then, if◌then◌else◌}
use Rattle.std.specs.List.{list_any}
use Rattle.std.proofs.lemmas.List.{append-nil, map-append}
use Rattle.std.proofs.lemmas.List.Folds.{list_any-append}
use Rattle.std.proofs.lemmas.Bool.{eqb-true}
use Rattle.std.proofs.lemmas.Bool.Decides.{nat_tests}
use Rattle.cash_base.specs.declared.place.Slot.{Slot}
use Rattle.cash_base.specs.declared.place.Span.{Span}
use Rattle.cash_tree.specs.declared.Ty.{Ty}
use Rattle.cash_tree.specs.declared.Stmt.{Stmt}
use Rattle.cash_tree.specs.declared.StmtKind.{StmtKind}
use Rattle.slot_code.specs.declared.slots.SlotInstr.{SlotInstr}
use Rattle.slot_code.specs.declared.slots.SlotKind.{SlotKind}
use Rattle.slot_code.specs.declared.slots.SlotKind.TheVariants as kinds
use Rattle.slot_code.specs.Shape.{Place, Shape, Shapes, shapes_of, shapes_at, all_shapes, path_shape, path_block, block_shape, choice_shape, fork_shape, then_shape, takes_all, defines, assigns, ends_slot, closed, returned, inside, with_seen, with_slots, in_both, begins, stands_in, is_over, is_span, has_span, only_if, same_slots, has, plain, check, without}
use Rattle.slot_code.proofs.Steps as steps
use Rattle.type_tables.specs.Tables.{TypedExpr}
use Rattle.slot_expressions.specs.Pieces.{instruction}
use Rattle.slot_expressions.specs.Reads.{all_gets, row_gets, gets_at, in_turn as both_gets}
use Rattle.slot_expressions.proofs.Tests.{and_left, and_right}
use Rattle.slot_lowering.specs.Scoped.{part_of as scoped_part, all_names}
use Rattle.slot_lowering.specs.Arranged.{IsSimple, defines as is_define, defines_both, assigns as is_assign, checks_time, checks_age, requires_it, ArrangedKind, simple, choice, ArrangedBlock, inner, last, ArrangedBody, nothing_left, in_turn, ended_names}
use Rattle.lowered_names.specs.Names.{part, part_at, reads, no_points}
use Rattle.lowered_names.proofs.PartSteps.{define_part, pair_part, assign_part, time_part, age_part, require_part}
use Rattle.lowered_names.proofs.Rows.{same_some, one_if, Still, IsStill, IsValue, is_value, reads_at, define_reads, define_pair_reads, assign_reads, time_reads, age_reads, require_reads}

-- ---- steps that may fail

pub bound : {A B : Type 0} (f : A → Option B) (o : Option A) (q : B) → option_and_then f o ≡ Some q → (x : A) × (o ≡ Some x) × (f x ≡ Some q)
bound f (Some x) q is = (x, refl, is)
bound f None q is = absurd cc

-- ---- spans

pub span_same : (a b : Span) → is_span a b ≡ true → a ≡ b
span_same a b h =
    let first = and_left (a.from == b.from) (a.to == b.to) h in
    let second = and_right (a.from == b.from) (a.to == b.to) h in
    ap (λ (n : ℕ). record { from = n; to = a.to }) (eqb-true a.from b.from first) ∙ ap (λ (n : ℕ). record { from = b.from; to = n }) (eqb-true a.to b.to second)

or_left : (b c : Bool) → b ≡ true → (b || c) ≡ true
or_left true c is = refl
or_left false c is = absurd cc

or_right : (b c : Bool) → c ≡ true → (b || c) ≡ true
or_right true c is = refl
or_right false c is = is

-- ---- places

abbrev pub Grows : Place → Place → Type 0
Grows p q = (s : Span) → has_span s p.seen ≡ true → has_span s q.seen ≡ true

pub grows_same : (p q : Place) → p ≡ q → Grows p q
grows_same p q is s there = sym (ap (λ (r : Place). has_span s r.seen) is) ∙ there

pub grows_seen : (p q : Place) → q.seen ≡ p.seen → Grows p q
grows_seen p q is s there = ap (has_span s) is ∙ there

-- the statement at the span has begun
pub record Begun (span : Span) (p q : Place) : Type 0 where
  pub grows : Grows p q
  pub begun : has_span span q.seen ≡ true
  pub slots : q.slots ≡ p.slots

pub begun_by : (span : Span) (is_end : Bool) (p q : Place) → begins span is_end p ≡ Some q → Begun span p q
begun_by span is_end p q is = by_test (has_span span p.seen) refl is
  where
    itself : is_span span span ≡ true
    itself = grind (arith, nat_tests)

    by_test : (b : Bool) → has_span span p.seen ≡ b → (if b then Some p else only_if (length p.operands == 0 && not is_end) (with_seen (p.seen ++ span ∷ []) p)) ≡ Some q → Begun span p q
    by_test true there is =
        let same : p ≡ q = same_some p q is in record {
          grows = grows_same p q same;
          begun = sym (ap (λ (r : Place). has_span span r.seen) same) ∙ there;
          slots = sym (ap (λ (r : Place). r.slots) same);
        }
    by_test false there is =
        let same : with_seen (p.seen ++ span ∷ []) p ≡ q = one_if (length p.operands == 0 && not is_end) (with_seen (p.seen ++ span ∷ []) p) q is in record {
          grows = λ s known. sym (ap (λ (r : Place). has_span s r.seen) same) ∙ list_any-append (is_span s) p.seen (span ∷ []) ∙ or_left (has_span s p.seen) (has_span s (span ∷ [])) known;
          begun = sym (ap (λ (r : Place). has_span span r.seen) same) ∙ list_any-append (is_span span) p.seen (span ∷ [])
              ∙ or_right (has_span span p.seen) (has_span span (span ∷ [])) (or_left (is_span span span) false itself);
          slots = sym (ap (λ (r : Place). r.slots) same);
        }

-- ---- instructions

pub record Growing (x : Shapes) : Type 0 where
  pub inner : (p q : Place) → x.inner p ≡ Some q → Grows p q
  pub last : (p q : Place) → x.last p ≡ Some q → Grows p q

abbrev pub AllGrow : List Shapes → Type 0
AllGrow [] = Unit {0}
AllGrow (x ∷ xs) = Growing x × AllGrow xs

pub grow_all : (xs : List Shapes) → AllGrow xs → (p q : Place) → all_shapes xs p ≡ Some q → Grows p q
grow_all [] h p q is = grows_same p q (same_some p q is)
grow_all (x ∷ xs) h p q is =
    let b = bound (all_shapes xs) (x.inner p) q is in
    λ s there. grow_all xs h.1 b.0 q b.2 s (h.0.inner p b.0 b.1 s there)

pub grow_path : (xs : List Shapes) → AllGrow xs → (p q : Place) → path_shape xs p ≡ Some q → Grows p q
grow_path [] h p q is = grows_same p q (same_some p q is)
grow_path (x ∷ xs) h p q is = by_test (λ m to. grow_path xs h.1 m q to) (is_over xs) is
  where
    by_test : ((m : Place) → path_shape xs m ≡ Some q → Grows m q) → (b : Bool) → (if b then option_and_then (all_shapes xs) (x.last p) else option_and_then (path_shape xs) (x.inner p)) ≡ Some q → Grows p q
    by_test rest true is =
        let b = bound (all_shapes xs) (x.last p) q is in
        λ s there. grow_all xs h.1 b.0 q b.2 s (h.0.last p b.0 b.1 s there)
    by_test rest false is =
        let b = bound (path_shape xs) (x.inner p) q is in
        λ s there. rest b.0 b.2 s (h.0.inner p b.0 b.1 s there)

grow_append : (xs ys : List Shapes) → AllGrow xs → AllGrow ys → AllGrow (xs ++ ys)
grow_append [] ys h t = t
grow_append (x ∷ xs) ys h t = (h.0, grow_append xs ys h.1 t)

grow_rows : (a b : List SlotInstr) → AllGrow (map shapes_of a) → AllGrow (map shapes_of b) → AllGrow (map shapes_of (a ++ b))
grow_rows a b h t = subst AllGrow (sym (map-append shapes_of a b)) (grow_append (map shapes_of a) (map shapes_of b) h t)

-- an instruction behind the start of its statement
pub record Step (i : SlotInstr) (p q : Place) : Type 0 where
  pub mid : Place
  pub begun : Begun i.checking p mid
  pub to : (shapes_at i.kind).inner mid ≡ Some q

pub step_inner : (i : SlotInstr) (p q : Place) → (shapes_of i).inner p ≡ Some q → Step i p q
step_inner i p q is =
    let x : Shapes = shapes_at i.kind in
    let stands : shapes_of i ≡ stands_in i.checking x = steps.whole_stands i in
    let b = bound x.inner (begins i.checking x.is_end p) q (sym (ap (λ (y : Shapes). y.inner p) stands) ∙ is) in
    record { mid = b.0; begun = begun_by i.checking x.is_end p b.0 b.1; to = b.2 }

row_grows : (i : SlotInstr) → Growing (shapes_at i.kind) → Growing (shapes_of i)
row_grows i h =
    let x : Shapes = shapes_at i.kind in
    let stands : shapes_of i ≡ stands_in i.checking x = steps.whole_stands i in record {
      inner = λ p q is.
          let b = bound x.inner (begins i.checking x.is_end p) q (sym (ap (λ (y : Shapes). y.inner p) stands) ∙ is) in
          λ s there. h.inner b.0 q b.2 s ((begun_by i.checking x.is_end p b.0 b.1).grows s there);
      last = λ p q is.
          let b = bound x.last (begins i.checking x.is_end p) q (sym (ap (λ (y : Shapes). y.last p) stands) ∙ is) in
          λ s there. h.last b.0 q b.2 s ((begun_by i.checking x.is_end p b.0 b.1).grows s there);
    }

still_grows : {names : List Slot} (kind : SlotKind) → IsValue kind names → Growing (shapes_at kind)
still_grows kind h = record {
  inner = λ p q is. grows_seen p q (h.inner p q is).seen;
  last = λ p q is. grows_seen p q (h.last p q is).seen;
}

-- ---- the rows of values

-- the first row's slots, and those of the others
pub record Front (checking : Span) (i : SlotInstr) (rows : List SlotInstr) (names : List Slot) : Type 0 where
  pub first : List Slot
  pub others : List Slot
  pub at : i.checking ≡ checking
  pub got : gets_at i.kind ≡ Some first
  pub rest : all_gets checking rows ≡ Some others
  pub names_are : first ++ others ≡ names

pub front_of : (checking : Span) (i : SlotInstr) (rows : List SlotInstr) (names : List Slot) → all_gets checking (i ∷ rows) ≡ Some names → Front checking i rows names
front_of checking i rows names is = by_test (is_span checking i.checking) refl (gets_at i.kind) refl (all_gets checking rows) refl is
  where
    by_test : (b : Bool) → is_span checking i.checking ≡ b → (a : Option (List Slot)) → gets_at i.kind ≡ a → (o : Option (List Slot)) → all_gets checking rows ≡ o
        → both_gets (if b then a else None) o ≡ Some names → Front checking i rows names
    by_test true same (Some x) got (Some y) rest is = record {
      first = x;
      others = y;
      at = sym (span_same checking i.checking same);
      got = got;
      rest = rest;
      names_are = same_some (x ++ y) names is;
    }
    by_test true same (Some x) got None rest is = absurd cc
    by_test true same None got o rest is = absurd cc
    by_test false same a got o rest is = absurd cc

values_grow : (checking : Span) (rows : List SlotInstr) (names : List Slot) → all_gets checking rows ≡ Some names → AllGrow (map shapes_of rows)
values_grow checking [] names is = tt
values_grow checking (i ∷ rows) names is =
    let f = front_of checking i rows names is in
    (row_grows i (still_grows i.kind (is_value i.kind f.first f.got)), values_grow checking rows f.others f.rest)

-- ---- the last row of a statement that is no choice

-- so many slots more, and the same checking spans
pub record Moves (names : List Slot) (p q : Place) : Type 0 where
  pub slots : q.slots ≡ p.slots ++ names
  pub seen : q.seen ≡ p.seen

pub record IsFinal (row : SlotKind) (names : List Slot) : Type 0 where
  pub inner : (p q : Place) → (shapes_at row).inner p ≡ Some q → Moves names p q
  pub last : (p q : Place) → (shapes_at row).last p ≡ Some q → Moves names p q

final_grows : {names : List Slot} (row : SlotKind) → IsFinal row names → Growing (shapes_at row)
final_grows row h = record {
  inner = λ p q is. grows_seen p q (h.inner p q is).seen;
  last = λ p q is. grows_seen p q (h.last p q is).seen;
}

-- so many operands were taken
taken : (n : ℕ) (p m : Place) → takes_all n p ≡ Some m → Still p m
taken n p m is =
    let same = one_if (length p.operands == n) _ m is in
    record { slots = sym (ap (λ (r : Place). r.slots) same); seen = sym (ap (λ (r : Place). r.seen) same) }

defined : (slot : Slot) (p q : Place) → defines slot p ≡ Some q → Moves (slot ∷ []) p q
defined slot p q is =
    let same = one_if _ (with_slots (p.slots ++ slot ∷ []) p) q is in
    record { slots = sym (ap (λ (r : Place). r.slots) same); seen = sym (ap (λ (r : Place). r.seen) same) }

moves_then : (names : List Slot) (p m q : Place) → Still p m → Moves names m q → Moves names p q
moves_then names p m q a b = record { slots = b.slots ∙ ap (λ l. l ++ names) a.slots; seen = b.seen ∙ a.seen }

moves_none : (p q : Place) → Still p q → Moves [] p q
moves_none p q h = record { slots = h.slots ∙ sym (append-nil p.slots); seen = h.seen }

moves_both : (l r : Slot) (p m q : Place) → Moves (l ∷ []) p m → Moves (r ∷ []) m q → Moves (l ∷ r ∷ []) p q
moves_both l r p m q a b = record { slots = b.slots ∙ ap (λ s. s ++ r ∷ []) a.slots ∙ append_assoc p.slots (l ∷ []) (r ∷ []); seen = b.seen ∙ a.seen }

assigned : (slot : Slot) (p q : Place) → assigns slot p ≡ Some q → Still p q
assigned slot p q is =
    let same = one_if (has slot p.slots) p q is in
    record { slots = sym (ap (λ (r : Place). r.slots) same); seen = sym (ap (λ (r : Place). r.seen) same) }

final_by : {names : List Slot} (row : SlotKind) (is_end may_end : Bool) (shape : Shape) → shapes_at row ≡ plain is_end may_end shape → ((p q : Place) → shape p ≡ Some q → Moves names p q) → IsFinal row names
final_by row is_end may_end shape at moves = record {
  inner = λ p q is. moves p q (sym (ap (λ (x : Shapes). x.inner p) at) ∙ is);
  last = λ p q is. moves p q (sym (ap (λ (x : Shapes). x.last p) at) ∙ is);
}

define_final : (slot : Slot) → IsFinal (kinds.Define slot) (slot ∷ [])
define_final slot = final_by (kinds.Define slot) false false (then_shape (takes_all 1) (defines slot)) (steps.define_stands slot)
    (λ p q is. let b = bound (defines slot) (takes_all 1 p) q is in moves_then (slot ∷ []) p b.0 q (taken 1 p b.0 b.1) (defined slot b.0 q b.2))

pair_final : (l r : Slot) → IsFinal (kinds.DefinePair l r) (l ∷ r ∷ [])
pair_final l r = final_by (kinds.DefinePair l r) false false (then_shape (takes_all 2) (then_shape (defines l) (defines r))) (steps.define_pair_stands l r)
    (λ p q is.
    let b = bound (then_shape (defines l) (defines r)) (takes_all 2 p) q is in
    let c = bound (defines r) (defines l b.0) q b.2 in
    moves_then (l ∷ r ∷ []) p b.0 q (taken 2 p b.0 b.1) (moves_both l r b.0 c.0 q (defined l b.0 c.0 c.1) (defined r c.0 q c.2)))

assign_final : (slot : Slot) → IsFinal (kinds.Assign slot) []
assign_final slot = final_by (kinds.Assign slot) false false (then_shape (takes_all 1) (assigns slot)) (steps.assign_stands slot)
    (λ p q is. let b = bound (assigns slot) (takes_all 1 p) q is in moves_then [] p b.0 q (taken 1 p b.0 b.1) (moves_none b.0 q (assigned slot b.0 q b.2)))

check_final : (row : SlotKind) → shapes_at row ≡ check → IsFinal row []
check_final row at = final_by row false true (takes_all 1) at (λ p q is. moves_none p q (taken 1 p q is))

-- what a statement that is no choice reads and defines, and that its last row does so
pub record FinalOf (kind : StmtKind Slot Ty) (value : TypedExpr) (row : SlotKind) : Type 0 where
  pub names : List Slot
  pub final : IsFinal row names
  pub part_is : part_at kind ≡ part (reads value) names no_points
  pub reads_none : (slot : Slot) → reads_at row slot ≡ false
  pub no_choice : (ys ns : List SlotInstr) → row ≡ kinds.If ys ns → ⊥

pub final_of : {kind : StmtKind Slot Ty} {value : TypedExpr} {row : SlotKind} → IsSimple kind value row → FinalOf kind value row
final_of (is_define t constant slot place value is) = record {
  names = slot ∷ [];
  final = define_final slot;
  part_is = ap part_at is ∙ define_part t constant slot place value;
  reads_none = λ other. define_reads slot other;
  no_choice = λ ys ns same. absurd cc;
}
final_of (defines_both left right value is) = record {
  names = left.name ∷ right.name ∷ [];
  final = pair_final left.name right.name;
  part_is = ap part_at is ∙ pair_part left right value;
  reads_none = λ other. define_pair_reads left.name right.name other;
  no_choice = λ ys ns same. absurd cc;
}
final_of (is_assign slot value is) = record { names = []; final = assign_final slot; part_is = ap part_at is ∙ assign_part slot value; reads_none = λ other. assign_reads slot other; no_choice = λ ys ns same. absurd cc }
final_of (checks_time value is) = record { names = []; final = check_final kinds.Time steps.time_stands; part_is = ap part_at is ∙ time_part value; reads_none = λ other. time_reads other; no_choice = λ ys ns same. absurd cc }
final_of (checks_age value is) = record { names = []; final = check_final kinds.Age steps.age_stands; part_is = ap part_at is ∙ age_part value; reads_none = λ other. age_reads other; no_choice = λ ys ns same. absurd cc }
final_of (requires_it value is) = record { names = []; final = check_final kinds.Require steps.require_stands; part_is = ap part_at is ∙ require_part value; reads_none = λ other. require_reads other; no_choice = λ ys ns same. absurd cc }

-- ---- choices

block_to : (xs : List Shapes) (slots : List Slot) (p q : Place) → block_shape xs slots p ≡ Some q → all_shapes xs (inside slots p) ≡ Some q
block_to xs slots p q is =
    let b = bound (then_shape closed (returned slots)) (all_shapes xs (inside slots p)) q is in
    let c = bound (returned slots) (closed b.0) q b.2 in
    b.1 ∙ ap Some (one_if (length b.0.operands == 0) b.0 c.0 c.1 ∙ one_if (same_slots c.0.slots slots) c.0 q c.2)

pub record ChoiceTo (a b : List Shapes) (p q : Place) : Type 0 where
  pub first : Place
  pub first_is : block_shape a p.slots p ≡ Some first
  pub second : Place
  pub second_is : block_shape b p.slots (with_seen first.seen p) ≡ Some second
  pub to : with_seen second.seen p ≡ q

choice_to : (a b : List Shapes) (p q : Place) → choice_shape a b p ≡ Some q → ChoiceTo a b p q
choice_to a b p q is =
    let x = bound (λ (q : Place). option_and_then (λ (r : Place). Some (with_seen r.seen p)) (block_shape b p.slots (with_seen q.seen p))) (block_shape a p.slots p) q is in
    let y = bound (λ (r : Place). Some (with_seen r.seen p)) (block_shape b p.slots (with_seen x.0.seen p)) q x.2 in
    record { first = x.0; first_is = x.1; second = y.0; second_is = y.1; to = same_some (with_seen y.0.seen p) q y.2 }

choice_grows : (a b : List Shapes) → AllGrow a → AllGrow b → (p q : Place) → choice_shape a b p ≡ Some q → Grows p q
choice_grows a b ha hb p q is =
    let c = choice_to a b p q is in
    λ s there.
    let first = grow_all a ha (inside p.slots p) c.first (block_to a p.slots p c.first c.first_is) s there in
    let second = grow_all b hb (inside p.slots (with_seen c.first.seen p)) c.second (block_to b p.slots (with_seen c.first.seen p) c.second c.second_is) s first in
    sym (ap (λ (r : Place). has_span s r.seen) c.to) ∙ second

path_to : (xs : List Shapes) (p q : Place) → path_block xs p ≡ Some q → path_shape xs (inside [] p) ≡ Some q
path_to xs p q is =
    let b = bound closed (path_shape xs (inside [] p)) q is in
    b.1 ∙ ap Some (one_if (length b.0.operands == 0) b.0 q b.2)

fork_grows : (a b : List Shapes) → AllGrow a → AllGrow b → (p q : Place) → fork_shape a b p ≡ Some q → Grows p q
fork_grows a b ha hb p q is =
    let x = bound (λ (q : Place). option_and_then (λ (r : Place). Some (with_seen r.seen (with_slots (in_both q.slots r.slots) p))) (path_block b (with_seen q.seen p))) (path_block a p) q is in
    let y = bound (λ (r : Place). Some (with_seen r.seen (with_slots (in_both x.0.slots r.slots) p))) (path_block b (with_seen x.0.seen p)) q x.2 in
    let to = same_some (with_seen y.0.seen (with_slots (in_both x.0.slots y.0.slots) p)) q y.2 in
    λ s there.
    let first = grow_path a ha (inside [] p) x.0 (path_to a p x.0 x.1) s there in
    let second = grow_path b hb (inside [] (with_seen x.0.seen p)) y.0 (path_to b (with_seen x.0.seen p) y.0 y.1) s first in
    sym (ap (λ (r : Place). has_span s r.seen) to) ∙ second

then_grows : (n : ℕ) (shape : Shape) → ((p q : Place) → shape p ≡ Some q → Grows p q) → (p q : Place) → then_shape (takes_all n) shape p ≡ Some q → Grows p q
then_grows n shape h p q is =
    let b = bound shape (takes_all n p) q is in
    λ s there. h b.0 q b.2 s (grows_seen p b.0 (taken n p b.0 b.1).seen s there)

pub if_grows : (a b : List SlotInstr) → AllGrow (map shapes_of a) → AllGrow (map shapes_of b) → Growing (shapes_at (kinds.If a b))
if_grows a b ha hb =
    let at = steps.if_stands a b in record {
      inner = λ p q is. then_grows 1 (choice_shape (map shapes_of a) (map shapes_of b)) (choice_grows (map shapes_of a) (map shapes_of b) ha hb) p q (sym (ap (λ (x : Shapes). x.inner p) at) ∙ is);
      last = λ p q is. then_grows 1 (fork_shape (map shapes_of a) (map shapes_of b)) (fork_grows (map shapes_of a) (map shapes_of b) ha hb) p q (sym (ap (λ (x : Shapes). x.last p) at) ∙ is);
    }

-- a choice leaves the slots as they are
pub if_slots : (a b : List SlotInstr) (p q : Place) → (shapes_at (kinds.If a b)).inner p ≡ Some q → q.slots ≡ p.slots
if_slots a b p q is =
    let at = steps.if_stands a b in
    let x = bound (choice_shape (map shapes_of a) (map shapes_of b)) (takes_all 1 p) q (sym (ap (λ (x : Shapes). x.inner p) at) ∙ is) in
    let c = choice_to (map shapes_of a) (map shapes_of b) x.0 q x.2 in
    sym (ap (λ (r : Place). r.slots) c.to) ∙ (taken 1 p x.0 x.1).slots

pub if_goes_on : (a b : List SlotInstr) → (shapes_at (kinds.If a b)).is_end ≡ false
if_goes_on a b = ap (λ (x : Shapes). x.is_end) (steps.if_stands a b)

-- ---- the ends of names

pub end_ends : (slot : Slot) → (shapes_at (kinds.End slot)).is_end ≡ true
end_ends slot = ap (λ (x : Shapes). x.is_end) (steps.end_of_stands slot)

end_grows : (slot : Slot) → Growing (shapes_at (kinds.End slot))
end_grows slot =
    let at = steps.end_of_stands slot in record {
      inner = λ p q is. then_grows 0 (ends_slot slot) (ended slot) p q (sym (ap (λ (x : Shapes). x.inner p) at) ∙ is);
      last = λ p q is. then_grows 0 (ends_slot slot) (ended slot) p q (sym (ap (λ (x : Shapes). x.last p) at) ∙ is);
    }
  where
    ended : (slot : Slot) (p q : Place) → ends_slot slot p ≡ Some q → Grows p q
    ended slot p q is = grows_seen p q (sym (ap (λ (r : Place). r.seen) (one_if _ (with_slots (without slot p.slots) p) q is)))

pub end_row_grows : (i : SlotInstr) (slot : Slot) → i.kind ≡ kinds.End slot → Growing (shapes_of i)
end_row_grows i slot is = row_grows i (subst (λ k. Growing (shapes_at k)) (sym is) (end_grows slot))

ends_grow : (span : Span) (names : List Slot) → AllGrow (map shapes_of (map (λ (slot : Slot). instruction (kinds.End slot) span span) names))
ends_grow span [] = tt
ends_grow span (name ∷ names) = (end_row_grows (instruction (kinds.End name) span span) name refl, ends_grow span names)

-- ---- statements

mutual
  pub kind_grows : {e : Bool} {kind : StmtKind Slot Ty} {span : Span} {rows : List SlotInstr} → ArrangedKind e kind span rows → AllGrow (map shapes_of rows)
  kind_grows (simple {span = span} {rows = rows} value row is h) =
      grow_rows rows (instruction row span span ∷ []) (values_grow span rows _ h.gets.is) (row_grows (instruction row span span) (final_grows row (final_of is).final), tt)
  kind_grows (choice {span = span} {rows = rows} {yes_rows = ys} {no_rows = ns} test yes_block no_block is h first second) =
      grow_rows rows (instruction (kinds.If ys ns) span span ∷ []) (values_grow span rows _ h.gets.is) (row_grows (instruction (kinds.If ys ns) span span) (if_grows ys ns (block_grows first) (block_grows second)), tt)

  pub block_grows : {e : Bool} {body : List (Stmt Slot Ty)} {span : Span} {rows : List SlotInstr} → ArrangedBlock e body span rows → AllGrow (map shapes_of rows)
  block_grows (inner {body = body} {span = span} {rows = rows} h) = grow_rows rows (ended_names body span) (body_grows h) (ends_grow span (all_names (map scoped_part body)))
  block_grows (last h) = body_grows h

  pub body_grows : {e : Bool} {body : List (Stmt Slot Ty)} {rows : List SlotInstr} → ArrangedBody e body rows → AllGrow (map shapes_of rows)
  body_grows nothing_left = tt
  body_grows (in_turn {rows = rows} {more = more} h t) = grow_rows rows more (kind_grows h) (body_grows t)
