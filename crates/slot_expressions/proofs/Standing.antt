-- Where the values stand around pieces of slot code.
use Rattle.std.proofs.Common.{◌≡◌, ◌≤◌, ℕ, ◌+◌, ◌==◌, Bool, true, false, List, [], ◌∷◌, ◌++◌, length, map, drop, Some, None, Option, refl, sym, ap, ◌∙◌, arith, append_assoc}
use Rattle.std.proofs.lemmas.Bool.Decides.{nat_tests}
use Rattle.std.specs.Prelude.{option_and_then, if◌then◌else◌, nat_le, ◌&&◌, ◌||◌, not}
use Rattle.std.specs.List.{list_any}
use Rattle.std.proofs.lemmas.List.{map-append, length-append, drop_at}
use Rattle.std.proofs.lemmas.List.Folds.{list_any-append}
use Rattle.cash_base.specs.declared.place.Span.{Span}
use Rattle.cash_base.specs.declared.place.Slot.{Slot}
use Rattle.slot_code.specs.declared.slots.SlotInstr.{SlotInstr}
use Rattle.slot_code.specs.declared.slots.SlotKind.{SlotKind}
use Rattle.slot_code.specs.Shape.{Operand, Place, Shapes, only_if, with_operands, with_seen, puts, works_on, reads, splits, value, all_shapes, shapes_of, shapes_at, stands_in, begins, has, has_span, is_span}
use Rattle.slot_code.proofs.Steps.{whole_stands}
use Rattle.slot_expressions.specs.Pieces.{Stands, Begins, seen_with, instruction}

-- ---- shapes

and_then : (o : Option Place) (xs ys : List Shapes) → ((p : Place) → all_shapes (xs ++ ys) p ≡ option_and_then (all_shapes ys) (all_shapes xs p))
    → option_and_then (all_shapes (xs ++ ys)) o ≡ option_and_then (all_shapes ys) (option_and_then (all_shapes xs) o)
and_then (Some p) xs ys rest = rest p
and_then None xs ys rest = refl

shapes_append : (xs ys : List Shapes) (p : Place) → all_shapes (xs ++ ys) p ≡ option_and_then (all_shapes ys) (all_shapes xs p)
shapes_append [] ys p = refl
shapes_append (x ∷ xs) ys p = and_then (x.inner p) xs ys (shapes_append xs ys)

pub shape_append : (a b : List SlotInstr) (p : Place) → all_shapes (map shapes_of (a ++ b)) p ≡ option_and_then (all_shapes (map shapes_of b)) (all_shapes (map shapes_of a) p)
shape_append a b p = ap (λ l. all_shapes l p) (map-append shapes_of a b) ∙ shapes_append (map shapes_of a) (map shapes_of b) p

pub if_true : {A : Type 0} (b : Bool) (x y : A) → b ≡ true → (if b then x else y) ≡ x
if_true true x y is = refl
if_true false x y is = absurd cc

pub begun : (span : Span) (is_end : Bool) (p : Place) → has_span span p.seen ≡ true → begins span is_end p ≡ Some p
begun span is_end p seen = if_true (has_span span p.seen) (Some p) (only_if (length p.operands == 0 && not is_end) (with_seen (p.seen ++ span ∷ []) p)) seen

-- a row, where its statement has begun
pub row_shape : (kind : SlotKind) (doing checking : Span) (x : Shapes) (p q : Place) → shapes_at kind ≡ x → has_span checking p.seen ≡ true → x.inner p ≡ Some q
    → all_shapes (map shapes_of (instruction kind doing checking ∷ [])) p ≡ Some q
row_shape kind doing checking x p q is seen to =
    ap (λ (y : Shapes). option_and_then (all_shapes []) (y.inner p)) (whole_stands (instruction kind doing checking) ∙ ap (stands_in checking) is)
    ∙ ap (λ o. option_and_then (all_shapes []) (option_and_then x.inner o)) (begun checking x.is_end p seen)
    ∙ ap (option_and_then (all_shapes [])) to

-- ---- pieces

pub stands_both : {a b : List SlotInstr} {checking : Span} {slots : List Slot} {ta tb : List Operand} {ma mb : ℕ}
    → Stands a checking slots ta ma → Stands b checking slots tb mb → Stands (a ++ b) checking slots (tb ++ ta) (ma + mb)
stands_both {a} {b} {checking} {slots} {ta} {tb} {ma} {mb} ha hb = record {
  fits = omega (arith, length-append tb ta, ha.fits, hb.fits);
  stands = λ p in_slots seen room.
      let first = ha.stands p in_slots seen (omega (arith, room)) in
      let second = hb.stands (with_operands (ta ++ p.operands) p) in_slots seen (omega (arith, room, ha.fits, length-append ta p.operands)) in
      shape_append a b p ∙ ap (option_and_then (all_shapes (map shapes_of b))) first ∙ second
      ∙ ap (λ l. Some (with_operands l p)) (sym (append_assoc tb ta p.operands));
}

pub stands_most : {a : List SlotInstr} {checking : Span} {slots : List Slot} {tops : List Operand} {m n : ℕ}
    → m ≤ n → Stands a checking slots tops m → Stands a checking slots tops n
stands_most less h = record {
  fits = omega (arith, less, h.fits);
  stands = λ p in_slots seen room. h.stands p in_slots seen (omega (arith, less, room));
}

pub le_true : (m n : ℕ) → m ≤ n → nat_le m n ≡ true
le_true m n less = grind (arith, nat_tests, less)

-- a row that works on all operands of a piece
pub stands_op : {a : List SlotInstr} {checking : Span} {slots : List Slot} {tops : List Operand} {most : ℕ} (kind : SlotKind) (doing : Span) (n : ℕ)
    → shapes_at kind ≡ value (works_on n) → length tops ≡ n → 1 ≤ n → Stands a checking slots tops most
    → Stands (a ++ instruction kind doing checking ∷ []) checking slots (None ∷ []) most
stands_op {a} {checking} {slots} {tops} {most} kind doing n is count some h = record {
  fits = omega (arith, h.fits, count, some);
  stands = λ p in_slots seen room.
      let mid : Place = with_operands (tops ++ p.operands) p in
      let enough : nat_le n (length (tops ++ p.operands)) ≡ true = le_true n (length (tops ++ p.operands)) (omega (arith, length-append tops p.operands, count)) in
      let left : works_on n mid ≡ Some (with_operands (None ∷ p.operands) p) =
      if_true (nat_le n (length (tops ++ p.operands))) (Some (with_operands (None ∷ drop n (tops ++ p.operands)) p)) None enough
      ∙ ap (λ l. Some (with_operands (None ∷ l) p)) (drop_at tops p.operands n count) in
      shape_append a (instruction kind doing checking ∷ []) p
      ∙ ap (option_and_then (all_shapes (map shapes_of (instruction kind doing checking ∷ [])))) (h.stands p in_slots seen room)
      ∙ row_shape kind doing checking (value (works_on n)) mid (with_operands (None ∷ p.operands) p) is seen left;
}

-- a row that puts both parts in place of two operands
pub stands_split : {a : List SlotInstr} {checking : Span} {slots : List Slot} {x y : Operand} {most : ℕ} (kind : SlotKind) (doing : Span)
    → shapes_at kind ≡ value splits → Stands a checking slots (y ∷ x ∷ []) most
    → Stands (a ++ instruction kind doing checking ∷ []) checking slots (None ∷ None ∷ []) most
stands_split {a} {checking} {slots} {x} {y} {most} kind doing is h = record {
  fits = h.fits;
  stands = λ p in_slots seen room.
      shape_append a (instruction kind doing checking ∷ []) p
      ∙ ap (option_and_then (all_shapes (map shapes_of (instruction kind doing checking ∷ [])))) (h.stands p in_slots seen room)
      ∙ row_shape kind doing checking (value splits) (with_operands (y ∷ x ∷ p.operands) p) (with_operands (None ∷ None ∷ p.operands) p) is seen
      (if_true (nat_le 2 (length (y ∷ x ∷ p.operands))) (Some (with_operands (None ∷ None ∷ p.operands) p)) None (le_true 2 (length (y ∷ x ∷ p.operands)) (omega arith)));
}

-- a row that puts an operand
put_at : (top : Operand) (p : Place) → length p.operands + 1 ≤ 4000 → puts top p ≡ Some (with_operands (top ∷ p.operands) p)
put_at top p room =
    if_true (nat_le (length (top ∷ p.operands)) 4000) (Some (with_operands (top ∷ p.operands) p)) None
    (le_true (length (top ∷ p.operands)) 4000 (omega (arith, room)))

pub stands_put : {slots : List Slot} (kind : SlotKind) (doing checking : Span) (top : Operand) → shapes_at kind ≡ value (puts top)
    → Stands (instruction kind doing checking ∷ []) checking slots (top ∷ []) 1
stands_put kind doing checking top is = record {
  fits = omega arith;
  stands = λ p in_slots seen room. row_shape kind doing checking (value (puts top)) p (with_operands (top ∷ p.operands) p) is seen (put_at top p room);
}

pub stands_get : {slots : List Slot} (kind : SlotKind) (slot : Slot) (doing checking : Span) → shapes_at kind ≡ value (reads slot) → has slot slots ≡ true
    → Stands (instruction kind doing checking ∷ []) checking slots (None ∷ []) 1
stands_get kind slot doing checking is known = record {
  fits = omega arith;
  stands = λ p in_slots seen room.
      let there : has slot p.slots ≡ true = ap (has slot) in_slots ∙ known in
      row_shape kind doing checking (value (reads slot)) p (with_operands (None ∷ p.operands) p) is seen
      (if_true (has slot p.slots) (puts None p) None there ∙ put_at None p room);
}

-- ---- the beginning of a statement

or_true : (b c : Bool) → c ≡ true → (b || c) ≡ true
or_true true c is = refl
or_true false c is = is

has_itself : (span : Span) (seen : List Span) → has_span span (seen ++ span ∷ []) ≡ true
has_itself span seen =
    let own : is_span span span ≡ true = grind (arith, nat_tests) in
    list_any-append (is_span span) seen (span ∷ [])
    ∙ or_true (list_any (is_span span) seen) (list_any (is_span span) (span ∷ [])) (ap (λ b. b || false) own)

seen_by : (b : Bool) (span : Span) (seen : List Span) → has_span span seen ≡ b → has_span span (if b then seen else seen ++ span ∷ []) ≡ true
seen_by true span seen is = is
seen_by false span seen is = has_itself span seen

pub seen_now : (span : Span) (seen : List Span) → has_span span (seen_with span seen) ≡ true
seen_now span seen = seen_by (has_span span seen) span seen refl

begins_by : (b : Bool) (span : Span) (p : Place) → p.operands ≡ []
    → (if b then Some p else only_if (length p.operands == 0 && not false) (with_seen (p.seen ++ span ∷ []) p))
    ≡ Some (with_seen (if b then p.seen else p.seen ++ span ∷ []) p)
begins_by true span p alone = refl
begins_by false span p alone = ap (λ (l : List Operand). only_if (length l == 0 && not false) (with_seen (p.seen ++ span ∷ []) p)) alone

-- the first row of a statement
pub begins_row : (kind : SlotKind) (doing checking : Span) → (x : Shapes) → shapes_at kind ≡ x → x.is_end ≡ false → Begins (instruction kind doing checking ∷ []) checking
begins_row kind doing checking x is no_end = record {
  begins = λ p alone.
      let shapes : shapes_of (instruction kind doing checking) ≡ stands_in checking x = whole_stands (instruction kind doing checking) ∙ ap (stands_in checking) is in
      let q : Place = with_seen (seen_with checking p.seen) p in
      let from_p : all_shapes (map shapes_of (instruction kind doing checking ∷ [])) p ≡ option_and_then (all_shapes []) (option_and_then x.inner (Some q)) =
      ap (λ (y : Shapes). option_and_then (all_shapes []) (y.inner p)) shapes
      ∙ ap (λ b. option_and_then (all_shapes []) (option_and_then x.inner (begins checking b p))) no_end
      ∙ ap (λ o. option_and_then (all_shapes []) (option_and_then x.inner o)) (begins_by (has_span checking p.seen) checking p alone) in
      let from_q : all_shapes (map shapes_of (instruction kind doing checking ∷ [])) q ≡ option_and_then (all_shapes []) (option_and_then x.inner (Some q)) =
      ap (λ (y : Shapes). option_and_then (all_shapes []) (y.inner q)) shapes
      ∙ ap (λ o. option_and_then (all_shapes []) (option_and_then x.inner o)) (begun checking x.is_end q (seen_now checking p.seen)) in
      from_p ∙ sym from_q;
}

pub begins_more : {a : List SlotInstr} (b : List SlotInstr) {checking : Span} → Begins a checking → Begins (a ++ b) checking
begins_more {a} b {checking} h = record {
  begins = λ p alone. shape_append a b p ∙ ap (option_and_then (all_shapes (map shapes_of b))) (h.begins p alone)
      ∙ sym (shape_append a b (with_seen (seen_with checking p.seen) p));
}
