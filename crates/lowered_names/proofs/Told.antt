-- The pairs of spans of arranged rows are those of their statements, in the order of the text.
use Rattle.std.proofs.Common.{◌≡◌, ◌⊎◌, inl, inr, ℕ, ◌<◌, ◌≤◌, ◌+◌, Bool, true, false, List, [], ◌∷◌, ◌++◌, map, refl, sym, ap, ◌∙◌, subst, arith, append_assoc}
use Rattle.std.specs.Prelude.{◌&&◌, ◌||◌, nat_le, nat_lt, Option, Some, None, unwrap_or}
use Rattle.std.specs.List.{list_all, AllZip}
use Rattle.std.proofs.lemmas.List.{append-nil, map-append}
use Rattle.std.proofs.lemmas.Bool.{leb-true, ltb-true}
use Rattle.std.proofs.lemmas.Bool.Decides.{nat_tests}
use Rattle.cash_base.specs.declared.place.Slot.{Slot}
use Rattle.cash_base.specs.declared.place.Span.{Span}
use Rattle.cash_tree.specs.declared.Ty.{Ty}
use Rattle.cash_tree.specs.declared.Contract.{Contract}
use Rattle.cash_tree.specs.declared.Function.{Function}
use Rattle.cash_tree.specs.declared.Stmt.{Stmt}
use Rattle.cash_tree.specs.declared.StmtKind.{StmtKind}
use Rattle.cash_tree.specs.declared.StmtKind.TheVariants as stmts
use Rattle.cash_tree.specs.Nodes.{joined}
use Rattle.type_tables.specs.Tables.{TypedExpr}
use Rattle.slot_code.specs.declared.slots.SlotInstr.{SlotInstr}
use Rattle.slot_code.specs.declared.slots.SlotKind.{SlotKind}
use Rattle.slot_code.specs.declared.slots.SlotFunction.{SlotFunction}
use Rattle.slot_code.specs.declared.slots.SlotKind.TheVariants as kinds
use Rattle.slot_code.specs.Shape.{is_span}
use Rattle.slot_code.specs.Spans.{spans_of, spans_at, code_spans}
use Rattle.slot_code.proofs.Steps as steps
use Rattle.slot_expressions.specs.Pieces.{instruction}
use Rattle.slot_expressions.specs.Reads.{all_gets}
use Rattle.slot_expressions.specs.Spans.{SpannedBy, own_spans}
use Rattle.slot_expressions.proofs.Tests.{and_left, and_right}
use Rattle.slot_expressions.proofs.ReadRows.{same_span}
use Rattle.slot_lowering.specs.Scoped.{part_of as scoped_part, all_names}
use Rattle.slot_lowering.specs.Functions.{Arranges}
use Rattle.slot_lowering.specs.Arranged.{Valued, IsSimple, defines as is_define, defines_both, assigns as is_assign, checks_time, checks_age, requires_it, ArrangedKind, simple, choice, ArrangedBlock, inner, last, ArrangedBody, nothing_left, in_turn, ended_names}
use Rattle.lowered_names.specs.Order.{Pair, pairs_of, pairs_at, code_pairs, places_of, places_at, body_places, Text, text_of, text_at, value_between, in_order, IsText, Every, IsPlace, Holds, IsInnermost, AreOrdered, IsTold, IsTextOf, AreTold, function_text, all_pairs, all_places}
use Rattle.lowered_names.proofs.Growing.{front_of, span_same}
use Rattle.lowered_names.proofs.PairSteps.{TypedStmt, whole_pairs, value_pair, time_pairs, age_pairs, require_pairs, define_pairs, define_pair_pairs, assign_pairs, end_pairs, if_pairs, whole_places, whole_text, define_places, pair_places, assign_places, time_places, age_places, require_places, if_places, define_text, pair_text, assign_text, time_text, age_text, require_text, if_text}

-- ---- lists

pub every_append : {A : Type 0} (P : A → Type 0) (xs ys : List A) → Every P xs → Every P ys → Every P (xs ++ ys)
every_append P [] ys h t = t
every_append P (x ∷ xs) ys h t = (h.0, every_append P xs ys h.1 t)

every_left : {A : Type 0} (P : A → Type 0) (xs ys : List A) → Every P (xs ++ ys) → Every P xs
every_left P [] ys h = tt
every_left P (x ∷ xs) ys h = (h.0, every_left P xs ys h.1)

every_right : {A : Type 0} (P : A → Type 0) (xs ys : List A) → Every P (xs ++ ys) → Every P ys
every_right P [] ys h = h
every_right P (x ∷ xs) ys h = every_right P xs ys h.1

pub every_as : {A : Type 0} (P Q : A → Type 0) → ((x : A) → P x → Q x) → (xs : List A) → Every P xs → Every Q xs
every_as P Q to [] h = tt
every_as P Q to (x ∷ xs) h = (to x h.0, every_as P Q to xs h.1)

place_left : (xs ys : List Span) (s : Span) → IsPlace xs s → IsPlace (xs ++ ys) s
place_left [] ys s h = elim h [ ]
place_left (x ∷ xs) ys s (inl is) = inl is
place_left (x ∷ xs) ys s (inr h) = inr (place_left xs ys s h)

place_right : (xs ys : List Span) (s : Span) → IsPlace ys s → IsPlace (xs ++ ys) s
place_right [] ys s h = h
place_right (x ∷ xs) ys s h = inr (place_right xs ys s h)

pub pairs_append : (a b : List SlotInstr) → code_pairs (a ++ b) ≡ code_pairs a ++ code_pairs b
pairs_append [] b = refl
pairs_append (i ∷ a) b = ap (λ l. pairs_of i ++ l) (pairs_append a b) ∙ sym (append_assoc (pairs_of i) (code_pairs a) (code_pairs b))

-- ---- places in the text

-- a span that isn't empty, between two places
pub record In (from to : ℕ) (v : Span) : Type 0 where
  pub low : from ≤ v.from
  pub some : v.from < v.to
  pub high : v.to ≤ to

pub in_wider : {a b c d : ℕ} → c ≤ a → b ≤ d → (v : Span) → In a b v → In c d v
in_wider {a} {b} {c} {d} low high v h = record { low = omega (arith, low, h.low); some = h.some; high = omega (arith, high, h.high) }

record Inside (from to : ℕ) (pair : Pair) : Type 0 where
  checking : In from to pair.checking
  doing : In from to pair.doing

record Told (from to : ℕ) (pairs : List Pair) (places : List Span) : Type 0 where
  inside : Every (Inside from to) pairs
  places_in : Every (In from to) places
  innermost : Every (IsInnermost places) pairs
  ordered : AreOrdered pairs

told_none : (from to : ℕ) → Told from to [] []
told_none from to = record { inside = tt; places_in = tt; innermost = tt; ordered = tt }

told_wider : {a b c d : ℕ} {pairs : List Pair} {places : List Span} → c ≤ a → b ≤ d → Told a b pairs places → Told c d pairs places
told_wider {a} {b} {c} {d} {pairs} {places} low high h = record {
  inside = every_as (Inside a b) (Inside c d) (λ x i. record { checking = in_wider low high x.checking i.checking; doing = in_wider low high x.doing i.doing }) pairs h.inside;
  places_in = every_as (In a b) (In c d) (λ x i. in_wider low high x i) places h.places_in;
  innermost = h.innermost;
  ordered = h.ordered;
}

ordered_append : (xs ys : List Pair) → AreOrdered xs → AreOrdered ys → Every (λ (x : Pair). Every (λ (y : Pair). x.checking.from < y.checking.to) ys) xs → AreOrdered (xs ++ ys)
ordered_append [] ys h t c = t
ordered_append (x ∷ xs) ys h t c = (every_append (λ (y : Pair). x.checking.from < y.checking.to) xs ys h.0 c.0, ordered_append xs ys h.1 t c.1)

-- what stands before a place, and what stands behind it
told_both : {a m b : ℕ} (xs ys : List Pair) (ps qs : List Span) → a ≤ m → m ≤ b → Told a m xs ps → Told m b ys qs → Told a b (xs ++ ys) (ps ++ qs)
told_both {a} {m} {b} xs ys ps qs low high h t =
    let wide = told_wider {a = a} {b = m} {c = a} {d = b} (omega arith) high h in
    let also = told_wider {a = m} {b = b} {c = a} {d = b} low (omega arith) t in record {
      inside = every_append (Inside a b) xs ys wide.inside also.inside;
      places_in = every_append (In a b) ps qs wide.places_in also.places_in;
      innermost = every_append (IsInnermost (ps ++ qs)) xs ys
          (both_of xs h.inside h.innermost) (behind_of ys t.inside t.innermost);
      ordered = ordered_append xs ys h.ordered t.ordered
          (every_as (Inside a m) (λ (x : Pair). Every (λ (y : Pair). x.checking.from < y.checking.to) ys)
          (λ x i. every_as (Inside m b) (λ (y : Pair). x.checking.from < y.checking.to) (λ y j. omega (arith, i.checking.some, i.checking.high, j.checking.low, j.checking.some)) ys t.inside) xs h.inside);
    }
  where
    both_of : (zs : List Pair) → Every (Inside a m) zs → Every (IsInnermost ps) zs → Every (IsInnermost (ps ++ qs)) zs
    both_of [] i h = tt
    both_of (z ∷ zs) i h = (
      record {
        place = place_left ps qs z.checking h.0.place;
        holds = h.0.holds;
        innermost = every_append (λ (other : Span). Holds other z.doing → Holds other z.checking) ps qs h.0.innermost
            (every_as (In m b) (λ (other : Span). Holds other z.doing → Holds other z.checking) (λ o at holds. absurd (omega (arith, at.low, i.0.doing.high, i.0.doing.some, holds.0))) qs t.places_in);
      },
      both_of zs i.1 h.1,
    )

    behind_of : (zs : List Pair) → Every (Inside m b) zs → Every (IsInnermost qs) zs → Every (IsInnermost (ps ++ qs)) zs
    behind_of [] i h = tt
    behind_of (z ∷ zs) i h' = (
      record {
        place = place_right ps qs z.checking h'.0.place;
        holds = h'.0.holds;
        innermost = every_append (λ (other : Span). Holds other z.doing → Holds other z.checking) ps qs
            (every_as (In a m) (λ (other : Span). Holds other z.doing → Holds other z.checking) (λ o at holds. absurd (omega (arith, at.high, i.0.doing.low, i.0.doing.some, holds.1))) ps h.places_in)
            h'.0.innermost;
      },
      behind_of zs i.1 h'.1,
    )

-- ---- one statement

-- a pair of a statement's own: it is done at a span of its value, which ends before a place, or at the statement's
record Own (span : Span) (to : ℕ) (pair : Pair) : Type 0 where
  checking : pair.checking ≡ span
  doing : (pair.doing ≡ span) ⊎ In span.from to pair.doing

-- around a statement's blocks: an own pair, or one of a block
abbrev Amid : Span → Pair → Type 0
Amid span pair = (span.from < pair.checking.to) × (pair.checking.from < span.to)

own_amid : (span : Span) (to : ℕ) → span.from < span.to → (pair : Pair) → Own span to pair → Amid span pair
own_amid span to some pair h =
    (sym_lt (ap (λ (s : Span). s.to) h.checking) some, lt_as (ap (λ (s : Span). s.from) h.checking) some)
  where
    sym_lt : {x y z : ℕ} → x ≡ y → z < y → z < x
    sym_lt is less = omega (arith, is, less)

    lt_as : {x y z : ℕ} → x ≡ y → y < z → x < z
    lt_as is less = omega (arith, is, less)

inside_amid : (span : Span) (from : ℕ) → span.from ≤ from → (pair : Pair) → Inside from span.to pair → Amid span pair
inside_amid span from low pair h = (omega (arith, low, h.checking.low, h.checking.some), omega (arith, h.checking.some, h.checking.high))

-- own pairs anywhere among others
insert_one : (span : Span) (to : ℕ) (own : Pair) → Own span to own → span.from < span.to → (xs zs : List Pair) → Every (Amid span) xs → Every (Amid span) zs → AreOrdered (xs ++ zs) → AreOrdered (xs ++ own ∷ zs)
insert_one span to own h some [] zs a b o = (every_as (Amid span) (λ (y : Pair). own.checking.from < y.checking.to) (λ y m. omega (arith, ap (λ (s : Span). s.from) h.checking, m.0)) zs b, o)
insert_one span to own h some (x ∷ xs) zs a b o = (
  every_append (λ (y : Pair). x.checking.from < y.checking.to) xs (own ∷ zs) (every_left (λ (y : Pair). x.checking.from < y.checking.to) xs zs o.0)
      (omega (arith, ap (λ (s : Span). s.to) h.checking, a.0.1), every_right (λ (y : Pair). x.checking.from < y.checking.to) xs zs o.0),
  insert_one span to own h some xs zs a.1 b o.1,
)

insert_all : (span : Span) (to : ℕ) (owns : List Pair) → Every (Own span to) owns → span.from < span.to → (xs zs : List Pair) → Every (Amid span) xs → Every (Amid span) zs → AreOrdered (xs ++ zs) → AreOrdered (xs ++ (owns ++ zs))
insert_all span to [] h some xs zs a b o = o
insert_all span to (own ∷ owns) h some xs zs a b o =
    insert_one span to own h.0 some xs (owns ++ zs) a
    (every_append (Amid span) owns zs (every_as (Own span to) (Amid span) (λ x i. own_amid span to some x i) owns h.1) b)
    (insert_all span to owns h.1 some xs zs a b o)

-- a statement: its own pairs, and those of its blocks, which stand behind the spans of its test
own_innermost : (span : Span) (to : ℕ) → span.from < to → to ≤ span.to → (places : List Span) → Every (In to span.to) places → (pair : Pair) → Own span to pair → IsInnermost (span ∷ places) pair
own_innermost span to some high places at pair h = record {
  place = inl (sym h.checking);
  holds = holds_it h.doing;
  innermost = ((λ holds. all_same), every_as (In to span.to) (λ (other : Span). Holds other pair.doing → Holds other pair.checking) (λ o i holds. absurd (never o i h.doing holds)) places at);
}
  where
    all_same : Holds span pair.checking
    all_same = (omega (arith, ap (λ (s : Span). s.from) h.checking), omega (arith, ap (λ (s : Span). s.to) h.checking))

    holds_it : (pair.doing ≡ span) ⊎ In span.from to pair.doing → Holds pair.checking pair.doing
    holds_it (inl is) = (omega (arith, ap (λ (s : Span). s.from) h.checking, ap (λ (s : Span). s.from) is), omega (arith, ap (λ (s : Span). s.to) h.checking, ap (λ (s : Span). s.to) is))
    holds_it (inr i) = (omega (arith, ap (λ (s : Span). s.from) h.checking, i.low), omega (arith, ap (λ (s : Span). s.to) h.checking, i.high, high))

    never : (o : Span) → In to span.to o → (pair.doing ≡ span) ⊎ In span.from to pair.doing → Holds o pair.doing → ⊥
    never o i (inl is) holds = absurd (omega (arith, i.low, some, holds.0, ap (λ (s : Span). s.from) is))
    never o i (inr d) holds = absurd (omega (arith, i.low, d.some, d.high, holds.0))

block_innermost : (span : Span) (to : ℕ) → span.from ≤ to → (places : List Span) (pairs : List Pair) → Every (Inside to span.to) pairs → Every (IsInnermost places) pairs → Every (IsInnermost (span ∷ places)) pairs
block_innermost span to low places [] i h = tt
block_innermost span to low places (x ∷ xs) i h = (
  record {
    place = inr h.0.place;
    holds = h.0.holds;
    innermost = ((λ holds. (omega (arith, low, i.0.checking.low), i.0.checking.high)), h.0.innermost);
  },
  block_innermost span to low places xs i.1 h.1,
)

own_inside : (span : Span) (to : ℕ) → span.from < span.to → to ≤ span.to → (pair : Pair) → Own span to pair → Inside span.from span.to pair
own_inside span to some high pair h = record { checking = subst (In span.from span.to) (sym h.checking) itself; doing = by_case h.doing }
  where
    itself : In span.from span.to span
    itself = record { low = omega arith; some = some; high = omega arith }

    by_case : (pair.doing ≡ span) ⊎ In span.from to pair.doing → In span.from span.to pair.doing
    by_case (inl is) = subst (In span.from span.to) (sym is) itself
    by_case (inr i) = in_wider (omega arith) high pair.doing i

-- first own pairs, then a block, own pairs, another block, and own pairs
told_choice : (span : Span) (to : ℕ) → span.from < to → to ≤ span.to → (fronts ys mids ns ends : List Pair) (places : List Span) → Every (Own span to) fronts → Every (Own span to) mids → Every (Own span to) ends
    → Told to span.to (ys ++ ns) places → Told span.from span.to (fronts ++ (ys ++ (mids ++ (ns ++ ends)))) (span ∷ places)
told_choice span to some high fronts ys mids ns ends places hf hm he t =
    let whole_some : span.from < span.to = omega (arith, some, high) in
    let own : (pairs : List Pair) → Every (Own span to) pairs → Every (Amid span) pairs = λ pairs h. every_as (Own span to) (Amid span) (λ x i. own_amid span to whole_some x i) pairs h in
    let block_at : (pairs : List Pair) → Every (Inside to span.to) pairs → Every (Amid span) pairs = λ pairs h. every_as (Inside to span.to) (Amid span) (λ x i. inside_amid span to (omega (arith, some)) x i) pairs h in
    let iy = every_left (Inside to span.to) ys ns t.inside in
    let in_ = every_right (Inside to span.to) ys ns t.inside in
    let with_ends : AreOrdered (ys ++ (ns ++ ends)) =
    subst AreOrdered (append_assoc ys ns ends ∙ refl)
    (subst (λ l. AreOrdered ((ys ++ ns) ++ l)) (append-nil ends)
    (insert_all span to ends he whole_some (ys ++ ns) [] (block_at (ys ++ ns) t.inside) tt (subst AreOrdered (sym (append-nil (ys ++ ns))) t.ordered))) in
    let rest = every_append (Amid span) ns ends (block_at ns in_) (own ends he) in
    let with_mids : AreOrdered (ys ++ (mids ++ (ns ++ ends))) = insert_all span to mids hm whole_some ys (ns ++ ends) (block_at ys iy) rest with_ends in
    let behind_ys = every_append (Amid span) mids (ns ++ ends) (own mids hm) rest in
    let own_in : (pairs : List Pair) → Every (Own span to) pairs → Every (Inside span.from span.to) pairs = λ pairs h. every_as (Own span to) (Inside span.from span.to) (λ x i. own_inside span to whole_some high x i) pairs h in
    let block_in : (pairs : List Pair) → Every (Inside to span.to) pairs → Every (Inside span.from span.to) pairs =
    λ pairs h. every_as (Inside to span.to) (Inside span.from span.to)
    (λ x i. record { checking = in_wider (omega (arith, some)) (omega arith) x.checking i.checking; doing = in_wider (omega (arith, some)) (omega arith) x.doing i.doing }) pairs h in
    let own_most : (pairs : List Pair) → Every (Own span to) pairs → Every (IsInnermost (span ∷ places)) pairs =
    λ pairs h. every_as (Own span to) (IsInnermost (span ∷ places)) (λ x i. own_innermost span to some high places t.places_in x i) pairs h in
    let inner_of = block_innermost span to (omega (arith, some)) places in
    let joint : (P : Pair → Type 0) → Every P fronts → Every P ys → Every P mids → Every P ns → Every P ends → Every P (fronts ++ (ys ++ (mids ++ (ns ++ ends)))) =
    λ P a b c d e. every_append P fronts (ys ++ (mids ++ (ns ++ ends))) a (every_append P ys (mids ++ (ns ++ ends)) b (every_append P mids (ns ++ ends) c (every_append P ns ends d e))) in record {
      inside = joint (Inside span.from span.to) (own_in fronts hf) (block_in ys iy) (own_in mids hm) (block_in ns in_) (own_in ends he);
      places_in = (record { low = omega arith; some = whole_some; high = omega arith }, every_as (In to span.to) (In span.from span.to) (λ x i. in_wider (omega (arith, some)) (omega arith) x i) places t.places_in);
      innermost = joint (IsInnermost (span ∷ places)) (own_most fronts hf) (inner_of ys iy (every_left (IsInnermost places) ys ns t.innermost)) (own_most mids hm)
          (inner_of ns in_ (every_right (IsInnermost places) ys ns t.innermost)) (own_most ends he);
      ordered = insert_all span to fronts hf whole_some [] (ys ++ (mids ++ (ns ++ ends))) tt (every_append (Amid span) ys (mids ++ (ns ++ ends)) (block_at ys iy) behind_ys) with_mids;
    }

-- ---- the rows of values

value_test : (span : Span) (to : ℕ) → Span → Bool
value_test span to v = is_span span v || (nat_le span.from v.from && (nat_lt v.from v.to && nat_le v.to to))

tested : (span : Span) (to : ℕ) (v : Span) → value_test span to v ≡ true → (v ≡ span) ⊎ In span.from to v
unfolding value_test
tested span to v is = by_test (is_span span v) refl is
  where
    by_test : (b : Bool) → is_span span v ≡ b → (b || (nat_le span.from v.from && (nat_lt v.from v.to && nat_le v.to to))) ≡ true → (v ≡ span) ⊎ In span.from to v
    by_test true same is = inl (sym (span_same span v same))
    by_test false same is =
        let more = and_right (nat_le span.from v.from) (nat_lt v.from v.to && nat_le v.to to) is in
        inr (record {
          low = leb-true span.from v.from (and_left (nat_le span.from v.from) (nat_lt v.from v.to && nat_le v.to to) is);
          some = ltb-true v.from v.to (and_left (nat_lt v.from v.to) (nat_le v.to to) more);
          high = leb-true v.to to (and_right (nat_lt v.from v.to) (nat_le v.to to) more);
        })

all_wider : (f g : Span → Bool) → ((v : Span) → f v ≡ true → g v ≡ true) → (vs : List Span) → list_all f vs ≡ true → list_all g vs ≡ true
all_wider f g to [] is = refl
all_wider f g to (v ∷ vs) is = both_true (g v) (list_all g vs) (to v (and_left (f v) (list_all f vs) is)) (all_wider f g to vs (and_right (f v) (list_all f vs) is))
  where
    both_true : (b c : Bool) → b ≡ true → c ≡ true → (b && c) ≡ true
    both_true true c is also = also
    both_true false c is also = absurd cc

or_right : (b c : Bool) → c ≡ true → (b || c) ≡ true
or_right true c is = refl
or_right false c is = is

or_left : (b c : Bool) → b ≡ true → (b || c) ≡ true
or_left true c is = refl
or_left false c is = absurd cc

all_left : (f : Span → Bool) (xs ys : List Span) → list_all f (xs ++ ys) ≡ true → list_all f xs ≡ true
all_left f [] ys is = refl
all_left f (x ∷ xs) ys is = both_true (f x) (list_all f xs) (and_left (f x) (list_all f (xs ++ ys)) is) (all_left f xs ys (and_right (f x) (list_all f (xs ++ ys)) is))
  where
    both_true : (b c : Bool) → b ≡ true → c ≡ true → (b && c) ≡ true
    both_true true c is also = also
    both_true false c is also = absurd cc

all_right : (f : Span → Bool) (xs ys : List Span) → list_all f (xs ++ ys) ≡ true → list_all f ys ≡ true
all_right f [] ys is = is
all_right f (x ∷ xs) ys is = all_right f xs ys (and_right (f x) (list_all f (xs ++ ys)) is)

own_values : (span : Span) (to : ℕ) (rows : List SlotInstr) (names : List Slot) → all_gets span rows ≡ Some names → list_all (value_test span to) (code_spans rows) ≡ true → Every (Own span to) (code_pairs rows)
own_values span to [] names is holds = tt
own_values span to (i ∷ rows) names is holds =
    let f = front_of span i rows names is in
    let pairs : pairs_of i ≡ record { doing = i.doing; checking = i.checking } ∷ [] = whole_pairs i ∙ value_pair i.kind f.first f.got (record { doing = i.doing; checking = i.checking }) in
    let own : (value_test span to i.doing && list_all (value_test span to) (i.checking ∷ spans_at i.kind)) ≡ true =
    sym (ap (list_all (value_test span to)) (steps.whole_spans i)) ∙ all_left (value_test span to) (spans_of i) (code_spans rows) holds in
    let one : Own span to (record { doing = i.doing; checking = i.checking }) = record { checking = f.at; doing = tested span to i.doing (and_left (value_test span to i.doing) (list_all (value_test span to) (i.checking ∷ spans_at i.kind)) own) } in
    every_append (Own span to) (pairs_of i) (code_pairs rows) (subst (Every (Own span to)) (sym pairs) (one, tt))
    (own_values span to rows f.others f.rest (all_right (value_test span to) (spans_of i) (code_spans rows) holds))

own_valued : {rows : List SlotInstr} {span : Span} {value : TypedExpr} (to : ℕ) → Valued rows span value → value_between span.from to value ≡ true → Every (Own span to) (code_pairs rows)
unfolding value_test
own_valued {rows} {span} {value} to h between =
    own_values span to rows _ h.gets.is
    (h.spans.all (value_test span to) (or_left (is_span span span) _ (same_span span))
    (all_wider (λ (v : Span). nat_le span.from v.from && (nat_lt v.from v.to && nat_le v.to to)) (value_test span to) (λ v is. or_right (is_span span v) _ is) (own_spans value) between))

itself : (span : Span) (to : ℕ) (pair : Pair) → pair.doing ≡ span → pair.checking ≡ span → Own span to pair
itself span to pair d c = record { checking = c; doing = inl d }

-- ---- the last row of a statement that is no choice

record SimpleText (kind : StmtKind Slot Ty) (value : TypedExpr) (row : SlotKind) : Type 0 where
  pairs : (own : Pair) → pairs_at row own ≡ own ∷ []
  places : places_at kind ≡ []
  text : (span : Span) → text_at kind span ≡ value_between span.from span.to value

simple_text : {kind : StmtKind Slot Ty} {value : TypedExpr} {row : SlotKind} → IsSimple kind value row → SimpleText kind value row
simple_text (is_define t constant slot place value is) = record { pairs = define_pairs slot; places = ap places_at is ∙ define_places t constant slot place value; text = λ span. ap (λ k. text_at k span) is ∙ define_text t constant slot place value span }
simple_text (defines_both left right value is) = record { pairs = define_pair_pairs left.name right.name; places = ap places_at is ∙ pair_places left right value; text = λ span. ap (λ k. text_at k span) is ∙ pair_text left right value span }
simple_text (is_assign slot value is) = record { pairs = assign_pairs slot; places = ap places_at is ∙ assign_places slot value; text = λ span. ap (λ k. text_at k span) is ∙ assign_text slot value span }
simple_text (checks_time value is) = record { pairs = time_pairs; places = ap places_at is ∙ time_places value; text = λ span. ap (λ k. text_at k span) is ∙ time_text value span }
simple_text (checks_age value is) = record { pairs = age_pairs; places = ap places_at is ∙ age_places value; text = λ span. ap (λ k. text_at k span) is ∙ age_text value span }
simple_text (requires_it value is) = record { pairs = require_pairs; places = ap places_at is ∙ require_places value; text = λ span. ap (λ k. text_at k span) is ∙ require_text value span }

-- ---- the order of the text

pub less_is : (from to : ℕ) (texts : List Text) → in_order from to texts ≡ true → from ≤ to
less_is from to [] is = leb-true from to is
less_is from to (t ∷ more) is =
    let first = and_left (nat_le from t.span.from && nat_lt t.span.from t.span.to) (t.fits && in_order t.span.to to more) is in
    let rest = less_is t.span.to to more (and_right t.fits (in_order t.span.to to more) (and_right (nat_le from t.span.from && nat_lt t.span.from t.span.to) (t.fits && in_order t.span.to to more) is)) in
    omega (arith, rest, leb-true from t.span.from (and_left (nat_le from t.span.from) (nat_lt t.span.from t.span.to) first), ltb-true t.span.from t.span.to (and_right (nat_le from t.span.from) (nat_lt t.span.from t.span.to) first))

pub record Cut (from to : ℕ) (xs ys : List Text) : Type 0 where
  pub mid : ℕ
  pub front : in_order from mid xs ≡ true
  pub back : in_order mid to ys ≡ true

pub cut_at : (from to : ℕ) (xs ys : List Text) → in_order from to (xs ++ ys) ≡ true → Cut from to xs ys
cut_at from to [] ys is = record { mid = from; front = grind (arith, nat_tests); back = is }
cut_at from to (x ∷ xs) ys is =
    let first = and_left (nat_le from x.span.from && nat_lt x.span.from x.span.to) (x.fits && in_order x.span.to to (xs ++ ys)) is in
    let more = and_right (nat_le from x.span.from && nat_lt x.span.from x.span.to) (x.fits && in_order x.span.to to (xs ++ ys)) is in
    let c = cut_at x.span.to to xs ys (and_right x.fits (in_order x.span.to to (xs ++ ys)) more) in record {
      mid = c.mid;
      front = both (nat_le from x.span.from && nat_lt x.span.from x.span.to) (x.fits && in_order x.span.to c.mid xs) first (both x.fits (in_order x.span.to c.mid xs) (and_left x.fits (in_order x.span.to to (xs ++ ys)) more) c.front);
      back = c.back;
    }
  where
    both : (b c : Bool) → b ≡ true → c ≡ true → (b && c) ≡ true
    both true c is also = also
    both false c is also = absurd cc

-- ---- statements

-- the pairs of a block: those of its statements, and own ones of the statement around it
record BlockPairs (block : List TypedStmt) (span : Span) (rows : List SlotInstr) : Type 0 where
  of_body : List Pair
  ends : List Pair
  pairs_are : code_pairs rows ≡ of_body ++ ends
  own : (to : ℕ) → Every (Own span to) ends
  told : (from to : ℕ) → in_order from to (map text_of block) ≡ true → Told from to of_body (body_places block)

ends_own : (span : Span) (names : List Slot) (to : ℕ) → Every (Own span to) (code_pairs (map (λ (slot : Slot). instruction (kinds.End slot) span span) names))
ends_own span [] to = tt
ends_own span (name ∷ names) to =
    let i = instruction (kinds.End name) span span in
    let pair : Pair = record { doing = span; checking = span } in
    every_append (Own span to) (pairs_of i) (code_pairs (map (λ (slot : Slot). instruction (kinds.End slot) span span) names))
    (subst (Every (Own span to)) (sym (whole_pairs i ∙ end_pairs name pair)) (itself span to pair refl refl, tt)) (ends_own span names to)

two_lists : {A : Type 0} (a b c d e f g : List A) → a ++ (b ++ ((c ++ d) ++ (e ++ ((f ++ g) ++ e)))) ≡ (a ++ b) ++ (c ++ ((d ++ e) ++ (f ++ (g ++ e))))
two_lists a b c d e f g =
    ap (λ l. a ++ (b ++ l)) (append_assoc c d (e ++ ((f ++ g) ++ e)) ∙ ap (λ l. c ++ (d ++ (e ++ l))) (append_assoc f g e) ∙ ap (λ l. c ++ l) (sym (append_assoc d e (f ++ (g ++ e)))))
    ∙ sym (append_assoc a b (c ++ ((d ++ e) ++ (f ++ (g ++ e)))))

mutual
  told_kind : {e : Bool} {kind : StmtKind Slot Ty} {span : Span} {rows : List SlotInstr} → ArrangedKind e kind span rows → span.from < span.to → text_at kind span ≡ true → Told span.from span.to (code_pairs rows) (span ∷ places_at kind)
  told_kind (simple {span = span} {rows = rows} value row is h) some fits =
      let s = simple_text is in
      let i = instruction row span span in
      let pair : Pair = record { doing = span; checking = span } in
      let own = own_valued span.to h (sym (s.text span) ∙ fits) in
      let pairs : code_pairs (rows ++ i ∷ []) ≡ (code_pairs rows ++ pair ∷ []) ++ [] =
      pairs_append rows (i ∷ []) ∙ ap (λ l. code_pairs rows ++ l) (append-nil (pairs_of i) ∙ whole_pairs i ∙ s.pairs pair) ∙ sym (append-nil (code_pairs rows ++ pair ∷ [])) in
      subst (λ ps. Told span.from span.to (code_pairs (rows ++ i ∷ [])) (span ∷ ps)) (sym s.places)
      (subst (λ ps. Told span.from span.to ps (span ∷ [])) (sym pairs)
      (told_choice span span.to some (omega arith) (code_pairs rows ++ pair ∷ []) [] [] [] [] [] (every_append (Own span span.to) (code_pairs rows) (pair ∷ []) own (itself span span.to pair refl refl, tt)) tt tt (told_none span.to span.to)))
  told_kind (choice {span = span} {rows = rows} {yes_rows = ys} {no_rows = ns} test yes_block no_block is h first second) some fits =
      let i = instruction (kinds.If ys ns) span span in
      let pair : Pair = record { doing = span; checking = span } in
      let to = test.span.to in
      let us = unwrap_or no_block [] in
      let text : ((nat_lt span.from to && value_between span.from to test) && in_order to span.to (map text_of yes_block ++ map text_of us)) ≡ true =
      sym (ap (λ k. text_at k span) is ∙ if_text test yes_block no_block span) ∙ fits in
      let front = and_left (nat_lt span.from to && value_between span.from to test) (in_order to span.to (map text_of yes_block ++ map text_of us)) text in
      let begins : span.from < to = ltb-true span.from to (and_left (nat_lt span.from to) (value_between span.from to test) front) in
      let own = own_valued to h (and_right (nat_lt span.from to) (value_between span.from to test) front) in
      let c = cut_at to span.to (map text_of yes_block) (map text_of us) (and_right (nat_lt span.from to && value_between span.from to test) (in_order to span.to (map text_of yes_block ++ map text_of us)) text) in
      let low = less_is to c.mid (map text_of yes_block) c.front in
      let high = less_is c.mid span.to (map text_of us) c.back in
      let a = told_block first in
      let b = told_block second in
      let blocks = told_both a.of_body b.of_body (body_places yes_block) (body_places us) low high (a.told to c.mid c.front) (b.told c.mid span.to c.back) in
      let one : List Pair = pair ∷ [] in
      let mine : Every (Own span to) one = (itself span to pair refl refl, tt) in
      let pairs : code_pairs (rows ++ i ∷ []) ≡ (code_pairs rows ++ one) ++ (a.of_body ++ ((a.ends ++ one) ++ (b.of_body ++ (b.ends ++ one)))) =
      pairs_append rows (i ∷ []) ∙ ap (λ l. code_pairs rows ++ l) (append-nil (pairs_of i) ∙ whole_pairs i ∙ if_pairs ys ns pair
      ∙ ap (λ l. one ++ (l ++ (one ++ (code_pairs ns ++ one)))) a.pairs_are ∙ ap (λ l. one ++ ((a.of_body ++ a.ends) ++ (one ++ (l ++ one)))) b.pairs_are)
      ∙ two_lists (code_pairs rows) one a.of_body a.ends one b.of_body b.ends in
      subst (λ ps. Told span.from span.to (code_pairs (rows ++ i ∷ [])) (span ∷ ps)) (sym (ap places_at is ∙ if_places test yes_block no_block))
      (subst (λ ps. Told span.from span.to ps (span ∷ (body_places yes_block ++ body_places us))) (sym pairs)
      (told_choice span to begins (omega (arith, low, high)) (code_pairs rows ++ one) a.of_body (a.ends ++ one) b.of_body (b.ends ++ one) (body_places yes_block ++ body_places us)
      (every_append (Own span to) (code_pairs rows) one own mine) (every_append (Own span to) a.ends one (a.own to) mine) (every_append (Own span to) b.ends one (b.own to) mine) blocks))

  told_block : {e : Bool} {block : List TypedStmt} {span : Span} {rows : List SlotInstr} → ArrangedBlock e block span rows → BlockPairs block span rows
  told_block (inner {body = block} {span = span} {rows = rows} h) = record {
    of_body = code_pairs rows;
    ends = code_pairs (ended_names block span);
    pairs_are = pairs_append rows (ended_names block span);
    own = λ to. ends_own span (all_names (map scoped_part block)) to;
    told = λ from to is. told_body h from to is;
  }
  told_block (last {body = block} {span = span} {rows = rows} h) = record {
    of_body = code_pairs rows;
    ends = [];
    pairs_are = sym (append-nil (code_pairs rows));
    own = λ to. tt;
    told = λ from to is. told_body h from to is;
  }

  told_body : {e : Bool} {body : List TypedStmt} {rows : List SlotInstr} → ArrangedBody e body rows → (from to : ℕ) → in_order from to (map text_of body) ≡ true → Told from to (code_pairs rows) (body_places body)
  told_body nothing_left from to is = told_none from to
  told_body (in_turn {s = s} {body = body} {rows = rows} {more = more} h rest) from to is =
      let text : ((nat_le from s.span.from && nat_lt s.span.from s.span.to) && (text_at s.kind s.span && in_order s.span.to to (map text_of body))) ≡ true =
      sym (ap (λ (t : Text). (nat_le from t.span.from && nat_lt t.span.from t.span.to) && (t.fits && in_order t.span.to to (map text_of body))) (whole_text s)) ∙ is in
      let first = and_left (nat_le from s.span.from && nat_lt s.span.from s.span.to) (text_at s.kind s.span && in_order s.span.to to (map text_of body)) text in
      let second = and_right (nat_le from s.span.from && nat_lt s.span.from s.span.to) (text_at s.kind s.span && in_order s.span.to to (map text_of body)) text in
      let low = leb-true from s.span.from (and_left (nat_le from s.span.from) (nat_lt s.span.from s.span.to) first) in
      let some = ltb-true s.span.from s.span.to (and_right (nat_le from s.span.from) (nat_lt s.span.from s.span.to) first) in
      let more_text = and_right (text_at s.kind s.span) (in_order s.span.to to (map text_of body)) second in
      let high = less_is s.span.to to (map text_of body) more_text in
      let one = told_kind h some (and_left (text_at s.kind s.span) (in_order s.span.to to (map text_of body)) second) in
      let others = told_body rest s.span.to to more_text in
      subst (λ ps. Told from to (code_pairs (rows ++ more)) (ps ++ body_places body)) (sym (whole_places s))
      (subst (λ ps. Told from to ps ((s.span ∷ places_at s.kind) ++ body_places body)) (sym (pairs_append rows more))
      (told_both (code_pairs rows) (code_pairs more) (s.span ∷ places_at s.kind) (body_places body) (omega (arith, low, some)) high (told_wider low (omega arith) one) others))

pub told_function : (f : Function Slot Ty) (g : SlotFunction) → Arranges f g → IsText f → IsTold f g
told_function f g arranged text =
    let t = told_body arranged.is f.span.from f.span.to text.is in
    record { innermost = t.innermost; ordered = t.ordered }

-- ---- the functions of a contract

functions_told : (fs : List (Function Slot Ty)) (gs : List SlotFunction) → AllZip Arranges fs gs → (from to : ℕ) → in_order from to (map function_text fs) ≡ true → Told from to (all_pairs gs) (all_places fs)
functions_told [] [] h from to is = told_none from to
functions_told [] (g ∷ gs) h from to is = elim h [ ]
functions_told (f ∷ fs) [] h from to is = elim h [ ]
functions_told (f ∷ fs) (g ∷ gs) h from to is =
    let fits = in_order f.span.from f.span.to (map text_of f.body) in
    let more = in_order f.span.to to (map function_text fs) in
    let first = and_left (nat_le from f.span.from && nat_lt f.span.from f.span.to) (fits && more) is in
    let second = and_right (nat_le from f.span.from && nat_lt f.span.from f.span.to) (fits && more) is in
    let low = leb-true from f.span.from (and_left (nat_le from f.span.from) (nat_lt f.span.from f.span.to) first) in
    let some = ltb-true f.span.from f.span.to (and_right (nat_le from f.span.from) (nat_lt f.span.from f.span.to) first) in
    let high = less_is f.span.to to (map function_text fs) (and_right fits more second) in
    told_both (code_pairs g.body) (all_pairs gs) (body_places f.body) (all_places fs) (omega (arith, low, some)) high
    (told_wider low (omega arith) (told_body h.0.is f.span.from f.span.to (and_left fits more second))) (functions_told fs gs h.1 f.span.to to (and_right fits more second))

texts_of : (fs : List (Function Slot Ty)) (from to : ℕ) → in_order from to (map function_text fs) ≡ true → Every IsText fs
texts_of [] from to is = tt
texts_of (f ∷ fs) from to is =
    let fits = in_order f.span.from f.span.to (map text_of f.body) in
    let more = in_order f.span.to to (map function_text fs) in
    let second = and_right (nat_le from f.span.from && nat_lt f.span.from f.span.to) (fits && more) is in
    (record { is = and_left fits more second }, texts_of fs f.span.to to (and_right fits more second))

pub told_contract : (contract : Contract Slot Ty) (lowered : List SlotFunction) → AllZip Arranges contract.functions lowered → IsTextOf contract → AreTold contract lowered
told_contract contract lowered arranged text =
    let t = functions_told contract.functions lowered arranged contract.span.from contract.span.to text.is in
    record { innermost = t.innermost; ordered = t.ordered; texts = texts_of contract.functions contract.span.from contract.span.to text.is }
