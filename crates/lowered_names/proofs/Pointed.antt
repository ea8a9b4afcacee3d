-- Where statements begin in arranged rows, the statements of the source begin, with the same live and kept names.
use Rattle.std.proofs.Common.{◌≡◌, ◌⊎◌, inl, inr, ℕ, ◌+◌, ◌==◌, Bool, true, false, List, [], ◌∷◌, ◌++◌, length, map, refl, sym, ap, ◌∙◌, subst, suc, arith, append_assoc}
use Rattle.std.specs.Prelude.{◌||◌, ◌&&◌, not, filter, Option, Some, None, if◌then◌else◌, unwrap_or}
use Rattle.std.proofs.lemmas.List.{append-nil}
use Rattle.std.proofs.lemmas.Bool.{eqb-true}
use Rattle.cash_base.specs.declared.place.Slot.{Slot}
use Rattle.cash_base.specs.declared.place.Span.{Span}
use Rattle.cash_tree.specs.declared.Ty.{Ty}
use Rattle.cash_tree.specs.declared.Param.{Param}
use Rattle.cash_tree.specs.declared.Contract.{Contract}
use Rattle.cash_tree.specs.declared.Function.{Function}
use Rattle.cash_tree.specs.declared.Stmt.{Stmt}
use Rattle.cash_tree.specs.declared.StmtKind.{StmtKind}
use Rattle.slot_code.specs.declared.slots.SlotInstr.{SlotInstr}
use Rattle.slot_code.specs.declared.slots.SlotKind.{SlotKind}
use Rattle.slot_code.specs.declared.slots.SlotFunction.{SlotFunction}
use Rattle.slot_code.specs.declared.slots.SlotKind.TheVariants as kinds
use Rattle.slot_code.specs.Shape.{Place, shapes_of, shapes_at, all_shapes, path_shape, inside, with_seen, has_span, has, first_slots, start}
use Rattle.slot_liveness.specs.Live.{all_later, reads_of, read_in, later, only_other, kept, hold}
use Rattle.slot_liveness.proofs.Sets.{has_append, has_filter}
use Rattle.slot_expressions.specs.Pieces.{instruction}
use Rattle.slot_expressions.specs.Reads.{all_gets, gets_at, names_in}
use Rattle.slot_expressions.proofs.Tests.{and_left, and_right}
use Rattle.slot_lowering.specs.Scoped.{part_of as scoped_part, all_names}
use Rattle.slot_lowering.specs.Functions.{in_slots, CanLowerFunction, HasCounts, Arranges, function_fits}
use Rattle.slot_lowering.specs.Arranged.{ArrangedKind, simple, choice, ArrangedBlock, inner, last, ArrangedBody, nothing_left, in_turn, ended_names}
use Rattle.lowered_names.specs.Names.{Part, Around, Point, part_of, part_at, parts_of, reads, all_read, none, either, within, at_first, at_rest, at_start, points_of, both_points, block_points, in_block, is_live, is_kept, point, points, names_of}
use Rattle.lowered_names.specs.Points.{Begins, here, behind, in_yes, in_no, in_no_path, Among, IsPointOf, HasPoints}
use Rattle.lowered_names.proofs.PartSteps.{TypedStmt, whole_part, if_part, choice_part}
use Rattle.lowered_names.proofs.Rows.{same_some, reads_at, whole_reads, is_value, end_reads, if_gets, IsValue, same_yes, same_no}
use Rattle.lowered_names.proofs.Growing.{Grows, Begun, AllGrow, Step, step_inner, front_of, IsFinal, Moves, final_of, if_slots, if_grows, if_goes_on, end_ends, end_row_grows, grow_all, grow_path, kind_grows, block_grows}
use Rattle.lowered_names.proofs.Reading.{or_assoc, or_nothing, later_append, values_read, block_reads, body_reads, if_both}

-- ---- points among others

record Inc (small all : List Point) : Type 0 where
  to : (x : Point) → Among small x → Among all x

among_left : (xs ys : List Point) (x : Point) → Among xs x → Among (xs ++ ys) x
among_left [] ys x h = elim h [ ]
among_left (z ∷ xs) ys x (inl is) = inl is
among_left (z ∷ xs) ys x (inr h) = inr (among_left xs ys x h)

among_right : (xs ys : List Point) (x : Point) → Among ys x → Among (xs ++ ys) x
among_right [] ys x h = h
among_right (z ∷ xs) ys x h = inr (among_right xs ys x h)

inc_left : {all : List Point} (xs ys : List Point) → Inc (xs ++ ys) all → Inc xs all
inc_left xs ys inc = record { to = λ x h. inc.to x (among_left xs ys x h) }

inc_right : {all : List Point} (xs ys : List Point) → Inc (xs ++ ys) all → Inc ys all
inc_right xs ys inc = record { to = λ x h. inc.to x (among_right xs ys x h) }

-- ---- what is known around

record Fit (body : List SlotInstr) (around : Around) (after held : List Slot) : Type 0 where
  after_is : (slot : Slot) → has slot after ≡ around.behind slot
  held_is : (slot : Slot) → has slot held ≡ around.other slot
  reads_is : (slot : Slot) → read_in body slot ≡ around.function slot

fit_rest : {body : List SlotInstr} {around : Around} {after held : List Slot} (kp : Part) → Fit body around after held → Fit body (at_rest kp around) after held
fit_rest kp h = record { after_is = h.after_is; held_is = h.held_is; reads_is = h.reads_is }

-- rows that end names of a statement that has begun
abbrev IsTail : List SlotInstr → Place → Type 0
IsTail [] p = Unit {0}
IsTail (i ∷ rest) p = ((slot : Slot) × (i.kind ≡ kinds.End slot)) × (has_span i.checking p.seen ≡ true) × IsTail rest p

tail_grows : (tail : List SlotInstr) (p q : Place) → Grows p q → IsTail tail p → IsTail tail q
tail_grows [] p q g h = tt
tail_grows (i ∷ rest) p q g h = (h.0, g i.checking h.1, tail_grows rest p q g h.2)

tail_reads : (tail : List SlotInstr) (p : Place) → IsTail tail p → (slot : Slot) (t : Bool) → all_later (map reads_of tail) slot t ≡ t
tail_reads [] p h slot t = refl
tail_reads (i ∷ rest) p h slot t =
    ap (λ r. r slot || all_later (map reads_of rest) slot t) (whole_reads i) ∙ ap (λ k. reads_at k slot || all_later (map reads_of rest) slot t) h.0.1
    ∙ ap (λ b. b || all_later (map reads_of rest) slot t) (end_reads h.0.0 slot) ∙ tail_reads rest p h.2 slot t

ended_tail : (span : Span) (names : List Slot) (p : Place) → has_span span p.seen ≡ true → IsTail (map (λ (slot : Slot). instruction (kinds.End slot) span span) names) p
ended_tail span [] p there = tt
ended_tail span (name ∷ names) p there = ((name, refl), there, ended_tail span names p there)

-- ---- the last row of a statement

data Final (span : Span) (kp : Part) (i : SlotInstr) : Type 0 where
  plain_row : (row : SlotKind) (names : List Slot) → i ≡ instruction row span span → IsFinal row names → ((ys ns : List SlotInstr) → row ≡ kinds.If ys ns → ⊥) → kp.defines ≡ names → Final span kp i
  choice_row : (ends_path : Bool) (ys ns : List SlotInstr) (yes_block no_block : List TypedStmt) → i ≡ instruction (kinds.If ys ns) span span → ArrangedBlock ends_path yes_block span ys → ArrangedBlock ends_path no_block span ns
      → kp.defines ≡ [] → kp.points ≡ both_points (parts_of yes_block) (parts_of no_block) → Final span kp i

record Opened (kind : StmtKind Slot Ty) (span : Span) (rows : List SlotInstr) : Type 0 where
  vals : List SlotInstr
  final : SlotInstr
  names : List Slot
  rows_are : rows ≡ vals ++ final ∷ []
  some : vals ≡ [] → ⊥
  gets : all_gets span vals ≡ Some names
  fin : Final span (part_at kind) final
  reads_it : (slot : Slot) → (has slot names || reads_of final slot) ≡ (part_at kind).reads slot

open_kind : {e : Bool} {kind : StmtKind Slot Ty} {span : Span} {rows : List SlotInstr} → ArrangedKind e kind span rows → Opened kind span rows
open_kind (simple {span = span} {rows = rows} value row is h) =
    let f = final_of is in record {
      vals = rows;
      final = instruction row span span;
      names = names_in value;
      rows_are = refl;
      some = h.some;
      gets = h.gets.is;
      fin = plain_row row f.names refl f.final f.no_choice (ap (λ (p : Part). p.defines) f.part_is);
      reads_it = λ slot. ap (λ r. has slot (names_in value) || r slot) (whole_reads (instruction row span span)) ∙ ap (λ b. has slot (names_in value) || b) (f.reads_none slot)
          ∙ or_nothing (has slot (names_in value)) ∙ sym (ap (λ (p : Part). p.reads slot) f.part_is);
    }
open_kind (choice {ends_path = e} {span = span} {rows = rows} {yes_rows = ys} {no_rows = ns} test yes_block no_block is h first second) =
    let at = ap part_at is ∙ if_part test yes_block no_block in record {
      vals = rows;
      final = instruction (kinds.If ys ns) span span;
      names = names_in test;
      rows_are = refl;
      some = h.some;
      gets = h.gets.is;
      fin = choice_row e ys ns yes_block (unwrap_or no_block []) refl first second (ap (λ (p : Part). p.defines) at) (ap (λ (p : Part). p.points) at);
      reads_it = λ slot.
          ap (λ r. has slot (names_in test) || r slot) (whole_reads (instruction (kinds.If ys ns) span span))
          ∙ ap (λ b. has slot (names_in test) || b) (if_both ys ns first second slot) ∙ sym (ap (λ (p : Part). p.reads slot) at);
    }

-- ---- places in the text

data Spot (all : List Point) (instrs : List SlotInstr) (around : Around) (p : Place) : Type 0 where
  between : (ends_path : Bool) (ss : List TypedStmt) (rows tail : List SlotInstr) → ArrangedBody ends_path ss rows → IsTail tail p → instrs ≡ rows ++ tail → p.slots ≡ around.scope
      → Inc (points_of (parts_of ss) around) all → Spot all instrs around p
  amid : (ends_path : Bool) (ss : List TypedStmt) (more tail vals : List SlotInstr) (final : SlotInstr) (names : List Slot) (span : Span) (kp : Part) → ArrangedBody ends_path ss more → IsTail tail p
      → all_gets span vals ≡ Some names → has_span span p.seen ≡ true → Final span kp final → instrs ≡ vals ++ (final ∷ (more ++ tail)) → p.slots ≡ around.scope
      → Inc (kp.points (at_first (parts_of ss) around)) all → Inc (points_of (parts_of ss) (at_rest kp around)) all → Spot all instrs around p
  over : IsTail instrs p → Spot all instrs around p

-- ---- lists

head_same : {A : Type 0} (a b : A) (xs ys : List A) → a ∷ xs ≡ b ∷ ys → a ≡ b
head_same a b xs ys is = cc

tail_same : {A : Type 0} (a b : A) (xs ys : List A) → a ∷ xs ≡ b ∷ ys → xs ≡ ys
tail_same a b xs ys is = cc

filter_same : (f g : Slot → Bool) → ((slot : Slot) → f slot ≡ g slot) → (xs : List Slot) → filter f xs ≡ filter g xs
filter_same f g same [] = refl
filter_same f g same (x ∷ xs) = ap (λ b. if b then x ∷ filter f xs else filter f xs) (same x) ∙ ap (λ l. if g x then x ∷ l else l) (filter_same f g same xs)

contrary : {A : Type 0} (b : Bool) → b ≡ true → b ≡ false → A
contrary true is also = absurd cc
contrary false is also = absurd cc

if_grown : {e f : Bool} {yes_block no_block : List TypedStmt} {span : Span} (ys ns : List SlotInstr) → ArrangedBlock e yes_block span ys → ArrangedBlock f no_block span ns → (p q : Place) → (shapes_at (kinds.If ys ns)).inner p ≡ Some q → Grows p q
if_grown ys ns first second p q to = (if_grows ys ns (block_grows first) (block_grows second)).inner p q to

none_kept : (f : Slot → Bool) (s : Slot) (xs : List Slot) → has s xs ≡ false → has s (filter f xs) ≡ false
none_kept f s [] is = refl
none_kept f s (x ∷ xs) is = by_tests (λ free. none_kept f s xs free) (x.0 == s.0) (f x) refl is
  where
    by_tests : (has s xs ≡ false → has s (filter f xs) ≡ false) → (b : Bool) (c : Bool) → (x.0 == s.0) ≡ b → (b || has s xs) ≡ false → has s (if c then x ∷ filter f xs else filter f xs) ≡ false
    by_tests rest true c same is = absurd cc
    by_tests rest false true same is = ap (λ b. b || has s (filter f xs)) same ∙ rest is
    by_tests rest false false same is = rest is

has_kept : (f : Slot → Bool) (s : Slot) (xs : List Slot) → has s (filter f xs) ≡ (has s xs && f s)
has_kept f s xs = by_test (has s xs) refl
  where
    by_test : (b : Bool) → has s xs ≡ b → has s (filter f xs) ≡ (has s xs && f s)
    by_test true there = has_filter f s xs there ∙ sym (ap (λ b. b && f s) there)
    by_test false free = none_kept f s xs free ∙ sym (ap (λ b. b && f s) free)

-- ---- a statement begins

record Start (all : List Point) (around : Around) (instr : SlotInstr) (rest : List SlotInstr) (p : Place) : Type 0 where
  s : TypedStmt
  ends_path : Bool
  ss : List TypedStmt
  more : List SlotInstr
  tail : List SlotInstr
  vals : List SlotInstr
  final : SlotInstr
  names : List Slot
  body : ArrangedBody ends_path ss more
  tail_is : IsTail tail p
  gets : all_gets s.span (instr ∷ vals) ≡ Some names
  fin : Final s.span (part_at s.kind) final
  rest_is : rest ≡ vals ++ (final ∷ (more ++ tail))
  reads_it : (slot : Slot) → (has slot names || reads_of final slot) ≡ (part_at s.kind).reads slot
  slots : p.slots ≡ around.scope
  own : Among all (point s.span (part_at s.kind) (at_first (parts_of ss) around))
  inner_points : Inc ((part_at s.kind).points (at_first (parts_of ss) around)) all
  later_points : Inc (points_of (parts_of ss) (at_rest (part_at s.kind) around)) all

open_points : {all : List Point} (s : TypedStmt) (ss : List TypedStmt) (around : Around) → Inc (points_of (parts_of (s ∷ ss)) around) all
    → Inc ((point s.span (part_at s.kind) (at_first (parts_of ss) around) ∷ (part_at s.kind).points (at_first (parts_of ss) around)) ++ points_of (parts_of ss) (at_rest (part_at s.kind) around)) all
open_points {all} s ss around inc = subst (λ (q : Part). Inc (q.points (at_first (parts_of ss) around) ++ points_of (parts_of ss) (at_rest q around)) all) (whole_part s) inc

start_at : {all : List Point} {around : Around} {instr : SlotInstr} {rest : List SlotInstr} {p : Place} (s : TypedStmt) (ends_path : Bool) (ss : List TypedStmt) (more tail : List SlotInstr) (final : SlotInstr) (names : List Slot)
    → ArrangedBody ends_path ss more → IsTail tail p → Final s.span (part_at s.kind) final → ((slot : Slot) → (has slot names || reads_of final slot) ≡ (part_at s.kind).reads slot) → p.slots ≡ around.scope
    → Inc (points_of (parts_of (s ∷ ss)) around) all
    → (vals : List SlotInstr) → (vals ≡ [] → ⊥) → all_gets s.span vals ≡ Some names → instr ∷ rest ≡ vals ++ (final ∷ (more ++ tail)) → Start all around instr rest p
start_at s ends_path ss more tail final names body tail_is fin reads_it slots inc [] some gets is = absurd (some refl)
start_at {all} {around} {instr} {rest} {p} s ends_path ss more tail final names body tail_is fin reads_it slots inc (v ∷ vals) some gets is =
    let a = at_first (parts_of ss) around in
    let opened = open_points s ss around inc in
    let front = inc_left (point s.span (part_at s.kind) a ∷ (part_at s.kind).points a) (points_of (parts_of ss) (at_rest (part_at s.kind) around)) opened in record {
      s = s;
      ends_path = ends_path;
      ss = ss;
      more = more;
      tail = tail;
      vals = vals;
      final = final;
      names = names;
      body = body;
      tail_is = tail_is;
      gets = subst (λ i. all_gets s.span (i ∷ vals) ≡ Some names) (sym (head_same instr v rest (vals ++ (final ∷ (more ++ tail))) is)) gets;
      fin = fin;
      rest_is = tail_same instr v rest (vals ++ (final ∷ (more ++ tail))) is;
      reads_it = reads_it;
      slots = slots;
      own = front.to (point s.span (part_at s.kind) a) (inl refl);
      inner_points = record { to = λ x h. front.to x (inr h) };
      later_points = inc_right (point s.span (part_at s.kind) a ∷ (part_at s.kind).points a) (points_of (parts_of ss) (at_rest (part_at s.kind) around)) opened;
    }

-- between statements one begins, or only ends of names are left
start_or_over : {all : List Point} {around : Around} {p : Place} {e : Bool} {ss : List TypedStmt} {rows : List SlotInstr} (tail : List SlotInstr) (instr : SlotInstr) (rest : List SlotInstr)
    → ArrangedBody e ss rows → IsTail tail p → instr ∷ rest ≡ rows ++ tail → p.slots ≡ around.scope → Inc (points_of (parts_of ss) around) all
    → Start all around instr rest p ⊎ IsTail (instr ∷ rest) p
start_or_over {all} {around} {p} tail instr rest nothing_left tail_is is slots inc = inr (subst (λ l. IsTail l p) (sym is) tail_is)
start_or_over {all} {around} {p} tail instr rest (in_turn {ends_path = e} {s = s} {body = ss} {rows = rows} {more = more} h body) tail_is is slots inc =
    let o = open_kind h in
    let whole : instr ∷ rest ≡ o.vals ++ (o.final ∷ (more ++ tail)) =
    is ∙ append_assoc rows more tail ∙ ap (λ l. l ++ (more ++ tail)) o.rows_are ∙ append_assoc o.vals (o.final ∷ []) (more ++ tail) in
    inl (start_at s e ss more tail o.final o.names body tail_is o.fin o.reads_it slots inc o.vals o.some o.gets whole)

-- what is read behind a statement's rows
behind_reads : {e : Bool} {ss : List TypedStmt} {more : List SlotInstr} (tail : List SlotInstr) (p : Place) → ArrangedBody e ss more → IsTail tail p → (slot : Slot) (t : Bool)
    → all_later (map reads_of (more ++ tail)) slot t ≡ (all_read (parts_of ss) slot || t)
behind_reads {e} {ss} {more} tail p body tail_is slot t =
    later_append more tail slot t ∙ ap (all_later (map reads_of more) slot) (tail_reads tail p tail_is slot t) ∙ body_reads body slot t

live_here : {all : List Point} {body : List SlotInstr} {around : Around} {after held : List Slot} {instr : SlotInstr} {rest : List SlotInstr} {p : Place} (st : Start all around instr rest p) → Fit body around after held → (slot : Slot)
    → later (instr ∷ rest) after slot ≡ is_live (part_at st.s.kind) (at_first (parts_of st.ss) around) slot
live_here {all} {body} {around} {after} {held} {instr} {rest} {p} st fit slot =
    let t = has slot after in
    let behind_it = st.final ∷ (st.more ++ st.tail) in
    ap (λ l. all_later (map reads_of (instr ∷ l)) slot t) st.rest_is
    ∙ later_append (instr ∷ st.vals) behind_it slot t
    ∙ values_read st.s.span (instr ∷ st.vals) st.names st.gets slot (all_later (map reads_of behind_it) slot t)
    ∙ ap (λ b. has slot st.names || (reads_of st.final slot || b)) (behind_reads st.tail p st.body st.tail_is slot t)
    ∙ sym (or_assoc (has slot st.names) (reads_of st.final slot) (all_read (parts_of st.ss) slot || t))
    ∙ ap (λ b. b || (all_read (parts_of st.ss) slot || t)) (st.reads_it slot)
    ∙ ap (λ b. (part_at st.s.kind).reads slot || (all_read (parts_of st.ss) slot || b)) (fit.after_is slot)

at_start_of : {all : List Point} {body : List SlotInstr} {around : Around} {after held : List Slot} {instr : SlotInstr} {rest : List SlotInstr} {p : Place} → Start all around instr rest p → Fit body around after held
    → IsPointOf all instr.checking (filter (later (instr ∷ rest) after) p.slots) (filter (kept (later (instr ∷ rest) after) (hold body held)) p.slots)
at_start_of {all} {body} {around} {after} {held} {instr} {rest} {p} st fit =
    let a = at_first (parts_of st.ss) around in
    let kp = part_at st.s.kind in
    let f = front_of st.s.span instr st.vals st.names st.gets in record {
      point = point st.s.span kp a;
      among = st.own;
      statement = sym f.at;
      live_is = sym (filter_same (later (instr ∷ rest) after) (is_live kp a) (λ slot. live_here st fit slot) p.slots ∙ ap (filter (is_live kp a)) st.slots);
      kept_is = sym (filter_same (kept (later (instr ∷ rest) after) (hold body held)) (is_kept kp a)
          (λ slot. ap (λ b. b || hold body held slot) (live_here st fit slot)
          ∙ ap (λ b. is_live kp a slot || (b || not (read_in body slot))) (fit.held_is slot)
          ∙ ap (λ b. is_live kp a slot || (around.other slot || not b)) (fit.reads_is slot)) p.slots
          ∙ ap (filter (is_kept kp a)) st.slots);
    }

-- amid a statement none begins
begun_before : {span : Span} {instr : SlotInstr} {rest : List SlotInstr} {names : List Slot} {kp : Part} {final : SlotInstr} (p : Place) (others : List SlotInstr) (vals : List SlotInstr) → all_gets span vals ≡ Some names → Final span kp final
    → has_span span p.seen ≡ true → instr ∷ rest ≡ vals ++ (final ∷ others) → has_span instr.checking p.seen ≡ true
begun_before {span} {instr} {rest} {names} {kp} {final} p others [] gets fin there is =
    ap (λ (i : SlotInstr). has_span i.checking p.seen) (head_same instr final rest others is) ∙ ap (λ s. has_span s p.seen) (final_span fin) ∙ there
  where
    final_span : Final span kp final → final.checking ≡ span
    final_span (plain_row row names i h n d) = ap (λ (i : SlotInstr). i.checking) i
    final_span (choice_row e ys ns yes_block no_block i first second d q) = ap (λ (i : SlotInstr). i.checking) i
begun_before {span} {instr} {rest} {names} {kp} {final} p others (v ∷ vals) gets fin there is =
    let f = front_of span v vals names gets in
    ap (λ (i : SlotInstr). has_span i.checking p.seen) (head_same instr v rest (vals ++ (final ∷ others)) is) ∙ ap (λ s. has_span s p.seen) f.at ∙ there

at_here : {all : List Point} {body : List SlotInstr} {around : Around} {after held : List Slot} {p : Place} (instr : SlotInstr) (rest : List SlotInstr) → Spot all (instr ∷ rest) around p → Fit body around after held → has_span instr.checking p.seen ≡ false
    → IsPointOf all instr.checking (filter (later (instr ∷ rest) after) p.slots) (filter (kept (later (instr ∷ rest) after) (hold body held)) p.slots)
at_here {all} {body} {around} {after} {held} {p} instr rest (between e ss rows tail h tail_is is slots inc) fit unseen = by_start (start_or_over tail instr rest h tail_is is slots inc)
  where
    by_start : Start all around instr rest p ⊎ IsTail (instr ∷ rest) p → IsPointOf all instr.checking (filter (later (instr ∷ rest) after) p.slots) (filter (kept (later (instr ∷ rest) after) (hold body held)) p.slots)
    by_start (inl st) = at_start_of st fit
    by_start (inr done) = contrary (has_span instr.checking p.seen) done.1 unseen
at_here {all} {body} {around} {after} {held} {p} instr rest (amid e ss more tail vals final names span kp h tail_is gets there fin is slots first second) fit unseen =
    contrary (has_span instr.checking p.seen) (begun_before p (more ++ tail) vals gets fin there is) unseen
at_here {all} {body} {around} {after} {held} {p} instr rest (over tail_is) fit unseen = contrary (has_span instr.checking p.seen) tail_is.1 unseen

-- ---- one instruction further

record Next (all : List Point) (rest : List SlotInstr) (around : Around) (q : Place) : Type 0 where
  now : Around
  fit : (body : List SlotInstr) (after held : List Slot) → Fit body around after held → Fit body now after held
  spot : Spot all rest now q

value_step : {names : List Slot} (i : SlotInstr) (p q : Place) → IsValue i.kind names → (shapes_of i).inner p ≡ Some q → Begun i.checking p q
value_step i p q h is =
    let t = step_inner i p q is in
    let still = h.inner t.mid q t.to in record {
      grows = λ s there. ap (has_span s) still.seen ∙ t.begun.grows s there;
      begun = ap (has_span i.checking) still.seen ∙ t.begun.begun;
      slots = still.slots ∙ t.begun.slots;
    }

-- behind a row of a value
amid_more : {all : List Point} {around : Around} (instr : SlotInstr) {rest : List SlotInstr} (p q : Place) (e : Bool) (ss : List TypedStmt) (more tail vals : List SlotInstr) (final : SlotInstr) (names : List Slot) (span : Span) (kp : Part)
    → ArrangedBody e ss more → IsTail tail p → all_gets span (instr ∷ vals) ≡ Some names → Final span kp final → rest ≡ vals ++ (final ∷ (more ++ tail)) → p.slots ≡ around.scope
    → Inc (kp.points (at_first (parts_of ss) around)) all → Inc (points_of (parts_of ss) (at_rest kp around)) all → (shapes_of instr).inner p ≡ Some q → Next all rest around q
amid_more {all} {around} instr {rest} p q e ss more tail vals final names span kp h tail_is gets fin rest_is slots first second is =
    let f = front_of span instr vals names gets in
    let b = value_step instr p q (is_value instr.kind f.first f.got) is in record {
      now = around;
      fit = λ body after held fit. fit;
      spot = amid e ss more tail vals final f.others span kp h (tail_grows tail p q b.grows tail_is) f.rest (sym (ap (λ s. has_span s q.seen) f.at) ∙ b.begun) fin rest_is (b.slots ∙ slots) first second;
    }

-- behind the last row of a statement
behind_last : {all : List Point} {around : Around} {instr : SlotInstr} {rest : List SlotInstr} (p q : Place) (e : Bool) (ss : List TypedStmt) (more tail : List SlotInstr) (span : Span) (kp : Part)
    → ArrangedBody e ss more → IsTail tail p → Final span kp instr → rest ≡ more ++ tail → p.slots ≡ around.scope → Inc (points_of (parts_of ss) (at_rest kp around)) all → (shapes_of instr).inner p ≡ Some q → Next all rest around q
behind_last {all} {around} {instr} {rest} p q e ss more tail span kp h tail_is (plain_row row names i_is final no_choice defines) rest_is slots inc is =
    let t = step_inner instr p q is in
    let m = final.inner t.mid q (sym (ap (λ (i : SlotInstr). (shapes_at i.kind).inner t.mid) i_is) ∙ t.to) in
    let g : Grows p q = λ s there. ap (has_span s) m.seen ∙ t.begun.grows s there in record {
      now = at_rest kp around;
      fit = λ body after held fit. fit_rest kp fit;
      spot = between e ss more tail h (tail_grows tail p q g tail_is) rest_is (m.slots ∙ ap (λ l. l ++ names) (t.begun.slots ∙ slots) ∙ ap (λ l. around.scope ++ l) (sym defines)) inc;
    }
behind_last {all} {around} {instr} {rest} p q e ss more tail span kp h tail_is (choice_row ends ys ns yes_block no_block i_is first second defines kp_points) rest_is slots inc is =
    let t = step_inner instr p q is in
    let to = sym (ap (λ (i : SlotInstr). (shapes_at i.kind).inner t.mid) i_is) ∙ t.to in
    let grown = if_grown ys ns first second t.mid q to in
    let g : Grows p q = λ s there. grown s (t.begun.grows s there) in record {
      now = at_rest kp around;
      fit = λ body after held fit. fit_rest kp fit;
      spot = between e ss more tail h (tail_grows tail p q g tail_is) rest_is
          (if_slots ys ns t.mid q to ∙ t.begun.slots ∙ slots ∙ sym (append-nil around.scope) ∙ ap (λ l. around.scope ++ l) (sym defines)) inc;
    }

at_behind : {all : List Point} {around : Around} (p q : Place) (instr : SlotInstr) (rest : List SlotInstr) → Spot all (instr ∷ rest) around p → (shapes_of instr).inner p ≡ Some q → Next all rest around q
at_behind {all} {around} p q instr rest (between e ss rows tail h tail_is is slots inc) to = by_start (start_or_over tail instr rest h tail_is is slots inc)
  where
    by_start : Start all around instr rest p ⊎ IsTail (instr ∷ rest) p → Next all rest around q
    by_start (inl st) =
        amid_more instr p q st.ends_path st.ss st.more st.tail st.vals st.final st.names st.s.span (part_at st.s.kind) st.body st.tail_is st.gets st.fin st.rest_is st.slots st.inner_points st.later_points to
    by_start (inr done) = record { now = around; fit = λ body after held fit. fit; spot = over (tail_grows rest p q ((end_row_grows instr done.0.0 done.0.1).inner p q to) done.2) }
at_behind {all} {around} p q instr rest (amid e ss more tail [] final names span kp h tail_is gets there fin is slots first second) to =
    behind_last p q e ss more tail span kp h tail_is (subst (Final span kp) (sym (head_same instr final rest (more ++ tail) is)) fin) (tail_same instr final rest (more ++ tail) is) slots second to
at_behind {all} {around} p q instr rest (amid e ss more tail (v ∷ vals) final names span kp h tail_is gets there fin is slots first second) to =
    amid_more instr p q e ss more tail vals final names span kp h tail_is
    (subst (λ i. all_gets span (i ∷ vals) ≡ Some names) (sym (head_same instr v rest (vals ++ (final ∷ (more ++ tail))) is)) gets) fin (tail_same instr v rest (vals ++ (final ∷ (more ++ tail))) is) slots first second to
at_behind {all} {around} p q instr rest (over tail_is) to =
    record { now = around; fit = λ body after held fit. fit; spot = over (tail_grows rest p q ((end_row_grows instr tail_is.0.0 tail_is.0.1).inner p q to) tail_is.2) }

-- ---- into a block

-- the last row of a statement, which is this choice
record AtChoice (all : List Point) (around : Around) (rest ys ns : List SlotInstr) (p : Place) : Type 0 where
  ends_path : Bool
  ss : List TypedStmt
  more : List SlotInstr
  tail : List SlotInstr
  span : Span
  yes_block : List TypedStmt
  no_block : List TypedStmt
  body : ArrangedBody ends_path ss more
  tail_is : IsTail tail p
  rest_is : rest ≡ more ++ tail
  first_ends : Bool
  first : ArrangedBlock first_ends yes_block span ys
  second : ArrangedBlock first_ends no_block span ns
  there : has_span span p.seen ≡ true
  slots : p.slots ≡ around.scope
  yes_points : Inc (block_points (parts_of yes_block) (parts_of no_block) (at_first (parts_of ss) around)) all
  no_points : Inc (block_points (parts_of no_block) (parts_of yes_block) (at_first (parts_of ss) around)) all

no_value : {A : Type 0} {names : List Slot} (i : SlotInstr) (ys ns : List SlotInstr) → gets_at i.kind ≡ Some names → i.kind ≡ kinds.If ys ns → A
no_value {A} {names} i ys ns got is = let never : None ≡ Some names = sym (if_gets ys ns) ∙ sym (ap gets_at is) ∙ got in absurd cc

ends_no_choice : {A : Type 0} (i : SlotInstr) (slot : Slot) (ys ns : List SlotInstr) → i.kind ≡ kinds.End slot → i.kind ≡ kinds.If ys ns → A
ends_no_choice i slot ys ns is also =
    contrary ((shapes_at i.kind).is_end) (ap (λ k. (shapes_at k).is_end) is ∙ end_ends slot) (ap (λ k. (shapes_at k).is_end) also ∙ if_goes_on ys ns)

at_choice : {all : List Point} {around : Around} (p : Place) (instr : SlotInstr) (rest ys ns : List SlotInstr) → Spot all (instr ∷ rest) around p → instr.kind ≡ kinds.If ys ns → AtChoice all around rest ys ns p
at_choice {all} {around} p instr rest ys ns (between e ss rows tail h tail_is is slots inc) if_is = by_start (start_or_over tail instr rest h tail_is is slots inc)
  where
    by_start : Start all around instr rest p ⊎ IsTail (instr ∷ rest) p → AtChoice all around rest ys ns p
    by_start (inl st) = let f = front_of st.s.span instr st.vals st.names st.gets in no_value instr ys ns f.got if_is
    by_start (inr done) = ends_no_choice instr done.0.0 ys ns done.0.1 if_is
at_choice {all} {around} p instr rest ys ns (over tail_is) if_is = ends_no_choice instr tail_is.0.0 ys ns tail_is.0.1 if_is
at_choice {all} {around} p instr rest ys ns (amid e ss more tail (v ∷ vals) final names span kp h tail_is gets there fin is slots first second) if_is =
    let f = front_of span v vals names gets in
    let same = head_same instr v rest (vals ++ (final ∷ (more ++ tail))) is in
    no_value v ys ns f.got (sym (ap (λ (i : SlotInstr). i.kind) same) ∙ if_is)
at_choice {all} {around} p instr rest ys ns (amid e ss more tail [] final names span kp h tail_is gets there (plain_row row defs i_is final_is no_choice defines) is slots first second) if_is =
    absurd (no_choice ys ns (sym (ap (λ (i : SlotInstr). i.kind) (head_same instr final rest (more ++ tail) is ∙ i_is)) ∙ if_is))
at_choice {all} {around} p instr rest ys ns (amid e ss more tail [] final names span kp h tail_is gets there (choice_row ends ys0 ns0 yes_block no_block i_is first second defines kp_points) is slots inner_inc later_inc) if_is =
    let same : kinds.If ys0 ns0 ≡ kinds.If ys ns = sym (ap (λ (i : SlotInstr). i.kind) (head_same instr final rest (more ++ tail) is ∙ i_is)) ∙ if_is in
    let a = at_first (parts_of ss) around in
    let both : Inc (both_points (parts_of yes_block) (parts_of no_block) a) all = subst (λ (f : Around → List Point). Inc (f a) all) kp_points inner_inc in record {
      ends_path = e;
      ss = ss;
      more = more;
      tail = tail;
      span = span;
      yes_block = yes_block;
      no_block = no_block;
      body = h;
      tail_is = tail_is;
      rest_is = tail_same instr final rest (more ++ tail) is;
      first_ends = ends;
      first = subst (ArrangedBlock ends yes_block span) (same_yes ys0 ns0 ys ns same) first;
      second = subst (ArrangedBlock ends no_block span) (same_no ys0 ns0 ys ns same) second;
      there = there;
      slots = slots;
      yes_points = inc_left (block_points (parts_of yes_block) (parts_of no_block) a) (block_points (parts_of no_block) (parts_of yes_block) a) both;
      no_points = inc_right (block_points (parts_of yes_block) (parts_of no_block) a) (block_points (parts_of no_block) (parts_of yes_block) a) both;
    }

-- what a block has behind it, and what is held in it
block_fit : {body : List SlotInstr} {around : Around} {after held : List Slot} {rest : List SlotInstr} {e f : Bool} {ss own_block other_block : List TypedStmt} {more own other : List SlotInstr} {span : Span} (tail : List SlotInstr) (p : Place)
    → ArrangedBody e ss more → IsTail tail p → rest ≡ more ++ tail → ArrangedBlock f own_block span own → ArrangedBlock f other_block span other → p.slots ≡ around.scope → Fit body around after held
    → Fit body (in_block (parts_of own_block) (parts_of other_block) (at_first (parts_of ss) around)) (filter (later rest after) p.slots) (held ++ filter (only_other own other) p.slots)
block_fit {body} {around} {after} {held} {rest} {e} {f} {ss} {own_block} {other_block} {more} {own} {other} {span} tail p h tail_is rest_is first second slots fit = record {
  after_is = λ slot.
      has_kept (later rest after) slot p.slots ∙ ap (λ l. has slot l && later rest after slot) slots
      ∙ ap (λ b. has slot around.scope && b) (ap (λ l. all_later (map reads_of l) slot (has slot after)) rest_is ∙ behind_reads tail p h tail_is slot (has slot after)
      ∙ ap (λ b. all_read (parts_of ss) slot || b) (fit.after_is slot));
  held_is = λ slot.
      has_append slot held (filter (only_other own other) p.slots) ∙ ap (λ b. b || has slot (filter (only_other own other) p.slots)) (fit.held_is slot)
      ∙ ap (λ b. around.other slot || b) (has_kept (only_other own other) slot p.slots ∙ ap (λ l. has slot l && only_other own other slot) slots
      ∙ ap (λ b. has slot around.scope && (b && not (read_in own slot))) (block_reads second slot false ∙ or_nothing (all_read (parts_of other_block) slot))
      ∙ ap (λ b. has slot around.scope && (all_read (parts_of other_block) slot && not b)) (block_reads first slot false ∙ or_nothing (all_read (parts_of own_block) slot)));
  reads_is = fit.reads_is;
}

block_spot : {all : List Point} {around : Around} {f : Bool} {block : List TypedStmt} {rows : List SlotInstr} {span : Span} (p : Place) → ArrangedBlock f block span rows → has_span span p.seen ≡ true → p.slots ≡ around.scope
    → Inc (points_of (parts_of block) around) all → Spot all rows around p
block_spot {all} {around} p (inner {body = block} {span = span} {rows = rows} h) there slots inc =
    between false block rows (ended_names block span) h (ended_tail span (all_names (map scoped_part block)) p there) refl slots inc
block_spot {all} {around} p (last {body = block} {rows = rows} h) there slots inc = between true block rows [] h tt (sym (append-nil rows)) slots inc

-- ---- all points

found : {all : List Point} {body instrs : List SlotInstr} {after held : List Slot} {p : Place} {span : Span} {reads keeps : List Slot} (around : Around) → Begins body instrs after held p span reads keeps → Fit body around after held → Spot all instrs around p → IsPointOf all span reads keeps
found around (here instr rest after held p unseen) fit spot = at_here instr rest spot fit unseen
found around (behind instr rest after held p q span reads keeps is more) fit spot =
    let n = at_behind p q instr rest spot is in found n.now more (n.fit _ after held fit) n.spot
found around (in_yes instr rest ys ns after held outer p span reads keeps is more) fit spot =
    let c = at_choice p instr rest ys ns spot is in
    found (in_block (parts_of c.yes_block) (parts_of c.no_block) (at_first (parts_of c.ss) around)) more
    (block_fit c.tail p c.body c.tail_is c.rest_is c.first c.second c.slots fit) (block_spot (inside outer p) c.first c.there c.slots c.yes_points)
found around (in_no instr rest ys ns after held outer first p q span reads keeps is to more) fit spot =
    let c = at_choice p instr rest ys ns spot is in
    let there = grow_all (map shapes_of ys) (block_grows c.first) (inside first p) q to c.span c.there in
    found (in_block (parts_of c.no_block) (parts_of c.yes_block) (at_first (parts_of c.ss) around)) more
    (block_fit c.tail p c.body c.tail_is c.rest_is c.second c.first c.slots fit) (block_spot (inside outer (with_seen q.seen p)) c.second there c.slots c.no_points)
found around (in_no_path instr rest ys ns after held outer first p q span reads keeps is to more) fit spot =
    let c = at_choice p instr rest ys ns spot is in
    let there = grow_path (map shapes_of ys) (block_grows c.first) (inside first p) q to c.span c.there in
    found (in_block (parts_of c.no_block) (parts_of c.yes_block) (at_first (parts_of c.ss) around)) more
    (block_fit c.tail p c.body c.tail_is c.rest_is c.second c.first c.slots fit) (block_spot (inside outer (with_seen q.seen p)) c.second there c.slots c.no_points)

-- ---- functions

-- parameters in the slots from a number on
slots_are : (n : ℕ) (params : List (Param Slot)) → in_slots n params ≡ true → first_slots (n + length params) ≡ first_slots n ++ names_of params
slots_are n [] is = ap first_slots (zero_more n) ∙ sym (append-nil (first_slots n))
  where
    zero_more : (n : ℕ) → n + 0 ≡ n
    zero_more n = omega arith
slots_are n (p ∷ params) is =
    let here_is = and_left (p.name.0 == n) (in_slots (n + 1) params) is in
    let name : record { 0 = n } ≡ p.name = ap (λ (k : ℕ). record { 0 = k }) (sym (eqb-true p.name.0 n here_is)) in
    ap first_slots (count n (length params)) ∙ slots_are (n + 1) params (and_right (p.name.0 == n) (in_slots (n + 1) params) is)
    ∙ ap (λ l. l ++ names_of params) (one_more n) ∙ append_assoc (first_slots n) (record { 0 = n } ∷ []) (names_of params) ∙ ap (λ s. first_slots n ++ s ∷ names_of params) name
  where
    count : (n k : ℕ) → n + suc k ≡ n + 1 + k
    count n k = omega arith

    one_more : (n : ℕ) → first_slots (n + 1) ≡ first_slots n ++ record { 0 = n } ∷ []
    one_more n = ap first_slots (suc_is n)
      where
        suc_is : (n : ℕ) → n + 1 ≡ suc n
        suc_is n = omega arith

none_before : (n : ℕ) → n ≡ 0 + n
none_before n = omega arith

pub begin_alike : (contract : Contract Slot Ty) (f : Function Slot Ty) (g : SlotFunction) → CanLowerFunction contract f → HasCounts contract f g → Arranges f g → HasPoints contract f g
begin_alike contract f g can counts arranged = record {
  by = λ span reads keeps begins.
      let n : ℕ = length contract.params in
      let scope = names_of contract.params ++ names_of f.params in
      let whole : function_fits n f ≡ true = can.is in
      let own : in_slots n f.params ≡ true = and_left (in_slots n f.params) _ (and_left _ _ whole) in
      let slots : first_slots (g.ctors + g.params) ≡ scope =
      ap (λ k. first_slots (k + g.params)) counts.ctors ∙ ap (λ k. first_slots (n + k)) counts.params ∙ slots_are n f.params own
      ∙ ap (λ l. l ++ names_of f.params) (ap first_slots (none_before n) ∙ slots_are 0 contract.params can.params) in
      found (at_start scope (parts_of f.body)) begins
      (record { after_is = λ slot. refl; held_is = λ slot. refl; reads_is = λ slot. body_reads arranged.is slot false ∙ or_nothing (all_read (parts_of f.body) slot) })
      (between true f.body g.body [] arranged.is tt (sym (append-nil g.body)) slots (record { to = λ x h. h }));
}
