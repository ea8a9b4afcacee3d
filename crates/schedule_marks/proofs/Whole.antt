-- Marks of a whole function.
use Rattle.std.proofs.Common.{◌≡◌, ℕ, suc, ◌+◌, Bool, true, false, cond, not, List, [], ◌∷◌, ◌++◌, length, map, Option, Some, None, IsSome, Ok, refl, sym, ap, ◌∙◌, subst, arith, append_assoc, append-nil, length-append}
use Rattle.std.specs.Prelude.{◌==◌, ◌||◌, ◌&&◌, nat_le, is_some, filter, option_and_then, IsTrue}
use Rattle.std.specs.List.{AllByRecursion}
use Rattle.std.proofs.lemmas.Bool.{false≢true, and_parts, eqb-true}
use Rattle.std.proofs.lemmas.Option.{none-some}
use Rattle.cash_base.specs.declared.place.Slot.{Slot}
use Rattle.cash_base.specs.declared.place.Span.{Span}
use Rattle.std.specs.Global.{Vec}
use Rattle.script_codec.specs.declared.spans.Mark.{Mark}
use Rattle.script_codec.specs.declared.spans.Spanned.{Spanned}
use Rattle.slot_code.specs.declared.slots.SlotFunction.{SlotFunction}
use Rattle.slot_code.specs.declared.slots.SlotInstr.{SlotInstr}
use Rattle.slot_code.specs.declared.slots.SlotKind.TheVariants as kinds
use Rattle.slot_code.specs.Shape.{Place, Shape, Shapes, Operand, shapes_of, shapes_at, all_shapes, begins, only_if, then_shape, has_span, inside, with_seen, ends_rightly, is_over, path_shape, closed, first_slots, most_slots, IsWellFormed, start as first_place}
use Rattle.slot_code.specs.Meaning.{act_of}
use Rattle.slot_code.proofs.Steps.{whole_stands, require_stands}
use Rattle.slot_liveness.specs.Live.{Slots, later, hold, only_other, read_in}
use Rattle.row_runs.specs.Rows.{Machine, machine, run_rows, IsNested}
use Rattle.row_runs.proofs.Turns.{nested_append}
use Rattle.stack_emitter.specs.declared.emit.Emitter.{Emitter}
use Rattle.stack_emitter.specs.Places.{Spot, spot}
use Rattle.stack_emitter.specs.Correct.{value, Fits, Deed, Adds, Ends, nothing, check_deed}
use Rattle.stack_emitter.proofs.Choose.{opens, flips, closes, choice, choice_nested}
use Rattle.stack_steps.specs.declared.low.Low.{Low}
use Rattle.stack_steps.specs.Lower.{IsNoChoice, Ready, Does, place_of, statements_of}
use Rattle.stack_steps.specs.Operations.{Marks}
use Rattle.stack_steps.proofs.Instrs.{place}
use Rattle.stack_schedule.specs.Endings.{SeenAt, MayEnd, path_of}
use Rattle.stack_schedule.specs.Schedule.{IsStart, Starts}
use Rattle.stack_schedule.specs.Built as built
use Rattle.stack_schedule.specs.Built.{Built, Part, One, Block, Last, Path, reads_now, MarksNow, Stepped, Opened, control, IsScheduled}
use Rattle.stack_schedule.proofs.Chosen.{Enters, if_operand}
use Rattle.stack_schedule.proofs.Forks.{fork_yes, operand}
use Rattle.stack_schedule.proofs.Lasts.{check_operand}
use Rattle.schedule_marks.specs.Marks.{IsPoint, IsRight, AreRight, start_at}
use Rattle.schedule_marks.proofs.Rows.{Arrives, Stands, arrives_more, each_map, ok_same}
use Rattle.stack_schedule.proofs.Inverse.{over_ends}
use Rattle.schedule_marks.specs.First.{Text, text, Says, goes_on, says, all_say, beside, says_of, first_text, IsOrdered, first_with, IsFirst, AreFirst}
use Rattle.schedule_marks.proofs.Passed.{Passed, Known, AllPassed, known_more}
use Rattle.schedule_marks.proofs.Texts.{choice_is, plain_says}
use Rattle.schedule_marks.proofs.Going.{Going, Went, Ended, step_going, end_going, adds_passed, ends_say, opened_going, known_yes, known_no, turned_going, closed_passed}
use Rattle.schedule_marks.proofs.Noting.{Noted, Noting, Grew, Points, noted_row, noted_as, adds_noted, ends_noted, marks_of, marks_same, closed_at, step_noting, step_has, step_grew}
use Rattle.schedule_marks.proofs.Choices.{opened_place, opened_noting, opened_has, in_opened, marks_opened, turned_noting, turned_has, marks_turned, turned_is}

-- ---- what an instruction or a block makes of the marks

record OneNoted (f : SlotFunction) (start : List Slot) (instr : SlotInstr) (old new : Low) : Type 0 where
  place_is : (shapes_of instr).inner (place_of old) ≡ Some (place_of new)
  grew : Grew old new
  has : has_span instr.checking (statements_of new.marks.items) ≡ true
  noting : Noting f start new
  first : (t : Text) → Going start t old → Went start t (says_of instr t) new × ((says_of instr t).ordered ≡ true → has_span instr.checking (says_of instr t).known ≡ true)

record BlockNoted (f : SlotFunction) (start : List Slot) (instrs : List SlotInstr) (old new : Low) : Type 0 where
  place_is : all_shapes (map shapes_of instrs) (place_of old) ≡ Some (place_of new)
  grew : Grew old new
  noting : Noting f start new
  first : (t : Text) → Going start t old → Went start t (all_say (map says_of instrs) t) new

record PathNoted (f : SlotFunction) (start : List Slot) (needs : Text → Type 0) (to : Says) (old new : Low) : Type 0 where
  grew : Grew old new
  noted : Noted f start new.emitter.code.items new.marks.items
  first : (t : Text) → needs t → Going start t old → Ended start t (to t) new

-- an instruction needs nothing more, and an empty block that the statement around it has begun
abbrev nothing_more : Text → Type 0
nothing_more t = Unit {0}

abbrev around_begun : Span → List SlotInstr → Text → Type 0
around_begun around instrs t = length instrs ≡ 0 → t.ordered ≡ true → has_span around t.known ≡ true

abbrev Claim : SlotFunction → List Slot → Part → List Slot → List Slot → Low → Low → Type 0
Claim f start (One instr rest) after held old new = Points f (instr ∷ rest) after held (place_of old) → Noting f start old → OneNoted f start instr old new
Claim f start (Block instrs) after held old new = Points f instrs after held (place_of old) → Noting f start old → BlockNoted f start instrs old new
Claim f start (Last instr rest) after held old new = Points f (instr ∷ rest) after held (place_of old) → Noting f start old → PathNoted f start nothing_more (says_of instr) old new
Claim f start (Path around instrs) after held old new = Points f instrs after held (place_of old)
    → (length instrs ≡ 0 → has_span around (statements_of old.marks.items) ≡ true) → Noting f start old → PathNoted f start (around_begun around instrs) (all_say (map says_of instrs)) old new

-- ---- rows in turn

grew_none : (low : Low) → Grew low low
grew_none low = record { rows = []; grown = sym (append-nil low.emitter.code.items); nested = λ n. refl; later = λ s h. h }

grew_then : (a b c : Low) → Grew a b → Grew b c → Grew a c
grew_then a b c x y = record {
  rows = x.rows ++ y.rows;
  grown = y.grown ∙ ap (λ l. l ++ y.rows) x.grown ∙ append_assoc a.emitter.code.items x.rows y.rows;
  nested = nested_append x.rows y.rows x.nested y.nested;
  later = λ s h. y.later s (x.later s h);
}

grew_end : (c : Span) (old new : Low) (deed : Deed) → Ends c old.emitter new.emitter deed → new.marks ≡ old.marks → Grew old new
grew_end c old new deed x same = record {
  rows = x.rows;
  grown = x.grown;
  nested = x.tail.nested;
  later = λ s h. ap (λ (l : Vec Mark). has_span s (statements_of l.items)) same ∙ h;
}

end_noted : (f : SlotFunction) (start : List Slot) (c : Span) (old new : Low) (deed : Deed) → Ends c old.emitter new.emitter deed → new.marks ≡ old.marks
    → has_span c (statements_of old.marks.items) ≡ true → Noted f start old.emitter.code.items old.marks.items → Noted f start new.emitter.code.items new.marks.items
end_noted f start c old new deed x same has n =
    noted_as f start new.emitter.code.items old.marks.items new.marks.items (ap (λ (l : Vec Mark). l.items) same)
    (ends_noted f start c old.emitter new.emitter deed old.marks.items x has n)

-- ---- kinds that find an operand

-- such an instruction begins no statement
begun_by : (c : Span) (seen : List Span) (operands : List Operand) (k : Operand) → operands ≡ k ∷ [] → (has_span c seen ≡ false → length operands ≡ 0) → has_span c seen ≡ true
begun_by c seen operands k one h = by (has_span c seen) refl
  where
    by : (b : Bool) → has_span c seen ≡ b → has_span c seen ≡ true
    by true e = e
    by false e = let a = h e in let l = ap length one in absurd (omega (arith, a, l))

closed_well : (c : Span) (e : Bool) (g : Shape) (p : Place) → IsSome (then_shape (begins c e) g p) → has_span c p.seen ≡ false → length p.operands ≡ 0
closed_well c e g p well fresh = by (has_span c p.seen) fresh well
  where
    open_by : (a b : Bool) (r : Place) → IsSome (option_and_then g (only_if (a && b) r)) → a ≡ true
    open_by true b r k = refl
    open_by false b r k = absurd (false≢true k)

    by : (b : Bool) → b ≡ false → IsSome (option_and_then g (cond b (Some p) (only_if (length p.operands == 0 && not e) (with_seen (p.seen ++ c ∷ []) p)))) → length p.operands ≡ 0
    by true n k = absurd (false≢true (sym n))
    by false n k = eqb-true (length p.operands) 0 (open_by (length p.operands == 0) (not e) (with_seen (p.seen ++ c ∷ []) p) k)

inner_well : (instr : SlotInstr) (p : Place) → IsSome ((shapes_of instr).inner p) → has_span instr.checking p.seen ≡ false → length p.operands ≡ 0
inner_well instr p well fresh =
    closed_well instr.checking (shapes_at instr.kind).is_end (shapes_at instr.kind).inner p
    (subst (λ (x : Shapes). IsSome (x.inner p)) (whole_stands instr) well) fresh

last_well : (instr : SlotInstr) (p : Place) → IsSome ((shapes_of instr).last p) → has_span instr.checking p.seen ≡ false → length p.operands ≡ 0
last_well instr p well fresh =
    closed_well instr.checking (shapes_at instr.kind).is_end (shapes_at instr.kind).last p
    (subst (λ (x : Shapes). IsSome (x.last p)) (whole_stands instr) well) fresh

has_as : (a b : List Mark) (s : Span) → a ≡ b → has_span s (statements_of b) ≡ true → has_span s (statements_of a) ≡ true
has_as a b s e h = ap (λ l. has_span s (statements_of l)) e ∙ h

items_of : (a b : Vec Mark) → a ≡ b → a.items ≡ b.items
items_of a b e = ap (λ (l : Vec Mark). l.items) e

-- ---- choices

choice_rows : (front t d new a b : List Spanned) (i j : Span) → t ≡ front ++ opens i j ∷ (a ++ flips i j ∷ []) → d ≡ t ++ b → new ≡ d ++ closes i j ∷ []
    → new ≡ front ++ choice a b i j
choice_rows front t d new a b i j x y z = rw (z, y, x) (simp append_assoc)

after_opens : (front opened code a : List Spanned) (i j : Span) → opened ≡ front ++ opens i j ∷ [] → code ≡ opened ++ a → code ≡ front ++ opens i j ∷ a
after_opens front opened code a i j x y = rw (y, x) (simp append_assoc)

after_flips : (front turned code a b : List Spanned) (i j : Span) → turned ≡ front ++ opens i j ∷ (a ++ flips i j ∷ []) → code ≡ turned ++ b
    → code ≡ front ++ opens i j ∷ (a ++ flips i j ∷ b)
after_flips front turned code a b i j x y = rw (y, x) (simp append_assoc)

after_moves : (front mid code a b moves : List Spanned) (i j : Span) → mid ≡ front ++ opens i j ∷ (a ++ flips i j ∷ b) → code ≡ mid ++ moves
    → code ≡ front ++ opens i j ∷ (a ++ flips i j ∷ (b ++ moves))
after_moves front mid code a b moves i j x y = rw (y, x) (simp append_assoc)

module _ (f : SlotFunction) (start : List Slot) (instr : SlotInstr) (rest ys ns : List SlotInstr) (after held : List Slot) (old marked opened : Low) (e : instr.kind ≡ kinds.If ys ns) (m : MarksNow instr.checking old marked) (k : Operand) (one_marked : marked.emitter.place.operands ≡ k ∷ []) (fresh_none : has_span instr.checking (statements_of old.marks.items) ≡ false → length old.emitter.place.operands ≡ 0) where
  abbrev c : Span
  c = instr.checking

  abbrev live_after : List Slot
  live_after = filter (later rest after) old.scope

  abbrev yes_held : List Slot
  yes_held = held ++ filter (only_other ys ns) old.scope

  abbrev no_held : List Slot
  no_held = held ++ filter (only_other ns ys) old.scope

  one : old.emitter.place.operands ≡ k ∷ []
  one = ap (λ (x : Emitter). x.place.operands) (sym m.emitter) ∙ one_marked

  has : has_span c (statements_of old.marks.items) ≡ true
  has = begun_by c (statements_of old.marks.items) old.emitter.place.operands k one fresh_none

  marked_seen : statements_of marked.marks.items ≡ statements_of old.marks.items
  marked_seen = ap statements_of (marks_same c old marked m has)

  choice_noted : (yes_end joined turned no_end new : Low) (settled : Emitter)
      → Does (λ world. act_of world instr) (shapes_of instr).inner (reads_now instr rest after) (later rest after) (hold f.body held) old new
      → Opened 0x63 instr old.emitter.place.slots old.scope old.scope marked opened → Claim f start (Block ys) live_after yes_held opened yes_end
      → Adds c c yes_end.emitter joined.emitter nothing → joined.marks ≡ yes_end.marks
      → Opened 0x67 instr old.emitter.place.slots old.scope old.scope joined turned → Claim f start (Block ns) live_after no_held turned no_end
      → Adds c c no_end.emitter settled nothing → new.emitter.code.items ≡ settled.code.items ++ control 0x68 instr ∷ [] → new.marks ≡ no_end.marks
      → Claim f start (One instr rest) after held old new
  choice_noted yes_end joined turned no_end new settled does in_yes claim_yes joins same in_no claim_no settles code marks points n =
      let at_yes = opened_place 0x63 instr old.emitter.place.slots old.scope old.scope marked opened in_yes (statements_of old.marks.items) marked_seen in
      let y = claim_yes
      (λ span names pt. points span names (IsPoint.in_yes instr rest ys ns after held (place_of old) span names e (subst (λ p. IsPoint f.body ys live_after yes_held p span names) at_yes pt)))
      (opened_noting f start instr old marked m has k one old.scope old.scope opened in_yes n) in
      let has_y = y.grew.later c (opened_has f start instr old marked m has k one old.scope old.scope opened in_yes n) in
      let has_j = has_as joined.marks.items yes_end.marks.items c (items_of joined.marks yes_end.marks same) has_y in
      let noted_j = noted_as f start joined.emitter.code.items yes_end.marks.items joined.marks.items (items_of joined.marks yes_end.marks same)
      (adds_noted f start c yes_end.emitter joined.emitter yes_end.marks.items joins has_y y.noting.noted) in
      let rows = y.grew.rows ++ joins.emits.rows in
      let nested = nested_append y.grew.rows joins.emits.rows y.grew.nested joins.emits.follows.nested in
      let in_joined = joins.emits.grown ∙ ap (λ l. l ++ joins.emits.rows) y.grew.grown ∙ append_assoc opened.emitter.code.items y.grew.rows joins.emits.rows in
      let at_no = opened_place 0x67 instr old.emitter.place.slots old.scope old.scope joined turned in_no (statements_of yes_end.marks.items) (ap statements_of (items_of joined.marks yes_end.marks same)) in
      let z = claim_no
      (λ span names pt. points span names (IsPoint.in_no instr rest ys ns after held (place_of old) (place_of yes_end) span names e (ap (all_shapes (map shapes_of ys)) (sym at_yes) ∙ y.place_is)
      (subst (λ p. IsPoint f.body ns live_after no_held p span names) at_no pt)))
      (turned_noting f start instr old marked m has k one old.scope old.scope opened in_yes n rows nested joined in_joined noted_j has_j old.scope turned in_no) in
      let has_z = z.grew.later c (turned_has f start instr old marked m has k one old.scope old.scope opened in_yes n rows nested joined in_joined noted_j has_j old.scope turned in_no) in
      let noted_s = adds_noted f start c no_end.emitter settled no_end.marks.items settles has_z z.noting.noted in record {
        place_is = does.place;
        grew = record {
          rows = does.lowers.emits.rows;
          grown = does.lowers.emits.grown;
          nested = does.lowers.emits.follows.nested;
          later = λ s h.
              has_as new.marks.items no_end.marks.items s (items_of new.marks no_end.marks marks) (z.grew.later s
              (has_as turned.marks.items yes_end.marks.items s (items_of turned.marks joined.marks in_no.marks ∙ items_of joined.marks yes_end.marks same) (y.grew.later s
              (has_as opened.marks.items old.marks.items s (marks_opened f start instr old marked m has k one old.scope old.scope opened in_yes n) h))));
        };
        has = has_as new.marks.items no_end.marks.items c (items_of new.marks no_end.marks marks) has_z;
        noting = record {
          noted = noted_as f start new.emitter.code.items no_end.marks.items new.marks.items (items_of new.marks no_end.marks marks)
              (noted_row f start settled.code.items new.emitter.code.items (control 0x68 instr) no_end.marks.items code has_z noted_s);
          arrives = arrives_more start old.emitter new.emitter does.lowers.did does.lowers.emits n.arrives;
        };
        first = λ t g.
            let d = instr.doing in
            let t1 = goes_on c t in
            let u = all_say (map says_of ys) t1 in
            let w1 = y.first t1 (opened_going start d c old t g opened (in_opened f start instr old marked m has k one old.scope old.scope opened in_yes n) (marks_opened f start instr old marked m has k one old.scope old.scope opened in_yes n)) in
            let in_yes_end = after_opens old.emitter.code.items opened.emitter.code.items yes_end.emitter.code.items y.grew.rows d c (in_opened f start instr old marked m has k one old.scope old.scope opened in_yes n) y.grew.grown in
            let in_mid = after_opens old.emitter.code.items opened.emitter.code.items joined.emitter.code.items rows d c (in_opened f start instr old marked m has k one old.scope old.scope opened in_yes n) in_joined in
            let whole = turned_is f start instr old marked m has k one old.scope old.scope opened in_yes n rows nested joined in_joined noted_j has_j old.scope turned in_no in
            let w2 = z.first (beside t u) (turned_going start d c old t g rows joined.emitter.code.items turned nested in_mid in_no.code whole u
            (w1.going.seen_is ∙ ap statements_of (sym (items_of turned.marks joined.marks in_no.marks ∙ items_of joined.marks yes_end.marks same))) w1.back
            (λ o. adds_passed start c yes_end.emitter joined.emitter joins (w1.going.passed o) (known_yes start d c old t g y.grew.rows yes_end.emitter.code.items y.grew.nested in_yes_end (w1.back o)))) in
            let in_no_end = after_flips old.emitter.code.items turned.emitter.code.items no_end.emitter.code.items rows z.grew.rows d c whole z.grew.grown in
            let in_settled = after_moves old.emitter.code.items no_end.emitter.code.items settled.code.items rows z.grew.rows settles.emits.rows d c in_no_end settles.emits.grown in
            let back = λ (o : (all_say (map says_of ns) (beside t u)).ordered ≡ true). w1.back (w2.back o) in
            let is = ap (λ s. s t) (sym (choice_is instr ys ns e)) in
            subst (λ v. Went start t v new × (v.ordered ≡ true → has_span c v.known ≡ true)) is (
              record {
                going = record {
                  seen_is = w2.going.seen_is ∙ ap statements_of (sym (items_of new.marks no_end.marks marks));
                  passed = λ o.
                      closed_passed start d c old t g rows (z.grew.rows ++ settles.emits.rows) settled.code.items new.emitter.code.items nested
                      (nested_append z.grew.rows settles.emits.rows z.grew.nested settles.emits.follows.nested) in_settled code (back o)
                      (adds_passed start c no_end.emitter settled settles (w2.going.passed o) (known_no start d c old t g rows z.grew.rows no_end.emitter.code.items nested z.grew.nested in_no_end (back o)));
                  known = λ o x h.
                      subst (λ l. Known start l x) (sym does.lowers.emits.grown)
                      (known_more start old.emitter.code.items does.lowers.emits.rows x does.lowers.emits.follows.nested (g.known (and_parts t.ordered (has_span c t.known) (back o)).0 x h));
                };
                back = λ o. (and_parts t.ordered (has_span c t.known) (back o)).0;
              },
              λ o. (and_parts t.ordered (has_span c t.known) (back o)).1,
            );
      }

  fork_noted : (yes_end turned no_end new : Low) → IsSome (path_of ys (place_of opened))
      → Opened 0x63 instr old.emitter.place.slots old.scope [] marked opened → Claim f start (Path c ys) live_after yes_held opened yes_end
      → SeenAt (path_of ys (place_of opened)) (statements_of yes_end.marks.items)
      → Opened 0x67 instr old.emitter.place.slots old.scope [] yes_end turned → Claim f start (Path c ns) live_after no_held turned no_end
      → new.emitter.code.items ≡ no_end.emitter.code.items ++ control 0x68 instr ∷ [] → new.marks ≡ no_end.marks
      → Claim f start (Last instr rest) after held old new
  fork_noted yes_end turned no_end new well in_yes claim_yes seen in_no claim_no code marks points n =
      let at_yes = opened_place 0x63 instr old.emitter.place.slots old.scope [] marked opened in_yes (statements_of old.marks.items) marked_seen in
      let has_o = opened_has f start instr old marked m has k one old.scope [] opened in_yes n in
      let y = claim_yes
      (λ span names pt. points span names (IsPoint.ends_yes instr rest ys ns after held (place_of old) span names e (subst (λ p. IsPoint f.body ys live_after yes_held p span names) at_yes pt)))
      (λ none. has_o)
      (opened_noting f start instr old marked m has k one old.scope [] opened in_yes n) in
      let has_y = y.grew.later c has_o in
      let q = found (path_of ys (place_of opened)) well seen in
      let at_no = opened_place 0x67 instr old.emitter.place.slots old.scope [] yes_end turned in_no q.0.seen (sym q.2) in
      let has_t = turned_has f start instr old marked m has k one old.scope [] opened in_yes n y.grew.rows y.grew.nested yes_end y.grew.grown y.noted has_y [] turned in_no in
      let z = claim_no
      (λ span names pt. points span names (IsPoint.ends_no instr rest ys ns after held (place_of old) q.0 span names e (ap (path_of ys) (sym at_yes) ∙ q.1)
      (subst (λ p. IsPoint f.body ns live_after no_held p span names) at_no pt)))
      (λ none. has_t)
      (turned_noting f start instr old marked m has k one old.scope [] opened in_yes n y.grew.rows y.grew.nested yes_end y.grew.grown y.noted has_y [] turned in_no) in
      let has_z = z.grew.later c has_t in record {
        grew = record {
          rows = choice y.grew.rows z.grew.rows instr.doing c;
          grown = choice_rows old.emitter.code.items turned.emitter.code.items no_end.emitter.code.items new.emitter.code.items y.grew.rows z.grew.rows instr.doing c (turned_is f start instr old marked m has k one old.scope [] opened in_yes n y.grew.rows y.grew.nested yes_end y.grew.grown y.noted has_y [] turned in_no) z.grew.grown code;
          nested = choice_nested y.grew.rows z.grew.rows instr.doing c y.grew.nested z.grew.nested;
          later = λ s h.
              has_as new.marks.items no_end.marks.items s (items_of new.marks no_end.marks marks) (z.grew.later s
              (has_as turned.marks.items yes_end.marks.items s (items_of turned.marks yes_end.marks in_no.marks) (y.grew.later s
              (has_as opened.marks.items old.marks.items s (marks_opened f start instr old marked m has k one old.scope [] opened in_yes n) h))));
        };
        noted = noted_as f start new.emitter.code.items no_end.marks.items new.marks.items (items_of new.marks no_end.marks marks)
            (noted_row f start no_end.emitter.code.items new.emitter.code.items (control 0x68 instr) no_end.marks.items code has_z z.noted);
        first = λ t needed g.
            let d = instr.doing in
            let t1 = goes_on c t in
            let u = all_say (map says_of ys) t1 in
            let w1 = y.first t1 (λ none o. (and_parts t.ordered (has_span c t.known) o).1)
            (opened_going start d c old t g opened (in_opened f start instr old marked m has k one old.scope [] opened in_yes n) (marks_opened f start instr old marked m has k one old.scope [] opened in_yes n)) in
            let in_yes_end = after_opens old.emitter.code.items opened.emitter.code.items yes_end.emitter.code.items y.grew.rows d c (in_opened f start instr old marked m has k one old.scope [] opened in_yes n) y.grew.grown in
            let is_turned = turned_is f start instr old marked m has k one old.scope [] opened in_yes n y.grew.rows y.grew.nested yes_end y.grew.grown y.noted has_y [] turned in_no in
            let w2 = z.first (beside t u) (λ none o. (and_parts t.ordered (has_span c t.known) (w1.back o)).1)
            (turned_going start d c old t g y.grew.rows yes_end.emitter.code.items turned y.grew.nested in_yes_end in_no.code is_turned u
            (w1.seen_is ∙ ap statements_of (sym (items_of turned.marks yes_end.marks in_no.marks))) w1.back w1.passed) in
            let in_no_end = after_flips old.emitter.code.items turned.emitter.code.items no_end.emitter.code.items y.grew.rows z.grew.rows d c is_turned z.grew.grown in
            let back = λ (o : (all_say (map says_of ns) (beside t u)).ordered ≡ true). w1.back (w2.back o) in
            subst (λ v. Ended start t v new) (ap (λ s. s t) (sym (choice_is instr ys ns e))) (record {
              seen_is = w2.seen_is ∙ ap statements_of (sym (items_of new.marks no_end.marks marks));
              passed = λ o. closed_passed start d c old t g y.grew.rows z.grew.rows no_end.emitter.code.items new.emitter.code.items y.grew.nested z.grew.nested in_no_end code (back o) (w2.passed o);
              back = λ o. (and_parts t.ordered (has_span c t.known) (back o)).0;
            });
      }
    where
      found : (o : Option Place) → IsSome o → SeenAt o (statements_of yes_end.marks.items) → (q : Place) × (o ≡ Some q) × (q.seen ≡ statements_of yes_end.marks.items)
      found (Some q) w s = (q, refl, s)
      found None w s = absurd (false≢true w)

-- ---- ends of paths

begun_one : (c : Span) (seen : List Span) (operands : List Operand) → length operands ≡ 1 → (has_span c seen ≡ false → length operands ≡ 0) → has_span c seen ≡ true
begun_one c seen operands one h = by (has_span c seen) refl
  where
    by : (b : Bool) → has_span c seen ≡ b → has_span c seen ≡ true
    by true e = e
    by false e = let a = h e in absurd (omega (arith, a, one))

no_choice : (instr : SlotInstr) → instr.kind ≡ kinds.Require → IsNoChoice instr
no_choice instr e ys ns h = other (sym e ∙ h)
  where
    other : kinds.Require ≡ kinds.If ys ns → ⊥
    other x = cc

grew_marked : (c : Span) (old marked : Low) → MarksNow c old marked → has_span c (statements_of old.marks.items) ≡ true → Grew old marked
grew_marked c old marked m has = record {
  rows = [];
  grown = ap (λ (x : Emitter). x.code.items) m.emitter ∙ sym (append-nil old.emitter.code.items);
  nested = λ n. refl;
  later = λ s h. has_as marked.marks.items old.marks.items s (marks_same c old marked m has) h;
}

marked_noted : (f : SlotFunction) (start : List Slot) (c : Span) (old marked : Low) → MarksNow c old marked → has_span c (statements_of old.marks.items) ≡ true
    → Noted f start old.emitter.code.items old.marks.items → Noted f start marked.emitter.code.items marked.marks.items
marked_noted f start c old marked m has n =
    noted_as f start marked.emitter.code.items old.marks.items marked.marks.items (marks_same c old marked m has)
    (subst (λ (x : Emitter). Noted f start x.code.items old.marks.items) (sym m.emitter) n)

check_noted : (f : SlotFunction) (start : List Slot) (instr : SlotInstr) (rest : List SlotInstr) (after held : List Slot) (old marked new : Low) → instr.kind ≡ kinds.Require
    → MayEnd (shapes_of instr).last (reads_now instr rest after) (hold f.body held) old → MarksNow instr.checking old marked
    → Ends instr.checking marked.emitter new.emitter (check_deed instr.doing instr.checking) → new.marks ≡ marked.marks → Claim f start (Last instr rest) after held old new
check_noted f start instr rest after held old marked new e may m ends same points n =
    let c = instr.checking in
    let one = check_operand instr rest after (hold f.body held) old (no_choice instr e) may marked (marks_of c old marked m) e in
    let has = begun_one c (statements_of old.marks.items) old.emitter.place.operands (ap (λ (x : Emitter). length x.place.operands) (sym m.emitter) ∙ one) (last_well instr (place_of old) may.ready.well) in
    let has_m = has_as marked.marks.items old.marks.items c (marks_same c old marked m has) has in record {
      grew = grew_then old marked new (grew_marked c old marked m has) (grew_end c marked new (check_deed instr.doing c) ends same);
      noted = end_noted f start c marked new (check_deed instr.doing c) ends same has_m (marked_noted f start c old marked m has n.noted);
      first = λ t needed g.
          let marks = marks_same c old marked m has in
          let w : Went start t (goes_on c t) marked = record {
            going = record {
              seen_is = g.seen_is ∙ ap statements_of (sym marks);
              passed = λ o. subst (λ (x : Emitter). AllPassed start x.code.items) (sym m.emitter) (g.passed (and_parts t.ordered (has_span c t.known) o).0);
              known = λ o x h. subst (λ (y : Emitter). Known start y.code.items x) (sym m.emitter) (g.known (and_parts t.ordered (has_span c t.known) o).0 x h);
            };
            back = λ o. (and_parts t.ordered (has_span c t.known) o).0;
          } in
          let is : says_of instr t ≡ goes_on c t
          = ap (λ s. s t) ((plain_says instr (no_choice instr e)).0 (ap (λ k. (shapes_at k).is_end) e ∙ ap (λ (x : Shapes). x.is_end) require_stands))
          ∙ ap (λ b. cond b (goes_on c t) (text (t.seen ++ c ∷ []) (c ∷ t.known) t.ordered)) (ap (has_span c) g.seen_is ∙ has) in
          subst (λ v. Ended start t v new) (sym is)
          (end_going start c marked new (check_deed instr.doing c) ends same t (goes_on c t) w (λ o. (and_parts t.ordered (has_span c t.known) o).1));
    }

none_over : (rest : List SlotInstr) → length rest ≡ 0 → is_over (map shapes_of rest) ≡ true
none_over [] h = refl
none_over (x ∷ rest) h = absurd (omega (arith, h))

-- ---- all parts

claims : (f : SlotFunction) (start : List Slot) {part : Part} {after held : List Slot} {old new : Low} → Built f.body part after held old new → Claim f start part after held old new
claims f start (built.step instr rest after held old new x) = λ points n. record {
  place_is = x.steps.does.place;
  grew = step_grew f start instr rest after held old new x points n;
  has = step_has f start instr rest after held old new x points n;
  noting = step_noting f start instr rest after held old new x points n;
  first = λ t g. step_going start f.body instr rest after held old new x n.noted.unused t g;
}
claims f start (built.choice instr rest ys ns after held old marked opened yes_end joined turned no_end new settled e ready does m in_yes yes_built joins same in_no no_built settles code marks) =
    let k = if_operand instr ys ns (later rest after) held (λ s. not (read_in f.body s)) old marked (marks_of instr.checking old marked m) e ready in
    choice_noted f start instr rest ys ns after held old marked opened e m k.0 k.1 (inner_well instr (place_of old) ready.well)
    yes_end joined turned no_end new settled does in_yes (claims f start yes_built) joins same in_no (claims f start no_built) settles code marks
claims f start (built.none after held low) = λ points n. record { place_is = refl; grew = grew_none low; noting = n; first = λ t g. record { going = g; back = λ o. o } }
claims f start (built.more instr rest after held old mid new b c) = λ points n.
    let x = claims f start b points n in
    let y = claims f start c (λ span names pt. points span names (IsPoint.behind instr rest after held (place_of old) (place_of mid) span names x.place_is pt)) x.noting in record {
      place_is = ap (option_and_then (all_shapes (map shapes_of rest))) x.place_is ∙ y.place_is;
      grew = grew_then old mid new x.grew y.grew;
      noting = y.noting;
      first = λ t g.
          let a = (x.first t g).0 in
          let b = y.first (says_of instr t) a.going in
          record { going = b.going; back = λ o. a.back (b.back o) };
    }
claims f start (built.check instr rest after held old marked new e may m ends same) = check_noted f start instr rest after held old marked new e may m ends same
claims f start (built.finish instr rest after held old mid new x ends same) = λ points n. record {
  grew = grew_then old mid new (step_grew f start instr rest after held old mid x points n) (grew_end instr.checking mid new nothing ends same);
  noted = end_noted f start instr.checking mid new nothing ends same (step_has f start instr rest after held old mid x points n) (step_noting f start instr rest after held old mid x points n).noted;
  first = λ t needed g.
      let a = step_going start f.body instr rest after held old mid x n.noted.unused t g in
      end_going start instr.checking mid new nothing ends same t (says_of instr t) a.0 a.1;
}
claims f start (built.fork instr rest ys ns after held old marked opened yes_end turned no_end new e may m in_yes yes_built seen in_no no_built code marks) =
    let never = λ (s : Slot). not (read_in f.body s) in
    let k = operand instr ys ns rest after held never old marked (marks_of instr.checking old marked m) e may in
    let enters : Enters opens instr marked.emitter.place.slots marked.scope [] marked opened = record {
      code = in_yes.code;
      place_is = in_yes.place ∙ ap (λ (x : Emitter). spot [] x.place.slots) (sym m.emitter);
      scope_is = in_yes.scope_is ∙ sym m.scope;
      outer_is = in_yes.outer_is;
      marks_are = in_yes.marks;
    } in
    let well = (fork_yes instr ys ns rest after held never old marked (marks_of instr.checking old marked m) e may opened enters).ready.well in
    fork_noted f start instr rest ys ns after held old marked opened e m k.0 k.1 (last_well instr (place_of old) may.ready.well)
    yes_end turned no_end new well in_yes (claims f start yes_built) seen in_no (claims f start no_built) code marks
claims f start (built.missing around after held old new ends same) = λ points begun n.
    record { grew = grew_end around old new nothing ends same; noted = end_noted f start around old new nothing ends same (begun refl) n.noted; first = λ t needed g. end_going start around old new nothing ends same t t (record { going = g; back = λ o. o }) (needed refl) }
claims f start (built.further around instr rest after held old mid new over b c) = λ points begun n.
    let x = claims f start b points n in
    let y = claims f start c (λ span names pt. points span names (IsPoint.behind instr rest after held (place_of old) (place_of mid) span names x.place_is pt))
    (λ none. absurd (false≢true (sym over ∙ none_over rest none))) x.noting in
    record {
      grew = grew_then old mid new x.grew y.grew;
      noted = y.noted;
      first = λ t needed g.
          let a = (x.first t g).0 in
          let b = y.first (says_of instr t) (λ none o. absurd (false≢true (sym over ∙ none_over rest none))) a.going in
          record { seen_is = b.seen_is; passed = b.passed; back = λ o. a.back (b.back o) };
    }
claims f start (built.ended around instr rest after held old new over b) = λ points begun n.
    let x = claims f start b points n in
    record {
      grew = x.grew;
      noted = x.noted;
      first = λ t needed g.
          let a = x.first t tt g in
          let ends = ends_say rest (over_ends rest over) (says_of instr t) in
          record { seen_is = ends.0 ∙ a.seen_is; passed = λ o. a.passed (ends.1 o); back = λ o. a.back (ends.1 o) };
    }

-- ---- a function

some_body : (f : SlotFunction) → IsWellFormed f → length f.body ≡ 0 → ⊥
some_body f well none = by f.body none (and_parts (is_some (option_and_then closed (path_shape (map shapes_of f.body) (first_place (f.ctors + f.params))))) (ends_rightly (map shapes_of f.body))
    (and_parts (nat_le (f.ctors + f.params) most_slots) (is_some (option_and_then closed (path_shape (map shapes_of f.body) (first_place (f.ctors + f.params)))) && ends_rightly (map shapes_of f.body)) well).1).1
  where
    by : (body : List SlotInstr) → length body ≡ 0 → ends_rightly (map shapes_of body) ≡ true → ⊥
    by [] h e = false≢true e
    by (x ∷ body) h e = absurd (omega (arith, h))

starts_place : (f : SlotFunction) (layout : List Slot) (old : Low) → Starts f layout old → place_of old ≡ first_place (f.ctors + f.params)
starts_place f layout old x =
    ap (λ (p : Spot). place p.operands old.scope old.outer (statements_of old.marks.items)) x.place_is
    ∙ ap (λ l. place [] l old.outer (statements_of old.marks.items)) x.scope_is ∙ ap (λ l. place [] (first_slots (f.ctors + f.params)) l (statements_of old.marks.items)) x.outer_is
    ∙ ap (λ l. place [] (first_slots (f.ctors + f.params)) [] (statements_of l)) x.marks_are

starts_noting : (f : SlotFunction) (layout : List Slot) (old : Low) → Starts f layout old → Noting f layout old
starts_noting f layout old x = record {
  noted = subst (λ l. Noted f layout l old.marks.items) (sym x.code_is) (subst (Noted f layout []) (sym x.marks_are) (record { unused = λ s h. refl; each = tt }));
  arrives = λ world env n ran lives. subst (λ p. Stands p n) (sym x.place_is) (record {
    operands = [];
    env = env;
    fits = tt;
    stack = ap (λ (k : Machine). k.stack) (sym (ok_same (start_at layout env) n (ap (λ l. run_rows world l (start_at layout env)) (sym x.code_is) ∙ ran))) ∙ sym (append-nil (map (value env) layout));
  });
}

pub marks_are_right : (f : SlotFunction) (start : List Slot) (code : List Spanned) (marks : List Mark) → IsWellFormed f → IsStart f start → IsScheduled f start code marks
    → AreRight f start code marks
marks_are_right f start code marks well holds s =
    let r = claims f start s.built
    (λ span names pt. subst (λ p. IsPoint f.body f.body [] [] p span names) (starts_place f start s.old s.starts) pt)
    (λ none. absurd (some_body f well none)) (starts_noting f start s.old s.starts) in
    subst (λ l. AreRight f start l marks) (sym s.code_is) (subst (AreRight f start s.new.emitter.code.items) (sym s.marks_are) r.noted.each)
