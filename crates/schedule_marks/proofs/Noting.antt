-- Marks through the rows of instructions and choices.
use Rattle.std.proofs.Common.{◌≡◌, ℕ, suc, ◌+◌, ◌<◌, ◌≤◌, Bool, true, false, cond, not, List, [], ◌∷◌, ◌++◌, length, map, Option, Some, None, IsSome, refl, sym, ap, ◌∙◌, subst, arith, append_assoc, append-nil, length-append}
use Rattle.std.specs.Prelude.{◌==◌, ◌||◌, ◌&&◌, filter, option_and_then}
use Rattle.std.specs.List.{AllByRecursion}
use Rattle.std.proofs.lemmas.Bool.{false≢true, and_parts, eqb-true, eq-eqb}
use Rattle.std.proofs.lemmas.Option.{none-some}
use Rattle.cash_base.specs.declared.place.Slot.{Slot}
use Rattle.cash_base.specs.declared.place.Span.{Span}
use Rattle.std.specs.Global.{Vec}
use Rattle.tx_context.specs.World.{World}
use Rattle.script_codec.specs.declared.spans.Mark.{Mark}
use Rattle.script_codec.specs.declared.spans.Spanned.{Spanned}
use Rattle.bch_vm.specs.Board.{is_live}
use Rattle.source_meaning.specs.Meaning.{Env}
use Rattle.slot_code.specs.declared.slots.SlotFunction.{SlotFunction}
use Rattle.slot_code.specs.declared.slots.SlotInstr.{SlotInstr}
use Rattle.slot_code.specs.Shape.{Place, Shape, Shapes, Operand, shapes_of, shapes_at, all_shapes, has_span, begins, only_if, with_seen, then_shape, inside, start as first_place}
use Rattle.slot_code.proofs.Steps.{whole_stands}
use Rattle.slot_liveness.specs.Live.{later, hold, kept, kept_count}
use Rattle.slot_liveness.specs.Counts.{IsTight}
use Rattle.slot_liveness.proofs.Sets.{kept_fits}
use Rattle.row_runs.specs.Rows.{Machine, run_rows, IsNested}
use Rattle.stack_emitter.specs.declared.emit.Emitter.{Emitter}
use Rattle.stack_emitter.specs.Places.{Spot, spot}
use Rattle.stack_emitter.specs.Codes.{is_span}
use Rattle.stack_emitter.specs.Correct.{value, Deed, Emits, Adds, Ends, nothing}
use Rattle.stack_steps.specs.declared.low.Low.{Low}
use Rattle.stack_steps.specs.Lower.{place_of, statements_of}
use Rattle.stack_steps.specs.Operations.{Marks}
use Rattle.stack_steps.specs.Steps.{Steps, Tells, are_told, doing_of, marks_after}
use Rattle.stack_steps.proofs.Adding.{plain_told}
use Rattle.stack_schedule.specs.Built.{reads_now, MarksNow, Stepped}
use Rattle.schedule_marks.specs.Marks.{uses, before, StandsFirst, start_at, HasHeight, IsPoint, IsLow, IsRight}
use Rattle.schedule_marks.proofs.Rows.{each_map, each_more, or_parts, same_span, other_span, statements_append, has_more, uses_append, used_more, before_used, before_unused, right_more, told_unused, Begins, begins_by, before_here, uses_here, Arrives, Stands, stack_length, arrives_more}

-- ---- the code and the marks so far

pub record Noted (f : SlotFunction) (start : List Slot) (code : List Spanned) (marks : List Mark) : Type 0 where
  pub unused : (s : Span) → has_span s (statements_of marks) ≡ false → uses s code ≡ false
  pub each : AllByRecursion (IsRight f start code) marks

pub record Noting (f : SlotFunction) (start : List Slot) (low : Low) : Type 0 where
  pub noted : Noted f start low.emitter.code.items low.marks.items
  pub arrives : Arrives start low.emitter

-- nested rows were added, and the statements that had begun are still there
pub record Grew (old new : Low) : Type 0 where
  pub rows : List Spanned
  pub grown : new.emitter.code.items ≡ old.emitter.code.items ++ rows
  pub nested : IsNested rows
  pub later : (s : Span) → has_span s (statements_of old.marks.items) ≡ true → has_span s (statements_of new.marks.items) ≡ true

-- the points of these instructions are points of the whole body
abbrev pub Points : SlotFunction → List SlotInstr → List Slot → List Slot → Place → Type 0
Points f instrs after held p = (span : Span) (names : ℕ) → IsPoint f.body instrs after held p span names
    → IsPoint f.body f.body [] [] (first_place (f.ctors + f.params)) span names

-- ---- rows of statements that have begun

pub noted_more : (f : SlotFunction) (start : List Slot) (code new rows : List Spanned) (marks : List Mark) → new ≡ code ++ rows
    → ((s : Span) → has_span s (statements_of marks) ≡ false → uses s rows ≡ false) → Noted f start code marks → Noted f start new marks
noted_more f start code new rows marks grown none n = record {
  unused = λ s h. ap (uses s) grown ∙ uses_append s code rows ∙ ap (λ b. b || uses s rows) (n.unused s h) ∙ none s h;
  each = subst (λ l. AllByRecursion (IsRight f start l) marks) (sym grown)
      (each_map (IsRight f start code) (IsRight f start (code ++ rows)) (right_more f start code rows) marks n.each);
}

pub noted_told : (f : SlotFunction) (start : List Slot) (code new rows : List Spanned) (marks : List Mark) (d c : Span) → new ≡ code ++ rows → are_told d c rows ≡ true
    → has_span c (statements_of marks) ≡ true → Noted f start code marks → Noted f start new marks
noted_told f start code new rows marks d c grown told has n =
    noted_more f start code new rows marks grown (λ s h. told_unused d c s rows told (other_span (statements_of marks) c s has h)) n

pub noted_row : (f : SlotFunction) (start : List Slot) (code new : List Spanned) (row : Spanned) (marks : List Mark) → new ≡ code ++ row ∷ []
    → has_span row.checking (statements_of marks) ≡ true → Noted f start code marks → Noted f start new marks
noted_row f start code new row marks grown has n =
    noted_more f start code new (row ∷ []) marks grown (λ s h. ap (λ b. b || false) (other_span (statements_of marks) row.checking s has h)) n

pub noted_as : (f : SlotFunction) (start : List Slot) (code : List Spanned) (marks other : List Mark) → other ≡ marks → Noted f start code marks → Noted f start code other
noted_as f start code marks other e n = subst (Noted f start code) (sym e) n

pub adds_noted : (f : SlotFunction) (start : List Slot) (c : Span) (old new : Emitter) (marks : List Mark) → Adds c c old new nothing → has_span c (statements_of marks) ≡ true
    → Noted f start old.code.items marks → Noted f start new.code.items marks
adds_noted f start c old new marks x has n =
    noted_told f start old.code.items new.code.items x.emits.rows marks c c x.emits.grown (plain_told c c x.emits.rows x.plain) has n

pub ends_noted : (f : SlotFunction) (start : List Slot) (c : Span) (old new : Emitter) (deed : Deed) (marks : List Mark) → Ends c old new deed → has_span c (statements_of marks) ≡ true
    → Noted f start old.code.items marks → Noted f start new.code.items marks
ends_noted f start c old new deed marks x has n =
    noted_told f start old.code.items new.code.items x.rows marks c c x.grown (plain_told c c x.rows x.plain) has n

-- ---- a statement begins

pub is_itself : (c : Span) → is_span c c ≡ true
is_itself c = and_same (c.from == c.from) (c.to == c.to) (eq_self c.from) (eq_self c.to)
  where
    and_same : (a b : Bool) → a ≡ true → b ≡ true → (a && b) ≡ true
    and_same true b h k = k
    and_same false b h k = absurd (false≢true h)

    eq_self : (n : ℕ) → (n == n) ≡ true
    eq_self n = eq-eqb n n refl

pub has_last : (c : Span) (seen : List Span) → has_span c (seen ++ c ∷ []) ≡ true
has_last c seen = has_more c c seen ∙ ap (λ b. has_span c seen || b) (is_itself c) ∙ or_true (has_span c seen)
  where
    or_true : (b : Bool) → (b || true) ≡ true
    or_true true = refl
    or_true false = refl

pub has_still : (s c : Span) (seen : List Span) → has_span s seen ≡ true → has_span s (seen ++ c ∷ []) ≡ true
has_still s c seen h = has_more s c seen ∙ ap (λ b. b || is_span s c) h

abbrev mark_at : Span → Low → Mark
mark_at c low = record { at = length low.emitter.code.items; height = length low.emitter.place.slots; statement = c }

-- no operands stand where a statement begins
pub closed_at : (instr : SlotInstr) (p q : Place) → (shapes_of instr).inner p ≡ Some q → has_span instr.checking p.seen ≡ false → length p.operands ≡ 0
closed_at instr p q h fresh =
    by (has_span instr.checking p.seen) fresh (sym (ap (λ (x : Shapes). x.inner p) (whole_stands instr)) ∙ h)
  where
    open_by : (a b : Bool) (r : Place) → option_and_then (shapes_at instr.kind).inner (only_if (a && b) r) ≡ Some q → a ≡ true
    open_by true b r k = refl
    open_by false b r k = absurd (none-some q k)

    by : (b : Bool) → b ≡ false
        → option_and_then (shapes_at instr.kind).inner (cond b (Some p) (only_if (length p.operands == 0 && not (shapes_at instr.kind).is_end) (with_seen (p.seen ++ instr.checking ∷ []) p))) ≡ Some q
        → length p.operands ≡ 0
    by true n k = absurd (false≢true (sym n))
    by false n k = eqb-true (length p.operands) 0 (open_by (length p.operands == 0) (not (shapes_at instr.kind).is_end) (with_seen (p.seen ++ instr.checking ∷ []) p) k)

module _ (f : SlotFunction) (start : List Slot) (instr : SlotInstr) (rest : List SlotInstr) (after held : List Slot) (old new : Low) (x : Stepped f.body instr rest after held old new) (points : Points f (instr ∷ rest) after held (place_of old)) (n : Noting f start old) where
  abbrev c : Span
  c = instr.checking

  abbrev seen : List Span
  seen = statements_of old.marks.items

  abbrev rows : List Spanned
  rows = x.steps.tells.rows

  abbrev names : ℕ
  names = kept_count old.scope (kept (later (instr ∷ rest) after) (hold f.body held))

  marks_at : (b : Bool) → has_span c seen ≡ b → new.marks.items ≡ cond b old.marks.items (old.marks.items ++ mark_at c old ∷ [])
  marks_at b e = x.steps.marks ∙ ap (λ t. cond t old.marks.items (old.marks.items ++ mark_at c old ∷ [])) e

  module _ (fresh : has_span c seen ≡ false) where
    now : new.marks.items ≡ old.marks.items ++ mark_at c old ∷ []
    now = marks_at false fresh

    seen_now : statements_of new.marks.items ≡ seen ++ c ∷ []
    seen_now = ap statements_of now ∙ statements_append old.marks.items (mark_at c old ∷ [])

    none_stand : length old.emitter.place.operands ≡ 0
    none_stand = closed_at instr (place_of old) (place_of new) x.steps.does.place fresh

    begun : Begins c rows
    begun = begins_by (doing_of instr) c old.emitter.code.items rows new.emitter.code.items x.steps.tells.grown (x.begins fresh) x.steps.tells.told

    first_is : before c (old.emitter.code.items ++ rows) ≡ old.emitter.code.items
    first_is =
        before_unused c old.emitter.code.items rows (n.noted.unused c fresh) ∙ ap (λ l. old.emitter.code.items ++ l) (before_here c rows begun)
        ∙ append-nil old.emitter.code.items

    used_is : uses c (old.emitter.code.items ++ rows) ≡ true
    used_is = uses_append c old.emitter.code.items rows ∙ ap (λ b. uses c old.emitter.code.items || b) (uses_here c rows begun) ∙ or_true (uses c old.emitter.code.items)
      where
        or_true : (b : Bool) → (b || true) ≡ true
        or_true true = refl
        or_true false = refl

    mark_right : IsRight f start (old.emitter.code.items ++ rows) (mark_at c old)
    mark_right = record {
      stands = record { used = used_is; at = ap length (sym first_is) };
      height = λ world env k ran lives.
          stack_length old.emitter.place k (n.arrives world env k (ap (λ l. run_rows world l (start_at start env)) (sym first_is) ∙ ran) lives) none_stand;
      low = record {
        names = names;
        point = points c names (IsPoint.begins instr rest after held (place_of old) fresh);
        low = kept_fits (kept (later (instr ∷ rest) after) (hold f.body held)) old.scope old.emitter.place.slots x.ready.tight;
      };
    }

    noted_first : Noted f start new.emitter.code.items new.marks.items
    noted_first = subst (Noted f start new.emitter.code.items) (sym now) (record {
      unused = λ s h.
          let k = or_parts (has_span s seen) (is_span s c) (sym (has_more s c seen) ∙ ap (has_span s) (sym (statements_append old.marks.items (mark_at c old ∷ []))) ∙ h) in
          ap (uses s) x.steps.tells.grown ∙ uses_append s old.emitter.code.items rows ∙ ap (λ b. b || uses s rows) (n.noted.unused s k.0)
          ∙ told_unused (doing_of instr) c s rows x.steps.tells.told k.1;
      each = subst (λ l. AllByRecursion (IsRight f start l) (old.marks.items ++ mark_at c old ∷ [])) (sym x.steps.tells.grown)
          (each_more (IsRight f start (old.emitter.code.items ++ rows)) old.marks.items (mark_at c old)
          (each_map (IsRight f start old.emitter.code.items) (IsRight f start (old.emitter.code.items ++ rows)) (right_more f start old.emitter.code.items rows) old.marks.items n.noted.each)
          mark_right);
    })

  noted_by : (b : Bool) → has_span c seen ≡ b → Noted f start new.emitter.code.items new.marks.items
  noted_by true e =
      noted_as f start new.emitter.code.items old.marks.items new.marks.items (marks_at true e)
      (noted_told f start old.emitter.code.items new.emitter.code.items rows old.marks.items (doing_of instr) c x.steps.tells.grown x.steps.tells.told e n.noted)
  noted_by false e = noted_first e

  later_by : (b : Bool) → has_span c seen ≡ b → (s : Span) → has_span s seen ≡ true → has_span s (statements_of new.marks.items) ≡ true
  later_by true e s h = ap (λ l. has_span s (statements_of l)) (marks_at true e) ∙ h
  later_by false e s h = ap (has_span s) (seen_now e) ∙ has_still s c seen h

  has_by : (b : Bool) → has_span c seen ≡ b → has_span c (statements_of new.marks.items) ≡ true
  has_by true e = ap (λ l. has_span c (statements_of l)) (marks_at true e) ∙ e
  has_by false e = ap (has_span c) (seen_now e) ∙ has_last c seen

  pub step_noting : Noting f start new
  step_noting = record {
    noted = noted_by (has_span c seen) refl;
    arrives = arrives_more start old.emitter new.emitter x.steps.does.lowers.did x.steps.does.lowers.emits n.arrives;
  }

  pub step_has : has_span c (statements_of new.marks.items) ≡ true
  step_has = has_by (has_span c seen) refl

  pub step_grew : Grew old new
  step_grew = record {
    rows = x.steps.does.lowers.emits.rows;
    grown = x.steps.does.lowers.emits.grown;
    nested = x.steps.does.lowers.emits.follows.nested;
    later = later_by (has_span c seen) refl;
  }

-- ---- what a mark says of the place

pub marks_of : (span : Span) (old new : Low) → MarksNow span old new → Marks span old new
marks_of span old new m = record {
  scope = m.scope;
  outer = m.outer;
  emitter = m.emitter;
  seen = ap statements_of m.marks ∙ by (has_span span (statements_of old.marks.items));
}
  where
    by : (b : Bool) → statements_of (cond b old.marks.items (old.marks.items ++ mark_at span old ∷ []))
        ≡ cond b (statements_of old.marks.items) (statements_of old.marks.items ++ span ∷ [])
    by true = refl
    by false = statements_append old.marks.items (mark_at span old ∷ [])

pub marks_same : (span : Span) (old new : Low) → MarksNow span old new → has_span span (statements_of old.marks.items) ≡ true → new.marks.items ≡ old.marks.items
marks_same span old new m h = m.marks ∙ ap (λ b. cond b old.marks.items (old.marks.items ++ mark_at span old ∷ [])) h
