-- The first executed rows of statements, through the rows of instructions and choices.
use Rattle.std.proofs.Common.{◌≡◌, ℕ, suc, ◌+◌, ◌<◌, Bool, true, false, cond, not, List, [], ◌∷◌, ◌++◌, length, drop, map, Option, Some, None, IsSome, Result, Ok, refl, sym, ap, ◌∙◌, subst, arith, append_assoc}
use Rattle.std.specs.Prelude.{◌==◌, ◌||◌, ◌&&◌}
use Rattle.std.proofs.lemmas.Bool.{false≢true, and_parts}
use Rattle.cash_base.specs.declared.place.Slot.{Slot}
use Rattle.cash_base.specs.declared.place.Span.{Span}
use Rattle.std.specs.Global.{Vec}
use Rattle.tx_context.specs.World.{World}
use Rattle.script_codec.specs.declared.spans.Mark.{Mark}
use Rattle.script_codec.specs.declared.spans.Spanned.{Spanned}
use Rattle.bch_vm.specs.Board.{is_live, outer}
use Rattle.run_laws.specs.Nested.{nesting}
use Rattle.source_meaning.specs.Meaning.{Env}
use Rattle.slot_code.specs.declared.slots.SlotInstr.{SlotInstr}
use Rattle.slot_code.specs.declared.slots.SlotKind.TheVariants as kinds
use Rattle.slot_code.specs.Shape.{Shapes, shapes_of, shapes_at, has_span}
use Rattle.slot_code.proofs.Steps.{end_of_stands}
use Rattle.row_runs.specs.Rows.{instructions, Machine, run_rows, IsNested}
use Rattle.stack_emitter.specs.declared.emit.Emitter.{Emitter}
use Rattle.stack_emitter.specs.Codes.{is_span}
use Rattle.stack_emitter.specs.Correct.{Deed, Adds, Ends, nothing}
use Rattle.stack_emitter.proofs.Choose.{opens, flips, closes}
use Rattle.stack_steps.specs.declared.low.Low.{Low}
use Rattle.stack_steps.specs.Lower.{IsNoChoice, place_of, statements_of}
use Rattle.stack_steps.specs.Steps.{are_told, doing_of, marks_after}
use Rattle.stack_steps.proofs.Adding.{plain_told}
use Rattle.stack_schedule.specs.Endings.{AllEnds}
use Rattle.stack_schedule.specs.Built.{Stepped}
use Rattle.schedule_marks.specs.Marks.{uses, start_at}
use Rattle.schedule_marks.specs.First.{Text, text, goes_on, says, all_say, beside, says_of}
use Rattle.schedule_marks.proofs.Keeps.{rows_keep}
use Rattle.schedule_marks.proofs.Rows.{same_span, statements_append, Begins, begins_by, midway}
use Rattle.schedule_marks.proofs.Passed.{Passed, Known, AllPassed, passed_more, known_more, passed_rows, passed_row, passed_first, known_first, open_yes, open_no, passed_close}
use Rattle.schedule_marks.proofs.Texts.{PlainSays, plain_says, end_begun, cancel}
use Rattle.schedule_marks.proofs.Noting.{is_itself}

-- what is known at a place in the text, and at a path's end
pub record Going (start : List Slot) (t : Text) (low : Low) : Type 0 where
  pub seen_is : t.seen ≡ statements_of low.marks.items
  pub passed : t.ordered ≡ true → AllPassed start low.emitter.code.items
  pub known : t.ordered ≡ true → (c : Span) → has_span c t.known ≡ true → Known start low.emitter.code.items c

pub record Went (start : List Slot) (t u : Text) (low : Low) : Type 0 where
  pub going : Going start u low
  pub back : u.ordered ≡ true → t.ordered ≡ true

pub record Ended (start : List Slot) (t u : Text) (low : Low) : Type 0 where
  pub seen_is : u.seen ≡ statements_of low.marks.items
  pub passed : u.ordered ≡ true → AllPassed start low.emitter.code.items
  pub back : u.ordered ≡ true → t.ordered ≡ true

pub passed_as : (start : List Slot) (a b : List Spanned) → b ≡ a → AllPassed start a → AllPassed start b
passed_as start a b e p = subst (AllPassed start) (sym e) p

-- inside one more condition, a statement is known that was known before it
pub known_inside : (start : List Slot) (old rows code : List Spanned) (c : Span) → nesting (instructions rows) 0 ≡ Some 1 → code ≡ old ++ rows → Known start old c → Known start code c
known_inside start old rows code c one grown k =
    subst (λ l. Known start l c) (sym grown) (λ world env n ran lives.
    let w = midway world old rows (start_at start env) n ran in
    passed_more start old rows world env c (k world env w.mid w.first (sym (ap is_live (rows_keep world rows 1 0 w.mid n one w.second)) ∙ still n.conditions lives)))
  where
    still : (conditions : List Bool) → is_live conditions ≡ true → is_live (drop 1 conditions) ≡ true
    still [] h = refl
    still (b ∷ conditions) h = (and_parts b (is_live conditions) h).1

module _ (start : List Slot) (body : List SlotInstr) (instr : SlotInstr) (rest : List SlotInstr) (after held : List Slot) (old new : Low) (x : Stepped body instr rest after held old new) (unused : (s : Span) → has_span s (statements_of old.marks.items) ≡ false → uses s old.emitter.code.items ≡ false) (t : Text) (g : Going start t old) where
  abbrev c : Span
  c = instr.checking

  abbrev rows : List Spanned
  rows = x.steps.tells.rows

  abbrev a : List Spanned
  a = old.emitter.code.items

  abbrev mark : Mark
  mark = record { at = length a; height = length old.emitter.place.slots; statement = c }

  nested : IsNested rows
  nested = subst IsNested (cancel a x.steps.does.lowers.emits.rows rows (sym x.steps.does.lowers.emits.grown ∙ x.steps.tells.grown)) x.steps.does.lowers.emits.follows.nested

  marks_at : (b : Bool) → has_span c (statements_of old.marks.items) ≡ b → new.marks.items ≡ cond b old.marks.items (old.marks.items ++ mark ∷ [])
  marks_at b e = x.steps.marks ∙ ap (λ t. cond t old.marks.items (old.marks.items ++ mark ∷ [])) e

  abbrev Goes : Text → Type 0
  Goes u = Went start t u new × (u.ordered ≡ true → has_span c u.known ≡ true)

  continued : has_span c (statements_of old.marks.items) ≡ true → Goes (goes_on c t)
  continued has = (
    record {
      going = record {
        seen_is = g.seen_is ∙ ap statements_of (sym (marks_at true has));
        passed = λ o.
            let p = and_parts t.ordered (has_span c t.known) o in
            passed_as start (a ++ rows) new.emitter.code.items x.steps.tells.grown
            (passed_rows start a rows (doing_of instr) c x.steps.tells.told nested (g.passed p.0) (g.known p.0 c p.1));
        known = λ o d h.
            let p = and_parts t.ordered (has_span c t.known) o in
            subst (λ l. Known start l d) (sym x.steps.tells.grown) (known_more start a rows d nested (g.known p.0 d h));
      };
      back = λ o. (and_parts t.ordered (has_span c t.known) o).0;
    },
    λ o. (and_parts t.ordered (has_span c t.known) o).1,
  )

  begun : has_span c (statements_of old.marks.items) ≡ false → Goes (text (t.seen ++ c ∷ []) (c ∷ t.known) t.ordered)
  begun fresh =
      let first = begins_by (doing_of instr) c a rows new.emitter.code.items x.steps.tells.grown (x.begins fresh) x.steps.tells.told in (
        record {
          going = record {
            seen_is = ap (λ l. l ++ c ∷ []) g.seen_is ∙ sym (statements_append old.marks.items (mark ∷ [])) ∙ ap statements_of (sym (marks_at false fresh));
            passed = λ o. passed_as start (a ++ rows) new.emitter.code.items x.steps.tells.grown (passed_first start a rows (doing_of instr) c x.steps.tells.told nested (unused c fresh) first (g.passed o));
            known = λ o d h. subst (λ l. Known start l d) (sym x.steps.tells.grown) (by_span o d (is_span d c) refl h first);
          };
          back = λ o. o;
        },
        λ o. ap (λ b. b || has_span c t.known) (is_itself c),
      )
    where
      by_span : t.ordered ≡ true → (d : Span) (b : Bool) → is_span d c ≡ b → (b || has_span d t.known) ≡ true → Begins c rows → Known start (a ++ rows) d
      by_span o d true e h first = subst (Known start (a ++ rows)) (same_span d c e) (known_first start a rows (doing_of instr) c x.steps.tells.told nested (unused c fresh) first)
      by_span o d false e h first = known_more start a rows d nested (g.known o d h)

  said : (b : Bool) → has_span c (statements_of old.marks.items) ≡ b → Goes (cond b (goes_on c t) (text (t.seen ++ c ∷ []) (c ∷ t.known) t.ordered))
  said true e = continued e
  said false e = begun e

  pub step_going : Went start t (says_of instr t) new × ((says_of instr t).ordered ≡ true → has_span c (says_of instr t).known ≡ true)
  step_going = by (shapes_at instr.kind).is_end refl
    where
      by : (b : Bool) → (shapes_at instr.kind).is_end ≡ b → Goes (says_of instr t)
      by true e =
          subst Goes (ap (λ s. s t) (sym ((plain_says instr x.no_choice).1 e))) (continued (end_begun instr (place_of old) x.ready.well e))
      by false e =
          subst Goes (ap (λ s. s t) (sym ((plain_says instr x.no_choice).0 e)))
          (subst (λ b. Goes (cond b (goes_on c t) (text (t.seen ++ c ∷ []) (c ∷ t.known) t.ordered))) (ap (has_span c) (sym g.seen_is))
          (said (has_span c (statements_of old.marks.items)) refl))

-- rows behind which a path ends
pub end_going : (start : List Slot) (c : Span) (old new : Low) (deed : Deed) → Ends c old.emitter new.emitter deed → new.marks ≡ old.marks → (t u : Text) → Went start t u old
    → (u.ordered ≡ true → has_span c u.known ≡ true) → Ended start t u new
end_going start c old new deed x same t u w has = record {
  seen_is = w.going.seen_is ∙ ap (λ (l : Vec Mark). statements_of l.items) (sym same);
  passed = λ o. passed_as start (old.emitter.code.items ++ x.rows) new.emitter.code.items x.grown
      (passed_rows start old.emitter.code.items x.rows c c (plain_told c c x.rows x.plain) x.tail.nested (w.going.passed o) (w.going.known o c (has o)));
  back = w.back;
}

pub adds_passed : (start : List Slot) (c : Span) (old new : Emitter) → Adds c c old new nothing → AllPassed start old.code.items → Known start old.code.items c → AllPassed start new.code.items
adds_passed start c old new x passed known =
    passed_as start (old.code.items ++ x.emits.rows) new.code.items x.emits.grown
    (passed_rows start old.code.items x.emits.rows c c (plain_told c c x.emits.rows x.plain) x.emits.follows.nested passed known)

-- ends of names leave the statements as they are
pub ends_say : (rest : List SlotInstr) → AllEnds rest → (w : Text)
    → ((all_say (map says_of rest) w).seen ≡ w.seen) × ((all_say (map says_of rest) w).ordered ≡ true → w.ordered ≡ true)
ends_say [] over w = (refl, λ o. o)
ends_say (x ∷ rest) over w =
    let is : says_of x ≡ goes_on x.checking = (plain_says x (λ a b e. other over.0.0 a b (sym over.0.1 ∙ e))).1
    (ap (λ k. (shapes_at k).is_end) over.0.1 ∙ ap (λ (s : Shapes). s.is_end) (end_of_stands over.0.0)) in
    let more = ends_say rest over.1 (says_of x w) in
    let at = ap (λ s. s w) is in
    (more.0 ∙ ap (λ (u : Text). u.seen) at, λ o. (and_parts w.ordered (has_span x.checking w.known) (sym (ap (λ (u : Text). u.ordered) at) ∙ more.1 o)).0)
  where
    other : (slot : Slot) (a b : List SlotInstr) → kinds.End slot ≡ kinds.If a b → ⊥
    other slot a b e = cc

-- ---- choices

module _ (start : List Slot) (d c : Span) (old : Low) (t : Text) (g : Going start t old) where
  both : (goes_on c t).ordered ≡ true → (t.ordered ≡ true) × (has_span c t.known ≡ true)
  both o = and_parts t.ordered (has_span c t.known) o

  pub opened_going : (opened : Low) → opened.emitter.code.items ≡ old.emitter.code.items ++ opens d c ∷ [] → opened.marks.items ≡ old.marks.items → Going start (goes_on c t) opened
  opened_going opened grown marks = record {
    seen_is = g.seen_is ∙ ap statements_of (sym marks);
    passed = λ o.
        passed_as start (old.emitter.code.items ++ opens d c ∷ []) opened.emitter.code.items grown
        (passed_row start old.emitter.code.items (opens d c) (g.passed (both o).0) (λ world env m ran e. g.known (both o).0 c (both o).1 world env m ran e));
    known = λ o x h. known_inside start old.emitter.code.items (opens d c ∷ []) opened.emitter.code.items x (open_yes d c [] (λ n. refl)) grown (g.known (both o).0 x h);
  }

  -- rows of the statement in its first block, and in its second
  pub known_yes : (rows code : List Spanned) → IsNested rows → code ≡ old.emitter.code.items ++ opens d c ∷ rows → (goes_on c t).ordered ≡ true → Known start code c
  known_yes rows code nested grown o =
      known_inside start old.emitter.code.items (opens d c ∷ rows) code c (open_yes d c rows nested) grown (g.known (both o).0 c (both o).1)

  pub known_no : (a b code : List Spanned) → IsNested a → IsNested b → code ≡ old.emitter.code.items ++ opens d c ∷ (a ++ flips d c ∷ b) → (goes_on c t).ordered ≡ true → Known start code c
  known_no a b code na nb grown o =
      known_inside start old.emitter.code.items (opens d c ∷ (a ++ flips d c ∷ b)) code c (open_no d c a b na nb) grown (g.known (both o).0 c (both o).1)

  pub turned_going : (rows mid : List Spanned) (turned : Low) → IsNested rows → mid ≡ old.emitter.code.items ++ opens d c ∷ rows
      → turned.emitter.code.items ≡ mid ++ flips d c ∷ [] → turned.emitter.code.items ≡ old.emitter.code.items ++ opens d c ∷ (rows ++ flips d c ∷ [])
      → (u : Text) → u.seen ≡ statements_of turned.marks.items → (u.ordered ≡ true → (goes_on c t).ordered ≡ true) → (u.ordered ≡ true → AllPassed start mid)
      → Going start (beside t u) turned
  turned_going rows mid turned nested in_mid code whole u seen back passed = record {
    seen_is = seen;
    passed = λ o.
        passed_as start (mid ++ flips d c ∷ []) turned.emitter.code.items code
        (passed_close start old.emitter.code.items (opens d c ∷ rows) mid (flips d c) (λ cs. refl) (g.known (both (back o)).0 c (both (back o)).1) (open_yes d c rows nested) in_mid (passed o));
    known = λ o x h.
        known_inside start old.emitter.code.items (opens d c ∷ (rows ++ flips d c ∷ [])) turned.emitter.code.items x (open_no d c rows [] nested (λ n. refl)) whole (g.known (both (back o)).0 x h);
  }

  pub closed_passed : (a b code new : List Spanned) → IsNested a → IsNested b → code ≡ old.emitter.code.items ++ opens d c ∷ (a ++ flips d c ∷ b) → new ≡ code ++ closes d c ∷ []
      → (goes_on c t).ordered ≡ true → AllPassed start code → AllPassed start new
  closed_passed a b code new na nb grown last o passed =
      passed_as start (code ++ closes d c ∷ []) new last
      (passed_close start old.emitter.code.items (opens d c ∷ (a ++ flips d c ∷ b)) code (closes d c) (λ cs. refl) (g.known (both o).0 c (both o).1) (open_no d c a b na nb) grown passed)
