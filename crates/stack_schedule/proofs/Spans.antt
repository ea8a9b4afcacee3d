-- The places of rows are among those of the slot code.
use Rattle.std.proofs.Common.{◌≡◌, ℕ, ◌+◌, ◌<◌, Bool, true, false, cond, not, List, [], ◌∷◌, ◌++◌, length, drop, get_or, refl, sym, ap, ◌∙◌, subst}
use Rattle.std.specs.Prelude.{◌&&◌, ◌==◌, nat_le}
use Rattle.std.specs.List.{list_all, AllByRecursion}
use Rattle.std.proofs.lemmas.Bool.{and_parts, and_from, eqb-true, leb-true, le-leb}
use Rattle.std.proofs.lemmas.List.Folds.{list_all-append}
use Rattle.cash_base.specs.declared.place.Span.{Span}
use Rattle.cash_base.specs.Source.{IsInside, AreInside}
use Rattle.script_codec.specs.declared.spans.Spanned.{Spanned}
use Rattle.slot_code.specs.declared.slots.SlotInstr.{SlotInstr}
use Rattle.slot_code.specs.declared.slots.SlotKind.{SlotKind}
use Rattle.slot_code.specs.declared.slots.SlotKind.TheVariants as kinds
use Rattle.slot_code.specs.declared.slots.SlotFunction.{SlotFunction}
use Rattle.row_runs.specs.Rows.{is_control}
use Rattle.stack_emitter.specs.declared.emit.Emitter.{Emitter}
use Rattle.stack_emitter.specs.Codes.{is_span}
use Rattle.stack_emitter.specs.Correct.{Deed, Adds, Ends, nothing}
use Rattle.stack_emitter.proofs.Choose.{opens, flips, closes}
use Rattle.stack_steps.specs.Steps.{Tells, are_told, places_of, doing_of}
use Rattle.stack_steps.proofs.Adding.{plain_told}
use Rattle.slot_code.specs.Spans.{spans_of, spans_at, code_spans, slot_spans}
use Rattle.slot_code.proofs.Steps.{whole_spans, if_spans}
use Rattle.stack_schedule.specs.Spans.{have_places, KeepsSpans, KeepsPlaces}
use Rattle.stack_schedule.proofs.Blocks.{next_item}

-- ---- tests of lists

abbrev Holds : (Span → Bool) → List Span → Type 0
Holds holds spans = list_all holds spans ≡ true

abbrev At : (Span → Bool) → List Spanned → Type 0
At holds rows = have_places holds rows ≡ true

abbrev place_test : (Span → Bool) → Spanned → Bool
place_test holds row = holds row.doing && holds row.checking

holds_parts : (holds : Span → Bool) (a b : List Span) → Holds holds (a ++ b) → Holds holds a × Holds holds b
holds_parts holds a b h = and_parts (list_all holds a) (list_all holds b) (sym (list_all-append holds a b) ∙ h)

at_both : (holds : Span → Bool) (a b : List Spanned) → At holds a → At holds b → At holds (a ++ b)
at_both holds a b x y =
    list_all-append (place_test holds) a b ∙ and_from (have_places holds a) (have_places holds b) x y

-- what holds of an instruction's places holds of its own two
own_places : (holds : Span → Bool) (instr : SlotInstr) → Holds holds (spans_of instr) → (holds instr.doing ≡ true) × (holds instr.checking ≡ true)
own_places holds instr h =
    let p = and_parts (holds instr.doing) (list_all holds (instr.checking ∷ spans_at instr.kind)) (ap (list_all holds) (sym (whole_spans instr)) ∙ h) in
    (p.0, (and_parts (holds instr.checking) (list_all holds (spans_at instr.kind)) p.1).0)

-- and of those in its blocks
block_places : (holds : Span → Bool) (instr : SlotInstr) (ys ns : List SlotInstr) → instr.kind ≡ kinds.If ys ns → Holds holds (spans_of instr)
    → Holds holds (code_spans ys) × Holds holds (code_spans ns)
block_places holds instr ys ns e h =
    let p = and_parts (holds instr.doing) (list_all holds (instr.checking ∷ spans_at instr.kind)) (ap (list_all holds) (sym (whole_spans instr)) ∙ h) in
    let q = (and_parts (holds instr.checking) (list_all holds (spans_at instr.kind)) p.1).1 in
    holds_parts holds (code_spans ys) (code_spans ns) (ap (list_all holds) (sym (ap spans_at e ∙ if_spans ys ns)) ∙ q)

-- ---- added rows

span_same : (a b : Span) → is_span a b ≡ true → a ≡ b
span_same a b h =
    let p = and_parts (a.from == b.from) (a.to == b.to) h in
    ap (λ (n : ℕ). record { from = n; to = a.to }) (eqb-true a.from b.from p.0) ∙ ap (λ (n : ℕ). record { from = b.from; to = n }) (eqb-true a.to b.to p.1)

told_places : (holds : Span → Bool) (d c : Span) (rows : List Spanned) → holds d ≡ true → holds c ≡ true → are_told d c rows ≡ true → At holds rows
told_places holds d c [] x y h = refl
told_places holds d c (r ∷ rows) x y h =
    let p = and_parts ((is_span d r.doing && is_span c r.checking) && not (is_control r.instr)) (are_told d c rows) h in
    let q = and_parts (is_span d r.doing && is_span c r.checking) (not (is_control r.instr)) p.0 in
    let s = and_parts (is_span d r.doing) (is_span c r.checking) q.0 in
    and_from (holds r.doing && holds r.checking) (have_places holds rows)
    (and_from (holds r.doing) (holds r.checking) (ap holds (sym (span_same d r.doing s.0)) ∙ x) (ap holds (sym (span_same c r.checking s.1)) ∙ y))
    (told_places holds d c rows x y p.1)

grown_places : (holds : Span → Bool) (old new rows : List Spanned) → new ≡ old ++ rows → At holds rows → At holds old → At holds new
grown_places holds old new rows grown x y = ap (have_places holds) grown ∙ at_both holds old rows y x

adds_places : (holds : Span → Bool) (c : Span) (old new : Emitter) → Adds c c old new nothing → holds c ≡ true → At holds old.code.items → At holds new.code.items
adds_places holds c old new x y h =
    grown_places holds old.code.items new.code.items x.emits.rows x.emits.grown (told_places holds c c x.emits.rows y y (plain_told c c x.emits.rows x.plain)) h

pub ends_places : (holds : Span → Bool) (c : Span) (old new : Emitter) (deed : Deed) → Ends c old new deed → holds c ≡ true → At holds old.code.items → At holds new.code.items
ends_places holds c old new deed x y h =
    grown_places holds old.code.items new.code.items x.rows x.grown (told_places holds c c x.rows y y (plain_told c c x.rows x.plain)) h

row_places : (holds : Span → Bool) (old new : List Spanned) (r : Spanned) → new ≡ old ++ r ∷ [] → holds r.doing ≡ true → holds r.checking ≡ true → At holds old → At holds new
row_places holds old new r grown x y h =
    grown_places holds old new (r ∷ []) grown (and_from (holds r.doing && holds r.checking) true (and_from (holds r.doing) (holds r.checking) x y) refl) h

-- ---- an instruction that is no choice

pub step_places : (instr : SlotInstr) (old new : Emitter) → Tells (doing_of instr) instr.checking old new → KeepsPlaces (spans_of instr) old new
step_places instr old new x holds all h =
    let p = own_places holds instr all in
    grown_places holds old.code.items new.code.items x.rows x.grown
    (told_places holds (doing_of instr) instr.checking x.rows (by (places_of instr).serves p.0 p.1) p.1 x.told) h
  where
    by : (b : Bool) → holds instr.doing ≡ true → holds instr.checking ≡ true → holds (cond b instr.doing instr.checking) ≡ true
    by true x y = x
    by false x y = y

-- behind it the path ends
pub true_places : (instr : SlotInstr) (old mid new : Emitter) (deed : Deed) → Tells (doing_of instr) instr.checking old mid
    → Ends instr.checking mid new deed → KeepsPlaces (spans_of instr) old new
true_places instr old mid new deed x y holds all h =
    ends_places holds instr.checking mid new deed y (own_places holds instr all).1 (step_places instr old mid x holds all h)

-- its value ends the path
pub check_places : (instr : SlotInstr) (old new marked : Emitter) (deed : Deed) → marked ≡ old → Ends instr.checking marked new deed
    → KeepsPlaces (spans_of instr) old new
check_places instr old new marked deed same y holds all h =
    ends_places holds instr.checking marked new deed y (own_places holds instr all).1 (subst (λ (x : Emitter). At holds x.code.items) (sym same) h)

-- ---- choices

module _ (instr : SlotInstr) (ys ns : List SlotInstr) (e : instr.kind ≡ kinds.If ys ns) (old marked : Emitter) (same : marked ≡ old) (a b c d : Emitter) (in_a : a.code.items ≡ marked.code.items ++ opens instr.doing instr.checking ∷ []) where
  pub choice_places : (new j k : Emitter) → KeepsPlaces (code_spans ys) a b → Adds instr.checking instr.checking b j nothing
      → c.code.items ≡ j.code.items ++ flips instr.doing instr.checking ∷ [] → KeepsPlaces (code_spans ns) c d
      → Adds instr.checking instr.checking d k nothing → new.code.items ≡ k.code.items ++ closes instr.doing instr.checking ∷ []
      → KeepsPlaces (spans_of instr) old new
  choice_places new j k in_yes first in_c in_no second code holds all h =
      let own = own_places holds instr all in
      let blocks = block_places holds instr ys ns e all in
      let at_a = row_places holds marked.code.items a.code.items (opens instr.doing instr.checking) in_a own.0 own.1
      (subst (λ (x : Emitter). At holds x.code.items) (sym same) h) in
      let at_j = adds_places holds instr.checking b j first own.1 (in_yes holds blocks.0 at_a) in
      let at_c = row_places holds j.code.items c.code.items (flips instr.doing instr.checking) in_c own.0 own.1 at_j in
      let at_k = adds_places holds instr.checking d k second own.1 (in_no holds blocks.1 at_c) in
      row_places holds k.code.items new.code.items (closes instr.doing instr.checking) code own.0 own.1 at_k

  pub fork_places : (new : Emitter) → KeepsPlaces (instr.checking ∷ code_spans ys) a b → c.code.items ≡ b.code.items ++ flips instr.doing instr.checking ∷ []
      → KeepsPlaces (instr.checking ∷ code_spans ns) c d → new.code.items ≡ d.code.items ++ closes instr.doing instr.checking ∷ []
      → KeepsPlaces (spans_of instr) old new
  fork_places new in_yes in_c in_no code holds all h =
      let own = own_places holds instr all in
      let blocks = block_places holds instr ys ns e all in
      let at_a = row_places holds marked.code.items a.code.items (opens instr.doing instr.checking) in_a own.0 own.1
      (subst (λ (x : Emitter). At holds x.code.items) (sym same) h) in
      let at_b = in_yes holds (and_from (holds instr.checking) (list_all holds (code_spans ys)) own.1 blocks.0) at_a in
      let at_c = row_places holds b.code.items c.code.items (flips instr.doing instr.checking) in_c own.0 own.1 at_b in
      let at_d = in_no holds (and_from (holds instr.checking) (list_all holds (code_spans ns)) own.1 blocks.1) at_c in
      row_places holds d.code.items new.code.items (closes instr.doing instr.checking) code own.0 own.1 at_d

-- ---- loops over blocks

-- so far it holds, and of the places of what is left too
pub record Held (now : Emitter) (instrs : List SlotInstr) (i : ℕ) (holds : Span → Bool) : Type 0 where
  pub now_at : At holds now.code.items
  pub left : Holds holds (code_spans (drop i instrs))

abbrev pub LeftPlaces : Emitter → Emitter → List SlotInstr → ℕ → Type 0
LeftPlaces old now instrs i =
    (holds : Span → Bool) → list_all holds (code_spans instrs) ≡ true → have_places holds old.code.items ≡ true → Held now instrs i holds

pub left_places_none : (old : Emitter) (instrs : List SlotInstr) → LeftPlaces old old instrs 0
left_places_none old instrs holds all h = record { now_at = h; left = all }

module _ (old now : Emitter) (instrs : List SlotInstr) (i : ℕ) (x d : SlotInstr) (l : LeftPlaces old now instrs i) (lt : i < length instrs) (at : x ≡ get_or instrs i d) where
  here : (holds : Span → Bool) → Holds holds (code_spans (drop i instrs)) → Holds holds (spans_of x) × Holds holds (code_spans (drop (i + 1) instrs))
  here holds left =
      holds_parts holds (spans_of x) (code_spans (drop (i + 1) instrs))
      (ap (λ xs. list_all holds (code_spans xs)) (sym (next_item instrs x d i lt at)) ∙ left)

  pub left_places_more : (next : Emitter) → KeepsPlaces (spans_of x) now next → LeftPlaces old next instrs (i + 1)
  left_places_more next step holds all h =
      let g = l holds all h in
      let p = here holds g.left in
      record { now_at = step holds p.0 g.now_at; left = p.1 }

  pub end_places_done : (around : Span) (final : Emitter) → KeepsPlaces (spans_of x) now final → KeepsPlaces (around ∷ code_spans instrs) old final
  end_places_done around final step holds all h =
      let g = l holds (and_parts (holds around) (list_all holds (code_spans instrs)) all).1 h in
      step holds (here holds g.left).0 g.now_at

pub left_places_all : (old now : Emitter) (instrs : List SlotInstr) (i : ℕ) → LeftPlaces old now instrs i → KeepsPlaces (code_spans instrs) old now
left_places_all old now instrs i l holds all h = (l holds all h).now_at

pub end_places_missing : (old now final : Emitter) (instrs : List SlotInstr) (i : ℕ) (around : Span) (deed : Deed) → LeftPlaces old now instrs i
    → Ends around now final deed → KeepsPlaces (around ∷ code_spans instrs) old final
end_places_missing old now final instrs i around deed l y holds all h =
    let p = and_parts (holds around) (list_all holds (code_spans instrs)) all in
    ends_places holds around now final deed y p.0 (l holds p.1 h).now_at

-- ---- inside a source

abbrev is_inside : ℕ → Span → Bool
is_inside len span = nat_le span.from span.to && nat_le span.to len

all_inside : (len : ℕ) (spans : List Span) → AreInside len spans → list_all (is_inside len) spans ≡ true
all_inside len [] all = refl
all_inside len (span ∷ spans) all =
    and_from (is_inside len span) (list_all (is_inside len) spans)
    (and_from (nat_le span.from span.to) (nat_le span.to len) (le-leb span.from span.to all.0.ordered) (le-leb span.to len all.0.ends))
    (all_inside len spans all.1)

inside_by : (len : ℕ) (span : Span) → is_inside len span ≡ true → IsInside len span
inside_by len span h =
    let p = and_parts (nat_le span.from span.to) (nat_le span.to len) h in
    record { ordered = leb-true span.from span.to p.0; ends = leb-true span.to len p.1 }

rows_inside : (len : ℕ) (rows : List Spanned) → have_places (is_inside len) rows ≡ true
    → AllByRecursion (λ (row : Spanned). IsInside len row.doing × IsInside len row.checking) rows
rows_inside len [] h = tt
rows_inside len (r ∷ rows) h =
    let p = and_parts (is_inside len r.doing && is_inside len r.checking) (have_places (is_inside len) rows) h in
    let q = and_parts (is_inside len r.doing) (is_inside len r.checking) p.0 in
    ((inside_by len r.doing q.0, inside_by len r.checking q.1), rows_inside len rows p.1)

-- where all places of the slot code lie in a source, those of the rows do
pub code_spansside : (f : SlotFunction) (rows : List Spanned) → KeepsSpans f rows → (len : ℕ) → AreInside len (slot_spans f)
    → AllByRecursion (λ (row : Spanned). IsInside len row.doing × IsInside len row.checking) rows
code_spansside f rows keeps len all = rows_inside len rows (keeps (is_inside len) (all_inside len (slot_spans f) all))
