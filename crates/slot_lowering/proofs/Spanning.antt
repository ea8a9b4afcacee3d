-- How the spans of statements add up.
use Rattle.std.proofs.Common.{◌≡◌, true, List, [], ◌∷◌, ◌++◌, map, refl, sym, ap, ◌∙◌}
use Rattle.std.specs.Prelude.{◌&&◌}
use Rattle.std.specs.List.{list_all}
use Rattle.std.proofs.lemmas.List.{append-nil}
use Rattle.std.proofs.lemmas.List.Folds.{list_all-append}
use Rattle.cash_base.specs.declared.place.Span.{Span}
use Rattle.cash_base.specs.declared.place.Slot.{Slot}
use Rattle.cash_tree.specs.declared.Ty.{Ty}
use Rattle.cash_tree.specs.declared.Stmt.{Stmt}
use Rattle.slot_code.specs.declared.slots.SlotInstr.{SlotInstr}
use Rattle.slot_code.specs.declared.slots.SlotKind.{SlotKind}
use Rattle.slot_code.specs.declared.slots.SlotKind.TheVariants as kinds
use Rattle.slot_code.specs.Spans.{spans_of, spans_at, code_spans}
use Rattle.slot_code.proofs.Steps as steps
use Rattle.slot_expressions.specs.Pieces.{instruction}
use Rattle.slot_expressions.specs.Spans.{SpannedBy}
use Rattle.slot_expressions.proofs.Tests.{and_left, and_right, and_intro}
use Rattle.slot_expressions.proofs.Spanning.{Covers, covers_as, covers_left, covers_right, spanned_none, spanned_in, spanned_both, spanned_own, code_append}
use Rattle.slot_lowering.specs.Spans.{SpansAmong, own_spans, own_spans_at}
use Rattle.slot_lowering.specs.Statements.{end_row}
use Rattle.slot_lowering.proofs.SpanSteps.{whole_spanned}

-- a value, and one row behind it
pub value_row : {rows : List SlotInstr} {own parts : List Span} (row : SlotKind) (checking : Span) → spans_at row ≡ [] → Covers own parts → SpannedBy rows checking parts
    → SpannedBy (rows ++ instruction row checking checking ∷ []) checking own
value_row row checking flat covers h = spanned_both (spanned_in covers h) (spanned_own row checking flat)

-- the choice of a block
choice_spans : (a b : List SlotInstr) (checking : Span) → code_spans (instruction (kinds.If a b) checking checking ∷ []) ≡ checking ∷ checking ∷ (code_spans a ++ code_spans b)
choice_spans a b checking =
    let i = instruction (kinds.If a b) checking checking in
    append-nil (spans_of i) ∙ steps.whole_spans i ∙ ap (λ l. checking ∷ checking ∷ l) (steps.if_spans a b)

pub choice_spanned : {a b : List SlotInstr} {checking : Span} {own : List Span} → SpannedBy a checking own → SpannedBy b checking own → SpannedBy (instruction (kinds.If a b) checking checking ∷ []) checking own
choice_spanned {a} {b} {checking} {own} x y = record {
  all = λ test at holds.
      let blocks = list_all-append test (code_spans a) (code_spans b) ∙ and_intro (list_all test (code_spans a)) (list_all test (code_spans b)) (x.all test at holds) (y.all test at holds) in
      ap (list_all test) (choice_spans a b checking)
      ∙ and_intro (test checking) (test checking && list_all test (code_spans a ++ code_spans b)) at (and_intro (test checking) (list_all test (code_spans a ++ code_spans b)) at blocks);
}

-- a test, and the choice of one of two blocks
pub fork_spanned : {rows a b : List SlotInstr} {checking : Span} {own test yes no : List Span} → own ≡ test ++ (yes ++ no) → SpannedBy rows checking test → SpannedBy a checking yes → SpannedBy b checking no
    → SpannedBy (rows ++ instruction (kinds.If a b) checking checking ∷ []) checking own
fork_spanned {rows} {a} {b} {checking} {own} {test} {yes} {no} is h x y =
    let whole : Covers own (test ++ (yes ++ no)) = covers_as is in
    let blocks = covers_right test (yes ++ no) whole in
    spanned_both (spanned_in (covers_left test (yes ++ no) whole) h)
    (choice_spanned (spanned_in (covers_left yes no blocks) x) (spanned_in (covers_right yes no blocks) y))

-- ---- statements

-- a statement's own span is among its spans
pub among_own : {rows : List SlotInstr} (s : Stmt Slot Ty) → SpannedBy rows s.span (own_spans_at s.kind) → SpansAmong rows (own_spans s)
among_own {rows} s h = record {
  all = λ test holds.
      let both : (test s.span && list_all test (own_spans_at s.kind)) ≡ true = sym (ap (list_all test) (whole_spanned s)) ∙ holds in
      h.all test (and_left (test s.span) (list_all test (own_spans_at s.kind)) both) (and_right (test s.span) (list_all test (own_spans_at s.kind)) both);
}

pub among_none : {own : List Span} → SpansAmong [] own
among_none = record { all = λ test holds. refl }

pub among_more : {a b : List SlotInstr} (xs ys : List Span) → SpansAmong a xs → SpansAmong b ys → SpansAmong (a ++ b) (xs ++ ys)
among_more {a} {b} xs ys x y = record {
  all = λ test holds.
      let both = sym (list_all-append test xs ys) ∙ holds in
      ap (list_all test) (code_append a b) ∙ list_all-append test (code_spans a) (code_spans b)
      ∙ and_intro (list_all test (code_spans a)) (list_all test (code_spans b)) (x.all test (and_left (list_all test xs) (list_all test ys) both)) (y.all test (and_right (list_all test xs) (list_all test ys) both));
}

pub among_last : {rows : List SlotInstr} (xs : List Span) → SpansAmong rows xs → SpansAmong rows (xs ++ [])
among_last xs h = record { all = λ test holds. h.all test (sym (ap (list_all test) (append-nil xs)) ∙ holds) }

pub spanned_among : {rows : List SlotInstr} {checking : Span} {own : List Span} → SpansAmong rows own → SpannedBy rows checking own
spanned_among h = record { all = λ test at holds. h.all test holds }

-- ---- blocks

ends_spanned : {own : List Span} (checking : Span) (names : List Slot) → SpannedBy (map (end_row checking) names) checking own
ends_spanned checking [] = spanned_none
ends_spanned checking (name ∷ names) = spanned_both (spanned_own (kinds.End name) checking (steps.end_of_spans name)) (ends_spanned checking names)

pub block_spanned : {rows : List SlotInstr} {own : List Span} (checking : Span) (names : List Slot) → SpansAmong rows own → SpannedBy (rows ++ map (end_row checking) names) checking own
block_spanned checking names h = spanned_both (spanned_among h) (ends_spanned checking names)
